use Rattle.std.proofs.Common.{◌≡◌, ℕ, ◌<◌, length, arith, subst}
use Rattle.std.proofs.lemmas.Bool.Decides.{nat_tests}
use Rattle.scenario.specs.declared.event.Refusal.{Refusal}
use Rattle.scenario.specs.declared.event.Refusal.TheVariants.{Memory}
use Rattle.inverse_log.specs.Tracks.{RefusedAt}
use Rattle.inverse_log.specs.Walks.{ending}
use Rattle.inverse_log.proofs.Pushing.{no_memory}
use Rattle.inverse_log.proofs.walker.Walker.extend.Goals as goal

pub returns-then-is_err-clause-refused : goal.returns-then-is_err-clause-refused
returns-then-is_err-clause-refused c = λ i n e.
    let some : 0 < length c.args.events.now = grind (arith, nat_tests) in
    let at : 0 ≡ i = cc in
    let why : Memory ≡ n = cc in
    let m = ending c.args.self.now in
    let es = c.args.events.now in
    let first : RefusedAt m es 0 n = subst (λ (r : Refusal). RefusedAt m es 0 r) why (no_memory m es some) in
    subst (λ (k : ℕ). RefusedAt m es k n) at first
