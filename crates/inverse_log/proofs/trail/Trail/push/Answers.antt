use Rattle.std.proofs.Common.{◌≡◌, ◌∙◌, ◌++◌, ◌∷◌, [], length, ◌<◌, ap, sym, rules}
use Rattle.std.proofs.lemmas.Result.{err_from_is_err_and}
use Rattle.machine.specs.Steps.{refusal}
use Rattle.inverse_log.specs.Tracks.{current}
use Rattle.inverse_log.proofs.Runs.{why_refused}
use Rattle.machine.specs.Runs.{Link}
use Rattle.inverse_log.proofs.Keeping.{keeps_push}
use Rattle.inverse_log.proofs.trail.Trail.push.Goals as goal

pub invariant_of-self-2 : goal.invariant_of-self-2
invariant_of-self-2 c =
    let records : c.push.new.self.items ≡ c.self.inside.records.items ++ c.in_ok-past.past ∷ [] = search rules in
    let events : c.push-2.new.self.items ≡ c.self.inside.events.items ++ c.args.event ∷ [] = search rules in
    let last : c.self.inside.at ≡ length c.self.inside.events.items = search rules in
    let room : length c.self.inside.events.items < 1048576 = search rules in
    let link : Link c.self.inside.state c.args.event c.in_ok-past.past c.step.new.self = record { formed = c.in_ok-past.ensures.formed; next = c.in_ok-past.ensures.next; back = c.in_ok-past.ensures.leads_back } in
    keeps_push c.self.inside.setup c.self.inside.events.items _ c.self.inside.records.items _ c.self.inside.at _ _ _ c.args.event c.in_ok-past.past c.self.invariant last room events records link c.in_ok-past.ensures.exact

pub returns-in_err-past-clause-refuses : goal.returns-in_err-past-clause-refuses
returns-in_err-past-clause-refuses c =
    let p = err_from_is_err_and c.from_residual.result c.from_residual.ensures.1 in
    let same : current c.args.self.now ≡ c.self.inside.state = ap current (sym c.self.view_is) ∙ sym c.self.invariant.here in
    rw (p.1, p.2) (rw same (why_refused (refusal c.self.inside.state c.args.event) _ (λ k e. let q = c.in_err-past.ensures.refused k e in cc) (λ e. c.in_err-past.ensures.only_memory e)))
