use Rattle.std.proofs.Common.{◌≡◌, ℕ, ◌+◌, ◌-◌, ◌<◌, true, false, List, [], ◌∷◌, length, take, sym, ap, ◌∙◌, arith, subst}
use Rattle.std.proofs.lemmas.Bool.{eqb-true}
use Rattle.std.proofs.lemmas.Bool.Decides.{nat_tests}
use Rattle.std.proofs.lemmas.List.{append-nil, take_at}
use Rattle.std.specs.Prelude.{Result, Ok, Err, OnErr, OnOk, is_err, ◌==◌}
use Rattle.scenario.specs.declared.event.Event.{Event}
use Rattle.scenario.specs.declared.event.Refusal.{Refusal}
use Rattle.scenario.specs.declared.event.Refusal.TheVariants.{Memory}
use Rattle.machine.specs.declared.whole.Machine.{Machine}
use Rattle.machine.specs.Runs.{Accepts}
use Rattle.inverse_log.specs.declared.trail.Tally.TheVariants.{Free}
use Rattle.inverse_log.specs.Tracks.{Track, RefusedAt, ends, grown, stepped}
use Rattle.inverse_log.specs.Walks.{Walk, moved, extended, ending}
use Rattle.inverse_log.proofs.Pushing.{no_copy}
use Rattle.inverse_log.proofs.walker.Walker.run_on.Goals as goal

from_err : {T E : Type 0} (r : Result T E) (P : Type 0) → true ≡ is_err r → OnErr r P → P
from_err (Ok x) P e h = absurd cc
from_err (Err x) P e h = h

from_ok : {T E : Type 0} (r : Result T E) (P : Type 0) → false ≡ is_err r → OnOk r P → P
from_ok (Ok x) P e h = h
from_ok (Err x) P e h = absurd cc

-- Without an event the run stays as it is.
none_added : (w : Walk) (es : List Event) → w.at ≡ length w.events → (length es == 0) ≡ true → w ≡ moved (extended w es) (length w.events + length es)
none_added w [] last none =
    let at : w.at ≡ length w.events + 0 = omega (arith, last) in
    ap (λ n. moved w n) at ∙ ap (λ fs. record w { events = fs; at = length w.events + 0 }) (sym (append-nil w.events))
none_added w (e ∷ es) last none = absurd (omega (arith, eqb-true (length (e ∷ es)) 0 none))

accepts_none : (m : Machine) (es : List Event) → (length es == 0) ≡ true → Accepts m es
accepts_none m [] none = tt
accepts_none m (e ∷ es) none = absurd (omega (arith, eqb-true (length (e ∷ es)) 0 none))

-- The events that were added at the end are cut off again.
cut_off : (t more back cut : Track) (es : List Event) (at len : ℕ) → t.at ≡ length t.events → len ≡ length t.events → more ≡ grown t es at → back ≡ stepped Free more len
    → cut ≡ record { setup = back.setup; events = take len back.events; at = back.at; walked = back.walked } → cut ≡ t
cut_off t more back cut es at len last here on moved_back off =
    off ∙ ap (λ (x : Track). record { setup = x.setup; events = take len x.events; at = x.at; walked = x.walked }) (moved_back ∙ ap (λ x. stepped Free x len) on)
    ∙ ap (λ fs. record { setup = t.setup; events = fs; at = len; walked = t.walked }) (take_at t.events es len (sym here))
    ∙ ap (λ n. record { setup = t.setup; events = t.events; at = n; walked = t.walked }) (here ∙ sym last)

pub returns-then-is_empty-clause-ok : goal.returns-then-is_empty-clause-ok
returns-then-is_empty-clause-ok c = none_added c.args.self.now c.args.events.now c.requires (sym c.is_empty.ensures ∙ c.if-is_empty.true)

pub returns-then-is_empty-clause-accepts : goal.returns-then-is_empty-clause-accepts
returns-then-is_empty-clause-accepts c = accepts_none (ending c.args.self.now) c.args.events.now (sym c.is_empty.ensures ∙ c.if-is_empty.true)

pub invariant_of-self-then-is_err : goal.invariant_of-self-then-is_err
invariant_of-self-then-is_err c =
    let trail = cut_off c.self.inside.trail c.run_on.new.self c.back_to.new.self c.cut.new.self c.args.events.now _ c.len-len.result (rw (← c.self.view_is) at c.requires) (rw (← c.self.view_is) at c.len-len.ensures.value) c.in_ok-copies.ensures.ok c.back_to.ensures c.cut.ensures in
    let kept = from_err c.keep.result (c.keep.new.self ≡ c.self.inside.kept) c.if-is_err.ensures.value c.keep.ensures.err in
    rw (trail, kept) c.self.invariant

pub returns-then-is_err-clause-err : goal.returns-then-is_err-clause-err
returns-then-is_err-clause-err c =
    let trail = cut_off c.self.inside.trail c.run_on.new.self c.back_to.new.self c.cut.new.self c.args.events.now _ c.len-len.result (rw (← c.self.view_is) at c.requires) (rw (← c.self.view_is) at c.len-len.ensures.value) c.in_ok-copies.ensures.ok c.back_to.ensures c.cut.ensures in
    let kept = from_err c.keep.result (c.keep.new.self ≡ c.self.inside.kept) c.if-is_err.ensures.value c.keep.ensures.err in
    rw (trail, kept) c.self.view_is

pub invariant_of-self-else-is_err : goal.invariant_of-self-else-is_err
invariant_of-self-else-is_err c =
    let covers = c.in_ok-copies.ensures.covers c.self.inside.kept.states (rw c.every.ensures.value c.self.invariant) in
    let kept = from_ok c.keep.result _ c.if-is_err.ensures.value c.keep.ensures.ok in
    rw kept (rw c.every.ensures.value at covers)

pub returns-then-is_err-clause-refused : goal.returns-then-is_err-clause-refused
returns-then-is_err-clause-refused c = λ i n e.
    let some : length c.args.events.now - 1 < length c.args.events.now = grind (arith, nat_tests) in
    let at : length c.args.events.now - 1 ≡ i = cc in
    let why : Memory ≡ n = cc in
    let stops : RefusedAt (ends c.self.inside.trail) c.args.events.now (length c.args.events.now - 1) Memory = no_copy (ends c.self.inside.trail) c.args.events.now (length c.args.events.now - 1) some c.in_ok-copies.ensures.accepts in
    rw (← c.self.view_is) (subst (λ (k : ℕ). RefusedAt (ends c.self.inside.trail) c.args.events.now k n) at (subst (λ (r : Refusal). RefusedAt (ends c.self.inside.trail) c.args.events.now (length c.args.events.now - 1) r) why stops))
