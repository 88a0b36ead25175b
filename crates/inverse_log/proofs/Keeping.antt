-- The invariant of a trail is maintained by a step in either direction, by a new
-- event, and by truncation.
use Rattle.std.proofs.Common.{◌≡◌, ℕ, suc, ◌+◌, ◌-◌, ◌^◌, ◌<◌, ◌≤◌, List, [], ◌∷◌, ◌++◌, length, take, get_or, sym, ap, ◌∙◌, subst, arith, length-append}
use Rattle.std.proofs.lemmas.List.{take-take, length-take}
use Rattle.places.specs.declared.value.Change.{Change}
use Rattle.machine.specs.declared.whole.Machine.{Machine}
use Rattle.scenario.specs.declared.setup.Setup.{Setup}
use Rattle.scenario.specs.declared.event.Event.{Event}
use Rattle.places.specs.View.{Exact}
use Rattle.machine.specs.Whole.{view}
use Rattle.machine.specs.Steps.{Next, after}
use Rattle.machine.specs.Runs.{run, start, moment, Link, Linked}
use Rattle.inverse_log.specs.Tracks.{Keeps}
use Rattle.inverse_log.proofs.Runs.{linked_at, length_linked, linked_more, linked_take, recorded_more, recorded_take, run-take_more, run-push, run_all}

-- The event and record that lead from moment i to `state`.
pub record StepBefore (setup : Setup) (es : List Event) (i : ℕ) (r : List Change) (state : Machine) : Type 0 where
  pub event : Event
  pub link : Link (moment setup es i) event r state

pub step_before : (setup : Setup) (es : List Event) (rs : List (List Change)) (at : ℕ) (state : Machine) (walked : ℕ) (r : List Change) → Keeps setup es rs at state walked → 0 < at → r ≡ get_or rs (at - 1) r → StepBefore setup es (at - 1) r state
step_before setup es rs at state walked r k some g =
    let l = linked_at (start setup) (run (start setup) es) es rs (at - 1) r k.linked (let w = k.within in omega arith) g in
    let n : suc (at - 1) ≡ at = omega arith in
    let same : run (start setup) (take (suc (at - 1)) es) ≡ state = ap (λ m. run (start setup) (take m es)) n ∙ sym k.here in
    record { event = l.0; link = subst (λ (x : Machine). Link (moment setup es (at - 1)) l.0 r x) same l.1 }

pub record_there : (setup : Setup) (es : List Event) (rs : List (List Change)) (at : ℕ) (state : Machine) (walked : ℕ) → Keeps setup es rs at state walked → 0 < at → at - 1 < length rs
record_there setup es rs at state walked k some =
    let l = length_linked (start setup) (run (start setup) es) es rs k.linked in
    let w = k.within in
    omega arith

pub keeps_back : (setup : Setup) (es : List Event) (rs : List (List Change)) (at : ℕ) (state state' : Machine) (walked walked' : ℕ) → Keeps setup es rs at state walked → state' ≡ moment setup es (at - 1) → walked' < 2 ^ 64 → Keeps setup es rs (at - 1) state' walked'
keeps_back setup es rs at state state' walked walked' k e c = record {
  linked = k.linked;
  recorded = k.recorded;
  within = let w = k.within in omega arith;
  here = e;
  most = k.most;
  counted = c;
}

pub keeps_on : (setup : Setup) (es : List Event) (rs : List (List Change)) (at : ℕ) (state state' : Machine) (walked walked' : ℕ) (e : Event) → Keeps setup es rs at state walked → at < length es → e ≡ get_or es at e → Next state e state' → walked' < 2 ^ 64 → Keeps setup es rs (at + 1) state' walked'
keeps_on setup es rs at state state' walked walked' e k h g next c = record {
  linked = k.linked;
  recorded = k.recorded;
  within = omega arith;
  here = next.changed ∙ ap (λ v. after v e) k.here ∙ sym (run-take_more (start setup) es at e h g);
  most = k.most;
  counted = c;
}

pub keeps_push : (setup : Setup) (es es' : List Event) (rs rs' : List (List Change)) (at : ℕ) (state state' : Machine) (walked : ℕ) (e : Event) (r : List Change) → Keeps setup es rs at state walked → at ≡ length es → length es < 1048576 → es' ≡ es ++ e ∷ [] → rs' ≡ rs ++ r ∷ [] → Link state e r state' → Exact (view state) (view state') r → Keeps setup es' rs' (at + 1) state' walked
keeps_push setup es es' rs rs' at state state' walked e r k last room ge gr link exact =
    let s = start setup in
    let whole : state ≡ run s es = k.here ∙ run_all s es at last in
    let new : state' ≡ run s (es ++ e ∷ []) = link.next.changed ∙ ap (λ v. after v e) whole ∙ sym (run-push s es e) in
    let more : Linked s (es ++ e ∷ []) (rs ++ r ∷ []) state' = linked_more s state state' es rs e r (subst (Linked s es rs) (sym whole) k.linked) link in
    let long = length-append es (e ∷ []) in
    let kept : Exact (view (run s es)) (view (after (run s es) e)) r =
    let P : Machine → Machine → Type 0 = λ a b. Exact (view a) (view b) r in
    subst (λ (a : Machine). P a (after a e)) whole (subst (P state) link.next.changed exact) in
    rw (ge, gr) (record {
      linked = subst (Linked s (es ++ e ∷ []) (rs ++ r ∷ [])) new more;
      recorded = recorded_more s es rs e r k.recorded kept;
      within = omega arith;
      here = new ∙ sym (run_all s (es ++ e ∷ []) (at + 1) (omega arith));
      most = omega arith;
      counted = k.counted;
    })

pub keeps_cut : (setup : Setup) (es es' : List Event) (rs rs' : List (List Change)) (at : ℕ) (state : Machine) (walked n : ℕ) → Keeps setup es rs at state walked → at ≤ n → es' ≡ take n es → rs' ≡ take n rs → Keeps setup es' rs' at state walked
keeps_cut setup es es' rs rs' at state walked n k h ge gr =
    let long = length-take n es in
    let w = k.within in
    let m = k.most in
    rw (ge, gr) (record {
      linked = linked_take (start setup) (run (start setup) es) es rs n k.linked;
      recorded = recorded_take (start setup) es rs n k.recorded;
      within = omega arith;
      here = k.here ∙ ap (run (start setup)) (sym (take-take at n es h));
      most = omega arith;
      counted = k.counted;
    })
