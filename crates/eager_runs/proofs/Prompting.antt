-- Eager runs are prompt.
use Rattle.std.proofs.Common.{ℕ, Bool, true, false, refl, sym, subst, inl, inr, List, [], ◌∷◌, ◌++◌, length}
use Rattle.scenario.specs.declared.event.Event.{Event}
use Rattle.scenario.specs.declared.setup.Setup.{Setup}
use Rattle.machine.specs.declared.whole.Machine.{Machine}
use Rattle.machine.specs.Steps.{after}
use Rattle.machine.specs.Runs.{start, run}
use Rattle.inverse_log.proofs.Runs.{run-append}
use Rattle.prompt_order.specs.Prompt.{NothingDue, IsPromptNext, IsPromptFrom, IsPrompt, begun_by}
use Rattle.prompt_order.proofs.Dues.{absent_quiet}
use Rattle.prompt_order.proofs.Prompting.{prompt_append}
use Rattle.eager_runs.specs.Eager.{IsNextWork, IsWork, FollowsOne, Follows, IsEager, is_due}

pub prompt_of : (m : Machine) (from : ℕ) (e : Event) (next : ℕ) → IsNextWork m from e next → IsPromptNext m from e next
prompt_of m from e next (inl due) = inl due
prompt_of m from e next (inr offered) = inr (offered.ended, offered.begun)

-- The events are prompt, and the last submission has ended then.
abbrev Ended : Machine → ℕ → List Event → Type 0
Ended m from es = (next : ℕ) × IsPromptFrom m from es next × NothingDue (run m es) next

work_ended : (m : Machine) (from : ℕ) (es : List Event) → IsWork m from es → Ended m from es
work_ended m from [] h = (from, refl, h.ended)
work_ended m from (e ∷ es) h =
    let rest = work_ended (after m e) h.0 es h.2 in
    (rest.0, (h.0, prompt_of m from e h.0 h.1, rest.1), rest.2)

both_ended : (m : Machine) (from : ℕ) (es fs : List Event) (h : Ended m from es) → Ended (run m es) h.0 fs → Ended m from (es ++ fs)
both_ended m from es fs h k =
    (k.0, prompt_append m from es fs h.0 k.0 h.1 k.1, subst (λ (x : Machine). NothingDue x k.0) (sym (run-append m es fs)) k.2)

one_ended : (m : Machine) (from : ℕ) (b : Bool) (e : Event) (added : List Event) → NothingDue m from → FollowsOne b m e added → Ended m from added
one_ended m from false e added none h = subst (λ (xs : List Event). Ended m from xs) (sym h) (from, refl, none)
one_ended m from true e added none h =
    let work = work_ended (after m e) (begun_by m e) h.0 h.2 in
    subst (λ (xs : List Event). Ended m from xs) (sym h.1) (work.0, (begun_by m e, inr (none, refl), work.1), work.2)

all_ended : (plain m : Machine) (from : ℕ) (es events : List Event) → NothingDue m from → Follows plain m es events → Ended m from events
all_ended plain m from [] events none h = subst (λ (xs : List Event). Ended m from xs) (sym h) (from, refl, none)
all_ended plain m from (e ∷ es) events none h =
    let one = one_ended m from (is_due (after plain e) m e) e h.0 none h.3 in
    let rest = all_ended (after plain e) (run m h.0) one.0 es h.1 one.2 h.4 in
    subst (λ (xs : List Event). Ended m from xs) (sym h.2) (both_ended m from h.0 h.1 one rest)

pub is_prompt : (setup : Setup) (schedule events : List Event) → IsEager setup schedule events → IsPrompt setup events
is_prompt setup schedule events h =
    let all = all_ended (start setup) (start setup) 0 schedule events (λ k low. absent_quiet false (start setup) k low) h in
    (all.0, all.1)
