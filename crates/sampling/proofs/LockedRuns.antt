-- Runs that keep the lock.
use Rattle.std.proofs.Common.{◌≡◌, ℕ, ◌+◌, ◌<◌, Bool, true, false, refl, sym, ap, ◌∙◌, List, length, drop, get_or}
use Rattle.std.specs.Prelude.{if◌then◌else◌}
use Rattle.std.proofs.lemmas.List.{at_drop_more}
use Rattle.scenario.specs.declared.event.Event.{Event}
use Rattle.machine.specs.declared.whole.Machine.{Machine}
use Rattle.machine.specs.Steps.{after, Next}
use Rattle.sampling.specs.Locks.{keeps_lock, keep_lock}

chosen_by : {X : Type 0} (b : Bool) (x y : X) → b ≡ true → (if b then x else y) ≡ x
chosen_by true x y h = refl
chosen_by false x y h = absurd cc

-- Where an event keeps the lock, the events from it on do if those after it do.
pub kept_on : (m n : Machine) (es : List Event) (i : ℕ) (d : Event) (kept : Bool) → i < length es → kept ≡ keeps_lock m (get_or es i d) → kept ≡ true → Next m (get_or es i d) n → keep_lock m (drop i es) ≡ keep_lock n (drop (i + 1) es)
kept_on m n es i d kept there says is next =
    at_drop_more (keep_lock m) es i d there
    ∙ chosen_by (keeps_lock m (get_or es i d)) (keep_lock (after m (get_or es i d)) (drop (i + 1) es)) false (sym says ∙ is)
    ∙ ap (λ (x : Machine). keep_lock x (drop (i + 1) es)) (sym next.changed)
