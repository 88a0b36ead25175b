-- Runs that are one event longer.
use Rattle.std.proofs.Common.{◌≡◌, ℕ, ◌+◌, ◌<◌, List, [], ◌∷◌, ◌++◌, length, take, get_or, None, sym, ap, ◌∙◌, subst}
use Rattle.std.proofs.lemmas.List.{take_more}
use Rattle.scenario.specs.declared.event.Event.{Event}
use Rattle.scenario.specs.declared.setup.Setup.{Setup}
use Rattle.machine.specs.declared.whole.Machine.{Machine}
use Rattle.machine.specs.Steps.{after, refusal}
use Rattle.machine.specs.Runs.{run, start, moment, Accepts}
use Rattle.machine.proofs.Longer.{run-push, accepts-push}

-- The first i + 1 events of a list.
taken_more : (es : List Event) (i : ℕ) (e d : Event)
    → i < length es → e ≡ get_or es i d → take (i + 1) es ≡ take i es ++ e ∷ []
taken_more es i e d h g = take_more es i d h ∙ ap (λ x. take i es ++ x ∷ []) (sym g)

pub accepts_more : (s : Machine) (es : List Event) (i : ℕ) (e d : Event)
    → i < length es → e ≡ get_or es i d → Accepts s (take i es)
    → refusal (run s (take i es)) e ≡ None → Accepts s (take (i + 1) es)
accepts_more s es i e d h g a n =
    subst (Accepts s) (sym (taken_more es i e d h g)) (accepts-push s (take i es) e a n)

pub moment_more : (s : Setup) (es : List Event) (i : ℕ) (e d : Event)
    → i < length es → e ≡ get_or es i d → moment s es (i + 1) ≡ after (moment s es i) e
moment_more s es i e d h g =
    ap (run (start s)) (taken_more es i e d h g) ∙ run-push (start s) (take i es) e
