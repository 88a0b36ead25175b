-- Runs that are extended by events.
use Rattle.std.proofs.Common.{◌≡◌, List, [], ◌∷◌, ◌++◌, None, refl}
use Rattle.machine.proofs.Common.{Event, Machine, after, refusal, run, Accepts}

pub run-append : (s : Machine) (es fs : List Event) → run s (es ++ fs) ≡ run (run s es) fs
run-append s [] fs = refl
run-append s (x ∷ es) fs = run-append (after s x) es fs

pub run-push : (s : Machine) (es : List Event) (e : Event) → run s (es ++ e ∷ []) ≡ after (run s es) e
run-push s es e = run-append s es (e ∷ [])

pub accepts-append : (s : Machine) (es fs : List Event)
    → Accepts s es → Accepts (run s es) fs → Accepts s (es ++ fs)
accepts-append s [] fs a b = b
accepts-append s (e ∷ es) fs a b = (a.0, accepts-append (after s e) es fs a.1 b)

pub accepts-push : (s : Machine) (es : List Event) (e : Event)
    → Accepts s es → refusal (run s es) e ≡ None → Accepts s (es ++ e ∷ [])
accepts-push s es e a b = accepts-append s es (e ∷ []) a (b, tt)
