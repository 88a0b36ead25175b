-- Traces of equal and of different setups.
use Rattle.std.proofs.Common.{◌≡◌, List, ℕ, ap, sym, ◌∙◌, subst}
use Rattle.std.specs.Prelude.{◌≢◌}
use Rattle.scenario.specs.declared.event.Event.{Event}
use Rattle.scenario.specs.declared.setup.Setup.{Setup}
use Rattle.traces.specs.Setups.{trace2_bytes, IsTrace2}

-- Equal bytes are a trace of the same setup.
pub same_setup : (c : Setup) (events : List Event) (trace same : List ℕ) → IsTrace2 c events same → same ≡ trace → IsTrace2 c events trace
same_setup c events trace same written e = subst (IsTrace2 c events) e written

-- Traces of the same events differ only if their setups do.
pub other_setup : (s c : Setup) (events : List Event) (trace same : List ℕ) → IsTrace2 s events trace → IsTrace2 c events same → same ≢ trace → s ≢ c
other_setup s c events trace same there written differ e =
    differ (written.spelled ∙ ap (λ (x : Setup). trace2_bytes x events) (sym e) ∙ sym there.spelled)
