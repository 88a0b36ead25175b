-- The faults of serving clients of a live run.
use Rattle.std.specs.Prelude.{◌≡◌, ◌≢◌, ℕ, [], ◌∷◌}
use Rattle.scenario.specs.declared.setup.Setup.{Setup}
use Rattle.live_rules.specs.declared.faults.LiveFault.TheVariants as live
use Rattle.debug_server.specs.declared.faults.Fault.{Fault}
use Rattle.debug_server.specs.declared.faults.Fault.TheVariants.{File, Run, Live}
use Rattle.debug_server.specs.Kinds.{IsOf, OfMemory, OfListening}

-- A failed allocation or accept, or a run of `count` actors that wasn't closed. A strange run has
-- another setup or another number of actors.
abbrev pub IsOfServing : Setup → ℕ → Fault → Type 0
IsOfServing setup count File = ⊥
IsOfServing setup count (Run fault) = IsOf (OfMemory ∷ OfListening ∷ []) fault
IsOfServing setup count (Live (live.Setup refusal)) = ⊥
IsOfServing setup count (Live (live.Torn actor)) = Unit {0}
IsOfServing setup count (Live (live.Strange s k)) = s ≡ setup → k ≢ count
