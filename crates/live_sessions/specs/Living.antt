-- The faults of live runs.
use Rattle.std.specs.Prelude.{◌≡◌, ◌≢◌, ℕ, List, [], ◌∷◌, Ok}
use Rattle.scenario.specs.declared.setup.Setup.{Setup}
use Rattle.scenario.specs.declared.setup.SetupRefusal.TheVariants.{Memory as OutOfMemory}
use Rattle.live_runner.specs.Actors.{actors}
use Rattle.live_rules.specs.declared.faults.LiveFault.{LiveFault}
use Rattle.live_rules.specs.declared.faults.LiveFault.TheVariants as live
use Rattle.script.specs.Scripts.{Scenario, Reads}
use Rattle.debug_server.specs.declared.faults.Fault.{Fault as Failure}
use Rattle.debug_server.specs.declared.faults.Fault.TheVariants.{File, Run, Live}
use Rattle.debug_server.specs.Kinds.{IsOf, OfScript, OfMemory}

-- A fault of running a valid setup with `count` actors. Such a setup is refused only if an
-- allocation fails. A strange run has another setup or another number of actors.
abbrev pub IsOfRunning : Setup → ℕ → LiveFault → Type 0
IsOfRunning setup count (live.Setup n) = n ≡ OutOfMemory
IsOfRunning setup count (live.Torn actor) = Unit {0}
IsOfRunning setup count (live.Strange s k) = s ≡ setup → k ≢ count

-- A fault of a script, or of a run over its setup with `kernel` kernel workers.
abbrev pub IsOfLive : List ℕ → ℕ → Failure → Type 0
IsOfLive text kernel File = ⊥
IsOfLive text kernel (Run fault) = IsOf (OfScript ∷ OfMemory ∷ []) fault
IsOfLive text kernel (Live fault) =
    (p : Scenario) × Reads text (Ok p) × IsOfRunning p.setup (actors p.setup kernel) fault
