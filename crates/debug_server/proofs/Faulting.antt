-- The possible faults of a session over events or over a script.
use Rattle.std.proofs.Common.{◌≢◌, refl, List, ◌∷◌, [], Result, Ok, Err}
use Rattle.std.specs.Prelude.{IfErr}
use Rattle.script.specs.declared.fault.ScriptFault.{ScriptFault}
use Rattle.debug_server.specs.Kinds.{Kind, IsOf, OfScript, OfSchedule, OfServing, OfMemory}
use Rattle.debug_server.specs.declared.faults.RunFault.{RunFault}
use Rattle.debug_server.specs.declared.faults.RunFault.TheVariants.{Script, Schedule, Serve, Memory, Net, Trace}

abbrev run : List Kind
run = OfSchedule ∷ OfServing ∷ OfMemory ∷ []

of_walk : (e : RunFault) → IsOf run e → IsOf (OfScript ∷ run) e
of_walk (Schedule i n) h = refl
of_walk (Serve f) h = refl
of_walk Memory h = refl
of_walk (Script f) h = absurd cc
of_walk Net h = absurd cc
of_walk (Trace f) h = absurd cc

pub walks : {A : Type 0} (r : Result A RunFault) → IfErr r (IsOf run) → IfErr r (IsOf (OfScript ∷ run))
walks (Ok x) h = h
walks (Err e) h = of_walk e h

no_script : (e : RunFault) → IsOf run e → (f : ScriptFault) → e ≢ Script f
no_script (Schedule i n) h f = λ e. absurd cc
no_script (Serve s) h f = λ e. absurd cc
no_script Memory h f = λ e. absurd cc
no_script (Script s) h f = absurd cc
no_script Net h f = absurd cc
no_script (Trace s) h f = absurd cc

pub reads_none : {A : Type 0} (r : Result A RunFault) → IfErr r (IsOf run) → IfErr r (λ e. (f : ScriptFault) → e ≢ Script f)
reads_none (Ok x) h = h
reads_none (Err e) h = no_script e h
