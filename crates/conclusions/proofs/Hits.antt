-- The run that was found shows the symptom, and the script has its setup.
use Rattle.std.proofs.Common.{◌≡◌, ℕ, List, subst, None, Vec, Global}
use Rattle.std.specs.Prelude.{Ok, Option, Some, IfSome}
use Rattle.scenario.specs.declared.event.Event.{Event}
use Rattle.scenario.specs.declared.setup.Setup.{Setup}
use Rattle.script.specs.Scripts.{Scenario, Reads}
use Rattle.script.proofs.Once.{reads_once}
use Rattle.sampling.proofs.Repeating.{repeatable}
use Rattle.symptoms.specs.Symptoms.{Shows, IsFirst}
use Rattle.exploring.specs.declared.random_runs.RandomRuns.{RandomRuns}
use Rattle.exploring.specs.RandomRuns.{HasEvents, RunShows}
use Rattle.rewriting.specs.Rewriting.{IsRewritten}
use Rattle.symptoms.specs.declared.symptom.Sighting.{Sighting}
use Rattle.conclusions.specs.Conclusions.{IsScriptOf, IsShown, IsFoundScript}

-- A run that shows the symptom has a sighting, whenever it is made.
pub has_sighting : (r : RandomRuns) (n : ℕ) (es : List Event) → HasEvents r n es → RunShows r n → IsFirst r.setup.now es r.symptom None → ⊥
has_sighting r n es h s first =
    let P : List Event → Type 0 = λ xs. Shows r.setup.now xs r.symptom s.2 in
    first s.2 (subst P (repeatable r.setup.now r.options r.seed n s.0 es s.1 h) s.3)

-- A script that is made from the text has the text's setup.
pub of_text : (text : List ℕ) (s : Setup) (p : Scenario) (es : List Event) (made : List ℕ) → IsScriptOf text s → Reads text (Ok p) → IsRewritten text p.setup es made → IsRewritten text s es made
of_text text s p es made q reads rewritten =
    let same : Ok q.0 ≡ Ok p = reads_once text (Ok q.0) (Ok p) q.1 reads in
    let P : Setup → Type 0 = λ x. IsRewritten text x es made in
    let setup : p.setup ≡ s = cc in
    subst P setup rewritten

-- The script that is written has the schedule that was found.
pub found_script : (text : List ℕ) (r : RandomRuns) (found : Option ℕ) (n : ℕ) (fs : List Event) (y : Sighting) (o : Option (Vec ℕ Global)) → found ≡ Some n → IsShown r n fs y → IfSome o (λ made. IsRewritten text r.setup.now fs made.items) → IfSome o (λ made. IsFoundScript text r found made.items)
found_script text r found n fs y None hit shown rewritten = tt
found_script text r found n fs y (Some made) hit shown rewritten = record { number = n; hit = hit; events = fs; sighting = y; shown = shown; rewritten = rewritten }
