-- From the result of a call to the reading of the text.
use Rattle.std.proofs.Common.{◌≡◌, ◌≢◌, ℕ, ◌≤◌, List, length, Some, Result, Ok, Err, refl, subst}
use Rattle.std.specs.Prelude.{IsUtf8, IfOk, IfErr}
use Rattle.serde_json.specs.Data.{Data}
use Rattle.serde_json.specs.Read.{read}
use Rattle.script.specs.declared.fault.ScriptFault.{ScriptFault}
use Rattle.script.specs.declared.fault.ScriptFault.TheVariants.{NotJson, Shape, Range, Limit, Memory}
use Rattle.script.specs.Faults.{Fails, Gives}
use Rattle.script.specs.Scripts.{Scenario, Reads, value, script_of, limit}

fault_of : (text : List ℕ) (e : ScriptFault) (d : Data) → length text ≤ limit → IsUtf8 text → read text ≡ Some d → Fails e (script_of d) → e ≢ Memory → Reads text (Err e)
fault_of text NotJson d l u r f n = subst (Reads text) f (value d l u r)
fault_of text (Shape p) d l u r f n = subst (Reads text) f (value d l u r)
fault_of text (Range p) d l u r f n = subst (Reads text) f (value d l u r)
fault_of text (Limit p) d l u r f n = subst (Reads text) f (value d l u r)
fault_of text Memory d l u r f n = absurd (n refl)

pub reads_ok : (text : List ℕ) (found : Result Scenario ScriptFault) (d : Data) → length text ≤ limit → IsUtf8 text → read text ≡ Some d → Gives (λ s. s) found (script_of d) → IfOk found (λ s. Reads text (Ok s))
reads_ok text (Ok s) d l u r g = subst (Reads text) g (value d l u r)
reads_ok text (Err e) d l u r g = tt

pub reads_fault : (text : List ℕ) (found : Result Scenario ScriptFault) (d : Data) → length text ≤ limit → IsUtf8 text → read text ≡ Some d → Gives (λ s. s) found (script_of d) → IfErr found (λ e. e ≢ Memory → Reads text (Err e))
reads_fault text (Ok s) d l u r g = tt
reads_fault text (Err e) d l u r g = λ n. fault_of text e d l u r g n
