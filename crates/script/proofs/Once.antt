-- A text has one reading.
use Rattle.std.proofs.Common.{◌≡◌, ℕ, List, Result, refl, ap, arith}
use Rattle.script.specs.declared.fault.ScriptFault.{ScriptFault}
use Rattle.script.specs.Scripts.{Scenario, Reads, long, unread, value, script_of}

pub reads_once : (text : List ℕ) (one other : Result Scenario ScriptFault) → Reads text one → Reads text other → one ≡ other
reads_once text one other (long h) (long k) = refl
reads_once text one other (long h) (unread k) = absurd (omega arith)
reads_once text one other (long h) (value d l u r) = absurd (omega arith)
reads_once text one other (unread h) (long k) = absurd (omega arith)
reads_once text one other (unread h) (unread k) = refl
reads_once text one other (unread h) (value d l u r) = absurd (let x = h.1 u in cc)
reads_once text one other (value d l u r) (long k) = absurd (omega arith)
reads_once text one other (value d l u r) (unread k) = absurd (let x = k.1 u in cc)
reads_once text one other (value d l u r) (value e m v s) = let same : d ≡ e = cc in ap script_of same
