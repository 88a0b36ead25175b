-- The faults of a script, their paths, and reading up to the first fault.
use Rattle.std.specs.Prelude.{◌≡◌, ℕ, Bool, if◌then◌else◌, Option, Some, None, Result, Ok, Err}
use Rattle.script.specs.declared.fault.Key.{Key}
use Rattle.script.specs.declared.fault.Path.{Path}
use Rattle.script.specs.declared.fault.ScriptFault.{ScriptFault}
use Rattle.script.specs.declared.fault.ScriptFault.TheVariants.{NotJson, Shape, Range, Limit, Memory}

-- The number of a fault.
abbrev pub number_of : ScriptFault → ℕ
number_of NotJson = 1
number_of (Shape p) = 2
number_of (Range p) = 3
number_of (Limit p) = 4
number_of Memory = 5

-- The second reading, if the first one succeeded, or else the first one's fault.
infixl 10 ◌>>=◌
abbrev pub ◌>>=◌ : {A B : Type 0} → Result A ScriptFault → (A → Result B ScriptFault) → Result B ScriptFault
(Ok x) >>= f = f x
(Err e) >>= f = Err e

-- Whether a returned fault is the specified one. An allocation failure is always possible.
abbrev pub Fails : {B : Type 0} → ScriptFault → Result B ScriptFault → Type 0
Fails Memory found = Unit {0}
Fails NotJson found = found ≡ Err NotJson
Fails (Shape p) found = found ≡ Err (Shape p)
Fails (Range p) found = found ≡ Err (Range p)
Fails (Limit p) found = found ≡ Err (Limit p)

-- Whether the result of a call, mapped by `view`, is the specified one. An allocation failure is
-- always possible.
abbrev pub Gives : {A B : Type 0} → (A → B) → Result A ScriptFault → Result B ScriptFault → Type 0
Gives view (Ok x) found = found ≡ Ok (view x)
Gives view (Err e) found = Fails e found

-- The path of a key.
abbrev pub at_key : Key → Path
at_key k = record { key = k; item = None; inner = None }

-- The path of an item of the list at a key.
abbrev pub at_item : Key → ℕ → Path
at_item k i = record { key = k; item = Some i; inner = None }

-- The path of an item within an item.
abbrev pub at_inner : Key → ℕ → ℕ → Path
at_inner k i j = record { key = k; item = Some i; inner = Some j }

-- A missing value is a range fault.
abbrev pub ranged : {A : Type 0} → Path → Option A → Result A ScriptFault
ranged p None = Err (Range p)
ranged p (Some x) = Ok x

-- A missing value is a shape fault.
abbrev pub shaped : {F : Type 0} → Path → Option F → Result F ScriptFault
shaped p None = Err (Shape p)
shaped p (Some form) = Ok form

-- Checks an item's size limits, then its ranges.
abbrev pub limits_then_ranges : {F A : Type 0} → Path → (F → Bool) → (F → Option A) → F → Result A ScriptFault
limits_then_ranges p keeps in_range form = if keeps form then ranged p (in_range form) else Err (Limit p)

-- Checks an item's shape, then its size limits, then its ranges.
abbrev pub form_limits_ranges : {F A : Type 0} → Path → Option F → (F → Bool) → (F → Option A) → Result A ScriptFault
form_limits_ranges p form keeps in_range = shaped p form >>= limits_then_ranges p keeps in_range

-- Checks an item's shape, then its ranges.
abbrev pub form_then_ranges : {F A : Type 0} → Path → Option F → (F → Option A) → Result A ScriptFault
form_then_ranges p None in_range = Err (Shape p)
form_then_ranges p (Some form) in_range = ranged p (in_range form)
