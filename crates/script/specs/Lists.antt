-- Lists in a JSON value, and the members of JSON objects.
use Rattle.std.specs.Prelude.{ℕ, ◌+◌, ◌&&◌, nat_lt, List, [], ◌∷◌, length, Bool, true, false, if◌then◌else◌, Option, Some, None, Result, Ok, Err}
use Rattle.serde_json.specs.Data.{Data, array, object, Items, no_items, item, Members, no_members, member}
use Rattle.script.specs.declared.fault.Key.{Key}
use Rattle.script.specs.declared.fault.Path.{Path}
use Rattle.script.specs.declared.fault.ScriptFault.{ScriptFault}
use Rattle.script.specs.declared.fault.ScriptFault.TheVariants.{Shape, Limit}
use Rattle.script.specs.Faults.{◌>>=◌, at_key}

-- The items of a list.
abbrev pub list_of : Items → List Data
list_of no_items = []
list_of (item d ds) = d ∷ list_of ds

-- The items of a value that has to be a list.
abbrev pub listed : Path → Data → Result (List Data) ScriptFault
listed p (array ds) = Ok (list_of ds)
listed p _ = Err (Shape p)

-- Applies a form to the items of a value that is a list.
abbrev pub of_list : {A : Type 0} → (List Data → Option A) → Data → Option A
of_list form (array ds) = form (list_of ds)
of_list form _ = None

-- Reads each item, from index i on, up to the first fault.
abbrev pub each : {A : Type 0} → (ℕ → Data → Result A ScriptFault) → ℕ → List Data → Result (List A) ScriptFault
each f i [] = Ok []
each f i (d ∷ ds) = f i d >>= λ x. (each f (i + 1) ds >>= λ xs. Ok (x ∷ xs))

-- Reads items into a state, from index i on, up to the first fault.
abbrev pub folded : {S : Type 0} → (S → ℕ → Data → Result S ScriptFault) → S → ℕ → List Data → Result S ScriptFault
folded f s i [] = Ok s
folded f s i (d ∷ ds) = f s i d >>= λ t. folded f t (i + 1) ds

-- Reads a list of at most `most` items. Its length is checked before its items.
abbrev pub at_most : {A : Type 0} → ℕ → Path → (ℕ → Data → Result A ScriptFault) → List Data → Result (List A) ScriptFault
at_most most p f ds = if nat_lt most (length ds) then Err (Limit p) else each f 0 ds

-- The same for items that are read into a state.
abbrev pub folded_at_most : {S : Type 0} → ℕ → Path → (S → ℕ → Data → Result S ScriptFault) → S → List Data → Result S ScriptFault
folded_at_most most p f s ds = if nat_lt most (length ds) then Err (Limit p) else folded f s 0 ds

-- Whether each key passes a test.
abbrev pub keys_pass : (List ℕ → Bool) → Members → Bool
keys_pass test no_members = true
keys_pass test (member k d ms) = test k && keys_pass test ms

-- Whether a value is a JSON object in which each key passes the test.
abbrev pub has_keys : (List ℕ → Bool) → Data → Bool
has_keys test (object ms) = keys_pass test ms
has_keys test _ = false

-- Requires a JSON object in which each key passes the test.
abbrev pub keyed : (List ℕ → Bool) → Path → Data → Result (Unit {0}) ScriptFault
keyed test p d = if has_keys test d then Ok tt else Err (Shape p)

-- The list at an optional key, which is empty by default.
abbrev pub list_at : Key → Option Data → Result (List Data) ScriptFault
list_at k None = Ok []
list_at k (Some d) = listed (at_key k) d

-- The value of a required key.
abbrev pub required : Key → Option Data → Result Data ScriptFault
required k None = Err (Shape (at_key k))
required k (Some d) = Ok d
