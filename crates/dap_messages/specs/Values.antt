-- Members of JSON objects that may be missing.
use Rattle.std.specs.Prelude.{ℕ, ℤ, List, [], ◌∷◌, Option, Some, None, option_and_then, Result, Ok, Err}
use Rattle.serde_json.specs.Data.{Data, null, array, Items, no_items, item}
use Rattle.serde_json.specs.Find.{get, as_number, as_u64, as_i64}
use Rattle.dap_messages.specs.declared.field.Field.{Field}
use Rattle.dap_messages.specs.declared.fault.RequestFault.{RequestFault}
use Rattle.dap_messages.specs.declared.fault.RequestFault.TheVariants.{BadArgument}
use Rattle.dap_messages.specs.Faults.{◌>>=◌, or_bad}
use Rattle.dap_messages.specs.Fields.{field_name}

-- A member that is null counts as missing.
abbrev pub present : Option Data → Option Data
present None = None
present (Some null) = None
present (Some d) = Some d

-- A member of a value that may be missing.
unfoldable pub member_of : Field → Option Data → Option Data
member_of f o = present (option_and_then (get (field_name f)) o)

-- A whole number from 0 on. 1.0 and 1e2 are floats, so they aren't accepted.
abbrev pub whole_of : Data → Option ℕ
whole_of d = option_and_then as_u64 (as_number d)

abbrev pub integer_of : Data → Option ℤ
integer_of d = option_and_then as_i64 (as_number d)

-- A required member.
abbrev pub needed : {A : Type 0} → (Data → Option A) → Field → Option Data → Result A RequestFault
needed of f o = or_bad f (option_and_then of (member_of f o))

-- An optional member, and its value if it is missing.
abbrev pub given_by : {A : Type 0} → A → (Data → Option A) → Field → Option Data → Result A RequestFault
given_by default of f None = Ok default
given_by default of f (Some d) = or_bad f (of d)

abbrev pub given : {A : Type 0} → A → (Data → Option A) → Field → Option Data → Result A RequestFault
given default of f o = given_by default of f (member_of f o)

-- ---- lists

abbrev pub list_of : Items → List Data
list_of no_items = []
list_of (item d ds) = d ∷ list_of ds

-- Reads each item, up to the first fault.
abbrev pub each : {A : Type 0} → (Data → Result A RequestFault) → List Data → Result (List A) RequestFault
each read [] = Ok []
each read (d ∷ ds) = read d >>= λ x. (each read ds >>= λ xs. Ok (x ∷ xs))

abbrev pub items_in : {A : Type 0} → (Data → Result A RequestFault) → Field → Option Data → Result (List A) RequestFault
items_in read f None = Ok []
items_in read f (Some (array ds)) = each read (list_of ds)
items_in read f (Some d) = Err (BadArgument f)

-- The items of an optional list, which is empty by default.
abbrev pub items_at : {A : Type 0} → (Data → Result A RequestFault) → Field → Option Data → Result (List A) RequestFault
items_at read f o = items_in read f (member_of f o)
