-- The text of values, as `show` prints it.
use Rattle.std.specs.Prelude.{ℕ, Bool, true, false, List, [], ◌∷◌, ◌++◌, Option, Some, None, codes}
use Rattle.std.specs.Fmt.{decimal, signed_decimal}
use Rattle.hex.specs.Hex.{encode_lower}
use Rattle.entries.specs.Layout.{completion_bytes, entry_bytes}
use Rattle.entries.specs.declared.completion.Cqe.{Cqe}
use Rattle.entries.specs.declared.row.Phase.{Phase}
use Rattle.entries.specs.declared.row.Phase.TheVariants.{Queued, Issued, Ended}
use Rattle.entries.specs.declared.row.Row.{Row}
use Rattle.places.specs.declared.value.Stage.{Stage}
use Rattle.places.specs.declared.value.Stage.TheVariants.{Ready, Waiting}
use Rattle.places.specs.declared.value.Value.{Value}
use Rattle.places.specs.declared.value.Value.TheVariants.{Number, Signed, Byte, Entry, Completed, Requested, Staged, Reaped, Awake}

abbrev pub phase_text : Phase → List ℕ
phase_text Queued = codes "queued"
phase_text Issued = codes "issued"
phase_text (Ended result) = codes "ended " ++ signed_decimal result

-- A request: opcode, user_data, the number of its chain's first request, and its phase.
abbrev pub row_text : Row → List ℕ
row_text r =
    codes "op " ++ (decimal r.entry.opcode ++ (codes " user " ++ (decimal r.entry.user_data
    ++ (codes " unit " ++ (decimal r.unit ++ (codes " " ++ phase_text r.phase))))))

-- A thread's stage. If it waits: how many entries its Enter submitted, and how many
-- completions it waits for.
abbrev pub stage_text : Stage → List ℕ
stage_text Ready = codes "ready"
stage_text (Waiting submitted needed) = codes "waiting " ++ (decimal submitted ++ (codes " " ++ decimal needed))

-- The bytes of the completion in hex.
abbrev pub completion_text : Cqe → List ℕ
completion_text c = encode_lower (completion_bytes c)

abbrev pub reaped_text : Option Cqe → List ℕ
reaped_text None = codes "none"
reaped_text (Some c) = completion_text c

abbrev pub awake_text : Bool → List ℕ
awake_text true = codes "awake"
awake_text false = codes "asleep"

-- Numbers in decimal, bytes as two hex digits each.
abbrev pub value_text : Value → List ℕ
value_text (Number n) = decimal n
value_text (Signed n) = signed_decimal n
value_text (Byte b) = encode_lower (b ∷ [])
value_text (Entry e) = encode_lower (entry_bytes e)
value_text (Completed c) = completion_text c
value_text (Requested r) = row_text r
value_text (Staged s) = stage_text s
value_text (Reaped c) = reaped_text c
value_text (Awake b) = awake_text b
