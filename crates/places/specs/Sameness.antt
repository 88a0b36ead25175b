-- Equality of values as a test, field by field.
use Rattle.std.specs.Prelude.{ℕ, ◌==◌, ◌&&◌, List, ◌∷◌, Bool, true, false, Option}
use Rattle.std.specs.Bool.{beq}
use Rattle.std.specs.Ordering.{int_eq}
use Rattle.std.specs.Option.{option_eq}
use Rattle.std.specs.Str.{bytes_eq}
use Rattle.entries.specs.declared.entry.Sqe.{Sqe}
use Rattle.entries.specs.declared.completion.Cqe.{Cqe}
use Rattle.entries.specs.declared.row.Phase.{Phase}
use Rattle.entries.specs.declared.row.Phase.TheVariants.{Queued, Issued, Ended}
use Rattle.entries.specs.declared.row.Row.{Row}
use Rattle.places.specs.declared.value.Stage.{Stage}
use Rattle.places.specs.declared.value.Stage.TheVariants.{Ready, Waiting}
use Rattle.places.specs.declared.value.Value.{Value}
use Rattle.places.specs.declared.value.Value.TheVariants.{Number, Signed, Byte, Entry, Completed, Requested, Staged, Reaped, Awake}

abbrev pub same_number : ℕ → ℕ → Bool
same_number a b = a == b

-- The unsigned fields of an entry, and its uninterpreted bytes.
abbrev pub numbers_of : Sqe → List ℕ
numbers_of e = e.opcode ∷ e.flags ∷ e.ioprio ∷ e.off ∷ e.addr ∷ e.len ∷ e.operation_flags ∷ e.user_data ∷ e.buf_index ∷ e.personality ∷ e.rest

abbrev pub same_entry : Sqe → Sqe → Bool
same_entry a b = bytes_eq (numbers_of a) (numbers_of b) && (int_eq a.fd b.fd && int_eq a.splice_fd_in b.splice_fd_in)

abbrev pub same_completion : Cqe → Cqe → Bool
same_completion a b = (a.user_data == b.user_data) && (int_eq a.res b.res && (a.flags == b.flags))

abbrev pub same_phase : Phase → Phase → Bool
same_phase Queued Queued = true
same_phase Issued Issued = true
same_phase (Ended a) (Ended b) = int_eq a b
same_phase _ _ = false

abbrev pub same_row : Row → Row → Bool
same_row a b =
    option_eq same_number a.deadline b.deadline && (option_eq same_number a.time b.time && (same_entry a.entry b.entry
    && ((a.base == b.base) && ((a.unit == b.unit) && (option_eq same_number a.target b.target && (option_eq same_number a.held b.held
    && same_phase a.phase b.phase))))))

abbrev pub same_stage : Stage → Stage → Bool
same_stage Ready Ready = true
same_stage (Waiting a b) (Waiting x y) = (a == x) && (b == y)
same_stage _ _ = false

abbrev pub same_value : Value → Value → Bool
same_value (Number a) (Number b) = a == b
same_value (Signed a) (Signed b) = int_eq a b
same_value (Byte a) (Byte b) = a == b
same_value (Entry a) (Entry b) = same_entry a b
same_value (Completed a) (Completed b) = same_completion a b
same_value (Requested a) (Requested b) = same_row a b
same_value (Staged a) (Staged b) = same_stage a b
same_value (Reaped a) (Reaped b) = option_eq same_completion a b
same_value (Awake a) (Awake b) = beq a b
same_value _ _ = false

-- Whether two values are equal, or both absent.
unfoldable pub is_same : Option Value → Option Value → Bool
is_same = option_eq same_value
