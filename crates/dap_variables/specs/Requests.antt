-- The fields of a request.
use Rattle.std.specs.Prelude.{ℕ, List, [], ◌∷◌, codes, decimal}
use Rattle.std.specs.Fmt.{signed_decimal}
use Rattle.entries.specs.declared.row.Row.{Row}
use Rattle.places.specs.Text.{phase_text}
use Rattle.dap_variables.specs.declared.requests.RequestField.{RequestField}
use Rattle.dap_variables.specs.declared.requests.RequestField.TheVariants.{Opcode, Flags, Descriptor, Offset, Address, Length, OperationFlags, UserData, Chain, Phase}

-- All of them.
abbrev pub fields : List RequestField
fields =
    Opcode ∷ Flags ∷ Descriptor ∷ Offset ∷ Address ∷ Length ∷ OperationFlags ∷ UserData ∷ Chain
    ∷ Phase ∷ []

abbrev pub field_name : RequestField → List ℕ
field_name Opcode = codes "opcode"
field_name Flags = codes "flags"
field_name Descriptor = codes "fd"
field_name Offset = codes "off"
field_name Address = codes "addr"
field_name Length = codes "len"
field_name OperationFlags = codes "op_flags"
field_name UserData = codes "user_data"
field_name Chain = codes "unit"
field_name Phase = codes "phase"

abbrev pub field_text : RequestField → Row → List ℕ
field_text Opcode r = decimal r.entry.opcode
field_text Flags r = decimal r.entry.flags
field_text Descriptor r = signed_decimal r.entry.fd
field_text Offset r = decimal r.entry.off
field_text Address r = decimal r.entry.addr
field_text Length r = decimal r.entry.len
field_text OperationFlags r = decimal r.entry.operation_flags
field_text UserData r = decimal r.entry.user_data
field_text Chain r = decimal r.unit
field_text Phase r = phase_text r.phase
