-- Submission entries in a script (io_uring_enter(2)).
use Rattle.std.specs.Prelude.{ℕ, pos, replicate, ◌||◌, List, codes, Bool, if◌then◌else◌, Option, Some, None, option_map}
use Rattle.std.specs.Result.{result_ok}
use Rattle.std.specs.Str.{bytes_eq}
use Rattle.hex.specs.Hex.{decode_sized}
use Rattle.serde_json.specs.Data.{Data, string}
use Rattle.serde_json.specs.Find.{get}
use Rattle.entries.specs.declared.entry.Sqe.{Sqe}
use Rattle.entries.specs.Layout.{entry_of_bytes}
use Rattle.script.specs.declared.number.Whole.{Whole}
use Rattle.script.specs.declared.entry.EntryNumbers.{EntryNumbers}
use Rattle.script.specs.declared.entry.EntryForm.{EntryForm}
use Rattle.script.specs.declared.entry.EntryForm.TheVariants.{Written, Numbers}
use Rattle.script.specs.Numbers.{whole_or_zero, between, signed_word}
use Rattle.script.specs.Lists.{has_keys}

infixl 10 ◌>>=◌
abbrev pub ◌>>=◌ : {A B : Type 0} → Option A → (A → Option B) → Option B
(Some x) >>= f = f x
None >>= f = None

-- The keys of an entry.
abbrev pub is_entry_key : List ℕ → Bool
is_entry_key k =
    bytes_eq k (codes "op") || bytes_eq k (codes "flags") || bytes_eq k (codes "ioprio") || bytes_eq k (codes "fd") || bytes_eq k (codes "off")
    || bytes_eq k (codes "addr") || bytes_eq k (codes "len") || bytes_eq k (codes "opflags") || bytes_eq k (codes "ud")

-- The whole number at a key, 0 if the key is missing.
abbrev pub whole_at : List ℕ → Data → Option Whole
whole_at k d = whole_or_zero (get k d)

-- The numbers of an entry, without a range check.
abbrev pub entry_numbers : Data → Option EntryNumbers
entry_numbers d = do
  op ← whole_at (codes "op") d
  flags ← whole_at (codes "flags") d
  ioprio ← whole_at (codes "ioprio") d
  fd ← whole_at (codes "fd") d
  off ← whole_at (codes "off") d
  addr ← whole_at (codes "addr") d
  len ← whole_at (codes "len") d
  opflags ← whole_at (codes "opflags") d
  ud ← whole_at (codes "ud") d
  Some (record { op = op; flags = flags; ioprio = ioprio; fd = fd; off = off; addr = addr; len = len; opflags = opflags; ud = ud })

-- A JSON object with only these keys.
abbrev pub object_form : Data → Option EntryForm
object_form d = if has_keys is_entry_key d then option_map Numbers (entry_numbers d) else None

-- The 64 bytes of an entry, as 128 hex digits in either case.
abbrev pub entry_of_text : List ℕ → Option Sqe
entry_of_text text = option_map entry_of_bytes (result_ok (decode_sized text 64))

-- An entry is a text of hex digits, or a JSON object.
abbrev pub entry_form : Data → Option EntryForm
entry_form (string text) = option_map Written (entry_of_text text)
entry_form d = object_form d

-- The entry with these numbers, if each is in its range. All other bytes are 0.
abbrev pub entry_of_numbers : EntryNumbers → Option Sqe
entry_of_numbers n = do
  opcode ← between 0 255 n.op
  flags ← between 0 255 n.flags
  ioprio ← between 0 65535 n.ioprio
  fd ← signed_word n.fd
  off ← between 0 18446744073709551615 n.off
  addr ← between 0 18446744073709551615 n.addr
  len ← between 0 4294967295 n.len
  operation_flags ← between 0 4294967295 n.opflags
  user_data ← between 0 18446744073709551615 n.ud
  Some (record {
    opcode = opcode;
    flags = flags;
    ioprio = ioprio;
    fd = fd;
    off = off;
    addr = addr;
    len = len;
    operation_flags = operation_flags;
    user_data = user_data;
    buf_index = 0;
    personality = 0;
    splice_fd_in = pos 0;
    rest = replicate 16 0;
  })

-- The entry, if its numbers are in their ranges.
abbrev pub entry_in_range : EntryForm → Option Sqe
entry_in_range (Written e) = Some e
entry_in_range (Numbers n) = entry_of_numbers n
