-- The memory layout of submission entries and completions: `struct io_uring_sqe` and
-- `struct io_uring_cqe` (io_uring_enter(2)). A list of bytes is a list of numbers below 256.
use Rattle.std.specs.Prelude.{◌≡◌, ◌<◌, ◌^◌, ◌+◌, ◌++◌, ℕ, ℤ, FitsSigned, List, length, take, drop}
use Rattle.std.specs.Int.{w32, cast_signed, cast_unsigned}
use Rattle.byteorder.specs.Endian.{little_bytes, little_number}
use Rattle.entries.specs.declared.completion.Cqe.{Cqe}
use Rattle.entries.specs.declared.entry.Sqe.{Sqe}

-- The `width` bytes from `offset` on are exactly `part`.
abbrev pub BytesAt : ℕ → ℕ → List ℕ → List ℕ → Type 0
BytesAt offset width part bytes = take width (drop offset bytes) ≡ part

-- The `width` bytes from `offset` on are an unsigned number, little-endian.
abbrev pub NumberAt : ℕ → ℕ → ℕ → List ℕ → Type 0
NumberAt offset width number bytes = BytesAt offset width (little_bytes width number) bytes

-- The 4 bytes from `offset` on are a signed 32-bit number in two's complement, little-endian.
abbrev pub SignedAt : ℕ → ℕ → ℤ → List ℕ → Type 0
SignedAt offset width number bytes = NumberAt offset width (cast_unsigned w32 number) bytes

-- The bytes with `part` written over them from `offset` on.
abbrev pub put_at : ℕ → List ℕ → List ℕ → List ℕ
put_at offset part bytes = take offset bytes ++ part ++ drop (offset + length part) bytes

-- `bytes` are the 64 bytes of a submission entry: each field at its offset, and no byte left over.
pub record EntryLayout (entry : Sqe) (bytes : List ℕ) : Type 0 where
  pub size : length bytes ≡ 64
  pub opcode : NumberAt 0 1 entry.opcode bytes
  pub flags : NumberAt 1 1 entry.flags bytes
  pub ioprio : NumberAt 2 2 entry.ioprio bytes
  pub fd : SignedAt 4 4 entry.fd bytes
  pub off : NumberAt 8 8 entry.off bytes
  pub addr : NumberAt 16 8 entry.addr bytes
  pub len : NumberAt 24 4 entry.len bytes
  pub operation_flags : NumberAt 28 4 entry.operation_flags bytes
  pub user_data : NumberAt 32 8 entry.user_data bytes
  pub buf_index : NumberAt 40 2 entry.buf_index bytes
  pub personality : NumberAt 42 2 entry.personality bytes
  pub splice_fd_in : SignedAt 44 4 entry.splice_fd_in bytes
  pub rest : BytesAt 48 16 entry.rest bytes

-- The unsigned little-endian number in the `width` bytes from `offset` on.
abbrev pub number_at : ℕ → ℕ → List ℕ → ℕ
number_at offset width bytes = little_number width (take width (drop offset bytes))

-- The signed 32-bit little-endian number from `offset` on.
abbrev pub signed_at : ℕ → List ℕ → ℤ
signed_at offset bytes = cast_signed w32 (number_at offset 4 bytes)

-- The entry that 64 bytes hold, field by field.
unfoldable pub entry_of_bytes : List ℕ → Sqe
entry_of_bytes bytes = record {
  opcode = number_at 0 1 bytes;
  flags = number_at 1 1 bytes;
  ioprio = number_at 2 2 bytes;
  fd = signed_at 4 bytes;
  off = number_at 8 8 bytes;
  addr = number_at 16 8 bytes;
  len = number_at 24 4 bytes;
  operation_flags = number_at 28 4 bytes;
  user_data = number_at 32 8 bytes;
  buf_index = number_at 40 2 bytes;
  personality = number_at 42 2 bytes;
  splice_fd_in = signed_at 44 bytes;
  rest = take 16 (drop 48 bytes);
}

-- `bytes` are the 16 bytes of a completion.
pub record CompletionLayout (completion : Cqe) (bytes : List ℕ) : Type 0 where
  pub size : length bytes ≡ 16
  pub user_data : NumberAt 0 8 completion.user_data bytes
  pub res : SignedAt 8 4 completion.res bytes
  pub flags : NumberAt 12 4 completion.flags bytes

-- Each field of an entry is in the range of its type.
pub record EntryFits (entry : Sqe) : Type 0 where
  pub opcode : entry.opcode < 2 ^ 8
  pub flags : entry.flags < 2 ^ 8
  pub ioprio : entry.ioprio < 2 ^ 16
  pub fd : FitsSigned w32 entry.fd
  pub off : entry.off < 2 ^ 64
  pub addr : entry.addr < 2 ^ 64
  pub len : entry.len < 2 ^ 32
  pub operation_flags : entry.operation_flags < 2 ^ 32
  pub user_data : entry.user_data < 2 ^ 64
  pub buf_index : entry.buf_index < 2 ^ 16
  pub personality : entry.personality < 2 ^ 16
  pub splice_fd_in : FitsSigned w32 entry.splice_fd_in

-- Each field of a completion is in the range of its type.
pub record CompletionFits (completion : Cqe) : Type 0 where
  pub user_data : completion.user_data < 2 ^ 64
  pub res : FitsSigned w32 completion.res
  pub flags : completion.flags < 2 ^ 32

-- The 64 bytes of an entry: its fields in order.
abbrev pub entry_bytes : Sqe → List ℕ
entry_bytes e =
    little_bytes 1 e.opcode ++ little_bytes 1 e.flags ++ little_bytes 2 e.ioprio
    ++ little_bytes 4 (cast_unsigned w32 e.fd) ++ little_bytes 8 e.off ++ little_bytes 8 e.addr
    ++ little_bytes 4 e.len ++ little_bytes 4 e.operation_flags ++ little_bytes 8 e.user_data
    ++ little_bytes 2 e.buf_index ++ little_bytes 2 e.personality
    ++ little_bytes 4 (cast_unsigned w32 e.splice_fd_in) ++ e.rest

-- The 16 bytes of a completion: its fields in order.
abbrev pub completion_bytes : Cqe → List ℕ
completion_bytes c =
    little_bytes 8 c.user_data ++ little_bytes 4 (cast_unsigned w32 c.res) ++ little_bytes 4 c.flags
