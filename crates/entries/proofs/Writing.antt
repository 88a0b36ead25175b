-- The bytes of a list after parts of it are overwritten, and the layout of
-- an entry written this way.
use Rattle.std.proofs.Common.{◌≡◌, ℕ, ◌-◌, ◌≤◌, List, [], ◌++◌, length, take, drop, replicate, refl, arith, length-drop}
use Rattle.std.proofs.lemmas.List.{append_assoc, append-nil, drop_all, drop-drop, take_all}
use borrow.Rule.Slice.PartMut.{mid_of, put_mid}
use Rattle.std.specs.Int.{w32, cast_unsigned}
use Rattle.byteorder.specs.Endian.{little_bytes}
use Rattle.entries.specs.declared.completion.Cqe.{Cqe}
use Rattle.entries.specs.declared.entry.Sqe.{Sqe}
use Rattle.entries.specs.Layout.{EntryLayout, CompletionLayout, put_at, entry_bytes, completion_bytes}

-- Writing `part` at the start of the slice from offset o on is `put_at o part` on the whole list.
pub put_is : (o : ℕ) (xs part buf : List ℕ) → o ≤ length xs
    → buf ≡ part ++ drop (length part) (mid_of o (length xs - o) xs) → put_mid o (length xs - o) xs buf ≡ put_at o part xs
put_is o xs part buf h e =
    let mid : take (length xs - o) (drop o xs) ≡ drop o xs = take_all (length xs - o) (drop o xs) (omega (arith, length-drop o xs)) in
    let none : drop (length xs - o) (drop o xs) ≡ [] = drop_all (length xs - o) (drop o xs) (omega (arith, length-drop o xs)) in
    rw (e, mid, none, append-nil, drop-drop (length part) o xs, append_assoc) refl

-- Writing every field of an entry into 64 zero bytes, in order, gives `entry_bytes`.
pub entry_written : (e : Sqe) (p1 p2 s1 s2 s3 s4 s5 s6 s7 s8 s9 s10 rest : List ℕ)
    → p1 ≡ put_at 0 (little_bytes 1 e.opcode) (replicate 64 0)
    → p2 ≡ put_at 1 (little_bytes 1 e.flags) p1
    → s1 ≡ put_at 2 (little_bytes 2 e.ioprio) p2
    → s2 ≡ put_at 4 (little_bytes 4 (cast_unsigned w32 e.fd)) s1
    → s3 ≡ put_at 8 (little_bytes 8 e.off) s2
    → s4 ≡ put_at 16 (little_bytes 8 e.addr) s3
    → s5 ≡ put_at 24 (little_bytes 4 e.len) s4
    → s6 ≡ put_at 28 (little_bytes 4 e.operation_flags) s5
    → s7 ≡ put_at 32 (little_bytes 8 e.user_data) s6
    → s8 ≡ put_at 40 (little_bytes 2 e.buf_index) s7
    → s9 ≡ put_at 42 (little_bytes 2 e.personality) s8
    → s10 ≡ put_at 44 (little_bytes 4 (cast_unsigned w32 e.splice_fd_in)) s9
    → rest ≡ e.rest → put_mid 48 16 s10 rest ≡ entry_bytes e
entry_written e p1 p2 s1 s2 s3 s4 s5 s6 s7 s8 s9 s10 rest a b e1 e2 e3 e4 e5 e6 e7 e8 e9 e10 e11 =
    rw (e11, e10, e9, e8, e7, e6, e5, e4, e3, e2, e1, b, a, append-nil) refl

-- `entry_bytes` has the layout of an entry.
pub entry_laid : (e : Sqe) → length e.rest ≡ 16 → EntryLayout e (entry_bytes e)
entry_laid e n = record {
  size = omega (arith, n);
  opcode = refl;
  flags = refl;
  ioprio = refl;
  fd = refl;
  off = refl;
  addr = refl;
  len = refl;
  operation_flags = refl;
  user_data = refl;
  buf_index = refl;
  personality = refl;
  splice_fd_in = refl;
  rest = take_all 16 e.rest (omega arith);
}

pub completion_laid : (c : Cqe) → CompletionLayout c (completion_bytes c)
completion_laid c = record { size = refl; user_data = refl; res = refl; flags = refl }
