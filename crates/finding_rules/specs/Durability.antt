-- Which bytes of files are not durable, and what WRITEs and FSYNCs did to them (write(2), fsync(2)).
use Rattle.std.specs.Prelude.{◌≡◌, ℕ, ℤ, pos, negsuc, ◌+◌, ◌<◌, ◌==◌, Bool, true, false, ◌&&◌, ◌||◌, nat_lt, nat_le, if◌then◌else◌, Option, Some, None, option_map, slice_get, List, option_to_list, flat_map}
use Rattle.finding_rules.specs.Common.{option_map_or, int_eq, list_any, Phase, Row, FileState, file_in_world, Event, Finish, Setup, Machine, machine_at, differ, Fsync, Written, Effect, Nothing, Finished, Ended}
use Rattle.finding_rules.specs.{Conflicts.begins, Conflicts.file_of, Conflicts.finished_in, Conflicts.moved, Numbers.numbers_below}

-- ---- bytes

-- Whether byte k of a file isn't durable: it is after the end of the durable contents, or it
-- differs from its durable value.
abbrev pub is_volatile : FileState → ℕ → Bool
is_volatile f k = nat_lt k f.len && (nat_le f.durable_len k || differ (slice_get f.bytes k) (slice_get f.durable k))

-- Whether object o is a file whose byte k isn't durable.
abbrev pub is_volatile_at : Machine → ℕ → ℕ → Bool
is_volatile_at m o k = option_map_or (λ (f : FileState). is_volatile f k) (file_in_world m.world o) false

-- ---- completions

-- The READ, WRITE or FSYNC that an event completes, by the machine after it.
abbrev pub completed_by : Event → Machine → Effect
completed_by (Finish r c) m = finished_in m r
completed_by e m = Nothing

-- The same for event i of a run.
abbrev pub completed_at : Setup → List Event → ℕ → Effect
completed_at s es i = option_map_or (λ e. completed_by e (machine_at s es (i + 1))) (slice_get es i) Nothing

-- ---- WRITEs

-- The bytes of a regular file that a completed request moved, if it is a WRITE.
abbrev pub written_in : Setup → Machine → ℕ → Row → Option Written
written_in s m r row =
    if row.entry.opcode == 23
    then option_map (λ (o : ℕ). record { row = r; file = o; first = begins m (moved row.phase) row.entry; count = moved row.phase }) (file_of s row.entry.fd)
    else None

abbrev pub written_of : Setup → Machine → Effect → Option Written
written_of s m (Finished r row) = written_in s m r row
written_of s m effect = None

-- The WRITE that event i of a run completes.
abbrev pub written_at : Setup → List Event → ℕ → Option Written
written_at s es i = written_of s (machine_at s es (i + 1)) (completed_at s es i)

-- The WRITEs that the first n events complete.
abbrev pub written_before : Setup → List Event → ℕ → List Written
written_before s es n = flat_map (λ (i : ℕ). option_to_list (written_at s es i)) (numbers_below n)

-- Whether number k is one of `count` numbers from `first` on.
abbrev pub is_within : ℕ → ℕ → ℕ → Bool
is_within first count k = nat_le first k && nat_lt k (first + count)

-- Whether a WRITE moved byte k of object o.
abbrev pub moves : Option Written → ℕ → ℕ → Bool
moves w o k = option_map_or (λ (x : Written). (x.file == o) && is_within x.first x.count k) w false

-- ---- lost WRITEs

-- Whether some byte that a WRITE moved passes a test of the bytes of objects.
abbrev pub has_byte : (ℕ → ℕ → Bool) → Written → Bool
has_byte test w = list_any (λ (k : ℕ). test w.file (w.first + k)) (numbers_below w.count)

-- Whether request q is one of some WRITEs, and it moved such a byte.
abbrev pub has_byte_of : (ℕ → ℕ → Bool) → List Written → ℕ → Bool
has_byte_of test ws q = list_any (λ (w : Written). (w.row == q) && has_byte test w) ws

-- ---- FSYNCs

-- Whether a request completed with this result.
abbrev pub has_ended_with : ℤ → Phase → Bool
has_ended_with n (Ended res) = int_eq res n
has_ended_with n _ = false

-- The completed request, if it is an FSYNC of a regular file with this result.
abbrev pub fsync_in : Setup → ℤ → ℕ → Row → Option Fsync
fsync_in s n r row =
    if (row.entry.opcode == 3) && has_ended_with n row.phase
    then option_map (λ (o : ℕ). record { row = r; file = o }) (file_of s row.entry.fd)
    else None

abbrev pub fsync_of : Setup → ℤ → Effect → Option Fsync
fsync_of s n (Finished r row) = fsync_in s n r row
fsync_of s n effect = None

-- The FSYNC that event i of a run completes with this result.
abbrev pub fsync_at : Setup → List Event → ℤ → ℕ → Option Fsync
fsync_at s es n i = fsync_of s n (completed_at s es i)

-- -5 (EIO): the device failed.
abbrev pub failed : ℤ
failed = negsuc 4

-- 0: success.
abbrev pub good : ℤ
good = pos 0

-- Byte k of file o was not durable when an earlier FSYNC of the file failed, and no event between
-- that one and event i wrote it. A kernel may have dropped it (fsync(2)).
pub record IsSuspect (s : Setup) (es : List Event) (i o k : ℕ) : Type 0 where
  pub event : ℕ
  pub row : ℕ
  pub earlier : event < i
  pub fails : fsync_at s es failed event ≡ Some (record { row = row; file = o })
  pub volatile : is_volatile_at (machine_at s es (event + 1)) o k ≡ true
  pub unwritten : (j : ℕ) → event < j → j < i → moves (written_at s es j) o k ≡ false

-- Event i completes FSYNC r of a file without error, though a byte of the file is suspect.
pub record IsRetried (s : Setup) (es : List Event) (i r : ℕ) : Type 0 where
  pub file : ℕ
  pub byte : ℕ
  pub succeeds : fsync_at s es good i ≡ Some (record { row = r; file = file })
  pub suspect : IsSuspect s es i file byte
