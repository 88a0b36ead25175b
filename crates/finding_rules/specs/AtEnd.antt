-- What lasts or is left at the end of a run, and whether that is a fault.
use Rattle.std.specs.Prelude.{ℕ, ◌==◌, Bool, true, false, not, ◌&&◌, nat_lt, Option, Some, None, slice_get, List, length}
use Rattle.finding_rules.specs.Common.{option_map_or, list_any, Row, is_open, Setup, Machine, Verdict, Fault, Note, LastingKind, LeftKind, Unfinished, NotDurable, Condition, Waits, LostWakeUp, NotTaken, NotReaped, Stuck}
use Rattle.finding_rules.specs.{Conditions.has_unsynced, Conditions.is_idle, Conflicts.are_one, Conflicts.file_of, Endings.is_verdict}
use Rattle.finding_kinds.specs.declared.kind.LastingKind.TheVariants as lasting

-- A fault if the test is true, else a note.
abbrev pub fault_if : Bool → Verdict
fault_if true = Fault
fault_if false = Note

-- The finding that a condition is if it lasts to the end, by the machine there. The Bool says
-- whether the run is over then. If it isn't, the run is cut off, and more events could follow: a
-- thread that waits and entries that wait are notes, and a stuck thread is no finding. A thread may
-- wait where all is idle.
abbrev pub reported_as : Condition → Bool → Machine → Option LastingKind
reported_as Waits over m = Some (lasting.Waits (fault_if (over && not (is_idle m))))
reported_as LostWakeUp over m = Some (lasting.LostWakeUp (fault_if over))
reported_as NotTaken over m = Some (lasting.NotTaken (fault_if over))
reported_as NotReaped over m = Some lasting.NotReaped
reported_as Stuck true m = Some lasting.Stuck
reported_as Stuck false m = None

-- Whether a request is an FSYNC of a file (fsync(2)).
abbrev pub syncs : Setup → ℕ → Row → Bool
syncs s o row = (row.entry.opcode == 3) && are_one (file_of s row.entry.fd) (Some o)

-- Whether an FSYNC of a file was submitted.
abbrev pub has_fsync : Setup → List Row → ℕ → Bool
has_fsync s rows o = list_any (syncs s o) rows

-- Whether a request or an object is a finding at the end. The Bool says whether the run is over
-- then:
--   Unfinished: the request is incomplete. A fault if the run is over.
--   NotDurable: the object is a file with written bytes that are not durable. A fault if an FSYNC
--     of the file was submitted.
abbrev pub is_left : Setup → Bool → LeftKind → Machine → ℕ → Bool
is_left s over (Unfinished verdict) m r = is_verdict verdict over && option_map_or is_open (slice_get m.table r) false
is_left s over (NotDurable verdict) m o = is_verdict verdict (has_fsync s m.table o) && (nat_lt o (length s.objects) && has_unsynced m.world o)
