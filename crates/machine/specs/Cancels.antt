-- The outcome of cancellations and removals (io_uring_enter(2), IORING_OP_ASYNC_CANCEL,
-- IORING_OP_POLL_REMOVE and IORING_OP_TIMEOUT_REMOVE).
use Rattle.std.specs.Prelude.{ℕ, ℤ, pos, negsuc, ◌==◌, nat_lt, Bool, ◌&&◌, if◌then◌else◌, List, [], ◌∷◌, ◌++◌, length, map}
use Rattle.machine.specs.Common.{Row, WorldState, Sqe, has_flag, filter, Ending, ecanceled}
use Rattle.timeouts_cancel.specs.declared.matching.Key.{Key}
use Rattle.timeouts_cancel.specs.declared.matching.Key.TheVariants.{User, Fd, Poll, Timeout}
use Rattle.timeouts_cancel.specs.declared.matching.Found.{Found}
use Rattle.timeouts_cancel.specs.declared.matching.Found.TheVariants.{Absent, Running, Waiting}
use Rattle.timeouts_cancel.specs.Matches.{found_by, waiting_by}

-- -ENOENT and -EALREADY (errno(3)).
abbrev pub enoent : ℤ
enoent = negsuc 1

abbrev pub ealready : ℤ
ealready = negsuc 113

-- What the entry searches for. POLL_REMOVE searches polls, and TIMEOUT_REMOVE timeouts, by
-- user_data. ASYNC_CANCEL searches all requests, by descriptor (IORING_ASYNC_CANCEL_FD) or by
-- user_data.
abbrev pub key_of : Sqe → Key
key_of entry =
    if entry.opcode == 7 then Poll entry.addr
    else if entry.opcode == 12 then Timeout entry.addr
    else if has_flag entry.operation_flags 2 then Fd entry.fd
    else User entry.addr

-- Whether all matches that wait are canceled (IORING_ASYNC_CANCEL_ALL), or only the first match.
abbrev pub takes_all : Sqe → Bool
takes_all entry = (entry.opcode == 14) && has_flag entry.operation_flags 1

-- A result, and the numbers of the canceled requests.
abbrev pub Verdict : Type 0
Verdict = ℤ × List ℕ

-- The outcome for the first match: there is none, it is running and continues, or it waits and is
-- canceled.
abbrev pub on_found : Found → Verdict
on_found Absent = (enoent, [])
on_found (Running r) = (ealready, [])
on_found (Waiting r) = (pos 0, r ∷ [])

-- All matches that wait are canceled, and their number is the result.
abbrev pub on_all : List ℕ → Verdict
on_all rs = (pos (length rs), rs)

-- The outcome of an entry.
abbrev pub verdict_of : List Row → WorldState → ℕ → Sqe → Verdict
verdict_of rows w me entry =
    if takes_all entry then on_all (waiting_by rows w (key_of entry) me)
    else on_found (found_by rows w (key_of entry) me)

-- The listed requests that pass the test, with ECANCELED.
abbrev pub canceled : (ℕ → Bool) → List ℕ → List Ending
canceled test rs = map (λ (r : ℕ). (r, ecanceled)) (filter test rs)

-- Request `me` with its result, and the canceled requests, by ascending number.
abbrev pub ending_with : ℕ → Verdict → List Ending
ending_with me v = canceled (λ r. nat_lt r me) v.1 ++ (me, v.0) ∷ canceled (λ r. nat_lt me r) v.1
