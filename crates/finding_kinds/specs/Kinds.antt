-- The kinds of findings: which are faults, what they are about, and which share a name.
use Rattle.finding_kinds.specs.Common.{Bool, true, false, Kind, Ended, Lasting, Left, Conflict, Queued, Cancel, TimespecInUse, FsyncRetried, Verdict, Fault, Note, Short, Canceled, TimedOut, Expired, NotFound, TooLate, WentOn, Waits, LostWakeUp, NotTaken, NotReaped, Stuck, Unfinished, NotDurable, BufferInUse, FsyncEarly, ClosedWhileHeld, CutOff, NoEffect, SameUserData, NoneFound}
use Rattle.finding_kinds.specs.declared.kind.Kind.TheVariants.{Step}

-- Whether the verdict is that something was lost, corrupted, or hangs.
abbrev pub is_bad : Verdict → Bool
is_bad Fault = true
is_bad Note = false

-- Whether findings of a kind are faults (bugs or losses) rather than notes.
abbrev pub is_fault : Kind → Bool
is_fault (Ended (Short verdict)) = is_bad verdict
is_fault (Ended (TimedOut verdict)) = is_bad verdict
is_fault (Ended Canceled) = false
is_fault (Ended Expired) = false
is_fault (Ended NotFound) = false
is_fault (Ended TooLate) = false
is_fault (Ended WentOn) = false
is_fault (Lasting (Waits verdict)) = is_bad verdict
is_fault (Lasting (LostWakeUp verdict)) = is_bad verdict
is_fault (Lasting (NotTaken verdict)) = is_bad verdict
is_fault (Lasting NotReaped) = false
is_fault (Left (Unfinished verdict)) = is_bad verdict
is_fault (Left (NotDurable verdict)) = is_bad verdict
is_fault (Conflict (FsyncEarly verdict)) = is_bad verdict
is_fault (Step ClosedWhileHeld) = false
is_fault (Queued CutOff) = false
is_fault (Queued NoEffect) = false
is_fault (Queued SameUserData) = false
is_fault (Cancel kind) = false
is_fault kind = true

-- Whether the subject of such a finding is a thread.
abbrev pub is_of_thread : Kind → Bool
is_of_thread (Step kind) = true
is_of_thread (Lasting (Waits verdict)) = true
is_of_thread (Lasting Stuck) = true
is_of_thread kind = false

-- Whether the subject of such a finding is a request.
abbrev pub is_of_row : Kind → Bool
is_of_row (Ended kind) = true
is_of_row (Left (Unfinished verdict)) = true
is_of_row (Conflict kind) = true
is_of_row (Queued kind) = true
is_of_row (Cancel kind) = true
is_of_row FsyncRetried = true
is_of_row kind = false

-- The first kind with the name of this one. A fault and a note of one kind have one name; so have a
-- cancel of one request and a cancel of all that matched nothing, and a buffer and a timespec that
-- were overwritten.
abbrev pub first_named : Kind → Kind
first_named (Ended (Short verdict)) = Ended (Short Fault)
first_named (Ended (TimedOut verdict)) = Ended (TimedOut Fault)
first_named (Lasting (Waits verdict)) = Lasting (Waits Fault)
first_named (Lasting (LostWakeUp verdict)) = Lasting (LostWakeUp Fault)
first_named (Lasting (NotTaken verdict)) = Lasting (NotTaken Fault)
first_named (Left (Unfinished verdict)) = Left (Unfinished Fault)
first_named (Left (NotDurable verdict)) = Left (NotDurable Fault)
first_named (Conflict (FsyncEarly verdict)) = Conflict (FsyncEarly Fault)
first_named (Cancel NoneFound) = Ended NotFound
first_named TimespecInUse = Conflict BufferInUse
first_named kind = kind
