-- The lock that an application holds around its submission ring.
use Rattle.std.specs.Prelude.{ℕ, zero, suc, Bool, true, false, not, ◌&&◌, ◌||◌, List, [], ◌∷◌, slice_get, unwrap_or, is_none, length, if◌then◌else◌}
use Rattle.std.specs.List.{list_any}
use Rattle.std.specs.Option.{option_map_or}
use Rattle.places.specs.declared.value.Stage.{Stage}
use Rattle.places.specs.declared.value.Stage.TheVariants.{Ready, Waiting}
use Rattle.scenario.specs.declared.setup.Instruction.{Instruction}
use Rattle.scenario.specs.declared.setup.Instruction.TheVariants.{Put, Push, Store, Enter, Reap, Close}
use Rattle.scenario.specs.declared.event.Event.{Event}
use Rattle.scenario.specs.declared.event.Event.TheVariants.{Step}
use Rattle.machine.specs.declared.whole.Machine.{Machine}
use Rattle.machine.specs.Threads.{ThreadState}
use Rattle.machine.specs.Steps.{refusal, after}

-- ---- Locked sections of a program

-- Whether a thread has put or pushed since its last Enter, after one more instruction.
abbrev pub writes_after : Bool → Instruction → Bool
writes_after written (Put slot entry) = true
writes_after written (Push index) = true
writes_after written (Enter to_submit min_complete flags) = false
writes_after written (Store address bytes) = written
writes_after written Reap = written
writes_after written (Close fd) = written

-- Whether a locked section can end with the instruction: an Enter, or the last Push.
abbrev pub is_end : Instruction → Bool
is_end (Put slot entry) = false
is_end (Push index) = true
is_end (Enter to_submit min_complete flags) = true
is_end (Store address bytes) = false
is_end Reap = false
is_end (Close fd) = false

-- For each instruction, whether a thread that executes it next holds the lock. It has put or pushed
-- since its last Enter, and an Enter or a Push is ahead.
abbrev pub sections_from : Bool → List Instruction → List Bool
sections_from written [] = []
sections_from written (i ∷ rest) =
    (written && list_any is_end (i ∷ rest)) ∷ sections_from (writes_after written i) rest

abbrev pub sections : List Instruction → List Bool
sections program = sections_from false program

-- ---- The lock of a machine

abbrev pub is_waiting : Stage → Bool
is_waiting Ready = false
is_waiting (Waiting n w) = true

-- Whether a thread holds the lock. One that waits in an Enter doesn't.
unfoldable pub holds : ThreadState → Bool
holds x = not (is_waiting x.stage) && unwrap_or (slice_get (sections x.program) x.counter) false

-- Whether thread t holds the lock, and can do a step.
abbrev pub locks : Machine → ℕ → Bool
locks m t = option_map_or holds (slice_get m.threads t) false && is_none (refusal m (Step t))

-- Whether a number below n passes.
abbrev pub any_below : (ℕ → Bool) → ℕ → Bool
any_below test zero = false
any_below test (suc n) = any_below test n || test n

-- Whether a thread that can do a step holds the lock, so that threads without it wait.
unfoldable pub is_locked : Machine → Bool
is_locked m = any_below (locks m) (length m.threads)

-- ---- Runs that keep the lock

-- Whether a thread needs no lock for a step, or holds it.
abbrev pub may_step : Machine → ℕ → Bool
may_step m t = if is_locked m then option_map_or holds (slice_get m.threads t) false else true

-- Whether an event keeps the lock. Only steps of threads may not.
abbrev pub keeps_lock : Machine → Event → Bool
keeps_lock m (Step t) = may_step m t
keeps_lock m e = true

-- Whether each event from machine m on keeps the lock.
abbrev pub keep_lock : Machine → List Event → Bool
keep_lock m [] = true
keep_lock m (e ∷ es) = if keeps_lock m e then keep_lock (after m e) es else false
