-- The kinds of actors, and which events each kind may make.
use Rattle.std.specs.Prelude.{ℕ, ◌+◌, ◌==◌, Bool, ◌&&◌, min, nat_lt, nat_le, if◌then◌else◌, length}
use Rattle.scenario.specs.declared.setup.Setup.{Setup}
use Rattle.scenario.specs.declared.event.Event.{Event}
use Rattle.scenario.specs.declared.event.Event.TheVariants.{Step, Take, Sleep, Issue, Finish, Expire, Tick}

-- The number of pollers of a setup (IORING_SETUP_SQPOLL).
abbrev pub pollers : Setup → ℕ
pollers setup = if setup.sqpoll then 1 else 0

-- The number of actors: one submitter per thread (a setup with more than 16 threads is refused),
-- the poller, and the kernel workers, in this order.
abbrev pub actors : Setup → ℕ → ℕ
actors setup kernel = min (length setup.threads) 16 + pollers setup + kernel

-- Whether an actor is a submitter. Submitter t runs thread t.
abbrev pub is_submitter : Setup → ℕ → Bool
is_submitter setup actor = nat_lt actor (length setup.threads)

-- Whether an actor is the poller, whose number follows those of the submitters.
abbrev pub is_poller : Setup → ℕ → Bool
is_poller setup actor = setup.sqpoll && (actor == length setup.threads)

-- Whether an actor is a kernel worker.
abbrev pub is_worker : Setup → ℕ → Bool
is_worker setup actor = nat_le (length setup.threads + pollers setup) actor

-- Whether an actor may make an event, out of `count` actors.
abbrev pub is_own : Setup → ℕ → ℕ → Event → Bool
is_own setup count actor (Step t) = nat_lt actor count && (is_submitter setup actor && (t == actor))
is_own setup count actor (Take n) = nat_lt actor count && is_poller setup actor
is_own setup count actor Sleep = nat_lt actor count && is_poller setup actor
is_own setup count actor (Issue r) = nat_lt actor count && is_worker setup actor
is_own setup count actor (Finish r c) = nat_lt actor count && is_worker setup actor
is_own setup count actor (Expire r) = nat_lt actor count && is_worker setup actor
is_own setup count actor (Tick d) = nat_lt actor count && is_worker setup actor
