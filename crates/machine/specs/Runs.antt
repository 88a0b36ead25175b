-- Initial machines, runs and their moments, and undo records.
use Rattle.std.specs.Prelude.{◌≡◌, ℕ, Bool, true, false, Option, Some, None, List, [], ◌∷◌, map, take, slice_get}
use Rattle.machine.specs.Common.{world_start, sub_start, com_start, Event, backlog_start, LeadsBack, Refusal, Poller, Awake, Change}
pub use Rattle.scenario.specs.Setups.{setup_refusal, completion_entries}
use Rattle.machine.specs.Threads.{thread_start}
use Rattle.machine.specs.Whole.{view, WellFormed}
use Rattle.machine.specs.Steps.{refusal, after, Next}
use Rattle.scenario.specs.declared.setup.Setup.{Setup}
use Rattle.machine.specs.declared.whole.Machine.{Machine}

-- ---- The initial machine

-- The initial poller, which is awake, if the setup has one (IORING_SETUP_SQPOLL).
abbrev pub first_poller : Bool → Option Poller
first_poller true = Some Awake
first_poller false = None

-- The initial machine: empty rings, whose words are the base, no requests, the setup's memory and
-- objects, and threads at the start of their programs. All descriptors are open.
abbrev pub start : Setup → Machine
start s = record {
  submissions = sub_start s.entries s.base;
  completions = com_start (completion_entries s.entries s.cq) s.base;
  backlog = backlog_start;
  world = world_start s.memory s.objects s.fds;
  table = [];
  poller = first_poller s.sqpoll;
  submit_all = s.submit_all;
  threads = map thread_start s.threads;
  clock = 0;
  counted = 0;
}

-- ---- Runs

-- The machine after a list of events.
abbrev pub run : Machine → List Event → Machine
run m [] = m
run m (e ∷ es) = run (after m e) es

-- No event is refused, each in the machine after the events before it.
abbrev pub Accepts : Machine → List Event → Type 0
Accepts m [] = Unit {0}
Accepts m (e ∷ es) = (refusal m e ≡ None) × Accepts (after m e) es

-- Moment n: the machine after the first n events.
abbrev pub moment : Setup → List Event → ℕ → Machine
moment s es n = run (start s) (take n es)

-- The first i events are accepted, and the next one is refused.
pub record IsRefused (s : Setup) (es : List Event) (i : ℕ) (r : Refusal) : Type 0 where
  pub runs : Accepts (start s) (take i es)
  pub event : Event
  pub there : slice_get es i ≡ Some event
  pub refused : refusal (moment s es i) event ≡ Some r

-- ---- Records

-- The event leads from `old` to `new`, and the record leads back.
pub record Link (old : Machine) (e : Event) (r : List Change) (new : Machine) : Type 0 where
  pub formed : WellFormed old
  pub next : Next old e new
  pub back : LeadsBack (view old) (view new) r

-- The events lead from `old` to `new`, and each record undoes one of them.
abbrev pub Linked : Machine → List Event → List (List Change) → Machine → Type 0
Linked old [] [] new = new ≡ old
Linked old (e ∷ es) (r ∷ rs) new = (mid : Machine) × Link old e r mid × Linked mid es rs new
Linked old [] (r ∷ rs) new = ⊥
Linked old (e ∷ es) [] new = ⊥
