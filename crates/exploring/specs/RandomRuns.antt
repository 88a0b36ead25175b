-- The random runs of a program, and which of them show a symptom.
use Rattle.std.specs.Prelude.{◌≡◌, ℕ, ◌<◌, ◌≤◌, List, Option, IfSome, length, take, Bool, false, slice_get, if◌then◌else◌}
use Rattle.std.specs.Option.{option_map_or}
use Rattle.std.specs.Int.{bit_at}
use Rattle.std.specs.List.{list_any}
use Rattle.scenario.specs.declared.event.Event.{Event}
use Rattle.scenario.specs.declared.setup.Setup.{Setup}
use Rattle.machine.specs.Runs.{start, Linked}
use Rattle.finding_kinds.specs.declared.finding.Finding.{Finding}
use Rattle.finding_kinds.specs.declared.kind.Kind.{Kind}
use Rattle.finding_kinds.specs.Orders.{have_one_name}
use Rattle.findings.specs.declared.searching.Search.{Search}
use Rattle.findings.specs.Searching.{HasSearched}
use Rattle.sampling.specs.Samples.{IsSample, IsOpening}
use Rattle.symptoms.specs.declared.symptom.Sighting.{Sighting}
use Rattle.symptoms.specs.Symptoms.{Shows, IsFirst, AreConclusive}
use Rattle.search_rounds.specs.declared.outcome.Outcome.{Outcome}
use Rattle.exploring.specs.declared.random_runs.RandomRuns.{RandomRuns}
use Rattle.exploring.specs.declared.random_runs.Worker.{Worker}

-- Run `n` has these events.
abbrev pub HasEvents : RandomRuns → ℕ → List Event → Type 0
HasEvents r n es = IsSample r.setup.now r.options r.seed n es

-- Run `n` shows the symptom at some moment.
abbrev pub RunShows : RandomRuns → ℕ → Type 0
RunShows r n = (es : List Event) × HasEvents r n es × (m : ℕ) × Shows r.setup.now es r.symptom m

-- The events of run `n`, its first sighting of the symptom, and its conclusive findings.
pub record IsRun (r : RandomRuns) (n : ℕ) (es : List Event) (x : Option Sighting) (fs : List Finding) : Type 0 where
  pub events : HasEvents r n es
  pub sighting : IsFirst r.setup.now es r.symptom x
  pub findings : AreConclusive r.setup.now es fs

-- Whether some finding has the name of kind `k` of a list.
abbrev pub has_kind : List Finding → Kind → Bool
has_kind fs kind = list_any (λ (f : Finding). have_one_name kind f.kind) fs

abbrev pub is_shown : List Kind → List Finding → ℕ → Bool
is_shown kinds fs k = option_map_or (has_kind fs) (slice_get kinds k) false

-- The bits say of which kinds there are findings.
abbrev pub SaysKinds : List Kind → List Finding → ℕ → Type 0
SaysKinds kinds fs bits = (k : ℕ) → k < 64 → bit_at bits k ≡ (if is_shown kinds fs k then 1 else 0)

-- An outcome of run `n`: how many events it has, and of which kinds it has conclusive findings.
pub record RunGives (r : RandomRuns) (n : ℕ) (o : Outcome) : Type 0 where
  pub event_list : List Event
  pub sighting : Option Sighting
  pub findings : List Finding
  pub run : IsRun r n event_list sighting findings
  pub events : o.events ≡ length event_list
  pub kinds : SaysKinds r.kinds.now findings o.kinds

-- The program is that of the setup, the runs are short enough to be searched, and there are few
-- enough kinds to count.
pub record CanRun (r : RandomRuns) : Type 0 where
  pub program : r.program.now ≡ r.setup.now
  pub most : r.options.most ≤ 65536
  pub kinds : length r.kinds.now ≤ 64

-- A search has seen the first n events of a run.
abbrev pub HasSearchedBy : Setup → List Event → ℕ → Search → Type 0
HasSearchedBy s es n x = HasSearched s es n x.found.items x.numbers.items x.watches.items
    x.files.writes.items x.files.suspects.items x.files.retried.items

-- The last run of a worker begins with an opening of the program, which its search has seen. The
-- records of the run lead back from the worker's state to the start of the program.
pub record IsReady (r : RandomRuns) (w : Worker) : Type 0 where
  pub runs : CanRun r
  pub linked : Linked (start r.setup.now) w.sample.events.items w.sample.records.items w.state
  pub within : w.opening ≤ length w.sample.events.items
  pub opening : IsOpening r.setup.now r.options (take w.opening w.sample.events.items) w.opening_row
  pub seen : IfSome w.search (HasSearchedBy r.setup.now (take w.opening w.sample.events.items) w.opening)

-- The worker is at the end of the opening.
pub record IsOpened (r : RandomRuns) (w : Worker) : Type 0 where
  pub ready : IsReady r w
  pub whole : IsOpening r.setup.now r.options w.sample.events.items w.sample.next_row

-- A search has seen all events of the worker.
abbrev pub HasSeen : RandomRuns → Worker → Search → Type 0
HasSeen r w x = HasSearchedBy r.setup.now w.sample.events.items (length w.sample.events.items) x
