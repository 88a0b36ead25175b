-- The jobs that a command line describes.
use Rattle.std.specs.Prelude.{◌≡◌, ◌≤◌, ◌+◌, ℕ, Option, Some, None, IsSomeAnd, length}
use Rattle.command_line.specs.declared.task.Exploration.{Exploration}
use Rattle.command_line.specs.declared.task.ReportForm.{ReportForm}
use Rattle.command_line.specs.declared.task.ReportForm.TheVariants.{Sarif}
use Rattle.command_line.specs.declared.task.Job.{Job}
use Rattle.command_line.specs.declared.task.Job.TheVariants.{Walk, Replay, Log, Check, Explain, Timeline, Explore, Schedule, Live, Serve, Dap, Trace, Migrate}

-- A file would be written to the path of the script that it is made from.
abbrev pub LosesScript : Job → Type 0
LosesScript (Walk script) = ⊥
LosesScript (Replay trace) = ⊥
LosesScript (Log run from to) = ⊥
LosesScript (Check script) = ⊥
LosesScript (Explain runs kinds allowed form) = ⊥
LosesScript (Timeline run out from to) = ⊥
LosesScript (Explore search) = IsSomeAnd search.out (λ out. out.now ≡ search.script.now)
LosesScript (Schedule script trace out) = out.now ≡ script.now
LosesScript (Live script turns kernel None) = ⊥
LosesScript (Live script turns kernel (Some out)) = out.now ≡ script.now
LosesScript (Serve script port turns kernel clients) = ⊥
LosesScript Dap = ⊥
LosesScript (Trace script out form eager) = out.now ≡ script.now
LosesScript (Migrate script trace out) = out.now ≡ script.now

-- The ranges of the numbers of turns and of kernel workers of a live run.
abbrev pub AreInRange : ℕ → ℕ → Type 0
AreInRange turns kernel = ((1 ≤ turns) × (turns ≤ 1000000)) × ((1 ≤ kernel) × (kernel ≤ 8))

-- The ranges of a server's port, and of its number of sessions if it has one.
abbrev pub AreClients : ℕ → Option ℕ → Type 0
AreClients port None = (1 ≤ port) × (port ≤ 65535)
AreClients port (Some clients) = ((1 ≤ port) × (port ≤ 65535)) × ((1 ≤ clients) × (clients ≤ 1000000))

-- The ranges of the numbers of a search: how many runs, the first run, and the most events of a run.
abbrev pub AreRuns : ℕ → ℕ → ℕ → Type 0
AreRuns runs first events =
    ((1 ≤ runs) × (runs ≤ 1000000)) × (first + runs ≤ 4294967296) × ((1 ≤ events) × (events ≤ 65536))

-- The range of the number of threads of a search, if it has one.
abbrev pub AreThreads : Option ℕ → Type 0
AreThreads None = Unit {0}
AreThreads (Some threads) = (1 ≤ threads) × (threads ≤ 64)

-- Each number of a search is in its range, and it looks for at most 8 places.
abbrev pub IsSearch : Exploration → Type 0
IsSearch search =
    AreRuns search.runs search.first search.events × AreThreads search.threads
    × (length search.until.items ≤ 8)

-- The number of runs of a report: one of a SARIF log.
abbrev pub AreReported : ReportForm → ℕ → Type 0
AreReported Sarif runs = runs ≤ 1
AreReported form runs = Unit {0}

-- Each number of a live run, a server or a search is in its range, and so is that of a report's runs.
abbrev pub IsInRange : Job → Type 0
IsInRange (Live script turns kernel out) = AreInRange turns kernel
IsInRange (Serve script port turns kernel clients) = AreInRange turns kernel × AreClients port clients
IsInRange (Explore search) = IsSearch search
IsInRange (Explain runs kinds allowed form) = AreReported form (length runs.items)
IsInRange job = Unit {0}
