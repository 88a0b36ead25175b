-- Containers of variables, and their references.
use Rattle.std.specs.Prelude.{ℕ, ◌+◌, ◌-◌, ◌*◌, ◌/◌, ◌%◌, ◌==◌, ◌||◌, nat_lt, List, [], ◌∷◌, slice_get, if◌then◌else◌, Option, Some, None}
use Rattle.std.specs.Option.{option_and_then}
use Rattle.stops.specs.declared.steps.EditorThread.TheVariants.{Run, Thread as ThreadNumbered, Poller, Kernel}
use Rattle.dap_variables.specs.declared.container.Container.{Container}
use Rattle.dap_variables.specs.declared.container.Container.TheVariants.{Thread, Rings, Requests, Objects, Memory, Changes, Findings, Array, Entries, Completions, Backlog, Request, Object, Descriptor, File, Durable, Pipe}

-- The containers with a number, one of each kind. Those of kinds that have one container ignore the
-- number.
abbrev pub containers : ℕ → List Container
containers n =
    Thread Run ∷ Thread (ThreadNumbered n) ∷ Thread Poller ∷ Thread Kernel ∷ Rings ∷ Requests
    ∷ Objects ∷ Memory ∷ Changes ∷ Findings ∷ Array ∷ Entries ∷ Completions ∷ Backlog ∷ Request n
    ∷ Object n ∷ Descriptor n ∷ File n ∷ Durable n ∷ Pipe n ∷ []

-- The number of a container's kind: its position among them.
abbrev pub kind_of : Container → ℕ
kind_of (Thread Run) = 0
kind_of (Thread (ThreadNumbered n)) = 1
kind_of (Thread Poller) = 2
kind_of (Thread Kernel) = 3
kind_of Rings = 4
kind_of Requests = 5
kind_of Objects = 6
kind_of Memory = 7
kind_of Changes = 8
kind_of Findings = 9
kind_of Array = 10
kind_of Entries = 11
kind_of Completions = 12
kind_of Backlog = 13
kind_of (Request n) = 14
kind_of (Object n) = 15
kind_of (Descriptor n) = 16
kind_of (File n) = 17
kind_of (Durable n) = 18
kind_of (Pipe n) = 19

-- Its number among those of its kind.
abbrev pub number_of : Container → ℕ
number_of (Thread (ThreadNumbered n)) = n
number_of (Request n) = n
number_of (Object n) = n
number_of (Descriptor n) = n
number_of (File n) = n
number_of (Durable n) = n
number_of (Pipe n) = n
number_of _ = 0

-- The reference of a container whose number is below 65,536.
unfoldable pub reference_of : Container → ℕ
reference_of c = 65536 * kind_of c + number_of c % 65536 + 1

-- The container of a kind with a number, if there is one.
abbrev pub container_at : ℕ → ℕ → Option Container
container_at k n =
    option_and_then (λ c. if number_of c == n then Some c else None) (slice_get (containers n) k)

-- The container with a reference, which is below 2 ^ 31.
unfoldable pub container_of : ℕ → Option Container
container_of r =
    if (r == 0) || nat_lt 2147483647 r then None
    else container_at ((r - 1) / 65536) ((r - 1) % 65536)
