-- The threads that an editor shows.
use Rattle.std.specs.Prelude.{◌≡◌, ℕ, ◌<◌, true, ◌+◌, ◌-◌, ◌==◌, ◌&&◌, min, nat_le, nat_lt, List, [], ◌∷◌, ◌++◌, length, map, codes, decimal, if◌then◌else◌, Option, Some, None}
use Rattle.std.specs.List.{range_with_len}
use Rattle.scenario.specs.declared.setup.Setup.{Setup}
use Rattle.stops.specs.declared.steps.EditorThread.{EditorThread}
use Rattle.stops.specs.declared.steps.EditorThread.TheVariants.{Run, Thread, Poller, Kernel}

-- The number of threads of a program. A setup has at most 16.
abbrev pub thread_count : Setup → ℕ
thread_count s = min (length s.threads) 16

-- The poller's number comes after those of the threads, and the kernel's is the last.
abbrev pub poller_id : Setup → ℕ
poller_id s = 2 + thread_count s

abbrev pub kernel_id : Setup → ℕ
kernel_id s = if s.sqpoll then poller_id s + 1 else poller_id s

-- The number of a thread.
abbrev pub thread_id : Setup → EditorThread → ℕ
thread_id s Run = 1
thread_id s (Thread t) = 2 + t
thread_id s Poller = poller_id s
thread_id s Kernel = kernel_id s

-- The threads, in the order of their numbers.
abbrev pub threads : Setup → List EditorThread
threads s =
    Run ∷ map Thread (range_with_len 0 (thread_count s))
    ++ ((if s.sqpoll then Poller ∷ [] else []) ++ Kernel ∷ [])

-- The thread with a number.
unfoldable pub thread_of : Setup → ℕ → Option EditorThread
thread_of s id =
    if id == 1 then Some Run
    else if nat_le 2 id && nat_lt id (poller_id s) then Some (Thread (id - 2))
    else if s.sqpoll && id == poller_id s then Some Poller
    else if id == kernel_id s then Some Kernel
    else None

-- Whether a setup has a thread.
abbrev pub HasThread : Setup → EditorThread → Type 0
HasThread s Run = Unit {0}
HasThread s (Thread t) = t < thread_count s
HasThread s Poller = s.sqpoll ≡ true
HasThread s Kernel = Unit {0}

abbrev pub thread_name : EditorThread → List ℕ
thread_name Run = codes "run"
thread_name (Thread t) = codes "thread " ++ decimal t
thread_name Poller = codes "poller"
thread_name Kernel = codes "kernel"
