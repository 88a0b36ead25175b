-- Accepted events preserve the setup, and remove no request and no item of the backlog.
use Rattle.machine.proofs.Common.{◌≡◌, ℕ, ℤ, pos, negsuc, Bool, true, false, refl, ap, List, [], ◌∷◌, ◌++◌, length, map, ◌+◌, ◌≤◌, arith, length-set, length-append, le_refl, Option, Some, None, is_some, slice_get, nat_lt, ◌==◌, ◌||◌, if◌then◌else◌, Cqe, Row, updated, Stage, Ready, Waiting, WorldState, descriptor_of, world_closed, OneSetup as OneWorldSetup, is_held_by, fixed_of, Choice, Outcome, Res, Waits, BadChoice, is_cancel, outcome_of, world_after, stays_after, rows_of, direct_of, Poller, verdict_of, ending_with, einval, ebusy, ebadf, fall_of, ThreadState, program_of, Grows, WellFormed, Instruction, Put, Push, Store, Enter, Reap, Close, Machine, Event, Step, Take, Sleep, Issue, Finish, Expire, Tick, stay_append, common_steps, refusal, after, resumed, stepped, executed, entered, entered_without_poller, entered_with_poller, submitting, before_submission, is_busy, is_unknown, gets_events, woken, shown, awaited, with_poller, closed, is_open, posted, flushed, all_ended, cascaded, taken, submitted, answered, issued, cancelled, finished, finished_as, lacks_descriptor, all_started, entries_for, expired, expiring, is_guard_of, started, started_with, waiting_target}
use Rattle.machine.proofs.{PipeCounts.puts_fit, ListsChanged.map_updated, MappedRows.mapped_length, MappedRows.mapped_stay, Restored.setup_self}
use Rattle.overflow.proofs.Posting.{posted_slots}
use Rattle.sqpoll.specs.declared.poller.Poller.TheVariants.{Asleep}
use Rattle.model_files.proofs.Fixing as worlds

pub grows_self : (m : Machine) → Grows m m
grows_self m = record { setup = setup_self m; rows = le_refl _; stay = λ r l. refl; backlog = le_refl _ }

pub grows_then : (a b c : Machine) → Grows a b → Grows b c → Grows a c
grows_then = grind arith

-- ---- Completions

pub grows_posted : (m : Machine) (cs : List Cqe) → Grows m (posted m cs)
grows_posted = grind (arith, posted_slots, setup_self, length-append)

pub grows_flushed : (m : Machine) → Grows m (flushed m)
grows_flushed = grind (arith, posted_slots)

pub grows_all_ended : (m : Machine) (es : List (ℕ × ℤ)) → Grows m (all_ended m es)
grows_all_ended = grind (arith, common_steps, grows_posted, setup_self, mapped_length, mapped_stay)

pub grows_cascaded : (m : Machine) (direct : List (ℕ × ℤ)) → Grows m (cascaded m direct)
unfolding cascaded
grows_cascaded m direct = grows_all_ended m (fall_of m.table m.counted direct)

-- ---- Submissions

-- Requests are added at the end.
pub grows_more : (m : Machine) (more : List Row) → Grows m (record m { table = m.table ++ more })
grows_more = grind (arith, setup_self, length-append, stay_append)

pub grows_taken : (m : Machine) (k : ℕ) → Grows m (taken m k)
grows_taken m k = record {
  setup = record { array = refl; slots = refl; completions = refl; world = worlds.setup_self _; programs = refl; poller = refl; submit_all = refl };
  rows = let a = length-append m.table (rows_of m.world (length m.table) (entries_for m k)) in omega (arith, a);
  stay = stay_append m.table (rows_of m.world (length m.table) (entries_for m k));
  backlog = le_refl _;
}

pub grows_submitted : (m : Machine) (k : ℕ) → Grows m (submitted m k)
grows_submitted m k = grows_then m (taken m k) (submitted m k) (grows_taken m k) (grows_cascaded (taken m k) (direct_of m.world (length m.table) (entries_for m k)))

-- ---- Threads

pub grows_thread : (m : Machine) (f : ThreadState → ThreadState) (t : ℕ) → ((x : ThreadState) → program_of (f x) ≡ program_of x) → Grows m (record m { threads = updated f m.threads t })
grows_thread = grind (arith, map_updated)

grows_answered : (m : Machine) (t : ℕ) (n : ℤ) → Grows m (answered m t n)
grows_answered m t n = grows_thread m (λ x. record x { counter = x.counter + 1; last = n; stage = Ready }) t (λ x. refl)

pub grows_awaited : (m : Machine) (t n k w flags : ℕ) → Grows m (awaited m t n k w flags)
grows_awaited = grind (arith, grows_thread)

-- ---- Enter

pub grows_poller : (m : Machine) (p : Poller) → is_some m.poller ≡ true → Grows m (with_poller m p)
grows_poller = grind arith

pub grows_woken : (m : Machine) (flags : ℕ) → is_some m.poller ≡ true → Grows m (woken m flags)
grows_woken = grind arith

pub grows_shown : (m : Machine) (flags : ℕ) → Grows m (shown m flags)
grows_shown m flags = by (gets_events flags)
  where
    by : (b : Bool) → Grows m (if b then flushed m else m)
    by true = grows_flushed m
    by false = grows_self m

pub grows_before : (m : Machine) (k flags : ℕ) → Grows m (before_submission m k flags)
grows_before m k flags = by (gets_events flags || nat_lt 0 k)
  where
    by : (b : Bool) → Grows m (if b then flushed m else m)
    by true = grows_flushed m
    by false = grows_self m

grows_submitting : (m : Machine) (t k w flags : ℕ) → Grows m (submitting m t k w flags)
grows_submitting m t k w flags = by (is_busy m k)
  where
    by : (b : Bool) → Grows m (if b then answered m t ebusy else awaited (submitted m k) t (length (entries_for m k)) k w flags)
    by true = grows_answered m t ebusy
    by false = grows_then m (submitted m k) _ (grows_submitted m k) (grows_awaited (submitted m k) t (length (entries_for m k)) k w flags)

grows_entered : (m : Machine) (t k w flags : ℕ) → Grows m (entered m m.poller t k w flags)
grows_entered m t k w flags = by m.poller refl
  where
    by : (o : Option Poller) → m.poller ≡ o → Grows m (entered m o t k w flags)
    by None e = alone (is_unknown flags)
      where
        alone : (c : Bool) → Grows m (if c then answered m t einval else entered_without_poller m t k w flags)
        alone true = grows_answered m t einval
        alone false = grows_then m (before_submission m k flags) _ (grows_before m k flags) (grows_submitting (before_submission m k flags) t k w flags)
    by (Some p) e = by_flags (is_unknown flags)
      where
        by_flags : (c : Bool) → Grows m (if c then answered m t einval else entered_with_poller m t k w flags)
        by_flags true = grows_answered m t einval
        by_flags false =
            grows_then m (woken m flags) _ (grows_woken m flags (ap is_some e))
            (grows_then (woken m flags) (shown (woken m flags) flags) _ (grows_shown (woken m flags) flags) (grows_awaited (shown (woken m flags) flags) t k k w flags))

-- ---- Memory and objects

pub grows_world : (m : Machine) (w : WorldState) → OneWorldSetup m.world w → Grows m (record m { world = w })
grows_world = grind arith

-- The memory or an object changes, and a thread advances.
pub grows_parts : (m : Machine) (w : WorldState) (ts : List ThreadState) → OneWorldSetup m.world w → map program_of ts ≡ map program_of m.threads → Grows m (record m { world = w; threads = ts })
grows_parts = grind arith

grows_stored : (m : Machine) (t address : ℕ) (bytes : List ℕ) → WellFormed m → address + length bytes ≤ 65536 → Grows m (executed m t (Some (Store address bytes)))
grows_stored = grind (arith, common_steps, grows_then, grows_world, grows_thread)

pub grows_closed : (m : Machine) (t : ℕ) (fd : ℤ) → Grows m (closed m t fd)
grows_closed m t (negsuc n) = grows_thread m (λ x. record x { counter = x.counter + 1; last = ebadf; stage = Ready }) t (λ x. refl)
grows_closed m t (pos fd) = by (is_open (descriptor_of m.world fd))
  where
    by : (b : Bool) → Grows m (if b then answered (record m { world = world_closed fd m.world }) t (pos 0) else answered m t ebadf)
    by true =
        let shut = record m { world = world_closed fd m.world } in
        grows_then m shut _ (grows_world m (world_closed fd m.world) (worlds.setup_closed fd m.world)) (grows_thread shut (λ x. record x { counter = x.counter + 1; last = pos 0; stage = Ready }) t (λ x. refl))
    by false = grows_thread m (λ x. record x { counter = x.counter + 1; last = ebadf; stage = Ready }) t (λ x. refl)

-- ---- Events

grows_executed : (m : Machine) (t : ℕ) (x : ThreadState) → WellFormed m → slice_get m.threads t ≡ Some x → (i : Option Instruction) → slice_get x.program x.counter ≡ i → Grows m (executed m t i)
grows_executed m t x f e None g = grows_self m
grows_executed m t x f e (Some (Put slot entry)) g = grind (arith, length-set, setup_self, map_updated)
grows_executed m t x f e (Some (Push index)) g = grind (arith, length-set, setup_self, map_updated)
grows_executed m t x f e (Some (Store address bytes)) g = grows_stored m t address bytes f ((f.mostly.threads t x e).program.done x.counter (Store address bytes) g)
grows_executed m t x f e (Some (Enter to_submit min_complete flags)) g = grows_entered m t to_submit min_complete flags
grows_executed m t x f e (Some Reap) g = grind (arith, setup_self, map_updated)
grows_executed m t x f e (Some (Close fd)) g = grows_closed m t fd

grows_stepped : (m : Machine) (t : ℕ) → WellFormed m → (o : Option ThreadState) → slice_get m.threads t ≡ o → Grows m (stepped m t o)
grows_stepped m t f None e = grows_self m
grows_stepped m t f (Some x) e = by x.stage
  where
    by : (s : Stage) → Grows m (resumed m t s (slice_get x.program x.counter))
    by Ready = grows_executed m t x f e (slice_get x.program x.counter) refl
    by (Waiting n w) = grows_answered m t (pos n)

has_poller : (m : Machine) → refusal m Sleep ≡ None → is_some m.poller ≡ true
has_poller = grind arith

pub grows_issued : (m : Machine) (r : ℕ) (o : Option Row) → Grows m (issued m r o)
grows_issued m r None = grows_self m
grows_issued m r (Some x) = by (lacks_descriptor m.world x)
  where
    by : (b : Bool) → Grows m (if b then cascaded m ((r, ebadf) ∷ []) else record m { table = all_started m.clock m.counted m.table r })
    by true = grows_cascaded m ((r, ebadf) ∷ [])
    by false = record {
      setup = record { array = refl; slots = refl; completions = refl; world = worlds.setup_self _; programs = refl; poller = refl; submit_all = refl };
      rows = let a = mapped_length (started_with m.clock m.counted r) m.table in omega (arith, a);
      stay = mapped_stay (started_with m.clock m.counted r) m.table (λ k row. same row ((k == r) || is_guard_of r row));
      backlog = le_refl _;
    }
      where
        same : (row : Row) (c : Bool) → fixed_of (if c then started m.clock m.counted row else row) ≡ fixed_of row
        same = grind arith

pub grows_finished : (m : Machine) (r : ℕ) (c : Choice) → WellFormed m → (o : Option Row) → Grows m (finished m r o c)
grows_finished m r c f None = grows_self m
grows_finished m r c f (Some x) = choosing (is_cancel x.entry.opcode)
  where
    by : (o : Outcome) → outcome_of (is_held_by m.table) m.world x c ≡ o → Grows m (finished_as m r x o)
    by (Res res) e =
        let after_it = record m { world = world_after x res m.world } in
        grows_then m after_it _ (grows_world m (world_after x res m.world) (stays_after (is_held_by m.table) m.world x res c f.mostly.world (puts_fit m f) e).setup) (grows_cascaded after_it ((r, res) ∷ []))
    by Waits e = grows_self m
    by BadChoice e = grows_self m

    choosing : (b : Bool) → Grows m (if b then cancelled m r x.entry else finished_as m r x (outcome_of (is_held_by m.table) m.world x c))
    choosing true = grows_cascaded m (ending_with r (verdict_of m.table m.world r x.entry))
    choosing false = by (outcome_of (is_held_by m.table) m.world x c) refl

pub grows_expired : (m : Machine) (r : ℕ) (o : Option Row) → Grows m (expired m r o)
grows_expired m r None = grows_self m
grows_expired m r (Some x) = grows_cascaded m (expiring r (waiting_target m.table m.world x x.target))

pub grows_after : (m : Machine) (e : Event) → WellFormed m → refusal m e ≡ None → Grows m (after m e)
grows_after m (Step t) f h = grows_stepped m t f (slice_get m.threads t) refl
grows_after m (Take n) f h = grows_submitted m n
grows_after m Sleep f h = grows_poller m Asleep (has_poller m h)
grows_after m (Issue r) f h = grows_issued m r (slice_get m.table r)
grows_after m (Finish r c) f h = grows_finished m r c f (slice_get m.table r)
grows_after m (Expire r) f h = grows_expired m r (slice_get m.table r)
grows_after m (Tick d) f h = record { setup = record { array = refl; slots = refl; completions = refl; world = worlds.setup_self _; programs = refl; poller = refl; submit_all = refl }; rows = le_refl _; stay = λ r l. refl; backlog = le_refl _ }
