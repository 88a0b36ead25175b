-- Accepted events preserve well-formedness.
use Rattle.machine.proofs.Common.{◌≡◌, ℕ, ℤ, pos, negsuc, Bool, true, false, cond, refl, ◌∙◌, ap, List, [], ◌∷◌, length, ◌+◌, ◌*◌, ◌%◌, ◌<◌, ◌≤◌, ◌^◌, inl, arith, FitsSigned, Option, Some, None, min, slice_get, slice_set, nat_lt, ◌==◌, ◌&&◌, if◌then◌else◌, Cqe, Row, Phase, is_held_by, Choice, Outcome, Res, Waits, BadChoice, outcome_of, world_after, stays_after, WorldState, PutsWithin, descriptor_of, world_closed, world_stored, Stage, Ready, Waiting, waiting, Poller, direct_of, is_ended, verdict_of, ending_with, offered, einval, ebusy, ebadf, ThreadState, WellFormed, Instruction, Put, Push, Store, Enter, Reap, Close, Machine, Event, Step, Take, Sleep, Issue, Finish, Expire, Tick, ended_of, fall_of, puts_after, puts_more, common_steps, refusal, after, resumed, stepped, executed, entered, entered_without_poller, entered_with_poller, submitting, before_submission, is_busy, is_unknown, gets_events, wakes, woken, shown, awaited, ready_count, held_back, with_poller, submission_refusal, alone_refusal, enter_refusal, instruction_refusal, next_refusal, closed, is_open, thread_refusal, phase_refusal, choice_refusal, finish_refusal, taken, submitted, answered, advanced, cancelled, finished, finished_as, lacks_descriptor, cascaded, all_started, entries_for, expired, expiring, waiting_target, world_stored_formed, world_closed_formed}
use Rattle.std.specs.Int.{w64}
use Rattle.model_files.proofs.Fixing as worlds
use Rattle.sqpoll.specs.declared.poller.Poller.TheVariants.{Awake, Asleep}
use Rattle.scenario.specs.declared.event.Refusal.TheVariants.{SqFull, NothingToReap, WrongPhase}
use Rattle.machine.proofs.{FormedThreads.well_formed_on, FormedThreads.well_formed_held, FormedThreads.formed_thread, FormedMachines.formed_issued, FormedMachines.formed_world, FormedMachines.mostly, FormedMachines.mostly_world, FormedMachines.rows_moved, FormedMachines.formed_flushed, FormedMachines.formed_put, FormedMachines.formed_push, FormedMachines.formed_taken_out, FormedSubmissions.formed_submitted, FormedSubmissions.length-taken_entries, CascadedRows.cascades_some, CascadedRows.formed_cascaded, CascadedRows.formed_cascaded_but, CascadedRows.threads_cascaded, EnterLemmas.CanStart, EnterLemmas.can_start, GuardLemmas.eligible_no_guard, PipeCounts.puts_fit}

-- ---- Each event

formed_tick : (m : Machine) (d : ℕ) → WellFormed m → refusal m (Tick d) ≡ None → WellFormed (after m (Tick d))
formed_tick = grind arith

formed_issue : (m : Machine) (r : ℕ) → WellFormed m → refusal m (Issue r) ≡ None → WellFormed (after m (Issue r))
formed_issue m r f h = rw c.there (by (lacks_descriptor m.world c.row) refl)
  where
    c : CanStart m r
    c = can_start m r h

    by : (b : Bool) → lacks_descriptor m.world c.row ≡ b → WellFormed (if b then cascaded m ((r, ebadf) ∷ []) else record m { table = all_started m.clock m.counted m.table r })
    by true l = formed_cascaded m ((r, ebadf) ∷ []) f
    by false l = formed_issued m r c.row f c.there c.queued (eligible_no_guard m.table r c.row c.there c.eligible) l

formed_expire : (m : Machine) (r : ℕ) (o : Option Row) → WellFormed m → WellFormed (expired m r o)
formed_expire m r None f = f
formed_expire m r (Some x) f = formed_cascaded m (expiring r (waiting_target m.table m.world x x.target)) f

formed_finish : (m : Machine) (r : ℕ) (c : Choice) → WellFormed m → refusal m (Finish r c) ≡ None → WellFormed (after m (Finish r c))
formed_finish m r c f h = by (slice_get m.table r) refl h
  where
    ending : (x : Row) → slice_get m.table r ≡ Some x → is_ended x.phase ≡ false → (o : Outcome) → outcome_of (is_held_by m.table) m.world x c ≡ o → WellFormed (finished_as m r x o)
    ending x e q (Res res) g =
        let w : WorldState = world_after x res m.world in
        let s = stays_after (is_held_by m.table) m.world x res c f.mostly.world (puts_fit m f) g in
        let some : 1 ≤ length (fall_of m.table m.counted ((r, res) ∷ [])) = cascades_some m.table m.counted r res x e q in
        formed_cascaded_but (record m { world = w }) ((r, res) ∷ []) (mostly_world m w (mostly m f) s.formed)
        (puts_more (65536 * ended_of m.table + 65536) (65536 * (ended_of m.table + length (fall_of m.table m.counted ((r, res) ∷ [])))) w (omega (arith, some)) (puts_after (is_held_by m.table) m.world x res c (65536 * ended_of m.table) g f.puts))
        (λ j y k. inl ((rows_moved m w f s.setup).each j y k))
        (λ j y k g u n. f.guards j y k g u)
    ending x e q Waits g = f
    ending x e q BadChoice g = f

    choosing : (x : Row) → slice_get m.table r ≡ Some x → is_ended x.phase ≡ false → (b : Bool) → WellFormed (if b then cancelled m r x.entry else finished_as m r x (outcome_of (is_held_by m.table) m.world x c))
    choosing x e q true = formed_cascaded m (ending_with r (verdict_of m.table m.world r x.entry)) f
    choosing x e q false = ending x e q (outcome_of (is_held_by m.table) m.world x c) refl

    at : (x : Row) → slice_get m.table r ≡ Some x → (p : Phase) → x.phase ≡ p → phase_refusal p (choice_refusal (is_held_by m.table) m.world x c) ≡ None → WellFormed (finished m r (Some x) c)
    at = grind (arith, choosing)

    timing : (x : Row) → slice_get m.table r ≡ Some x → (b : Bool) → cond b (Some WrongPhase) (phase_refusal x.phase (choice_refusal (is_held_by m.table) m.world x c)) ≡ None → WellFormed (finished m r (Some x) c)
    timing = grind (arith, at)

    by : (o : Option Row) → slice_get m.table r ≡ o → finish_refusal (is_held_by m.table) m.world o c ≡ None → WellFormed (finished m r o c)
    by = grind (arith, timing)

-- ---- Each instruction

-- An accepted submission has room for its requests.
submission_room : (m : Machine) (k : ℕ) → submission_refusal m k ≡ None → length m.table + length (offered m.submissions k) ≤ 65536
submission_room = grind arith

pub formed_submission : (m : Machine) (k : ℕ) → WellFormed m → submission_refusal m k ≡ None → WellFormed (submitted m k)
formed_submission m k f h = formed_submitted m k f (submission_room m k h)

-- A submission doesn't change the threads.
pub submitted_threads : (m : Machine) (k : ℕ) → (submitted m k).threads ≡ m.threads
submitted_threads m k = threads_cascaded (taken m k) (direct_of m.world (length m.table) (entries_for m k))

fits_einval : FitsSigned w64 einval
fits_einval = omega arith

fits_ebadf : FitsSigned w64 ebadf
fits_ebadf = omega arith

formed_answered : (m : Machine) (t : ℕ) (x : ThreadState) (i : Instruction) (n : ℤ) → WellFormed m → slice_get m.threads t ≡ Some x → slice_get x.program x.counter ≡ Some i → FitsSigned w64 n → WellFormed (answered m t n)
formed_answered m t x i n f e g l = formed_thread m (λ y. record y { counter = y.counter + 1; last = n; stage = Ready }) t x f e (well_formed_on (length m.submissions.slots) x i Ready n x.got (f.mostly.threads t x e) g refl l)

formed_advanced : (m : Machine) (t : ℕ) (x : ThreadState) (i : Instruction) → WellFormed m → slice_get m.threads t ≡ Some x → slice_get x.program x.counter ≡ Some i → x.stage ≡ Ready → WellFormed (advanced m t)
formed_advanced m t x i f e g r = formed_thread m (λ y. record y { counter = y.counter + 1 }) t x f e (well_formed_on (length m.submissions.slots) x i x.stage x.last x.got (f.mostly.threads t x e) g r (f.mostly.threads t x e).last)

-- The machine after a thread's Enter: it waits, or has its result.
formed_awaited : (m : Machine) (t : ℕ) (x : ThreadState) (n k w flags to_submit min_complete asked : ℕ) → WellFormed m → slice_get m.threads t ≡ Some x → slice_get x.program x.counter ≡ Some (Enter to_submit min_complete asked) → n < 2 ^ 32 → w < 2 ^ 32 → WellFormed (awaited m t n k w flags)
formed_awaited m t x n k w flags to_submit min_complete asked f e g l l' = by (gets_events flags && ((n == k) && nat_lt (ready_count m) needed))
  where
    needed : ℕ
    needed = min w (length m.completions.slots)

    by : (b : Bool) → WellFormed (if b then held_back m t n needed else answered m t (pos n))
    by true = formed_thread m (λ y. record y { stage = Waiting n needed }) t x f e (well_formed_held (length m.submissions.slots) x n needed to_submit min_complete asked (f.mostly.threads t x e) g l (omega (arith, l')))
    by false = formed_answered m t x (Enter to_submit min_complete asked) (pos n) f e g (omega (arith, l))

pub formed_before : (m : Machine) (k flags : ℕ) → WellFormed m → WellFormed (before_submission m k flags)
formed_before = grind (arith, common_steps, formed_flushed)

pub before_threads : (m : Machine) (k flags : ℕ) → (before_submission m k flags).threads ≡ m.threads
before_threads = grind arith

pub formed_poller : (m : Machine) (p : Poller) → WellFormed m → WellFormed (with_poller m p)
formed_poller = grind arith

pub formed_woken : (m : Machine) (flags : ℕ) → WellFormed m → WellFormed (woken m flags)
formed_woken m flags f = by (wakes flags)
  where
    by : (b : Bool) → WellFormed (if b then with_poller m Awake else m)
    by true = formed_poller m Awake f
    by false = f

pub woken_threads : (m : Machine) (flags : ℕ) → (woken m flags).threads ≡ m.threads
woken_threads = grind arith

formed_shown : (m : Machine) (flags : ℕ) → WellFormed m → WellFormed (shown m flags)
formed_shown = grind (arith, common_steps, formed_flushed)

pub shown_threads : (m : Machine) (flags : ℕ) → (shown m flags).threads ≡ m.threads
shown_threads = grind arith

fits_ebusy : FitsSigned w64 ebusy
fits_ebusy = omega arith

formed_submitting : (m : Machine) (t : ℕ) (x : ThreadState) (k w flags : ℕ) → WellFormed m → slice_get m.threads t ≡ Some x → slice_get x.program x.counter ≡ Some (Enter k w flags) → w < 2 ^ 32 → (if is_busy m k then None else submission_refusal m k) ≡ None → WellFormed (submitting m t k w flags)
formed_submitting m t x k w flags f e g l h = by (is_busy m k) h
  where
    n : ℕ
    n = length (entries_for m k)

    few : length m.table + length (offered m.submissions k) ≤ 65536 → n < 2 ^ 32
    few r = let a = length-taken_entries m.submit_all m.world m.submissions k in omega (arith, a, r)

    by : (b : Bool) → (if b then None else submission_refusal m k) ≡ None → WellFormed (if b then answered m t ebusy else awaited (submitted m k) t n k w flags)
    by true o = formed_answered m t x (Enter k w flags) ebusy f e g fits_ebusy
    by false o = formed_awaited (submitted m k) t x n k w flags k w flags (formed_submission m k f o) (ap (λ ts. slice_get ts t) (submitted_threads m k) ∙ e) g (few (submission_room m k o)) l

formed_with_poller : (m : Machine) (t : ℕ) (x : ThreadState) (k w flags : ℕ) → WellFormed m → slice_get m.threads t ≡ Some x → slice_get x.program x.counter ≡ Some (Enter k w flags) → k < 2 ^ 32 → w < 2 ^ 32 → WellFormed (entered_with_poller m t k w flags)
formed_with_poller m t x k w flags f e g l l' =
    formed_awaited (shown (woken m flags) flags) t x k k w flags k w flags (formed_shown (woken m flags) flags (formed_woken m flags f)) (ap (λ ts. slice_get ts t) (shown_threads (woken m flags) flags ∙ woken_threads m flags) ∙ e) g l l'

formed_enter : (m : Machine) (t : ℕ) (x : ThreadState) (k w flags : ℕ) → WellFormed m → slice_get m.threads t ≡ Some x → slice_get x.program x.counter ≡ Some (Enter k w flags)
    → instruction_refusal m (Enter k w flags) ≡ None → WellFormed (executed m t (Some (Enter k w flags)))
formed_enter m t x k w flags f e g h = by m.poller h
  where
    widths : (k < 2 ^ 32) × (w < 2 ^ 32) × (flags < 2 ^ 32)
    widths = (f.mostly.threads t x e).program.done x.counter (Enter k w flags) g

    by : (o : Option Poller) → enter_refusal m o k flags ≡ None → WellFormed (entered m o t k w flags)
    by None o = alone (is_unknown flags) o
      where
        alone : (b : Bool) → (if b then None else alone_refusal m k flags) ≡ None → WellFormed (if b then answered m t einval else entered_without_poller m t k w flags)
        alone true o' = formed_answered m t x (Enter k w flags) einval f e g fits_einval
        alone false o' = formed_submitting (before_submission m k flags) t x k w flags (formed_before m k flags f) (ap (λ ts. slice_get ts t) (before_threads m k flags) ∙ e) g widths.1 o'
    by (Some p) o = by_flags (is_unknown flags)
      where
        by_flags : (b : Bool) → WellFormed (if b then answered m t einval else entered_with_poller m t k w flags)
        by_flags true = formed_answered m t x (Enter k w flags) einval f e g fits_einval
        by_flags false = formed_with_poller m t x k w flags f e g widths.0 widths.1

formed_pushing : (m : Machine) (t : ℕ) (x : ThreadState) (index : ℕ) → WellFormed m → slice_get m.threads t ≡ Some x → slice_get x.program x.counter ≡ Some (Push index) → x.stage ≡ Ready → instruction_refusal m (Push index) ≡ None → WellFormed (executed m t (Some (Push index)))
formed_pushing m t x index f e g r h = by _ refl h
  where
    w : ℕ
    w = waiting m.submissions.head m.submissions.tail

    less : (w == length m.submissions.array) ≡ false → w < length m.submissions.array
    less = grind arith

    by : (b : Bool) → (w == length m.submissions.array) ≡ b → (if b then Some SqFull else None) ≡ None → WellFormed (executed m t (Some (Push index)))
    by true o k = absurd cc
    by false o k =
        formed_advanced (record m { submissions = record m.submissions { tail = (m.submissions.tail + 1) % 2 ^ 32; array = slice_set m.submissions.array (m.submissions.tail % length m.submissions.array) index } }) t x (Push index)
        (formed_push m index f ((f.mostly.threads t x e).program.done x.counter (Push index) g) (less o)) e g r

formed_reaping : (m : Machine) (t : ℕ) (x : ThreadState) → WellFormed m → slice_get m.threads t ≡ Some x → slice_get x.program x.counter ≡ Some Reap → x.stage ≡ Ready → instruction_refusal m Reap ≡ None → WellFormed (executed m t (Some Reap))
formed_reaping m t x f e g r h = by _ refl h
  where
    w : ℕ
    w = waiting m.completions.head m.completions.tail

    got : Option Cqe
    got = slice_get m.completions.slots (m.completions.head % length m.completions.slots)

    some : (n : ℕ) → (n == 0) ≡ false → 0 < n
    some = grind arith

    by : (b : Bool) → (w == 0) ≡ b → (if b then Some NothingToReap else None) ≡ None → WellFormed (executed m t (Some Reap))
    by true o k = absurd cc
    by false o k =
        formed_thread (record m { completions = record m.completions { head = (m.completions.head + 1) % 2 ^ 32 } }) (λ y. record y { counter = y.counter + 1; got = got }) t x
        (formed_taken_out m f (some w o)) e (well_formed_on (length m.submissions.slots) x Reap x.stage x.last got (f.mostly.threads t x e) g r (f.mostly.threads t x e).last)

formed_storing : (m : Machine) (t : ℕ) (x : ThreadState) (address : ℕ) (bytes : List ℕ) → WellFormed m → slice_get m.threads t ≡ Some x → slice_get x.program x.counter ≡ Some (Store address bytes) → x.stage ≡ Ready → WellFormed (executed m t (Some (Store address bytes)))
formed_storing m t x address bytes f e g r =
    let within = (f.mostly.threads t x e).program.done x.counter (Store address bytes) g in
    formed_advanced (record m { world = world_stored address bytes m.world }) t x (Store address bytes)
    (formed_world m (world_stored address bytes m.world) f (world_stored_formed address bytes m.world f.mostly.world within) f.puts (worlds.setup_stored address bytes m.world f.mostly.world within)) e g r

closed_pipes : (fd : ℕ) (n : ℕ) (w : WorldState) → PutsWithin n w → PutsWithin n (world_closed fd w)
closed_pipes fd n w h = h

formed_closing : (m : Machine) (t : ℕ) (x : ThreadState) (fd : ℤ) → WellFormed m → slice_get m.threads t ≡ Some x → slice_get x.program x.counter ≡ Some (Close fd) → WellFormed (closed m t fd)
formed_closing m t x (negsuc n) f e g = formed_answered m t x (Close (negsuc n)) ebadf f e g fits_ebadf
formed_closing m t x (pos fd) f e g = by (is_open (descriptor_of m.world fd))
  where
    by : (b : Bool) → WellFormed (if b then answered (record m { world = world_closed fd m.world }) t (pos 0) else answered m t ebadf)
    by true =
        formed_answered (record m { world = world_closed fd m.world }) t x (Close (pos fd)) (pos 0)
        (formed_world m (world_closed fd m.world) f (world_closed_formed fd m.world f.mostly.world) (closed_pipes fd (65536 * ended_of m.table) m.world f.puts) (worlds.setup_closed fd m.world)) e g (omega arith)
    by false = formed_answered m t x (Close (pos fd)) ebadf f e g fits_ebadf

formed_step : (m : Machine) (t : ℕ) → WellFormed m → refusal m (Step t) ≡ None → WellFormed (after m (Step t))
formed_step m t f h = by (slice_get m.threads t) refl h
  where
    next : (x : ThreadState) → slice_get m.threads t ≡ Some x → (i : Instruction) → slice_get x.program x.counter ≡ Some i → x.stage ≡ Ready → instruction_refusal m i ≡ None → WellFormed (executed m t (Some i))
    next x e (Put slot entry) g r k = formed_advanced (record m { submissions = record m.submissions { slots = slice_set m.submissions.slots slot entry } }) t x (Put slot entry) (formed_put m slot entry f) e g r
    next x e (Push index) g r k = formed_pushing m t x index f e g r k
    next x e (Store address bytes) g r k = formed_storing m t x address bytes f e g r
    next x e (Enter to_submit min_complete flags) g r k = formed_enter m t x to_submit min_complete flags f e g k
    next x e Reap g r k = formed_reaping m t x f e g r k
    next x e (Close fd) g r k = formed_closing m t x fd f e g

    at : (x : ThreadState) → slice_get m.threads t ≡ Some x → (s : Stage) → x.stage ≡ s → (o : Option Instruction) → slice_get x.program x.counter ≡ o → next_refusal m s o ≡ None
        → WellFormed (resumed m t s o)
    at x e s q None g k = absurd cc
    at x e Ready q (Some i) g k = next x e i g q k
    at x e (Waiting n w) q (Some i) g k = formed_answered m t x i (pos n) f e g (let a = ((f.mostly.threads t x e).waits n w q).submitted in omega (arith, a))

    by : (o : Option ThreadState) → slice_get m.threads t ≡ o → thread_refusal m o ≡ None → WellFormed (stepped m t o)
    by None e k = absurd cc
    by (Some x) e k = at x e x.stage refl (slice_get x.program x.counter) refl k

formed_take : (m : Machine) (n : ℕ) → WellFormed m → refusal m (Take n) ≡ None → WellFormed (after m (Take n))
formed_take = grind (arith, formed_submission)

-- An accepted event leaves a well-formed machine.
pub formed_after : (m : Machine) (e : Event) → WellFormed m → refusal m e ≡ None → WellFormed (after m e)
formed_after m (Step t) f h = formed_step m t f h
formed_after m (Take n) f h = formed_take m n f h
formed_after m Sleep f h = formed_poller m Asleep f
formed_after m (Issue r) f h = formed_issue m r f h
formed_after m (Finish r c) f h = formed_finish m r c f h
formed_after m (Expire r) f h = formed_expire m r (slice_get m.table r) f
formed_after m (Tick d) f h = formed_tick m d f h
