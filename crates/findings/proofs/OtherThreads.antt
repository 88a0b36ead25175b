-- An event changes no thread but the one whose step it is.
use Rattle.findings.proofs.Common.{◌≡◌, ℕ, zero, suc, Bool, true, false, List, [], ◌∷◌, length, refl, ℤ, pos, negsuc, ◌==◌, ◌&&◌, nat_lt, if◌then◌else◌, Option, Some, None, slice_get, Choice, Row, descriptor_of, world_closed, Outcome, Res, BadChoice, world_after, is_cancel, outcome_of, is_held_by, Stage, Ready, Waiting, updated, Event, Step, Take, Sleep, Issue, Finish, Expire, Tick, Instruction, Enter, Close, Poller, Machine, verdict_of, ending_with, after, all_started, answered, awaited, before_submission, cancelled, cascaded, closed, entered, entered_without_poller, entries_for, executed, expired, expiring, finished, finished_as, gets_events, held_back, is_busy, is_unknown, issued, lacks_descriptor, needed, ready_count, resumed, shown, stepped, submitted, waiting_target, woken, ebadf, ebusy, einval, ThreadState, sym, ap, ◌∙◌, eq-eqb, threads_cascaded, before_threads, shown_threads, submitted_threads, woken_threads, clash, Waits, is_step_of}
use Rattle.machine.specs.Steps.{is_open}

updated_other : {X : Type 0} (f : X → X) (xs : List X) (u t : ℕ) → (u ≡ t → ⊥) → slice_get (updated f xs u) t ≡ slice_get xs t
updated_other f [] u t h = refl
updated_other f (x ∷ xs) zero zero h = absurd (h refl)
updated_other f (x ∷ xs) zero (suc t) h = refl
updated_other f (x ∷ xs) (suc u) zero h = refl
updated_other f (x ∷ xs) (suc u) (suc t) h = updated_other f xs u t (λ e. h (ap suc e))

-- The step of another thread.
module _ (m : Machine) (u t : ℕ) (other : u ≡ t → ⊥) where
  -- Machine n has thread t of m.
  abbrev Keeps : Machine → Type 0
  Keeps n = slice_get n.threads t ≡ slice_get m.threads t

  one_updated : (f : ThreadState → ThreadState) (ts : List ThreadState) → ts ≡ m.threads → slice_get (updated f ts u) t ≡ slice_get m.threads t
  one_updated f ts e = updated_other f ts u t other ∙ ap (λ (xs : List ThreadState). slice_get xs t) e

  when_answered : (n : Machine) (res : ℤ) → n.threads ≡ m.threads → Keeps (answered n u res)
  when_answered n res e = one_updated _ n.threads e

  when_awaited : (n : Machine) (k asked w flags : ℕ) → n.threads ≡ m.threads → Keeps (awaited n u k asked w flags)
  when_awaited n k asked w flags e = by (gets_events flags && ((k == asked) && nat_lt (ready_count n) (needed n w)))
    where
      by : (b : Bool) → Keeps (if b then held_back n u k (needed n w) else answered n u (pos k))
      by true = one_updated _ n.threads e
      by false = when_answered n (pos k) e

  when_entered : (p : Option Poller) (k w flags : ℕ) → Keeps (entered m p u k w flags)
  when_entered None k w flags = by (is_unknown flags)
    where
      submits : (b : Bool) → Keeps (if b then answered (before_submission m k flags) u ebusy else awaited (submitted (before_submission m k flags) k) u (length (entries_for (before_submission m k flags) k)) k w flags)
      submits true = when_answered (before_submission m k flags) ebusy (before_threads m k flags)
      submits false = when_awaited (submitted (before_submission m k flags) k) (length (entries_for (before_submission m k flags) k)) k w flags (submitted_threads (before_submission m k flags) k ∙ before_threads m k flags)

      by : (b : Bool) → Keeps (if b then answered m u einval else entered_without_poller m u k w flags)
      by true = when_answered m einval refl
      by false = submits (is_busy (before_submission m k flags) k)
  when_entered (Some p) k w flags = by (is_unknown flags)
    where
      by : (b : Bool) → Keeps (if b then answered m u einval else awaited (shown (woken m flags) flags) u k k w flags)
      by true = when_answered m einval refl
      by false = when_awaited (shown (woken m flags) flags) k k w flags (shown_threads (woken m flags) flags ∙ woken_threads m flags)

  when_closed : (fd : ℤ) → Keeps (closed m u fd)
  when_closed (negsuc n) = when_answered m ebadf refl
  when_closed (pos fd) = by (is_open (descriptor_of m.world fd))
    where
      by : (b : Bool) → Keeps (if b then answered (record m { world = world_closed fd m.world }) u (pos 0) else answered m u ebadf)
      by true = when_answered (record m { world = world_closed fd m.world }) (pos 0) refl
      by false = when_answered m ebadf refl

  when_executed : (i : Option Instruction) → Keeps (executed m u i)
  when_executed None = refl
  when_executed (Some (Enter k w flags)) = when_entered m.poller k w flags
  when_executed (Some (Close fd)) = when_closed fd
  when_executed (Some x) = one_updated _ m.threads refl

  when_resumed : (stage : Stage) (i : Option Instruction) → Keeps (resumed m u stage i)
  when_resumed Ready i = when_executed i
  when_resumed (Waiting n w) i = when_answered m (pos n) refl

  when_stepped : (o : Option ThreadState) → Keeps (stepped m u o)
  when_stepped None = refl
  when_stepped (Some x) = when_resumed x.stage (slice_get x.program x.counter)

-- The other events change no thread.
issued_threads : (m : Machine) (r : ℕ) (o : Option Row) → (issued m r o).threads ≡ m.threads
issued_threads m r None = refl
issued_threads m r (Some row) = by (lacks_descriptor m.world row)
  where
    by : (b : Bool) → (if b then cascaded m ((r, ebadf) ∷ []) else record m { table = all_started m.clock m.counted m.table r }).threads ≡ m.threads
    by true = threads_cascaded m ((r, ebadf) ∷ [])
    by false = refl

finished_threads : (m : Machine) (r : ℕ) (o : Option Row) (c : Choice) → (finished m r o c).threads ≡ m.threads
finished_threads m r None c = refl
finished_threads m r (Some row) c = by (is_cancel row.entry.opcode)
  where
    with : (o : Outcome) → (finished_as m r row o).threads ≡ m.threads
    with (Res res) = threads_cascaded (record m { world = world_after row res m.world }) ((r, res) ∷ [])
    with Waits = refl
    with BadChoice = refl

    by : (b : Bool) → (if b then cancelled m r row.entry else finished_as m r row (outcome_of (is_held_by m.table) m.world row c)).threads ≡ m.threads
    by true = threads_cascaded m (ending_with r (verdict_of m.table m.world r row.entry))
    by false = with (outcome_of (is_held_by m.table) m.world row c)

expired_threads : (m : Machine) (r : ℕ) (o : Option Row) → (expired m r o).threads ≡ m.threads
expired_threads m r None = refl
expired_threads m r (Some row) = threads_cascaded m (expiring r (waiting_target m.table m.world row row.target))

pub others_kept : (m : Machine) (e : Event) (t : ℕ) → is_step_of t e ≡ false → slice_get (after m e).threads t ≡ slice_get m.threads t
others_kept m (Step u) t h = when_stepped m u t (λ same. clash (sym h ∙ eq-eqb u t same)) (slice_get m.threads u)
others_kept m (Take n) t h = ap (λ (ts : List ThreadState). slice_get ts t) (submitted_threads m n)
others_kept m Sleep t h = refl
others_kept m (Issue r) t h = ap (λ (ts : List ThreadState). slice_get ts t) (issued_threads m r (slice_get m.table r))
others_kept m (Finish r c) t h = ap (λ (ts : List ThreadState). slice_get ts t) (finished_threads m r (slice_get m.table r) c)
others_kept m (Expire r) t h = ap (λ (ts : List ThreadState). slice_get ts t) (expired_threads m r (slice_get m.table r))
others_kept m (Tick d) t h = refl
