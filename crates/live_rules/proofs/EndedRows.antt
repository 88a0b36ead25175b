-- Completed requests stay completed.
use Rattle.std.proofs.Common.{◌≡◌, ℕ, zero, suc, ℤ, pos, negsuc, ◌<◌, ◌≤◌, ◌⊎◌, inl, inr, Bool, true, false, refl, sym, ap, ◌∙◌, List, [], ◌∷◌, ◌++◌, length, arith, if◌then◌else◌, ◌==◌}
use Rattle.std.specs.Prelude.{Option, Some, None, min, slice_get, nat_lt, option_map, ◌&&◌, ◌||◌}
use Rattle.std.specs.Option.{option_map_or}
use Rattle.std.proofs.lemmas.Bool.{cases_lt}
use Rattle.std.proofs.lemmas.Bool.Decides.{nat_tests}
use Rattle.std.proofs.lemmas.Option.{slice_get_within}
use Rattle.entries.specs.declared.row.Row.{Row}
use Rattle.entries.specs.declared.row.Phase.{Phase}
use Rattle.entries.specs.declared.row.Phase.TheVariants.{Queued, Issued, Ended}
use Rattle.links_drains.specs.Batches.{rows_of, direct_of}
use Rattle.links_drains.specs.Endings.{Ending, ended_by, result_in}
use Rattle.links_drains.specs.Links.{is_guard}
use Rattle.links_drains.specs.Numbered.{map_numbered}
use Rattle.links_drains.specs.Phases.{is_queued, is_issued, is_ended}
use Rattle.links_drains.specs.Queued.{IsNextQueued, NoneQueuedFrom}
use Rattle.links_drains.specs.Units.{IsNextIssued, NoneIssuedFrom}
use Rattle.entries.specs.declared.choice.Choice.{Choice}
use Rattle.opcodes.specs.declared.ending.Outcome.{Outcome}
use Rattle.opcodes.specs.declared.ending.Outcome.TheVariants.{Res, Waits, BadChoice}
use Rattle.opcodes.specs.Effects.{world_after}
use Rattle.opcodes.specs.Opcodes.{is_cancel}
use Rattle.opcodes.specs.Outcomes.{outcome_of}
use Rattle.links_drains.specs.Holding.{is_held_by}
use Rattle.model_files.specs.Worlds.{descriptor_of, world_closed}
use Rattle.places.proofs.ListLemmas.{slice_get_none}
use Rattle.places.specs.declared.value.Stage.{Stage}
use Rattle.places.specs.declared.value.Stage.TheVariants.{Ready, Waiting}
use Rattle.sqpoll.specs.declared.poller.Poller.{Poller}
use Rattle.sqpoll.specs.declared.poller.Poller.TheVariants.{Awake}
use Rattle.scenario.specs.declared.event.Event.{Event}
use Rattle.scenario.specs.declared.event.Event.TheVariants.{Step, Take, Sleep, Issue, Finish, Expire, Tick}
use Rattle.scenario.specs.declared.setup.Instruction.{Instruction}
use Rattle.scenario.specs.declared.setup.Instruction.TheVariants.{Put, Push, Store, Enter, Reap, Close}
use Rattle.scenario.specs.declared.event.Refusal.TheVariants.{WrongPhase}
use Rattle.timeouts_cancel.specs.Cascades.{fall_of}
use Rattle.machine.specs.declared.whole.Machine.{Machine}
use Rattle.machine.specs.Cancels.{verdict_of, ending_with}
use Rattle.machine.specs.Steps.{refusal, issue_refusal, after, resumed, stepped, executed, entered, entered_without_poller, entered_with_poller, submitting, before_submission, is_busy, is_unknown, gets_events, wakes, woken, shown, awaited, ready_count, needed, held_back, with_poller, closed, is_open, flushed, cascaded, taken, submitted, answered, issued, cancelled, finished, finished_as, lacks_descriptor, all_started, entries_for, expired, expiring, is_guard_of, started_with, waiting_target}
use Rattle.machine.specs.Submission.{einval, ebusy, ebadf}
use Rattle.machine.specs.Threads.{ThreadState}
use Rattle.links_drains.proofs.EndingRows.{mapped_at}
use Rattle.machine.specs.Deadlines.{deadline_at}
use Rattle.live_rules.specs.declared.offering.Action.TheVariants.{Issuing, Finishing, Expiring}
use Rattle.live_rules.specs.Least.{least, least_value}
use Rattle.live_rules.specs.Offers.{may_do}
use Rattle.live_rules.specs.Passing.{EndedBelow}
use Rattle.live_rules.proofs.Leasts.{least_none, least_value_same}
use Rattle.live_rules.proofs.Rows.{unissued, not_finished, not_expired, no_deadline}

-- ---- Changes of the request table

abbrev EndedStay : List Row → List Row → Type 0
EndedStay rows next = (r : ℕ) (x : Row) → slice_get rows r ≡ Some x → is_ended x.phase ≡ true → (y : Row) × (slice_get next r ≡ Some y) × (is_ended y.phase ≡ true)

-- Requests that are completed in one state are completed in a later one.
abbrev Stays : Machine → Machine → Type 0
Stays m n = EndedStay m.table n.table

self : (rows : List Row) → EndedStay rows rows
self rows r x e h = (x, e, h)

both : (a b c : List Row) → EndedStay a b → EndedStay b c → EndedStay a c
both a b c h k r x e i = let y = h r x e i in k r y.0 y.1 y.2

before : (rows more : List Row) (r : ℕ) (x : Row) → slice_get rows r ≡ Some x → slice_get (rows ++ more) r ≡ Some x
before [] more r x e = absurd (cc)
before (y ∷ rows) more zero x e = e
before (y ∷ rows) more (suc r) x e = before rows more r x e

appended : (rows more : List Row) → EndedStay rows (rows ++ more)
appended rows more r x e h = (x, before rows more r x e, h)

mapped : (f : ℕ → Row → Row) (rows : List Row) → ((r : ℕ) (x : Row) → slice_get rows r ≡ Some x → is_ended x.phase ≡ true → is_ended (f r x).phase ≡ true) → EndedStay rows (map_numbered f rows)
mapped f rows same r x e h = (f r x, mapped_at f rows r ∙ ap (option_map (λ row. f r row)) e, same r x e h)

-- ---- Completing requests

ended_again : (x : Row) (o : Option ℤ) → is_ended x.phase ≡ true → is_ended (option_map_or (λ res. record x { phase = Ended res }) o x).phase ≡ true
ended_again x None h = h
ended_again x (Some res) h = refl

stays_cascaded : (m : Machine) (direct : List Ending) → Stays m (cascaded m direct)
unfolding cascaded
stays_cascaded m direct = mapped (ended_by (fall_of m.table m.counted direct)) m.table (λ r x e h. ended_again x (result_in (fall_of m.table m.counted direct) r) h)

stays_submitted : (m : Machine) (k : ℕ) → Stays m (submitted m k)
stays_submitted m k =
    both m.table (taken m k).table (submitted m k).table (appended m.table (rows_of m.world (length m.table) (entries_for m k)))
    (stays_cascaded (taken m k) (direct_of m.world (length m.table) (entries_for m k)))

-- ---- Threads

stays_awaited : (m n : Machine) (t k to_submit min_complete flags : ℕ) → Stays m n → Stays m (awaited n t k to_submit min_complete flags)
stays_awaited m n t k to_submit min_complete flags h = by (gets_events flags && ((k == to_submit) && nat_lt (ready_count n) (needed n min_complete)))
  where
    by : (b : Bool) → Stays m (if b then held_back n t k (needed n min_complete) else answered n t (pos k))
    by true = h
    by false = h

stays_before : (m : Machine) (k flags : ℕ) → Stays m (before_submission m k flags)
stays_before m k flags = by (gets_events flags || nat_lt 0 k)
  where
    by : (b : Bool) → Stays m (if b then flushed m else m)
    by true = self m.table
    by false = self m.table

stays_submitting : (m n : Machine) (t k w flags : ℕ) → Stays m n → Stays m (submitting n t k w flags)
stays_submitting m n t k w flags h = by (is_busy n k)
  where
    by : (b : Bool) → Stays m (if b then answered n t ebusy else awaited (submitted n k) t (length (entries_for n k)) k w flags)
    by true = h
    by false = stays_awaited m (submitted n k) t (length (entries_for n k)) k w flags (both m.table n.table (submitted n k).table h (stays_submitted n k))

stays_woken : (m : Machine) (flags : ℕ) → Stays m (woken m flags)
stays_woken m flags = by (wakes flags)
  where
    by : (b : Bool) → Stays m (if b then with_poller m Awake else m)
    by true = self m.table
    by false = self m.table

stays_shown : (m n : Machine) (flags : ℕ) → Stays m n → Stays m (shown n flags)
stays_shown m n flags h = by (gets_events flags)
  where
    by : (b : Bool) → Stays m (if b then flushed n else n)
    by true = h
    by false = h

stays_alone : (m : Machine) (t k w flags : ℕ) (b : Bool) → Stays m (if b then answered m t einval else entered_without_poller m t k w flags)
stays_alone m t k w flags true = self m.table
stays_alone m t k w flags false = stays_submitting m (before_submission m k flags) t k w flags (stays_before m k flags)

stays_with_poller : (m : Machine) (t k w flags : ℕ) (b : Bool) → Stays m (if b then answered m t einval else entered_with_poller m t k w flags)
stays_with_poller m t k w flags true = self m.table
stays_with_poller m t k w flags false = stays_awaited m (shown (woken m flags) flags) t k k w flags (stays_shown m (woken m flags) flags (stays_woken m flags))

stays_entered : (m : Machine) (o : Option Poller) (t k w flags : ℕ) → Stays m (entered m o t k w flags)
stays_entered m None t k w flags = stays_alone m t k w flags (is_unknown flags)
stays_entered m (Some p) t k w flags = stays_with_poller m t k w flags (is_unknown flags)

stays_closed : (m : Machine) (t : ℕ) (fd : ℤ) → Stays m (closed m t fd)
stays_closed m t (negsuc n) = self m.table
stays_closed m t (pos fd) = by (is_open (descriptor_of m.world fd))
  where
    by : (b : Bool) → Stays m (if b then answered (record m { world = world_closed fd m.world }) t (pos 0) else answered m t ebadf)
    by true = self m.table
    by false = self m.table

stays_executed : (m : Machine) (t : ℕ) (i : Option Instruction) → Stays m (executed m t i)
stays_executed m t None = self m.table
stays_executed m t (Some (Put slot entry)) = self m.table
stays_executed m t (Some (Push index)) = self m.table
stays_executed m t (Some (Store address bytes)) = self m.table
stays_executed m t (Some (Enter to_submit min_complete flags)) = stays_entered m m.poller t to_submit min_complete flags
stays_executed m t (Some Reap) = self m.table
stays_executed m t (Some (Close fd)) = stays_closed m t fd

stays_resumed : (m : Machine) (t : ℕ) (s : Stage) (next : Option Instruction) → Stays m (resumed m t s next)
stays_resumed m t Ready next = stays_executed m t next
stays_resumed m t (Waiting n w) next = self m.table

stays_stepped : (m : Machine) (t : ℕ) (o : Option ThreadState) → Stays m (stepped m t o)
stays_stepped m t None = self m.table
stays_stepped m t (Some x) = stays_resumed m t x.stage (slice_get x.program x.counter)

-- ---- Requests

-- A request that may be issued has not completed.
not_ended : (rows : List Row) (r : ℕ) (x : Row) (p : Phase) → x.phase ≡ p → issue_refusal rows r (Some x) ≡ None → is_ended p ≡ false
not_ended rows r x Queued g h = refl
not_ended rows r x Issued g h = refl
not_ended rows r x (Ended res) g h = absurd (let k : issue_refusal rows r (Some x) ≡ Some WrongPhase = rw g refl in cc)

-- Nor is a completed request an active linked timeout of another.
not_guarding : (r : ℕ) (x : Row) (p : Phase) (b : Bool) → x.phase ≡ p → is_guard x ≡ b → is_ended p ≡ true → is_guard_of r x ≡ false
not_guarding r x Queued b g i h = absurd (cc)
not_guarding r x Issued b g i h = absurd (cc)
not_guarding r x (Ended res) true g i h = rw (i, g) refl
not_guarding r x (Ended res) false g i h = rw i refl

stays_started : (m : Machine) (r : ℕ) (row : Row) → slice_get m.table r ≡ Some row → is_ended row.phase ≡ false → EndedStay m.table (all_started m.clock m.counted m.table r)
stays_started m r row there unended = mapped (started_with m.clock m.counted r) m.table (λ k x e h. by k x e h (k == r) refl)
  where
    by : (k : ℕ) (x : Row) → slice_get m.table k ≡ Some x → is_ended x.phase ≡ true → (b : Bool) → (k == r) ≡ b → is_ended (started_with m.clock m.counted r k x).phase ≡ true
    by k x e h true g = absurd (let same : k ≡ r = grind (arith, nat_tests) in let other : Some x ≡ Some row = sym e ∙ ap (slice_get m.table) same ∙ there in let z : x ≡ row = cc in let y : is_ended x.phase ≡ false = ap (λ (w : Row). is_ended w.phase) z ∙ unended in cc)
    by k x e h false g = rw (g, not_guarding r x x.phase (is_guard x) refl refl h) h

stays_issued : (m : Machine) (r : ℕ) (o : Option Row) → slice_get m.table r ≡ o → issue_refusal m.table r o ≡ None → Stays m (issued m r o)
stays_issued m r None e h = self m.table
stays_issued m r (Some x) e h = by (lacks_descriptor m.world x)
  where
    by : (b : Bool) → Stays m (if b then cascaded m ((r, ebadf) ∷ []) else record m { table = all_started m.clock m.counted m.table r })
    by true = stays_cascaded m ((r, ebadf) ∷ [])
    by false = stays_started m r x e (not_ended m.table r x x.phase refl h)

stays_finished : (m : Machine) (r : ℕ) (c : Choice) (o : Option Row) → Stays m (finished m r o c)
stays_finished m r c None = self m.table
stays_finished m r c (Some x) = choosing (is_cancel x.entry.opcode)
  where
    by : (o : Outcome) → Stays m (finished_as m r x o)
    by (Res res) = stays_cascaded (record m { world = world_after x res m.world }) ((r, res) ∷ [])
    by Waits = self m.table
    by BadChoice = self m.table

    choosing : (b : Bool) → Stays m (if b then cancelled m r x.entry else finished_as m r x (outcome_of (is_held_by m.table) m.world x c))
    choosing true = stays_cascaded m (ending_with r (verdict_of m.table m.world r x.entry))
    choosing false = by (outcome_of (is_held_by m.table) m.world x c)

stays_expired : (m : Machine) (r : ℕ) (o : Option Row) → Stays m (expired m r o)
stays_expired m r None = self m.table
stays_expired m r (Some x) = stays_cascaded m (expiring r (waiting_target m.table m.world x x.target))

stays_after : (m : Machine) (e : Event) → refusal m e ≡ None → Stays m (after m e)
stays_after m (Step t) h = stays_stepped m t (slice_get m.threads t)
stays_after m (Take n) h = stays_submitted m n
stays_after m Sleep h = self m.table
stays_after m (Issue r) h = stays_issued m r (slice_get m.table r) refl h
stays_after m (Finish r c) h = stays_finished m r c (slice_get m.table r)
stays_after m (Expire r) h = stays_expired m r (slice_get m.table r)
stays_after m (Tick d) h = self m.table

-- ---- All requests below an index

pub below_none : (rows : List Row) → EndedBelow rows 0
below_none rows = record { each = λ r l. absurd (omega arith) }

pub below_after : (m n : Machine) (e : Event) (first : ℕ) → refusal m e ≡ None → n ≡ after m e → EndedBelow m.table first → EndedBelow n.table first
below_after m n e first accepted next b = record {
  each = λ r l. let x = b.each r l in let y = stays_after m e accepted r x.0 x.1 x.2 in (y.0, ap (λ (s : Machine). slice_get s.table r) next ∙ y.1, y.2);
}

neither : (p : Phase) → is_queued p ≡ false → is_issued p ≡ false → is_ended p ≡ true
neither Queued q i = absurd (cc)
neither Issued q i = absurd (cc)
neither (Ended res) q i = refl

-- The bound may rise to `up` if no request from `first` up to it is queued or issued.
pub below_more : (rows : List Row) (first up : ℕ) → EndedBelow rows first → up ≤ length rows
    → ((r : ℕ) (x : Row) → first ≤ r → r < up → slice_get rows r ≡ Some x → is_queued x.phase ≡ false)
    → ((r : ℕ) (x : Row) → first ≤ r → r < up → slice_get rows r ≡ Some x → is_issued x.phase ≡ false)
    → EndedBelow rows up
below_more rows first up b within queued issued = record { each = λ r l. by r l (cases_lt r first) }
  where
    found : (r : ℕ) (o : Option Row) → slice_get rows r ≡ o → r < up → first ≤ r → (row : Row) × (slice_get rows r ≡ Some row) × (is_ended row.phase ≡ true)
    found r None e l low = absurd (let n = slice_get_none rows r e in omega (arith, n))
    found r (Some x) e l low = (x, e, neither x.phase (queued r x low l e) (issued r x low l e))

    by : (r : ℕ) → r < up → (r < first) ⊎ (first ≤ r) → (row : Row) × (slice_get rows r ≡ Some row) × (is_ended row.phase ≡ true)
    by r l (inl earlier) = b.each r earlier
    by r l (inr later) = found r (slice_get rows r) refl l later

-- The bound may rise to the next queued or issued request.
pub below_both : (rows : List Row) (first q i up : ℕ) → EndedBelow rows first → up ≡ min q i → IsNextQueued rows first q → IsNextIssued rows first i → EndedBelow rows up
below_both rows first q i up b e nq ni =
    let within = slice_get_within rows q nq.row nq.there in
    below_more rows first up b (omega (arith, within, e)) (λ r x low l there. nq.least r x low (omega (arith, l, e)) there) (λ r x low l there. ni.least r x low (omega (arith, l, e)) there)

pub below_queued : (rows : List Row) (first q : ℕ) → EndedBelow rows first → IsNextQueued rows first q → NoneIssuedFrom rows first → EndedBelow rows q
below_queued rows first q b nq ni =
    let within = slice_get_within rows q nq.row nq.there in
    below_more rows first q b (omega (arith, within)) (λ r x low l there. nq.least r x low l there) (λ r x low l there. ni r x low there)

pub below_issued : (rows : List Row) (first i : ℕ) → EndedBelow rows first → NoneQueuedFrom rows first → IsNextIssued rows first i → EndedBelow rows i
below_issued rows first i b nq ni =
    let within = slice_get_within rows i ni.row ni.there in
    below_more rows first i b (omega (arith, within)) (λ r x low l there. nq r x low there) (λ r x low l there. ni.least r x low l there)

pub below_within : (rows : List Row) (first : ℕ) → EndedBelow rows first → first ≤ length rows
below_within rows zero b = omega arith
below_within rows (suc n) b = let x = b.each n (omega arith) in let l = slice_get_within rows n x.0 x.1 in omega (arith, l)

-- ---- No action applies to completed requests

ended_at : (rows : List Row) (first : ℕ) → EndedBelow rows first → (k : ℕ) → k < first → (row : Row) → slice_get rows k ≡ Some row → is_ended row.phase ≡ true
ended_at rows first b k l row e =
    let x = b.each k l in
    let other : Some x.0 ≡ Some row = sym x.1 ∙ e in
    let same : x.0 ≡ row = cc in
    ap (λ (y : Row). is_ended y.phase) (sym same) ∙ x.2

unqueued : (p : Phase) → is_ended p ≡ true → is_queued p ≡ false
unqueued Queued h = absurd (cc)
unqueued Issued h = refl
unqueued (Ended res) h = refl

is_not_issued : (p : Phase) → is_ended p ≡ true → is_issued p ≡ false
is_not_issued Queued h = refl
is_not_issued Issued h = absurd (cc)
is_not_issued (Ended res) h = refl

pub none_issuing : (m : Machine) (first : ℕ) → EndedBelow m.table first → (k : ℕ) → k < first → may_do m Issuing k ≡ false
none_issuing m first b k l = unissued m.table k (slice_get m.table k) (λ row e. unqueued row.phase (ended_at m.table first b k l row e))

pub none_finishing : (m : Machine) (first : ℕ) → EndedBelow m.table first → (k : ℕ) → k < first → may_do m Finishing k ≡ false
none_finishing m first b k l = not_finished (is_held_by m.table) m.world (slice_get m.table k) (λ row e. is_not_issued row.phase (ended_at m.table first b k l row e))

none_expiring : (m : Machine) (first : ℕ) → EndedBelow m.table first → (k : ℕ) → k < first → may_do m Expiring k ≡ false
none_expiring m first b k l = not_expired m.clock (slice_get m.table k) (λ row e. is_not_issued row.phase (ended_at m.table first b k l row e))

pub none_due_yet : (m : Machine) (first : ℕ) → EndedBelow m.table first → None ≡ least (may_do m Expiring) first
none_due_yet m first b = sym (least_none (may_do m Expiring) first (λ k l. none_expiring m first b k l))

pub no_deadline_yet : (m : Machine) (first : ℕ) → EndedBelow m.table first → None ≡ least_value (deadline_at m.table) first
no_deadline_yet m first b = sym (least_value_same (deadline_at m.table) 0 first (omega arith) (λ k low l. no_deadline (slice_get m.table k) (λ row e. is_not_issued row.phase (ended_at m.table first b k l row e))))
