-- The next event that each actor offers. Actors are numbered: threads from 0, the poller 16,
-- requests from 17, and the clock 65,553.
use Rattle.std.specs.Prelude.{ℕ, ◌+◌, ◌-◌, ◌*◌, ◌/◌, ◌^◌, ◌==◌, false, not, ◌||◌, nat_lt, min, if◌then◌else◌, Option, Some, None, is_none, slice_get, length, zero, suc}
use Rattle.std.specs.Option.{option_map, option_map_or, option_and_then}
use Rattle.entries.specs.declared.choice.Choice.{Choice}
use Rattle.entries.specs.declared.choice.Choice.TheVariants.{Full, Short, Eio}
use Rattle.entries.specs.declared.row.Row.{Row}
use Rattle.entries.specs.declared.row.Phase.{Phase}
use Rattle.entries.specs.declared.row.Phase.TheVariants.{Queued, Issued, Ended}
use Rattle.opcodes.specs.Opcodes.{is_timer}
use Rattle.links_drains.specs.Units.{is_issued_row}
use Rattle.ring_words.specs.Rings.{waiting}
use Rattle.sqpoll.specs.declared.poller.Poller.{Poller}
use Rattle.sqpoll.specs.declared.poller.Poller.TheVariants.{Awake, Asleep}
use Rattle.scenario.specs.declared.event.Event.{Event}
use Rattle.scenario.specs.declared.event.Event.TheVariants.{Step, Take, Sleep, Issue, Finish, Expire, Tick}
use Rattle.machine.specs.declared.whole.Machine.{Machine}
use Rattle.machine.specs.Deadlines.{deadline_at}
use Rattle.machine.specs.Steps.{refusal}
use Rattle.machine.specs.Transfers.{full_bytes}
use Rattle.sampling.specs.Draws.{draw, mixed, below}
use Rattle.sampling.specs.Locks.{holds, is_locked}
use Rattle.sampling.specs.Spots.{spot_of}
use Rattle.sampling.specs.declared.locks.Spot.{Spot}
use Rattle.sampling.specs.declared.draws.Source.{Source}

-- ---- Positions: an actor draws its rank anew once it has acted

abbrev pub thread_position : Option Spot → ℕ
thread_position None = 0
thread_position (Some x) = 2 * x.counter + (if x.is_waiting then 1 else 0)

-- 1 for an issued request, 0 for another.
abbrev pub row_position : Machine → ℕ → ℕ
row_position m r = if option_map_or is_issued_row (slice_get m.table r) false then 1 else 0

-- Where an actor is: a thread's counter and whether it waits, the head of the submission ring,
-- whether a request is issued, or the clock.
abbrev pub position_of : Machine → ℕ → ℕ
position_of m actor =
    if nat_lt actor 16 then thread_position (option_map spot_of (slice_get m.threads actor))
    else if actor == 16 then m.submissions.head
    else if nat_lt actor 65553 then row_position m (actor - 17)
    else m.clock

-- The rank of an actor: a drawn number, whose lowest bits are the actor's number, so that ranks
-- differ.
unfoldable pub rank_at : ℕ → ℕ → ℕ → ℕ
rank_at key actor position = mixed key actor position / 2 ^ 17 * 2 ^ 17 + actor

abbrev pub rank_of : Source → Machine → ℕ → ℕ
rank_of s m actor = rank_at s.key actor (position_of m actor)

-- ---- Threads

-- A thread's next step, unless another thread holds the lock.
unfoldable pub step_offer : Source → Machine → ℕ → Option Event
step_offer s m t =
    if (s.unlocked || not (is_locked m)) || option_map_or holds (slice_get m.threads t) false
    then Some (Step t)
    else None

-- ---- The poller

-- One entry or all that wait, if the event is accepted, else one.
abbrev pub take_or_one : Machine → ℕ → Event
take_or_one m n = if is_none (refusal m (Take n)) then Take n else Take 1

abbrev pub take_of : Machine → ℕ → ℕ → Event
take_of m n word = if below 2 word == 0 then Take 1 else take_or_one m n

-- An awake poller takes entries, or falls asleep if none wait.
abbrev pub awake_offer : Machine → ℕ → ℕ → Event
awake_offer m n word = if n == 0 then Sleep else take_of m n word

abbrev pub poller_offer_by : Source → Machine → Option Poller → Option Event
poller_offer_by s m None = None
poller_offer_by s m (Some Asleep) = None
poller_offer_by s m (Some Awake) = Some (awake_offer m
    (waiting m.submissions.head m.submissions.tail)
    (draw (mixed s.key 16 m.submissions.head) 0))

unfoldable pub poller_offer : Source → Machine → Option Event
poller_offer s m = poller_offer_by s m m.poller

-- ---- Requests

-- One byte, all but one byte, or a drawn number of bytes from 1 to k - 1, a third each.
abbrev pub short_bytes : ℕ → ℕ → ℕ
short_bytes k word =
    if below 3 (draw word 2) == 0 then 1
    else if below 3 (draw word 2) == 1 then k - 1
    else 1 + below (k - 1) (draw word 3)

-- A short transfer, if the request would transfer two bytes or more.
abbrev pub short_of : Option ℕ → ℕ → Choice
short_of None word = Full
short_of (Some k) word = if nat_lt k 2 then Full else Short (short_bytes k word)

-- How request r finishes: by a device error or a short transfer, at the rates of the run, or in
-- full.
abbrev pub choice_by : Source → Option ℕ → ℕ → Choice
choice_by s k word =
    if nat_lt (below 10 (draw word 0)) s.eio_tenths then Eio
    else if nat_lt (below 10 (draw word 1)) s.short_tenths then short_of k word
    else Full

unfoldable pub drawn_choice : Source → Machine → ℕ → Choice
drawn_choice s m r = choice_by s (full_bytes m r) (mixed s.key (17 + r) 1)

-- It finishes in full if the drawn choice is refused.
abbrev pub finish_offer : Source → Machine → ℕ → Event
finish_offer s m r =
    if is_none (refusal m (Finish r (drawn_choice s m r))) then Finish r (drawn_choice s m r)
    else Finish r Full

-- A queued request is issued. An issued timer expires, and another issued request finishes.
abbrev pub phase_offer : Source → Machine → ℕ → Row → Phase → Option Event
phase_offer s m r row Queued = Some (Issue r)
phase_offer s m r row Issued =
    if is_timer row.entry.opcode then Some (Expire r) else Some (finish_offer s m r)
phase_offer s m r row (Ended res) = None

unfoldable pub row_offer : Source → Machine → ℕ → Option Event
row_offer s m r = option_and_then (λ (row : Row). phase_offer s m r row row.phase) (slice_get m.table r)

-- ---- The clock

-- The deadline, if it is ahead of the clock.
abbrev pub if_ahead : ℕ → Option ℕ → Option ℕ
if_ahead clock None = None
if_ahead clock (Some t) = if nat_lt clock t then Some t else None

-- The smaller of two optional numbers.
abbrev pub smaller_of : Option ℕ → Option ℕ → Option ℕ
smaller_of None o = o
smaller_of (Some a) None = Some a
smaller_of (Some a) (Some b) = Some (min a b)

-- The minimum of the values that a function has below n.
abbrev pub least_value : (ℕ → Option ℕ) → ℕ → Option ℕ
least_value f zero = None
least_value f (suc n) = smaller_of (least_value f n) (f n)

-- The least deadline of an issued request that is ahead of the clock.
abbrev pub least_ahead : Machine → Option ℕ
least_ahead m =
    least_value (λ r. if_ahead m.clock (deadline_at m.table r)) (length m.table)

-- The tick by which the clock reaches a deadline, if it can.
abbrev pub tick_to : ℕ → Option ℕ → Option Event
tick_to clock None = None
tick_to clock (Some t) = if nat_lt t (2 ^ 64) then Some (Tick (t - clock)) else None

unfoldable pub clock_offer : Machine → Option Event
clock_offer m = tick_to m.clock (least_ahead m)

-- ---- All actors

abbrev pub offer_of : Source → Machine → ℕ → Option Event
offer_of s m actor =
    if nat_lt actor 16 then step_offer s m actor
    else if actor == 16 then poller_offer s m
    else if nat_lt actor 65553 then row_offer s m (actor - 17)
    else if actor == 65553 then clock_offer m
    else None
