-- Prompt order. io_uring_enter(2) issues each request that nothing holds back before it returns, in
-- the order of submission; the poller does so as it takes entries (io_uring_setup(2),
-- IORING_SETUP_SQPOLL). A NOP, a cancellation or a removal completes as it is issued, unless a worker
-- does it (IOSQE_ASYNC). The later requests of a chain follow the rest of the submission, if those
-- before them have completed by then. A request that is held back longer may be issued later.
use Rattle.std.specs.Prelude.{◌≡◌, ℕ, ◌==◌, ◌≤◌, ◌<◌, Bool, true, false, not, ◌&&◌, ◌||◌, ◌⊎◌, if◌then◌else◌, Option, Some, None, is_none, List, [], ◌∷◌, length, take, slice_get}
use Rattle.std.specs.Bool.{MatchBool}
use Rattle.std.specs.Option.{option_map_or}
use Rattle.entries.specs.declared.choice.Choice.TheVariants.{Full}
use Rattle.entries.specs.declared.entry.Sqe.{Sqe}
use Rattle.entries.specs.declared.row.Row.{Row}
use Rattle.opcodes.specs.Opcodes.{is_cancel}
use Rattle.links_drains.specs.Links.{has_flag}
use Rattle.scenario.specs.declared.event.Event.{Event}
use Rattle.scenario.specs.declared.event.Event.TheVariants.{Issue, Finish}
use Rattle.scenario.specs.declared.setup.Setup.{Setup}
use Rattle.machine.specs.declared.whole.Machine.{Machine}
use Rattle.machine.specs.Runs.{start, moment}
use Rattle.machine.specs.Steps.{refusal, after}

-- ---- What a submission does to its requests

-- Whether a submission issues request r in its turn, if nothing else holds it back: it is the first of
-- its chain, or the LINK_TIMEOUT (15) of a request that is issued.
abbrev pub is_inline : Machine → ℕ → Bool
is_inline m r =
    option_map_or (λ (row : Row). (row.unit == r) || (row.entry.opcode == 15)) (slice_get m.table r) false

-- Whether a request completes as it is issued: a NOP, a cancellation or a removal, and no worker does
-- it (IOSQE_ASYNC, 16).
abbrev pub ends_inline : Sqe → Bool
ends_inline entry = ((entry.opcode == 0) || is_cancel entry.opcode) && not (has_flag entry.flags 16)

-- Whether request r is issued, and completes as it is.
abbrev pub may_end : Machine → ℕ → Bool
may_end m r =
    option_map_or (λ (row : Row). ends_inline row.entry) (slice_get m.table r) false
    && is_none (refusal m (Finish r Full))

-- What a submission does to request r, if nothing holds it back: it is issued, or finishes.
unfoldable pub inline_event : Machine → ℕ → Option Event
inline_event m r =
    if is_none (refusal m (Issue r)) then Some (Issue r)
    else if may_end m r then Some (Finish r Full)
    else None

-- What a submission does to request r in a turn. In the first turn (true) it leaves out the later
-- requests of chains; in the second (false) it leaves out none.
unfoldable pub prompt_event : Bool → Machine → ℕ → Option Event
prompt_event true m r = if is_inline m r then inline_event m r else None
prompt_event false m r = inline_event m r

-- ---- Prompt runs

-- Of the requests from number `from` on, r is the first to which something is done in a turn.
pub record IsFirstIn (turn : Bool) (m : Machine) (from r : ℕ) (e : Event) : Type 0 where
  pub within : from ≤ r
  pub event : prompt_event turn m r ≡ Some e
  pub first : (k : ℕ) → from ≤ k → k < r → prompt_event turn m k ≡ None

-- Nothing is done in a turn to the requests from number `from` on.
abbrev pub NoneIn : Bool → Machine → ℕ → Type 0
NoneIn turn m from = (k : ℕ) → from ≤ k → prompt_event turn m k ≡ None

-- Event e of request r is next in the submission whose requests are those from number `from` on: in
-- its first turn, or in the second, once nothing is left of the first.
abbrev pub IsDue : Machine → ℕ → ℕ → Event → Type 0
IsDue m from r e =
    IsFirstIn true m from r e ⊎ (NoneIn true m from × IsFirstIn false m from r e)

-- The submission of the requests from number `from` on has ended.
abbrev pub NothingDue : Machine → ℕ → Type 0
NothingDue m from = NoneIn false m from

-- The first request of the submission that event e begins: of those that it makes, or, where a request
-- is issued that was held back, that request, with those after it that nothing holds back any more.
abbrev pub begun_by : Machine → Event → ℕ
begun_by m (Issue r) = r
begun_by m e = length m.table

-- Event e is next in the submission of the requests from number `from` on, which continues. Or that
-- submission has ended: any event may come, and the requests from number `next` on are submitted then.
abbrev pub IsPromptNext : Machine → ℕ → Event → ℕ → Type 0
IsPromptNext m from e next =
    ((r : ℕ) × IsDue m from r e × (next ≡ from)) ⊎ (NothingDue m from × (next ≡ begun_by m e))

-- The events are prompt from a machine on whose submission is of the requests from number `from` on;
-- after them it is of those from number `next` on.
abbrev pub IsPromptFrom : Machine → ℕ → List Event → ℕ → Type 0
IsPromptFrom m from [] next = from ≡ next
IsPromptFrom m from (e ∷ es) next =
    (mid : ℕ) × IsPromptNext m from e mid × IsPromptFrom (after m e) mid es next

-- The events of a run are prompt.
abbrev pub IsPrompt : Setup → List Event → Type 0
IsPrompt s es = (next : ℕ) × IsPromptFrom (start s) 0 es next

-- A Bool says whether the events of a run are prompt.
abbrev pub SaysPrompt : Bool → Setup → List Event → Type 0
SaysPrompt prompt s es = MatchBool prompt (IsPrompt s es) (IsPrompt s es → ⊥)

-- The first event of a run that isn't prompt has this index. Event e of request r is due there.
pub record IsFirstLate (s : Setup) (es : List Event) (index r : ℕ) (e : Event) : Type 0 where
  pub from : ℕ
  pub prompt : IsPromptFrom (start s) 0 (take index es) from
  pub due : IsDue (moment s es index) from r e
  pub late : Event
  pub there : slice_get es index ≡ Some late
  pub other : late ≡ e → ⊥
