-- The kernel thread that polls the submission ring (io_uring_setup(2), IORING_SETUP_SQPOLL).
use Rattle.std.specs.Prelude.{Bool, true, false, Option, Some, None}
use Rattle.places.specs.declared.place.Place.{Place}
use Rattle.places.specs.declared.place.Place.TheVariants.{SubmissionHead, SubmissionTail, SubmissionFlags, SubmissionDropped, Array, Slot, PollerStage}
use Rattle.places.specs.declared.value.Value.{Value}
use Rattle.places.specs.declared.value.Value.TheVariants.{Awake as AwakeValue}
use Rattle.places.specs.View.{View}
use Rattle.ring_words.specs.Rings.{SubWords, with_flag, sub_seen}
use Rattle.ring_words.specs.declared.flag.RingFlag.TheVariants.{NeedWakeup}
use Rattle.sqpoll.specs.declared.poller.Poller.{Poller}
use Rattle.sqpoll.specs.declared.poller.Poller.TheVariants.{Awake, Asleep}

-- Whether the poller is awake, so that it takes entries.
abbrev pub is_awake : Poller → Bool
is_awake Awake = true
is_awake Asleep = false

-- The place of the poller.
abbrev pub poller_owns : Place → Bool
poller_owns PollerStage = true
poller_owns _ = false

-- Its value.
abbrev pub poller_seen : Poller → View
poller_seen p PollerStage = Some (AwakeValue (is_awake p))
poller_seen p _ = None

-- Whether a value can be assigned to it.
abbrev pub poller_can_put : Poller → Place → Option Value → Type 0
poller_can_put p PollerStage (Some (AwakeValue b)) = Unit {0}
poller_can_put p place value = ⊥

-- The poller and the submission ring that has its flag.
pub record Polling : Type 0 where
  pub poller : Poller
  pub submissions : SubWords

abbrev pub polling_of : Poller → SubWords → Polling
polling_of p s = record { poller = p; submissions = s }

-- Their places.
abbrev pub polling_owns : Place → Bool
polling_owns SubmissionHead = true
polling_owns SubmissionTail = true
polling_owns SubmissionFlags = true
polling_owns SubmissionDropped = true
polling_owns (Array i) = true
polling_owns (Slot i) = true
polling_owns PollerStage = true
polling_owns _ = false

-- The values of their places, taken from the part that owns each.
abbrev pub polling_seen : Polling → View
polling_seen x SubmissionHead = sub_seen x.submissions SubmissionHead
polling_seen x SubmissionTail = sub_seen x.submissions SubmissionTail
polling_seen x SubmissionFlags = sub_seen x.submissions SubmissionFlags
polling_seen x SubmissionDropped = sub_seen x.submissions SubmissionDropped
polling_seen x (Array i) = sub_seen x.submissions (Array i)
polling_seen x (Slot i) = sub_seen x.submissions (Slot i)
polling_seen x PollerStage = poller_seen x.poller PollerStage
polling_seen x _ = None

-- Both after the poller falls asleep: IORING_SQ_NEED_WAKEUP is set.
abbrev pub sleeping : Polling → Polling
sleeping x = record { poller = Asleep; submissions = record x.submissions { flags = with_flag x.submissions.flags NeedWakeup true } }

-- Both after the poller is woken: the flag is clear.
abbrev pub woken : Polling → Polling
woken x = record { poller = Awake; submissions = record x.submissions { flags = with_flag x.submissions.flags NeedWakeup false } }
