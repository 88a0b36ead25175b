-- What a search saves of the machine before an event.
use Rattle.finding_rules.specs.Common.{Event, Setup, Machine, Before}
use Rattle.finding_rules.specs.{Canceling.cancel_before, Completions.expires_over_ready, Conditions.counter_of, Conditions.done_by, Conditions.overflows, Uses.changes_at}

-- The facts about the machine before an event that the event may change.
abbrev pub facts_before : Setup → Machine → Event → Before
facts_before s m e = record {
  overflows = overflows m;
  counter = counter_of m e;
  changes = changes_at m (done_by s m e);
  cancel = cancel_before m e;
  was_ready = expires_over_ready m e;
}
