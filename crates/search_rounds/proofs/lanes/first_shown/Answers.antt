use Rattle.search_rounds.proofs.Joining.{quiet_more}
use Rattle.search_rounds.proofs.lanes.first_shown.Goals as goal

pub loop-number-preserved : goal.loop-number-preserved
loop-number-preserved g c = record {
  ready = c.in_ok-outcome.ensures.ready;
  quiet = quiet_more _ _ _ _ _ _ c.loop-number.invariant.quiet c.record.ensures (record { decides = c.in_ok-outcome.ensures.shows; given = c.in_ok-outcome.ensures.gives }) c.if-outcome.false;
}
