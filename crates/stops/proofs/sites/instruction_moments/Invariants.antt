use Rattle.std.proofs.Common.{◌≡◌, ◌-◌, ◌≤◌, length}
use Rattle.std.specs.Prelude.{filter, reverse}
use Rattle.std.specs.List.{range_with_len}
use Rattle.places.specs.declared.place.Place.TheVariants.{ProgramCounter}
use Rattle.machine.specs.Whole.{view}
use Rattle.machine.specs.Runs.{moment}
use Rattle.stops.specs.declared.sites.Site.TheVariants.{Instruction}
use Rattle.stops.specs.SiteMoments.{is_next}
use Rattle.stops.proofs.sites.instruction_moments.Given as goal

abbrev pub invariant-loop-moment : goal.invariant-loop-moment
invariant-loop-moment l = record {
  within : l.moment ≤ length l.walker.events;
  counter : l.counter ≡ view (moment l.walker.setup l.walker.events l.moment) (ProgramCounter l.thread);
  found : reverse l.moments.items ≡ filter (is_next l.walker (Instruction l.thread l.index)) (range_with_len l.moment (length l.walker.events - l.moment));
}

abbrev pub decreases-loop-moment : goal.decreases-loop-moment
decreases-loop-moment l = l.moment
