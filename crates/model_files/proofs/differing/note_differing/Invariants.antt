use Rattle.std.proofs.Common.{length, ◌-◌}
use Rattle.model_files.proofs.Among.{NotingSpans}
use Rattle.model_files.proofs.differing.note_differing.Given as goal

abbrev pub invariant-loop-span : goal.invariant-loop-span
invariant-loop-span l = NotingSpans l.region l.start l.old l.others l.fn.notes l.notes l.done

abbrev pub decreases-loop-span : goal.decreases-loop-span
decreases-loop-span l = length l.old - l.done
