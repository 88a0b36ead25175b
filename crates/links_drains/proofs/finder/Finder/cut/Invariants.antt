use Rattle.links_drains.proofs.Common.{◌≤◌, length, take, Findable}
use Rattle.links_drains.proofs.finder.Finder.cut.Given as goal

abbrev pub invariant-loop-r : goal.invariant-loop-r
invariant-loop-r l = record { above : l.n ≤ l.r; within : l.r ≤ length l.rows; findable : Findable (take l.r l.rows) l.self }

abbrev pub decreases-loop-r : goal.decreases-loop-r
decreases-loop-r l = l.r
