use Rattle.std.proofs.Common.{◌≡◌, ◌≤◌, ◌*◌, length}
use Rattle.links_drains.proofs.finder.Finder.make_marks.Given as goal

abbrev pub invariant-loop-block : goal.invariant-loop-block
invariant-loop-block l = record { room : 64 * l.block ≤ 64 * length l.self.holding; last : l.self.last ≡ l.initial.self.last; previous : l.self.previous ≡ l.initial.self.previous }
