use Rattle.findings.proofs.Common.{◌*◌, length}
use Rattle.findings.proofs.Marks.{AgreeOutside, members}
use Rattle.findings.proofs.suspects.forget.Given as goal

abbrev pub invariant-loop-byte : goal.invariant-loop-byte
invariant-loop-byte l = AgreeOutside l.first l.count l.fn.bytes l.bytes

abbrev pub decreases-loop-byte : goal.decreases-loop-byte
decreases-loop-byte l = members l.bytes (64 * length l.bytes)
