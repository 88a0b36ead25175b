use Rattle.std.proofs.Common.{take}
use Rattle.json.specs.Spaced.{IsGap}
use Rattle.source_map.proofs.spelling.gap_length.Given as goal

abbrev pub invariant-loop-i : goal.invariant-loop-i
invariant-loop-i l = IsGap (take l.i l.text)
