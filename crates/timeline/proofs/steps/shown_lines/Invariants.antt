use Rattle.timeline.proofs.Common.{◌≡◌, map, take, string_bytes, shown_line}
use Rattle.timeline.proofs.steps.shown_lines.Given as goal

abbrev pub invariant-loop-line : goal.invariant-loop-line
invariant-loop-line l = map (λ text. string_bytes text) l.texts.items ≡ map (λ line. shown_line line.items) (take l.line-index l.lines)
