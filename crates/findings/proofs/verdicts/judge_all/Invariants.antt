use Rattle.findings.proofs.Common.{◌≡◌, ◌++◌, take, drop, map, has_byte_of, judged, is_marked}
use Rattle.findings.proofs.verdicts.judge_all.Given as goal

abbrev pub invariant-loop-finding : goal.invariant-loop-finding
invariant-loop-finding l = l.found ≡ map (judged (has_byte_of (is_marked l.sets) l.writes)) (take l.finding-index l.fn.found) ++ drop l.finding-index l.fn.found
