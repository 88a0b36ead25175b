use Rattle.source_map.specs.Positions.{IsCursor}
use Rattle.source_map.proofs.cursor.advance.Given as goal

abbrev pub invariant-loop-at : goal.invariant-loop-at
invariant-loop-at l = IsCursor l.text (record { offset = l.at; position = l.position })
