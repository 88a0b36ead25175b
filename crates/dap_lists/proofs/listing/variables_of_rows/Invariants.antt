use Rattle.std.proofs.Common.{◌≡◌, map, take}
use Rattle.dap_lists.specs.Listed.{row_variable}
use Rattle.dap_lists.proofs.listing.variables_of_rows.Given as goal

abbrev pub invariant-loop-row : goal.invariant-loop-row
invariant-loop-row l = l.list.items ≡ map (λ row. row_variable l.setup row.now) (take l.row-index l.rows)
