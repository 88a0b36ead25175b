use Rattle.finding_rules.proofs.Common.{◌≤◌, length, sym, ◌∙◌, arith, slice_get_none}
use Rattle.finding_rules.proofs.Draining.{drains_end, drains_found, drains_other}
use Rattle.finding_rules.proofs.conflicts.drains.Goals as goal

pub returns-then-has_drain_flag : goal.returns-then-has_drain_flag
returns-then-has_drain_flag c =
    sym (drains_found _ c.loop-number.number c.args.unit c.in-Some.row (sym c.in-Some.ensures.row) c.if-row-unit.true (sym c.has_drain_flag.ensures ∙ c.if-has_drain_flag.true))

pub returns-in_default : goal.returns-in_default
returns-in_default c =
    sym (drains_other _ c.args.unit c.loop-number.number c.in-Some.row c.row_at-first.ensures.formed.mostly.table.chained c.loop-number.invariant c.loop-number.auto.number (sym c.in-Some.ensures.row) c.if-row-unit.false)

pub returns-in_default-2 : goal.returns-in_default-2
returns-in_default-2 c =
    sym (drains_end _ c.args.unit c.loop-number.number c.row_at-first.ensures.formed.mostly.table.chained c.loop-number.invariant (slice_get_none _ c.loop-number.number (sym c.in_default.ensures.row)))

pub returns : goal.returns
returns c =
    let l : length c.args.state.now.table ≤ c.loop-number.number = omega (arith, c.row_at-first.ensures.few) in
    sym (drains_end _ c.args.unit c.loop-number.number c.row_at-first.ensures.formed.mostly.table.chained c.loop-number.invariant l)
