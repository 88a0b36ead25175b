use Rattle.finding_rules.proofs.Common.{◌≤◌, length, sym, ◌∙◌, arith, slice_get_none}
use Rattle.finding_rules.proofs.Barriers.{between_end, between_found, between_more}
use Rattle.finding_rules.proofs.conflicts.is_after_barrier.Goals as goal

pub loop-number-preserved : goal.loop-number-preserved
loop-number-preserved c =
    between_more _ c.args.row.now c.args.before.now c.in-Some.other c.loop-number.number c.loop-number.invariant (sym c.in-Some.ensures.row) (sym c.is_between.ensures ∙ c.if-is_between.false)

pub returns-then-is_between : goal.returns-then-is_between
returns-then-is_between c =
    sym (between_found _ c.args.row.now c.args.before.now c.in-Some.other c.loop-number.number (sym c.in-Some.ensures.row) (sym c.is_between.ensures ∙ c.if-is_between.true))

pub returns-in-None : goal.returns-in-None
returns-in-None c =
    sym (between_end _ c.args.row.now c.args.before.now c.loop-number.number c.row_at-first.ensures.formed.mostly.table.chained c.loop-number.invariant (slice_get_none _ c.loop-number.number (sym c.in-None.ensures.row)))

pub returns : goal.returns
returns c =
    let l : length c.args.state.now.table ≤ c.loop-number.number = omega (arith, c.row_at-first.ensures.few) in
    sym (between_end _ c.args.row.now c.args.before.now c.loop-number.number c.row_at-first.ensures.formed.mostly.table.chained c.loop-number.invariant l)
