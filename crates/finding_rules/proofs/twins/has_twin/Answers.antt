use Rattle.finding_rules.proofs.Common.{sym, ◌∙◌, arith}
use Rattle.finding_rules.proofs.Alike.{twin_found, twin_none, twin_on, twin_past, twins_near}
use Rattle.finding_rules.proofs.twins.has_twin.Goals as goal

pub loop-other-init : goal.loop-other-init
loop-other-init c =
    (twins_near c.args.state.now.table c.args.number c.args.row.now.entry.user_data c.saturating_sub-from.result (omega (arith, c.saturating_sub-from.ensures)), omega (arith, c.saturating_sub-from.ensures))

pub returns-then-other-number : goal.returns-then-other-number
returns-then-other-number c = sym (twin_past c.args.state.now.table c.args.number c.loop-other.from c.in-Some.other c.args.row.now c.loop-other.invariant.0 c.in-Some.ensures.some c.if-other-number.true)

pub returns-then-has_user_data : goal.returns-then-has_user_data
returns-then-has_user_data c = sym (twin_found c.args.state.now.table c.args.number c.loop-other.from c.in-Some.other c.args.row.now c.in-Some.ensures.some c.if-other-number.false c.loop-other.invariant.1 c.if-row-eq0.false (sym c.has_user_data.ensures ∙ c.if-has_user_data.true))

pub loop-other-preserved : goal.loop-other-preserved
loop-other-preserved c =
    (twin_on c.args.state.now.table c.args.number c.args.row.now.entry.user_data c.loop-other.from c.in-Some.other c.loop-other.invariant.0 c.in-Some.ensures.some (sym c.has_user_data.ensures ∙ c.if-has_user_data.false), omega (arith, c.loop-other.invariant.1, c.in-Some.ensures.some.after))

pub returns : goal.returns
returns c = sym (twin_none c.args.state.now.table c.args.number c.loop-other.from c.args.row.now c.loop-other.invariant.0 c.in_default.ensures.none)
