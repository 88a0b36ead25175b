use Rattle.std.proofs.Common.{sym, arith}
use Rattle.prompt_order.proofs.Dues.{row_there, quiet_before, quiet_with, none_in}
use Rattle.prompt_order.proofs.due.first_in.Goals as goal

pub returns-in-Some-prompt_event-clause-some : goal.returns-in-Some-prompt_event-clause-some
returns-in-Some-prompt_event-clause-some c =
    let next = c.in-Some.ensures.some in
    record {
      within = omega (arith, next.after, c.rows.invariant.within);
      event = sym c.in-Some-prompt_event.ensures;
      first = quiet_before c.args.turn c.args.state.now c.args.from c.rows.next c.in-Some.row c.rows.invariant.quiet next;
    }

pub rows-smaller : goal.rows-smaller
rows-smaller c =
    let next = c.in-Some.ensures.some in
    let there = row_there c.args.state.now c.rows.next c.in-Some.row next in
    omega (arith, there, next.after)

pub rows-preserved : goal.rows-preserved
rows-preserved c =
    let m = c.args.state.now in
    let next = c.in-Some.ensures.some in
    let before = quiet_before c.args.turn m c.args.from c.rows.next c.in-Some.row c.rows.invariant.quiet next in
    record {
      within = omega (arith, next.after, c.rows.invariant.within);
      quiet = quiet_with c.args.turn m c.args.from c.in-Some.row before (sym c.in_default-prompt_event.ensures);
    }

pub returns-clause-none : goal.returns-clause-none
returns-clause-none c = none_in c.args.turn c.args.state.now c.args.from c.rows.next c.rows.invariant.quiet c.in_default.ensures.none
