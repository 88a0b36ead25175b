use Rattle.std.proofs.Common.{◌-◌, arith}
use Rattle.timeouts_cancel.proofs.{InTurn.found_none, InTurn.found_step, InTurn.there, MatchByMatch.passed_none, MatchByMatch.passed_on}
use Rattle.timeouts_cancel.proofs.matching.next_with_user.Goals as goal

pub loop-at-init : goal.loop-at-init
loop-at-init c = record {
  passed = passed_none c.args.table.now c.args.key c.args.me c.args.from;
  within = c.end_of_user-end.ensures.within;
  found = found_none c.args.table.now c.args.key c.args.me c.args.user_data c.args.from c.end_of_user-end.result c.requires c.end_of_user-end.ensures.none;
}

pub loop-at-preserved : goal.loop-at-preserved
loop-at-preserved c =
    let next = c.in_ok-r.ensures.some in
    let passed = c.loop-at.invariant.passed in
    let after = passed.after in
    let w = c.loop-at.invariant.within in
    let below = c.end_before-end.ensures.below in
    let row = there c.args.table.now (c.loop-at.end - 1) (omega (arith, w, c.loop-at-test.true)) in
    record {
      passed = passed_on c.args.table.now c.args.key c.args.me c.args.from c.loop-at.at c.in_ok-r.r next.row passed next next.there (c.in_default.ensures.none next.row next.there);
      within = omega (arith, w, below);
      found = found_step c.args.table.now c.args.key c.args.me c.args.user_data c.args.from c.loop-at.end c.end_before-end.result row.0 c.loop-at.least c.or_later-least.result c.requires (omega (arith, after, c.loop-at-test.true)) below c.end_before-end.ensures.none row.1 (c.or_later-least.ensures row.0 row.1) c.loop-at.invariant.found;
    }
