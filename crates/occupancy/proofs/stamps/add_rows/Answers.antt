use Rattle.occupancy.proofs.Common.{◌≡◌, length, true, is_some, Requested, arith, ◌∙◌, rules, new_stamps}
use Rattle.occupancy.proofs.{Counting.within_list, Noting.added_more}
use Rattle.occupancy.proofs.stamps.add_rows.Goals as goal

pub loop-row-preserved : goal.loop-row-preserved
loop-row-preserved c =
    let some : is_some c.value.result ≡ true = search rules in
    let within = within_list Requested c.args.state.now.table c.loop-row.row c.value.result c.value.ensures.value some in
    let from = c.loop-row.auto.row in
    let count = c.len-row.ensures in
    record {
      added = c.in_ok-push.ensures.items ∙ added_more c.args.stamps.now.items c.loop-row.stamps.items (length c.args.stamps.now.items) c.loop-row.row (new_stamps c.args.moment) (omega (arith, from, count)) c.loop-row.invariant.added;
      within = omega (arith, within);
    }

pub returns : goal.returns
returns c = record {
  ok = let few = c.requires.formed.mostly.table.few in let w = c.loop-row.invariant.within in let t = c.loop-row-test.false in let e : c.loop-row.row ≡ length c.args.state.now.table = omega (arith, few, w, t) in rw (← e) c.loop-row.invariant.added;
}
