use Rattle.std.proofs.Common.{rules, ◌≡◌, true, false, length, sym, arith}
use Rattle.live_rules.specs.declared.offering.Action.TheVariants.{Issuing}
use Rattle.live_rules.specs.Offers.{may_do}
use Rattle.live_rules.proofs.EndedRows.{below_within, none_issuing}
use Rattle.live_rules.proofs.Leasts.{least_some, least_none, before_next, none_left, past_next}
use Rattle.live_rules.proofs.Rows.{next_to_issue, none_to_issue}
use Rattle.live_rules.proofs.offering.least_to_issue.Goals as goal

pub rows-init : goal.rows-init
rows-init c = record { within = below_within c.args.state.now.table c.args.first c.requires.ended; none = none_issuing c.args.state.now c.args.first c.requires.ended }

pub returns-then-may_do : goal.returns-then-may_do
returns-then-may_do c =
    let m = c.args.state.now in
    let next = next_to_issue m c.rows.from c.in-Some.r c.in-Some.ensures.some in
    let here : may_do m Issuing c.in-Some.r ≡ true = search rules in
    sym (least_some (may_do m Issuing) (length m.table) c.in-Some.r next.within here (before_next (may_do m Issuing) (length m.table) c.rows.from c.in-Some.r c.rows.invariant.none next))

pub rows-preserved : goal.rows-preserved
rows-preserved c =
    let m = c.args.state.now in
    let next = next_to_issue m c.rows.from c.in-Some.r c.in-Some.ensures.some in
    let here : may_do m Issuing c.in-Some.r ≡ false = search rules in
    record {
      within = omega (arith, next.within);
      none = past_next (may_do m Issuing) (length m.table) c.rows.from c.in-Some.r c.rows.invariant.none next here;
    }

pub rows-smaller : goal.rows-smaller
rows-smaller c =
    let m = c.args.state.now in
    let next = next_to_issue m c.rows.from c.in-Some.r c.in-Some.ensures.some in
    omega (arith, next.within, next.after)

pub returns : goal.returns
returns c =
    let m = c.args.state.now in
    sym (least_none (may_do m Issuing) (length m.table) (λ k h. none_left (may_do m Issuing) c.rows.from c.rows.invariant.none (none_to_issue m c.rows.from c.in_default.ensures.none) k))
