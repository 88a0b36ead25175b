use Rattle.std.proofs.Common.{rules, ◌≡◌, Option, Some, None, Bool, true, false, ap, ◌∙◌, sym, arith, length, ℕ, if◌then◌else◌}
use Rattle.machine.specs.Deadlines.{deadline_at}
use Rattle.live_rules.specs.declared.offering.Action.TheVariants.{Finishing, Expiring}
use Rattle.live_rules.specs.Least.{smaller_of, least_value, least, or_else}
use Rattle.live_rules.specs.Offers.{may_do, on_row, ticks_to}
use Rattle.live_rules.specs.Passing.{is_reached}
use Rattle.live_rules.proofs.EndedRows.{below_within, none_finishing, none_due_yet, no_deadline_yet}
use Rattle.live_rules.proofs.Ends.{expires_reached, finish_ends, rest_ends}
use Rattle.live_rules.proofs.Leasts.{least_some, least_none, least_same, least_next, before_next, none_left, past_next, least_value_same, least_value_next}
use Rattle.live_rules.proofs.Rows.{next_to_finish, next_to_expire, none_to_finish, none_to_expire, none_due, none_due_before}
use Rattle.live_rules.proofs.offering.ends.Goals as goal

pub rows-init : goal.rows-init
rows-init c =
    let m = c.args.state.now in
    record {
      within = below_within m.table c.args.first c.requires.ended;
      none = none_finishing m c.args.first c.requires.ended;
      due = none_due_yet m c.args.first c.requires.ended;
      so_far = no_deadline_yet m c.args.first c.requires.ended;
    }

pub returns-then-may_finish : goal.returns-then-may_finish
returns-then-may_finish c =
    let m = c.args.state.now in
    let next = next_to_finish m c.rows.from c.in-Some.r c.in-Some.ensures.some in
    let here : may_do m Finishing c.in-Some.r ≡ true = search rules in
    let found = least_some (may_do m Finishing) (length m.table) c.in-Some.r next.within here (before_next (may_do m Finishing) (length m.table) c.rows.from c.in-Some.r c.rows.invariant.none next) in
    ap Some c.event_on.ensures ∙ finish_ends m c.in-Some.r found

pub rows-preserved : goal.rows-preserved
rows-preserved c =
    let m = c.args.state.now in
    let some = c.in-Some.ensures.some in
    let next = next_to_finish m c.rows.from c.in-Some.r some in
    let expires = next_to_expire m c.rows.from c.in-Some.r some in
    let here : may_do m Finishing c.in-Some.r ≡ false = search rules in
    let reached : is_reached c.clock-clock.result c.deadline-deadline.result ≡ may_do m Expiring c.in-Some.r =
    ap (λ (n : ℕ). is_reached n c.deadline-deadline.result) c.clock-clock.ensures.value ∙ ap (λ (o : Option ℕ). is_reached m.clock o) c.deadline-deadline.ensures ∙ sym (expires_reached m c.in-Some.r c.clock-clock.ensures.formed) in
    record {
      within = omega (arith, next.within);
      none = past_next (may_do m Finishing) (length m.table) c.rows.from c.in-Some.r c.rows.invariant.none next here;
      due = c.first_due-due.ensures ∙ ap (λ (o : Option ℕ). or_else o (if is_reached c.clock-clock.result c.deadline-deadline.result then Some c.in-Some.r else None)) c.rows.invariant.due
          ∙ ap (λ (b : Bool). or_else (least (may_do m Expiring) c.rows.from) (if b then Some c.in-Some.r else None)) reached
          ∙ sym (least_next (may_do m Expiring) c.rows.from c.in-Some.r expires.after expires.least);
      so_far = c.smaller_of-least.ensures ∙ ap (λ o. smaller_of o c.deadline-deadline.result) c.rows.invariant.so_far ∙ ap (λ o. smaller_of (least_value (deadline_at m.table) c.rows.from) o) c.deadline-deadline.ensures
          ∙ sym (least_value_next (deadline_at m.table) c.rows.from c.in-Some.r next.after (none_due_before m.table c.rows.from c.in-Some.r some));
    }

pub rows-smaller : goal.rows-smaller
rows-smaller c =
    let next = next_to_finish c.args.state.now c.rows.from c.in-Some.r c.in-Some.ensures.some in
    omega (arith, next.within, next.after)

pub returns : goal.returns
returns c =
    let m = c.args.state.now in
    let none = c.in_default.ensures.none in
    let rows = c.rows.invariant in
    c.expires_or_ticks.ensures ∙ ap (λ (n : ℕ). or_else (on_row Expiring c.rows.due) (ticks_to n c.rows.least)) c.clock-clock.ensures.value ∙ rest_ends m c.rows.due c.rows.least
    (least_none (may_do m Finishing) (length m.table) (λ k h. none_left (may_do m Finishing) c.rows.from rows.none (none_to_finish m c.rows.from none) k))
    (rows.due ∙ sym (least_same (may_do m Expiring) c.rows.from (length m.table) rows.within (λ k low high. none_to_expire m c.rows.from none k low)))
    (rows.so_far ∙ sym (least_value_same (deadline_at m.table) c.rows.from (length m.table) rows.within (λ k low high. none_due m.table c.rows.from none k low)))
