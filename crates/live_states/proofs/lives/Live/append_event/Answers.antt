use Rattle.std.proofs.Common.{rules, ◌≡◌, ◌∙◌, ap, refl}
use Rattle.std.specs.Prelude.{Some}
use Rattle.std.proofs.lemmas.Result.{err_from_is_err_and}
use Rattle.inverse_log.proofs.Runs.{why_refused}
use Rattle.machine.specs.Runs.{Link}
use Rattle.machine.specs.Steps.{refusal}
use Rattle.live_states.specs.History.{History}
use Rattle.live_states.specs.Received.{receipt}
use Rattle.live_rules.proofs.EndedRows.{below_after}
use Rattle.live_states.proofs.AppendingLemmas.{appends, counted_more}
use Rattle.live_states.proofs.lives.Live.append_event.Goals as goal

pub returns-in_err-past-clause-refused : goal.returns-in_err-past-clause-refused
returns-in_err-past-clause-refused g c = λ n e.
    let p = err_from_is_err_and c.from_residual.result c.from_residual.ensures.1 in
    let here : refusal c.self.inside.state c.args.event ≡ Some n = ap (λ (h : History). refusal h.state c.args.event) c.self.view_is ∙ e in
    let q = c.in_err-past.ensures.refused n here in
    let a = p.1 in let b = p.2 in
    cc

pub returns-then-is_err-clause-refused : goal.returns-then-is_err-clause-refused
returns-then-is_err-clause-refused g c = λ n e.
    let here : refusal c.self.inside.state c.args.event ≡ Some n = ap (λ (h : History). refusal h.state c.args.event) c.self.view_is ∙ e in
    let a = c.refuses.ensures in
    let b = c.unwrap_or.ensures in
    search rules

pub returns-in_err-past-clause-only_memory : goal.returns-in_err-past-clause-only_memory
returns-in_err-past-clause-only_memory g c =
    let p = err_from_is_err_and c.from_residual.result c.from_residual.ensures.1 in
    let same : refusal c.self.inside.state c.args.event ≡ refusal c.args.self.now.state c.args.event = ap (λ (h : History). refusal h.state c.args.event) c.self.view_is in
    rw (p.1, p.2) (rw (← same) (why_refused (refusal c.self.inside.state c.args.event) _ (λ k e. let q = c.in_err-past.ensures.refused k e in cc) (λ e. c.in_err-past.ensures.only_memory e)))

pub invariant_of-self-2 : goal.invariant_of-self-2
invariant_of-self-2 g c =
    let live = c.self.inside in
    let events = rw c.make_room.ensures.events at c.push_all.ensures.events in
    let owners = rw c.make_room.ensures.owners at c.push_all.ensures.owners in
    let records = rw c.make_room.ensures.records at c.push_all.ensures.records in
    let link : Link live.state c.args.event c.in_ok-past.past c.step.new.self = record { formed = c.in_ok-past.ensures.formed; next = c.in_ok-past.ensures.next; back = c.in_ok-past.ensures.leads_back } in (
      appends live.setup live.actors live.events.items c.push_all.new.events.items live.owners.items c.push_all.new.owners.items live.state c.step.new.self live.book.total c.add.new.self.total live.records.items c.push_all.new.records.items c.seat.inside.actor c.args.event c.in_ok-past.past
          c.self.invariant.0 link (search rules) (search rules) events owners records c.add.ensures.total,
      c.self.invariant.1,
      c.self.invariant.2,
      c.self.invariant.3,
      c.self.invariant.4,
      c.self.invariant.5,
      c.first_open-self-inside.ensures,
    )

pub first_open-self-inside-requires : goal.first_open-self-inside-requires
first_open-self-inside-requires g c = below_after c.self.inside.state c.step.new.self c.args.event c.self.inside.first c.in_ok-past.ensures.next.accepted c.in_ok-past.ensures.next.changed c.self.invariant.6

pub invariant_of-seat-2 : goal.invariant_of-seat-2
invariant_of-seat-2 g c =
    let seat = c.seat.inside in
    let r = receipt seat.actor c.args.moment c.args.event in
    let receipts = rw c.make_room.ensures.receipts at c.push_all.ensures.receipts in
    counted_more seat.actor seat.receipts.items c.push_all.new.receipts.items seat.share.parts c.add.new.share.parts seat.share.amount c.add.new.share.amount r c.seat.invariant refl receipts c.add.ensures.parts c.add.ensures.amount
