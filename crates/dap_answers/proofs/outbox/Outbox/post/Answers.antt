-- The outboxes between the responses and the events.
use Rattle.dap_answers.proofs.outbox.Outbox.post.Goals as goal

pub returns-clause-posted : goal.returns-clause-posted
returns-clause-posted c = record {
  first = c.respond_if_any.new.self;
  is_first = c.in_ok-respond_if_any.ensures;
  second = c.respond_if_any-2.new.self;
  is_second = c.in_ok-respond_if_any-2.ensures;
  events = c.in_ok-emit_all.ensures;
}
