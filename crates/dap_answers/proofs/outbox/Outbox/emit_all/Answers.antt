-- The outboxes between the events.
use Rattle.dap_answers.proofs.outbox.Outbox.emit_all.Goals as goal

pub returns : goal.returns
returns c = record {
  initialized = c.emit_if.new.self;
  is_initialized = c.in_ok-emit_if.ensures;
  continued = c.emit_if_any.new.self;
  is_continued = c.in_ok-emit_if_any.ensures;
  output = c.emit_if_any-2.new.self;
  is_output = c.in_ok-emit_if_any-2.ensures;
  is_stopped = c.in_ok-emit_if_any-3.ensures;
}
