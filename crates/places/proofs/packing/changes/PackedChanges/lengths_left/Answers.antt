use Rattle.std.proofs.Common.{◌∙◌, ap}
use Rattle.std.specs.Prelude.{None}
use Rattle.places.specs.declared.listed.Listed.TheVariants.{Requests, Overflowed}
use Rattle.places.specs.Notes.{after_change}
use Rattle.places.proofs.HeadLemmas.{left_absent, left_was_there}
use Rattle.places.proofs.packing.changes.PackedChanges.lengths_left.Goals as goal

pub loop-head-preserved : goal.loop-head-preserved
loop-head-preserved c = record {
  rows = left_was_there _ _ _ c.in-Some.ensures Requests _ c.if-not-head.false ∙ c.loop-head.invariant.rows;
  backlog = left_was_there _ _ _ c.in-Some.ensures Overflowed _ c.if-not-head.false ∙ c.loop-head.invariant.backlog;
}

pub loop-head-preserved-then-not-head : goal.loop-head-preserved-then-not-head
loop-head-preserved-then-not-head c = record {
  rows = left_absent _ _ _ c.in-Some.ensures Requests _ _ c.if-not-head.true (c.left_without-rows_left.ensures ∙ ap (λ p. after_change Requests p None c.loop-head.rows_left) c.place_of-place.ensures) ∙ c.loop-head.invariant.rows;
  backlog = left_absent _ _ _ c.in-Some.ensures Overflowed _ _ c.if-not-head.true (c.left_without-backlog_left.ensures ∙ ap (λ p. after_change Overflowed p None c.loop-head.backlog_left) c.place_of-place.ensures) ∙ c.loop-head.invariant.backlog;
}
