use Rattle.std.proofs.Common.{rules}
use Rattle.places.proofs.Kept.{kept_rest, kept_leaves}
use Rattle.places.proofs.notes.slots.drop_same.Goals as goal

pub returns-clause-kept : goal.returns-clause-kept
returns-clause-kept g c = (kept_rest _ _ _ (λ x b f' k. search rules) _ _ c.retain.ensures.filtered)

pub returns-clause-once : goal.returns-clause-once
returns-clause-once g c once = (kept_leaves (g.A.At.seen c.args.whole.now) _ _ once (kept_rest _ (g.A.At.seen c.args.whole.now) _ (λ x b f' k. search rules) _ _ c.retain.ensures.filtered)).1
