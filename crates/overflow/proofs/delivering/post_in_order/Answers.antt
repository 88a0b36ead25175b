use Rattle.std.proofs.lemmas.Option.{slice_get-get_or}
use Rattle.overflow.proofs.Posting.{posting_room, posting_on}
use Rattle.overflow.proofs.delivering.post_in_order.Goals as goal

pub post-requires-clause-free : goal.post-requires-clause-free
post-requires-clause-free c = posting_room _ _ _ _ _ _ c.loop-completion.invariant c.requires.free c.loop-completion-test.true

pub loop-completion-preserved : goal.loop-completion-preserved
loop-completion-preserved c =
    posting_on _ _ _ _ _ _ _ _ _ c.loop-completion.invariant (slice_get-get_or _ _ _ c.loop-completion-test.true) c.post.ensures.next c.post.ensures.keeps c.post.ensures.named c.post.ensures.spends_numbers c.post.ensures.spends_completions
