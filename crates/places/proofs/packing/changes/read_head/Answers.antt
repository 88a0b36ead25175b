use Rattle.std.proofs.Common.{◌∙◌, ap}
use Rattle.compact_size.specs.CompactSizes.{word_of}
use Rattle.places.proofs.HeadLemmas.{head_read}
use Rattle.places.proofs.packing.changes.read_head.Goals as goal

pub returns-clause-value : goal.returns-clause-value
returns-clause-value c = head_read _ _ _ c.number-head.ensures.value (c.word-index.ensures.value ∙ ap word_of c.number-head.ensures.left)
