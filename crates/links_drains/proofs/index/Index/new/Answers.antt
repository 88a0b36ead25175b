use Rattle.links_drains.proofs.Indexing.{indexed_empty}
use Rattle.links_drains.proofs.index.Index.new.Goals as goal

pub returns : goal.returns
returns c = indexed_empty _ c.new.ensures c.new-2.ensures c.new-3.ensures c.new-4.ensures c.new-5.ensures
