use Rattle.links_drains.proofs.Common.{◌∙◌, get_or_from_slice_get, is_open}
use Rattle.links_drains.proofs.Indexing.{tied}
use Rattle.links_drains.proofs.index.Index.change.Goals as goal

pub update-requires-clause-unfinished : goal.update-requires-clause-unfinished
update-requires-clause-unfinished c =
    let but = c.requires.but in
    tied is_open c.args.rows.now c.args.r c.index.result.now but.0 c.is_unfinished.result c.args.self.now.unfinished c.write.new.self (c.index.ensures ∙ get_or_from_slice_get c.args.rows.now c.args.r but.0 c.index.result.now but.1) but.1
    c.is_unfinished.ensures but.2.unfinished c.write.ensures.has
