use Rattle.links_drains.proofs.Common.{◌∙◌, get_or_from_slice_get, has_drain_flag, is_open}
use Rattle.links_drains.proofs.Indexing.{tied}
use Rattle.links_drains.proofs.index.Index.enter.Goals as goal

pub update-requires-clause-unfinished : goal.update-requires-clause-unfinished
update-requires-clause-unfinished c =
    tied is_open c.args.rows.now c.args.r c.index-row.result.now c.requires.0 c.is_unfinished.result c.args.self.now.unfinished c.write.new.self (c.index-row.ensures ∙ get_or_from_slice_get c.args.rows.now c.args.r c.requires.0 c.index-row.result.now c.requires.1) c.requires.1
    c.is_unfinished.ensures c.requires.2.unfinished c.write.ensures.has

pub update-requires-clause-flagged : goal.update-requires-clause-flagged
update-requires-clause-flagged c =
    tied has_drain_flag c.args.rows.now c.args.r c.index-row.result.now c.requires.0 c.has_drain_flag.result c.args.self.now.flagged c.write-2.new.self (c.index-row.ensures ∙ get_or_from_slice_get c.args.rows.now c.args.r c.requires.0 c.index-row.result.now c.requires.1) c.requires.1
    c.has_drain_flag.ensures c.requires.2.flagged c.write-2.ensures.has
