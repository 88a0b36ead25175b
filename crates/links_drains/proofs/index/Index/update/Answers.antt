use Rattle.links_drains.proofs.Common.{◌≡◌, ◌∙◌, refl, sym, ap, subst, arith, get_or_from_slice_get, slice_get_within, Row, has_count, has_drain_flag, is_issued_row, is_open, IndexedBut}
use Rattle.links_drains.proofs.{Indexing.barriers_kept, Indexing.barriers_written, Indexing.thresholds_written, Indexing.tied, Indexing.updated_index, Units.any_of_has}
use Rattle.links_drains.proofs.index.Index.update.Goals as goal

pub write_threshold-requires : goal.write_threshold-requires
write_threshold-requires c = λ e.
    let but = c.requires.but in
    but.2.counted c.args.r but.0 but.1 (ap has_count (sym (c.index-row.ensures ∙ get_or_from_slice_get c.args.rows.now c.args.r but.0 c.index-row.result.now but.1)) ∙ e)

pub write-requires-then-has_row_of : goal.write-requires-then-has_row_of
write-requires-then-has_row_of c =
    let but = c.requires.but in
    let within = slice_get_within c.args.rows.now c.args.r but.0 but.1 in
    let back = but.2.chained.back c.args.r but.0 but.1 in
    let room = but.2.room.barriers in
    let unit = ap (λ (x : Row). x.unit) (c.index-row.ensures ∙ get_or_from_slice_get c.args.rows.now c.args.r but.0 c.index-row.result.now but.1) in
    omega (arith, unit, within, back, room)

pub returns-then-has_row_of : goal.returns-then-has_row_of
returns-then-has_row_of c =
    let but = c.requires.but in
    let row = c.index-row.result.now in
    let is : row ≡ but.0 = c.index-row.ensures ∙ get_or_from_slice_get c.args.rows.now c.args.r but.0 row but.1 in
    let i : IndexedBut c.args.r row.unit c.args.rows.now c.args.self.now = subst (λ (x : Row). IndexedBut c.args.r x.unit c.args.rows.now c.args.self.now) (sym is) but.2 in
    let drain = sym (any_of_has has_drain_flag c.args.self.now.flagged c.args.rows.now row.unit c.requires.flagged c.has_row_of.result c.has_row_of.ensures) ∙ c.if-has_row_of.true in
    let blocks = any_of_has is_open c.args.self.now.unfinished c.args.rows.now row.unit c.requires.unfinished c.has_row_of-blocks.result c.has_row_of-blocks.ensures in
    updated_index c.args.rows.now c.args.r row.unit c.args.self.now c.write-then-has_row_of.new.self c.write.new.self c.write_threshold.new.thresholds i
    c.write-then-has_row_of.ensures.len c.write.ensures.len c.write_threshold.ensures.len c.requires.unfinished c.requires.flagged
    (barriers_written c.args.rows.now c.args.r row.unit c.has_row_of-blocks.result c.args.self.now c.write-then-has_row_of.new.self i drain blocks c.write-then-has_row_of.ensures.has)
    (tied is_issued_row c.args.rows.now c.args.r row but.0 c.is_issued.result c.args.self.now.issued c.write.new.self is but.1 c.is_issued.ensures i.issued c.write.ensures.has)
    (thresholds_written c.args.rows.now c.args.r row.unit row but.0 c.args.self.now c.write_threshold.new.thresholds i is but.1 c.write_threshold.ensures.at)

pub returns-else-has_row_of : goal.returns-else-has_row_of
returns-else-has_row_of c =
    let but = c.requires.but in
    let row = c.index-row.result.now in
    let is : row ≡ but.0 = c.index-row.ensures ∙ get_or_from_slice_get c.args.rows.now c.args.r but.0 row but.1 in
    let i : IndexedBut c.args.r row.unit c.args.rows.now c.args.self.now = subst (λ (x : Row). IndexedBut c.args.r x.unit c.args.rows.now c.args.self.now) (sym is) but.2 in
    let drain = sym (any_of_has has_drain_flag c.args.self.now.flagged c.args.rows.now row.unit c.requires.flagged c.has_row_of.result c.has_row_of.ensures) ∙ c.if-has_row_of.false in
    updated_index c.args.rows.now c.args.r row.unit c.args.self.now c.args.self.now.barriers c.write.new.self c.write_threshold.new.thresholds i
    refl c.write.ensures.len c.write_threshold.ensures.len c.requires.unfinished c.requires.flagged
    (barriers_kept c.args.rows.now c.args.r row.unit c.args.self.now i drain)
    (tied is_issued_row c.args.rows.now c.args.r row but.0 c.is_issued.result c.args.self.now.issued c.write.new.self is but.1 c.is_issued.ensures i.issued c.write.ensures.has)
    (thresholds_written c.args.rows.now c.args.r row.unit row but.0 c.args.self.now c.write_threshold.new.thresholds i is but.1 c.write_threshold.ensures.at)
