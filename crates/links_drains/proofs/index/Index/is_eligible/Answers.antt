use Rattle.links_drains.proofs.Common.{refl, sym, inl, length, arith, slice_get_read}
use Rattle.links_drains.proofs.Eligibility.{eligible_in_drain, eligible_in_turn, waits_for_least}
use Rattle.links_drains.proofs.index.Index.is_eligible.Goals as goal

pub returns-then-contains : goal.returns-then-contains
returns-then-contains c =
    eligible_in_drain c.args.rows.now c.args.self.now c.requires.indexed c.requires.guards c.args.r c.index-row.result.now (slice_get_read c.args.rows.now (length c.args.rows.now) c.args.r c.index-row.result.now refl (omega arith) c.index-row.ensures) (sym c.if-not-is_queued.ensures) (sym c.if-is_guard.ensures)
    c.is_next.result (sym c.if-contains.ensures) c.is_next.ensures

pub returns-then-is_next : goal.returns-then-is_next
returns-then-is_next c =
    eligible_in_turn c.args.rows.now c.args.self.now c.requires.indexed c.requires.guards c.args.r c.index-row.result.now (slice_get_read c.args.rows.now (length c.args.rows.now) c.args.r c.index-row.result.now refl (omega arith) c.index-row.ensures) (sym c.if-not-is_queued.ensures) (sym c.if-is_guard.ensures)
    c.has_none_below.result (sym c.if-contains.ensures) c.if-is_next.ensures c.has_none_below.ensures

pub returns-else-is_next : goal.returns-else-is_next
returns-else-is_next c =
    let found = c.if-is_next.ensures in
    waits_for_least c.args.rows.now c.args.self.now c.requires.indexed c.requires.guards c.args.r c.index-row.result.now (slice_get_read c.args.rows.now (length c.args.rows.now) c.args.r c.index-row.result.now refl (omega arith) c.index-row.ensures) (sym c.if-not-is_queued.ensures) (sym c.if-is_guard.ensures)
    _ found.0 found.2 found.1 (inl refl)
