use Rattle.links_drains.proofs.Common.{refl, sym, ◌∙◌, updated_set, keeps_noted}
use Rattle.links_drains.proofs.{Fixed.fixed_here, Remaining.stay_set, Seen.seen_row}
use Rattle.links_drains.proofs.table.Table.issue.Goals as goal

pub set-requires : goal.set-requires
set-requires c = fixed_here c.args.self.now c.args.r c.row-queued.result c.row-queued.ensures

pub returns-clause-ok : goal.returns-clause-ok
returns-clause-ok c = c.set.ensures ∙ sym (updated_set _ _ _ _ c.row-queued.ensures)

pub returns-clause-keeps : goal.returns-clause-keeps
returns-clause-keeps c = rw (c.set.ensures) (keeps_noted _ _ _ _ _ _ _ refl (rw (c.row-queued.ensures) c.in_ok-note_row.ensures.ok) (seen_row _ _ _ c.requires))

pub returns-clause-stay : goal.returns-clause-stay
returns-clause-stay c = rw (c.set.ensures) (stay_set c.args.self.now c.args.r _ (fixed_here c.args.self.now c.args.r c.row-queued.result c.row-queued.ensures))
