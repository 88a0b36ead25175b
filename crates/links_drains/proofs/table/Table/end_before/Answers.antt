use Rattle.links_drains.proofs.table.Table.end_before.Goals as goal

pub returns-clause-none : goal.returns-clause-none
returns-clause-none c = rw (← c.self.view_is) c.end_before.ensures.none
