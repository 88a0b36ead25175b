use Rattle.inverse_log.proofs.trail.Trail.records.Goals as goal

pub returns-clause-linked : goal.returns-clause-linked
returns-clause-linked c = rw (← c.self.view_is, c.as_slice.ensures.value) c.self.invariant.linked

pub returns-clause-recorded : goal.returns-clause-recorded
returns-clause-recorded c = rw (← c.self.view_is, c.as_slice.ensures.value) c.self.invariant.recorded
