use Rattle.live_states.proofs.lives.push_all.Goals as goal

pub returns-clause-events : goal.returns-clause-events
returns-clause-events c = c.push_reserved.ensures.items

pub returns-clause-receipts : goal.returns-clause-receipts
returns-clause-receipts c = c.push_reserved-4.ensures.items
