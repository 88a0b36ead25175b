use Rattle.std.proofs.Common.{refl}
use Rattle.live_states.proofs.closing.Closing.give_back.Goals as goal

pub returns-clause-lists : goal.returns-clause-lists
returns-clause-lists g c = rw (c.push_reserved.ensures.items, c.from_vec.ensures, ← c.self.view_is, ← c.seat.view_is) refl
