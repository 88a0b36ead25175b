use Rattle.std.proofs.Common.{◌≡◌, ◌+◌, [], vec_len}
use Rattle.std.specs.Prelude.{All}
use Rattle.live_states.specs.History.{Held, InOrder}
use Rattle.live_states.proofs.lives.seats_of.Given as goal

abbrev pub invariant-loop-actor : goal.invariant-loop-actor
invariant-loop-actor g l = (l.rest.parts + l.actor ≡ l.count) × (l.rest.amount ≡ 0) × (vec_len l.seats ≡ l.actor) × InOrder l.seats.items × All (λ (s : Held). s.receipts ≡ []) l.seats.items
