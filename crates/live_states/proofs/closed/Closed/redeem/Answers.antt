use Rattle.std.proofs.Common.{rules, refl}
use Rattle.live_states.proofs.ReceiptLemmas.{receipts_are_of}
use Rattle.live_states.proofs.closed.Closed.redeem.Goals as goal

pub returns-else-has-clause-own : goal.returns-else-has-clause-own
returns-else-has-clause-own c = λ a received.
    let has = c.has.ensures.1 (receipts_are_of a c.args.self.now.owners c.args.self.now.events c.args.receipt.now received) in
    absurd (search rules)

pub returns-then-has-clause-some : goal.returns-then-has-clause-some
returns-then-has-clause-some c = (λ e. c.has.ensures.0 c.if-has.true, λ is. refl)

pub returns-then-has-clause-none : goal.returns-then-has-clause-none
returns-then-has-clause-none c = λ some. refl

pub returns-then-has-clause-own : goal.returns-then-has-clause-own
returns-then-has-clause-own c = λ a received. refl
