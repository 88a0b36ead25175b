use Rattle.std.proofs.Common.{◌∙◌, sym, subst}
use Rattle.std.proofs.lemmas.Option.{none-some, same_Some}
use Rattle.live_states.specs.Attempts.{Attempted}
use Rattle.live_states.proofs.lives.Live.take_offer.Goals as goal

pub returns-clause-none : goal.returns-clause-none
returns-clause-none g c =
    let offered = rw (c.offer.ensures, c.actor.ensures) at c.in_ok-event.was in
    (λ none. absurd (none-some _ (sym none)), λ none. absurd (none-some _ (sym none ∙ offered)))

pub returns-clause-attempted : goal.returns-clause-attempted
returns-clause-attempted g c = λ e x offered same.
    let event = rw (c.offer.ensures, c.actor.ensures, offered) at c.in_ok-event.was in
    subst (λ y. Attempted c.args.self.now c.args.seat.now e y c.attempt.new.self c.attempt.new.seat) (same_Some _ _ same)
    (subst (λ y. Attempted c.args.self.now c.args.seat.now y c.attempt.result c.attempt.new.self c.attempt.new.seat) (sym (same_Some _ _ event)) c.attempt.ensures.attempted)
