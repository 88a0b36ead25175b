use Rattle.machine.proofs.Common.{◌∙◌, ap, sym, subst, WellFormed, Machine}
use Rattle.machine.proofs.{Formed.formed_woken, Formed.woken_threads, Formed.shown_threads, InstructionLemmas.there_still, InstructionLemmas.can_advance_still}
use Rattle.machine.proofs.whole.Machine.enter_with_poller.Goals as goal

pub flush_on_getevents-requires : goal.flush_on_getevents-requires
flush_on_getevents-requires c = record { formed = subst WellFormed (sym c.in_ok-wake.ensures.ok) (formed_woken c.args.self.now c.args.flags c.requires.formed) }

pub answer_or_wait-requires-clause-there : goal.answer_or_wait-requires-clause-there
answer_or_wait-requires-clause-there c =
    let same = ap (λ (m : Machine). m.threads) c.in_ok-flush_on_getevents.ensures.ok ∙ shown_threads c.wake.new.self c.args.flags ∙ ap (λ (m : Machine). m.threads) c.in_ok-wake.ensures.ok ∙ woken_threads c.args.self.now c.args.flags in
    there_still c.args.self.now c.flush_on_getevents.new.self c.args.t _ same c.requires.next

pub answer_or_wait-requires-clause-can_advance : goal.answer_or_wait-requires-clause-can_advance
answer_or_wait-requires-clause-can_advance c =
    let same = ap (λ (m : Machine). m.threads) c.in_ok-flush_on_getevents.ensures.ok ∙ shown_threads c.wake.new.self c.args.flags ∙ ap (λ (m : Machine). m.threads) c.in_ok-wake.ensures.ok ∙ woken_threads c.args.self.now c.args.flags in
    can_advance_still c.args.self.now c.flush_on_getevents.new.self c.args.t same c.requires.formed
