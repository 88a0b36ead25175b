use Rattle.machine.proofs.Common.{◌∙◌, ap, sym, subst, WellFormed, Machine}
use Rattle.machine.proofs.{Formed.formed_before, Formed.before_threads, Formed.submitted_threads, InstructionLemmas.there_still, InstructionLemmas.can_advance_still, EnterLemmas.busy_answer}
use Rattle.machine.proofs.whole.Machine.enter_without_poller.Goals as goal

pub returns-then-not-is_empty-clause-ok : goal.returns-then-not-is_empty-clause-ok
returns-then-not-is_empty-clause-ok c =
    busy_answer c.answer.result c.args.self.now c.make_way.new.self c.answer.new.self c.args.t c.args.to_submit c.args.min_complete c.args.flags c.in_ok-make_way.ensures.ok c.if-to_submit-gt0.true (sym c.is_empty.ensures ∙ c.if-not-is_empty.true)
    (rw c.from.ensures at c.answer.ensures.ok)

pub submit-requires-clause-formed : goal.submit-requires-clause-formed
submit-requires-clause-formed c = subst WellFormed (sym c.in_ok-make_way.ensures.ok) (formed_before c.args.self.now c.args.to_submit c.args.flags c.requires.formed)

pub answer_or_wait-requires-clause-there : goal.answer_or_wait-requires-clause-there
answer_or_wait-requires-clause-there c =
    let same = ap (λ (m : Machine). m.threads) c.in_ok-taken.ensures.ok ∙ submitted_threads c.make_way.new.self c.args.to_submit ∙ ap (λ (m : Machine). m.threads) c.in_ok-make_way.ensures.ok ∙ before_threads c.args.self.now c.args.to_submit c.args.flags in
    there_still c.args.self.now c.submit.new.self c.args.t _ same c.requires.next

pub answer_or_wait-requires-clause-can_advance : goal.answer_or_wait-requires-clause-can_advance
answer_or_wait-requires-clause-can_advance c =
    let same = ap (λ (m : Machine). m.threads) c.in_ok-taken.ensures.ok ∙ submitted_threads c.make_way.new.self c.args.to_submit ∙ ap (λ (m : Machine). m.threads) c.in_ok-make_way.ensures.ok ∙ before_threads c.args.self.now c.args.to_submit c.args.flags in
    can_advance_still c.args.self.now c.submit.new.self c.args.t same c.requires.formed
