use Rattle.machine.proofs.Common.{◌∙◌, ◌+◌, sym, ap, subst, ℕ, arith, is_some, slice_get-take_below, length-take-le, offered, sub_list}
use Rattle.machine.proofs.{TakingWords.Reading, TakingWords.reading_on, TakingWords.reading_there, whole.Machine.words_up_to.Goals.then-is_some, whole.Machine.words_up_to.Goals.else-is_some}
use Rattle.machine.proofs.whole.Machine.words_up_to.Goals as goal

pub loop-left-preserved : goal.loop-left-preserved
loop-left-preserved c =
    let slots = c.args.self.now.submissions.slots in
    let words = offered c.args.self.now.submissions c.args.most in
    let n = length-take-le c.args.most (sub_list c.args.self.now.submissions) c.requires.offered in
    let l = reading_there slots words c.args.n c.loop-left.count c.loop-left.left c.loop-left.invariant c.loop-left-test.true in
    let there = slice_get-take_below (sub_list c.args.self.now.submissions) c.args.most c.loop-left.count (omega (arith, l, n)) ∙ c.word.ensures in
    elim c.if-is_some.branch [
      | then-is_some w ↦ subst (λ (k : ℕ). Reading slots words c.args.n (c.loop-left.count + 1) k) (sym w.left-is)
          (reading_on slots words c.args.n c.loop-left.count c.loop-left.left c.word.result _ c.loop-left.invariant c.loop-left-test.true there (ap is_some (sym c.entry.ensures) ∙ sym c.is_some.ensures ∙ w.if-is_some.true))
      | else-is_some w ↦ subst (λ (k : ℕ). Reading slots words c.args.n (c.loop-left.count + 1) k) (sym w.left-is)
          (reading_on slots words c.args.n c.loop-left.count c.loop-left.left c.word.result _ c.loop-left.invariant c.loop-left-test.true there (ap is_some (sym c.entry.ensures) ∙ sym c.is_some.ensures ∙ w.if-is_some.false))
    ]
