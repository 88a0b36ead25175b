use Rattle.std.proofs.Common.{◌∙◌}
use Rattle.commands.proofs.Breaking.{marked, unmarked}
use Rattle.commands.proofs.breaks.mark_of.Goals as goal

pub returns-then-count_marks-eq1-clause-value : goal.returns-then-count_marks-eq1-clause-value
returns-then-count_marks-eq1-clause-value c =
    c.first_mark.ensures.value ∙ marked c.args.words.now c.saturating_sub.result c.count_marks.result c.saturating_sub.ensures c.count_marks.ensures c.if-count_marks-eq1.true

pub returns-else-count_marks-eq1-clause-value : goal.returns-else-count_marks-eq1-clause-value
returns-else-count_marks-eq1-clause-value c =
    unmarked c.args.words.now c.saturating_sub.result c.count_marks.result c.saturating_sub.ensures c.count_marks.ensures c.if-count_marks-eq1.false
