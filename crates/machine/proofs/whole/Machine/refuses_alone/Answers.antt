use Rattle.std.proofs.Common.{◌∙◌, sym}
use Rattle.machine.proofs.EnterLemmas.{alone_refused, busy_refused}
use Rattle.machine.proofs.whole.Machine.refuses_alone.Goals as goal

pub returns-then-stays_busy : goal.returns-then-stays_busy
returns-then-stays_busy c flags = busy_refused c.args.self.now c.args.to_submit flags (sym c.stays_busy.ensures ∙ c.if-stays_busy.true)

pub returns-else-stays_busy : goal.returns-else-stays_busy
returns-else-stays_busy c flags = c.refuses_submission.ensures ∙ alone_refused c.args.self.now c.args.to_submit flags (sym c.stays_busy.ensures ∙ c.if-stays_busy.false)
