use Rattle.finding_rules.proofs.Common.{sym, ◌∙◌, is_user}
use Rattle.finding_rules.proofs.{Looking.any_here, Unfinished.none_further, Unfinished.none_on, Unfinished.user_open}
use Rattle.finding_rules.proofs.uses.has_user.Goals as goal

pub loop-number-preserved : goal.loop-number-preserved
loop-number-preserved c =
    none_on (is_user c.args.usage c.args.fd) c.args.state.now.table c.loop-number.from c.in-Some.number (user_open c.args.usage c.args.fd) c.loop-number.invariant c.in-Some.ensures.some (sym c.is_user_at.ensures ∙ c.if-is_user_at.false)

pub returns-then-is_user_at : goal.returns-then-is_user_at
returns-then-is_user_at c = sym (any_here (is_user c.args.usage c.args.fd) c.args.state.now.table c.in-Some.number (sym c.is_user_at.ensures ∙ c.if-is_user_at.true))

pub returns : goal.returns
returns c = sym (none_further (is_user c.args.usage c.args.fd) c.args.state.now.table c.loop-number.from (user_open c.args.usage c.args.fd) c.loop-number.invariant c.in_default.ensures.none)
