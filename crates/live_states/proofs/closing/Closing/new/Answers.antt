use Rattle.std.proofs.Common.{◌∙◌, sym}
use Rattle.live_states.proofs.closing.Closing.new.Goals as goal

pub invariant_of-result : goal.invariant_of-result
invariant_of-result g c = let was = c.live.invariant in (was.0, was.1 ∙ sym was.3, was.4, was.5)

pub returns-clause-run : goal.returns-clause-run
returns-clause-run g c = c.live.view_is
