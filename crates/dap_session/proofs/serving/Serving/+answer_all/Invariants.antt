use Rattle.std.proofs.Common.{length}
use Rattle.dap_session.proofs.serving.Serving.+answer_all.Given as goal

abbrev pub decreases-answer_all : goal.decreases-answer_all
decreases-answer_all g l = length l.bodies.now
