use Rattle.machine.proofs.GuardLemmas.{guards_follow}
use Rattle.machine.proofs.whole.Machine.refuses_issue.Goals as goal

pub eligible-requires : goal.eligible-requires
eligible-requires c = record { guards = guards_follow c.args.self.now c.requires.formed }
