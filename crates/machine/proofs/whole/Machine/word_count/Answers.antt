use Rattle.machine.proofs.Common.{arith, length-take-le, offered, sub_list}
use Rattle.machine.proofs.FormedRows.{length-entries_at}
use Rattle.machine.proofs.whole.Machine.word_count.Goals as goal

pub returns-else-halted-clause-enough : goal.returns-else-halted-clause-enough
returns-else-halted-clause-enough c =
    let w = c.args.self.now.submissions in
    let n = length-take-le c.args.most (sub_list w) c.requires.offered in
    let l = length-entries_at w.slots (offered w c.args.most) in
    omega (arith, n, l, c.requires.named)
