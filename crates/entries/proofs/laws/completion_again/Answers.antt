use Rattle.std.proofs.Common.{rules}
use Rattle.entries.specs.Layout.{CompletionFits}
use Rattle.entries.proofs.OneToOne.{same_completion}
use Rattle.entries.proofs.laws.completion_again.Goals as goal

pub returns : goal.returns
returns c =
    let f : CompletionFits c.read.result = search rules in
    let g : CompletionFits c.args.completion = search rules in
    same_completion c.read.result c.args.completion c.write.result f g c.read.ensures c.write.ensures
