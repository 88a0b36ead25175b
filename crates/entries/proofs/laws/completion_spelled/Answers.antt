use Rattle.std.proofs.Common.{sym, subst}
use Rattle.entries.specs.Layout.{CompletionLayout}
use Rattle.entries.proofs.OneToOne.{completion_is}
use Rattle.entries.proofs.Writing.{completion_laid}
use Rattle.entries.proofs.laws.completion_spelled.Goals as goal

pub returns : goal.returns
returns c = λ c bytes. (completion_is c bytes, λ h. subst (CompletionLayout c) (sym h) (completion_laid c))
