use Rattle.std.proofs.Common.{arith}
use Rattle.model_files.proofs.PuttingOver.{cut_apart, cut_nothing}
use Rattle.model_files.proofs.pages.Pages.mark_within.Goals as goal

pub returns-then-within-gt0-clause-apart : goal.returns-then-within-gt0-clause-apart
returns-then-within-gt0-clause-apart c page i e lo hi m = cut_apart page i c.args.at c.args.count c.min-from.result c.min-within.result c.min-from.ensures c.min-within.ensures (c.mark.ensures.apart page e) lo hi m

pub returns-else-within-gt0-clause-apart : goal.returns-else-within-gt0-clause-apart
returns-else-within-gt0-clause-apart c page i e lo hi m = cut_nothing i c.args.at c.args.count c.min-from.result c.min-within.result c.min-from.ensures c.min-within.ensures (omega arith) m
