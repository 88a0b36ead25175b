use Rattle.std.proofs.Common.{◌/◌}
use Rattle.model_files.proofs.Paging.{Marking}
use Rattle.model_files.proofs.pages.Pages.mark.Given as goal

abbrev pub invariant-loop-page : goal.invariant-loop-page
invariant-loop-page l = Marking l.fn.self.marks l.self.marks (l.at / 4096) l.page
