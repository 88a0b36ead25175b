use Rattle.model_files.proofs.Paging.{SyncedUpTo}
use Rattle.model_files.proofs.pages.Pages.sync_into.Given as goal

abbrev pub invariant-loop-page : goal.invariant-loop-page
invariant-loop-page l = SyncedUpTo l.bytes l.fn.durable l.durable l.page
