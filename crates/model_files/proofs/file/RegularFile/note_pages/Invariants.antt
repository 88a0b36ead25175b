use Rattle.model_files.proofs.Paging.{NotingPages}
use Rattle.model_files.proofs.file.RegularFile.note_pages.Given as goal

abbrev pub invariant-loop-page : goal.invariant-loop-page
invariant-loop-page l = NotingPages l.object l.self l.fn.notes l.notes l.page
