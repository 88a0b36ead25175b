use Rattle.std.proofs.Common.{◌≡◌, ◌++◌, take}
use Rattle.run_log.specs.Lines.{news_text}
use Rattle.dap_lists.proofs.changes.put_news.Given as goal

abbrev pub invariant-loop-changed : goal.invariant-loop-changed
invariant-loop-changed l = l.out.items ≡ l.fn.out.items ++ news_text (take l.changed-index l.row)
