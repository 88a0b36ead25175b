use Rattle.run_log.proofs.Common.{◌≡◌, ◌++◌, take, news_text}
use Rattle.run_log.proofs.line.put_news.Given as goal

abbrev pub invariant-loop-changed : goal.invariant-loop-changed
invariant-loop-changed l = l.out.items ≡ l.fn.out.items ++ news_text (take l.changed-index l.row)
