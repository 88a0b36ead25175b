use Rattle.std.proofs.Common.{◌≡◌, ◌+◌, ◌++◌, ◌≤◌, length}
use Rattle.std.specs.Vec.Iter.{into_iter_items}
use Rattle.live_runner.specs.History.{receipt_count, all_receipts}
use Rattle.live_runner.proofs.finishing.give_all_back.Given as goal

abbrev pub invariant-loop-worker : goal.invariant-loop-worker
invariant-loop-worker g l =
    let rest = into_iter_items l.worker-iterator in
    (l.closing.run ≡ l.fn.closing.run)
    × (l.closing.amount + receipt_count rest ≡ l.fn.closing.amount + receipt_count l.fn.workers.items)
    × (l.closing.lists ++ all_receipts rest ≡ all_receipts l.fn.workers.items)
    × (length l.closing.lists + length rest ≤ l.fn.closing.run.actors)
