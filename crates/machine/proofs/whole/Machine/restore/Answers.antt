use Rattle.machine.proofs.Common.{sym, ◌∙◌, ap, ◌++◌, view, once_front, once_back}
use Rattle.machine.proofs.{Staying.remains, Restored.first_part, Restored.second_part, Restored.third_part, Restored.went_back}
use Rattle.machine.proofs.whole.Machine.restore.Goals as goal

pub overwrite-requires-clause-origin : goal.overwrite-requires-clause-origin
overwrite-requires-clause-origin c =
    rw (c.truncate-2.ensures, c.truncate.ensures)
    (c.requires.0, first_part _ _ _ c.parts-kinds.result.0 c.parts-kinds.result.1.left c.parts-kinds.result.2 c.parts-kinds.ensures.value c.parts-kinds.ensures.once (remains _ _ _ _ _ _ _ c.len.ensures.len c.len-2.ensures.len c.lengths_left-rows.ensures.rows c.lengths_left-rows.ensures.backlog c.requires.1))

pub overwrite-requires-clause-once : goal.overwrite-requires-clause-once
overwrite-requires-clause-once c = once_front _ _ (rw c.parts-kinds.ensures.value at c.parts-kinds.ensures.once)

pub overwrite_bytes-requires-clause-origin : goal.overwrite_bytes-requires-clause-origin
overwrite_bytes-requires-clause-origin c =
    let x = rw (c.truncate-2.ensures, c.truncate.ensures) at c.overwrite.ensures in
    (c.requires.0, second_part _ _ _ c.parts-kinds.result.0 c.parts-kinds.result.1.left c.parts-kinds.result.2 c.parts-kinds.ensures.value c.parts-kinds.ensures.once (remains _ _ _ _ _ _ _ c.len.ensures.len c.len-2.ensures.len c.lengths_left-rows.ensures.rows c.lengths_left-rows.ensures.backlog c.requires.1) _ x)

pub overwrite_bytes-requires-clause-once : goal.overwrite_bytes-requires-clause-once
overwrite_bytes-requires-clause-once c = once_front _ _ (once_back _ _ (rw c.parts-kinds.ensures.value at c.parts-kinds.ensures.once))

pub overwrite-requires-2-clause-origin : goal.overwrite-requires-2-clause-origin
overwrite-requires-2-clause-origin c =
    let x = rw (c.truncate-2.ensures, c.truncate.ensures) at c.overwrite.ensures in
    (c.requires.0, third_part _ _ _ c.parts-kinds.result.0 c.parts-kinds.result.1.left c.parts-kinds.result.2 c.parts-kinds.ensures.value c.parts-kinds.ensures.once (remains _ _ _ _ _ _ _ c.len.ensures.len c.len-2.ensures.len c.lengths_left-rows.ensures.rows c.lengths_left-rows.ensures.backlog c.requires.1) _ _ x c.overwrite_bytes.ensures)

pub overwrite-requires-2-clause-once : goal.overwrite-requires-2-clause-once
overwrite-requires-2-clause-once c =
    once_back c.parts-kinds.result.1.left c.parts-kinds.result.2 (once_back c.parts-kinds.result.0 (c.parts-kinds.result.1.left ++ c.parts-kinds.result.2) (rw c.parts-kinds.ensures.value at c.parts-kinds.ensures.once))

pub returns-clause-back : goal.returns-clause-back
returns-clause-back c s g =
    let x = rw (c.truncate-2.ensures, c.truncate.ensures) at c.overwrite.ensures in
    went_back _ _ _ c.parts-kinds.result.0 c.parts-kinds.result.1.left c.parts-kinds.result.2 c.parts-kinds.ensures.value c.parts-kinds.ensures.once (remains _ _ _ _ _ _ _ c.len.ensures.len c.len-2.ensures.len c.lengths_left-rows.ensures.rows c.lengths_left-rows.ensures.backlog g) _ _ _ x c.overwrite_bytes.ensures c.overwrite-2.ensures

pub returns-clause-undone : goal.returns-clause-undone
returns-clause-undone c p =
    let x = rw (c.truncate-2.ensures, c.truncate.ensures) at c.overwrite.ensures in
    ap (λ m. view m p) (went_back _ _ _ c.parts-kinds.result.0 c.parts-kinds.result.1.left c.parts-kinds.result.2 c.parts-kinds.ensures.value c.parts-kinds.ensures.once (remains _ _ _ _ _ _ _ c.len.ensures.len c.len-2.ensures.len c.lengths_left-rows.ensures.rows c.lengths_left-rows.ensures.backlog c.requires.1) _ _ _ x c.overwrite_bytes.ensures c.overwrite-2.ensures) ∙ sym (c.requires.1.back p)
