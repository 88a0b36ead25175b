use Rattle.links_drains.proofs.Common.{◌≡◌, ◌∙◌, ◌+◌, ◌⊎◌, inl, inr, Bool, true, false, sym, ap, length, cond, arith, is_some, slice_get-get_or, below_more}
use Rattle.links_drains.proofs.{Batching.all_added, Batching.all_taken, Batching.adding_on, Batching.before_stays, Batching.before_stays_on, Batching.count_added, Batching.count_taken, Batching.element_there, Batching.errors_taken, Batching.failure_taken, Batching.listed_on, Batching.next_continues, Batching.rows_on, table.Table.add_rows.Goals.then-not-is_linked, table.Table.add_rows.Goals.else-not-is_linked}
use Rattle.links_drains.proofs.table.Table.add_rows.Goals as goal

-- Only with `submit_all` does the loop continue after an entry that fails.
still : (fails submit_all : Bool) → ((fails ≡ true) × (submit_all ≡ true)) ⊎ (fails ≡ false) → submit_all ≡ false → fails ≡ false
still fails submit_all (inl h) off = let on = h.1 in absurd cc
still fails submit_all (inr h) off = h

pub push-requires-clause-room : goal.push-requires-clause-room
push-requires-clause-room c =
    let below = c.loop-i-test.true in
    let count = count_added c.args.world.now c.args.self.now c.loop-i.self c.args.notes.now c.loop-i.notes c.args.entries.now c.loop-i.i c.loop-i.unit c.loop-i.invariant.adding (omega (arith, below)) in
    let few = c.requires in
    omega (arith, below, count, few)

pub push-requires-clause-continues : goal.push-requires-clause-continues
push-requires-clause-continues c =
    let e = element_there c.args.entries.now c.loop-i.i c.loop-i-test.true in
    next_continues c.loop-i.self c.loop-i.unit c.row_at-error.result.0 c.loop-i.invariant.adding.last (ap (λ row. row.unit) (c.row_at-error.ensures.row e.0 e.1))

pub loop-i-preserved : goal.loop-i-preserved
loop-i-preserved c =
    let there = slice_get-get_or c.args.entries.now c.loop-i.i _ c.loop-i-test.true in
    let next : c.if-not-is_linked.unit ≡ cond c.is_linked.result c.loop-i.unit (length c.args.self.now + c.loop-i.i + 1) = elim c.if-not-is_linked.branch [
      | then-not-is_linked v ↦ v.unit-is ∙ ap (λ n. n + c.loop-i.i + 1) c.len-first.ensures.len ∙ sym (ap (λ b. cond b c.loop-i.unit (length c.args.self.now + c.loop-i.i + 1)) v.if-not-is_linked.true)
      | else-not-is_linked v ↦ v.unit-is ∙ sym (ap (λ b. cond b c.loop-i.unit (length c.args.self.now + c.loop-i.i + 1)) v.if-not-is_linked.false)
    ] in
    record {
      adding = adding_on c.args.world.now c.args.self.now c.loop-i.self c.push.new.self c.args.notes.now c.loop-i.notes c.push.new.notes c.args.entries.now c.loop-i.i c.loop-i.unit c.if-not-is_linked.unit _ c.row_at-error.result.0
          c.loop-i.invariant.adding there c.loop-i-test.true (rw (← c.len-first.ensures.len) (c.row_at-error.ensures.row _ there)) c.in_ok-push.ensures.ok
          (next ∙ ap (λ b. cond b c.loop-i.unit (length c.args.self.now + c.loop-i.i + 1)) c.is_linked.ensures)
          c.in_ok-push.ensures.keeps c.in_ok-push.ensures.named c.in_ok-push.ensures.numbers c.in_ok-push.ensures.completions;
      listed = listed_on c.args.world.now c.args.entries.now c.loop-i.i c.row_at-error.result.1 c.loop-i.errors.items c.note_error.new.errors.items c.loop-i.invariant.listed c.row_at-error.ensures.error c.in_ok-note_error.ensures.len c.in_ok-note_error.ensures.each;
      passes = λ off. below_more _ _ (c.loop-i.invariant.passes off) (ap is_some (sym c.row_at-error.ensures.error) ∙ sym c.is_some.ensures ∙ still c.is_some.result c.args.submit_all c.else-is_some.either off);
    }

pub returns-then-not-submit_all-clause-ok : goal.returns-then-not-submit_all-clause-ok
returns-then-not-submit_all-clause-ok c =
    let e = element_there c.args.entries.now c.loop-i.i c.loop-i-test.true in
    let t = failure_taken c.args.world.now c.args.entries.now c.args.submit_all c.loop-i.i _ c.if-not-submit_all.true c.loop-i.invariant.passes c.loop-i-test.true c.row_at-error.ensures.error (sym c.is_some.ensures ∙ c.if-is_some.true) in
    all_added c.args.world.now c.args.self.now c.push.new.self c.args.entries.now _ (c.loop-i.i + 1)
    (rows_on c.args.world.now c.args.self.now c.loop-i.self c.push.new.self c.args.notes.now c.loop-i.notes c.args.entries.now c.loop-i.i c.loop-i.unit e.0 c.row_at-error.result.0 c.loop-i.invariant.adding e.1
    (rw (← c.len-first.ensures.len) (c.row_at-error.ensures.row e.0 e.1)) c.in_ok-push.ensures.ok) t.taken

pub returns-then-not-submit_all-clause-taken : goal.returns-then-not-submit_all-clause-taken
returns-then-not-submit_all-clause-taken c =
    count_taken c.args.world.now c.args.entries.now c.args.submit_all _ _ (failure_taken c.args.world.now c.args.entries.now c.args.submit_all c.loop-i.i _ c.if-not-submit_all.true c.loop-i.invariant.passes c.loop-i-test.true c.row_at-error.ensures.error (sym c.is_some.ensures ∙ c.if-is_some.true))

pub returns-then-not-submit_all-clause-halted : goal.returns-then-not-submit_all-clause-halted
returns-then-not-submit_all-clause-halted c =
    (failure_taken c.args.world.now c.args.entries.now c.args.submit_all c.loop-i.i _ c.if-not-submit_all.true c.loop-i.invariant.passes c.loop-i-test.true c.row_at-error.ensures.error (sym c.is_some.ensures ∙ c.if-is_some.true)).halts

pub returns-then-not-submit_all-clause-errors : goal.returns-then-not-submit_all-clause-errors
returns-then-not-submit_all-clause-errors c =
    let t = failure_taken c.args.world.now c.args.entries.now c.args.submit_all c.loop-i.i _ c.if-not-submit_all.true c.loop-i.invariant.passes c.loop-i-test.true c.row_at-error.ensures.error (sym c.is_some.ensures ∙ c.if-is_some.true) in
    errors_taken c.args.world.now c.args.entries.now _ (c.loop-i.i + 1) c.note_error.new.errors.items
    (listed_on c.args.world.now c.args.entries.now c.loop-i.i c.row_at-error.result.1 c.loop-i.errors.items c.note_error.new.errors.items c.loop-i.invariant.listed c.row_at-error.ensures.error c.in_ok-note_error.ensures.len c.in_ok-note_error.ensures.each) t.taken

pub returns-clause-ok : goal.returns-clause-ok
returns-clause-ok c =
    all_added c.args.world.now c.args.self.now c.loop-i.self c.args.entries.now _ c.loop-i.i c.loop-i.invariant.adding.rows
    (all_taken c.args.world.now c.args.entries.now c.args.submit_all c.loop-i.i (omega (arith, c.loop-i-test.false, c.loop-i.auto.i-end)) c.loop-i.invariant.passes).taken

pub returns-clause-taken : goal.returns-clause-taken
returns-clause-taken c =
    let n = count_taken c.args.world.now c.args.entries.now c.args.submit_all c.loop-i.i _ (all_taken c.args.world.now c.args.entries.now c.args.submit_all c.loop-i.i (omega (arith, c.loop-i-test.false, c.loop-i.auto.i-end)) c.loop-i.invariant.passes) in
    omega (arith, n, c.loop-i-test.false, c.loop-i.auto.i-end)

pub returns-clause-halted : goal.returns-clause-halted
returns-clause-halted c = (all_taken c.args.world.now c.args.entries.now c.args.submit_all c.loop-i.i (omega (arith, c.loop-i-test.false, c.loop-i.auto.i-end)) c.loop-i.invariant.passes).halts

pub returns-clause-errors : goal.returns-clause-errors
returns-clause-errors c =
    errors_taken c.args.world.now c.args.entries.now _ c.loop-i.i c.loop-i.errors.items c.loop-i.invariant.listed
    (all_taken c.args.world.now c.args.entries.now c.args.submit_all c.loop-i.i (omega (arith, c.loop-i-test.false, c.loop-i.auto.i-end)) c.loop-i.invariant.passes).taken

pub returns-in_err-push-clause-before : goal.returns-in_err-push-clause-before
returns-in_err-push-clause-before c = before_stays c.args.self.now c.push.new.self _ (c.in_err-push.ensures.err ∙ c.loop-i.invariant.adding.rows)

pub returns-in_err-note_error-clause-before : goal.returns-in_err-note_error-clause-before
returns-in_err-note_error-clause-before c = before_stays_on c.args.self.now c.loop-i.self c.push.new.self _ c.row_at-error.result.0 c.loop-i.invariant.adding.rows c.in_ok-push.ensures.ok

pub returns-then-not-submit_all-clause-before : goal.returns-then-not-submit_all-clause-before
returns-then-not-submit_all-clause-before c = before_stays_on c.args.self.now c.loop-i.self c.push.new.self _ c.row_at-error.result.0 c.loop-i.invariant.adding.rows c.in_ok-push.ensures.ok

pub returns-clause-before : goal.returns-clause-before
returns-clause-before c = before_stays c.args.self.now c.loop-i.self _ c.loop-i.invariant.adding.rows
