use Rattle.std.proofs.Common.{◌≡◌, ◌∙◌, ◌+◌, ◌-◌, ◌++◌, ◌∷◌, [], Some, sym, ap, drop, w32, FitsSigned, rules, arith}
use Rattle.links_drains.proofs.Common.{append-nil, take_all, length-drop, slice_get_past, slice_get_within, option_and_then, Option, ℤ, direct_result, endings_from, error_at, to_z-of_z}
use Rattle.links_drains.proofs.{Chains.chain_before, FailingRows.many, FailingRows.row_in, FailingRows.ends_more, FailingRows.direct_none, failing.direct_ends.Goals.in-Some+in_ok-push, failing.direct_ends.Goals.in_default}
use Rattle.links_drains.proofs.failing.direct_ends.Goals as goal

pub returns-then-is_empty : goal.returns-then-is_empty
returns-then-is_empty c = λ w es o.
    c.new.ensures.items
    ∙ sym (direct_none w c.args.first es (λ i. sym (o.each i) ∙ ap (option_and_then (λ (x : Option ℤ). x)) (slice_get_past c.args.errors.now i (search rules))))

pub overflow_sub-row : goal.overflow_sub-row
overflow_sub-row c =
    let o = c.requires.batch in
    let row = row_in o.0 o.1 c.args.first c.args.rows.now c.args.errors.now c.loop-i.i c.index-row.result.now o.2 (omega (arith, c.len.ensures, c.loop-i-test.true)) c.index-row.ensures in
    omega (arith, row.1)

pub index-chain_fails-requires : goal.index-chain_fails-requires
index-chain_fails-requires c =
    let o = c.requires.batch in
    let row = row_in o.0 o.1 c.args.first c.args.rows.now c.args.errors.now c.loop-i.i c.index-row.result.now o.2 (omega (arith, c.len.ensures, c.loop-i-test.true)) c.index-row.ensures in
    rw c.in_ok-failing.failing.ok.0
    (slice_get_within c.in_ok-failing.failing.items _ _ (c.in_ok-failing.ensures o.0 o.1 o.2 (c.index-row.result.now.unit - c.args.first)
    (omega (arith, row.1, chain_before o.1 c.loop-i.i, many o.0 c.args.first o.1 c.args.rows.now o.2.batch, c.len.ensures, c.loop-i-test.true))))

pub loop-i-preserved : goal.loop-i-preserved
loop-i-preserved c = λ w es o.
    let row = row_in w es c.args.first c.args.rows.now c.args.errors.now c.loop-i.i c.index-row.result.now o (omega (arith, c.len.ensures, c.loop-i-test.true)) c.index-row.ensures in
    let error : c.error_of.result ≡ error_at w es c.loop-i.i = c.error_of.ensures ∙ o.each c.loop-i.i in
    elim c.match-result_at_once.branch [
      | in-Some+in_ok-push v ↦
          let fits : FitsSigned w32 v.in-Some.res = search rules in
          ap (λ x. x.items) v.direct-is ∙ v.in_ok-push.ensures.items
          ∙ ap (λ z. c.loop-i.direct.items ++ (c.args.first + c.loop-i.i, z) ∷ []) (to_z-of_z w32 v.in-Some.res fits)
          ∙ ap (λ xs. xs ++ (c.args.first + c.loop-i.i, v.in-Some.res) ∷ []) (c.loop-i.invariant w es o)
          ∙ sym (ends_more w c.args.first es (drop c.args.first c.args.rows.now) c.loop-i.i c.index-row.result.now c.in_ok-failing.failing.items c.index-chain_fails.result.now _ c.result_at_once.result (Some v.in-Some.res) o.batch row.0 row.1
          (c.in_ok-failing.ensures w es o) c.index-chain_fails.ensures (rw (← error) c.result_at_once.ensures) v.in-Some.is)
      | in_default v ↦
          ap (λ x. x.items) v.direct-is ∙ c.loop-i.invariant w es o ∙ sym (append-nil _)
          ∙ sym (ends_more w c.args.first es (drop c.args.first c.args.rows.now) c.loop-i.i c.index-row.result.now c.in_ok-failing.failing.items c.index-chain_fails.result.now _ c.result_at_once.result _ o.batch row.0 row.1
          (c.in_ok-failing.ensures w es o) c.index-chain_fails.ensures (rw (← error) c.result_at_once.ensures) v.in_default.is)
    ]

pub returns : goal.returns
returns c = λ w es o.
    c.loop-i.invariant w es o
    ∙ ap (λ xs. endings_from (λ r row. direct_result w es (r - c.args.first)) c.args.first xs)
    (take_all c.loop-i.i (drop c.args.first c.args.rows.now) (omega (arith, length-drop c.args.first c.args.rows.now, c.len.ensures, c.loop-i-test.false)) ∙ o.batch)
