use Rattle.links_drains.proofs.Common.{◌≡◌, ◌∙◌, ◌+◌, ◌-◌, ◌<◌, sym, ap, subst, length, List, Bool, arith, is_some, error_at}
use Rattle.links_drains.proofs.{Chains.chain_before, FailingRows.FailingTo, FailingRows.many, FailingRows.row_in, FailingRows.failing_none, FailingRows.failing_all, FailingRows.failing_on, FailingRows.failing_at, failing.failing_chains.Goals.then-is_some, failing.failing_chains.Goals.else-is_some}
use Rattle.links_drains.proofs.failing.failing_chains.Goals as goal

pub loop-i-init : goal.loop-i-init
loop-i-init c = λ w es o.
    failing_none w es _ (c.len.result - c.args.first) (ap (λ n. n - c.args.first) c.len.ensures ∙ many w c.args.first es c.args.rows.now o.batch) (c.in_ok-failing.ensures.items_if_clones_equal (λ y e. e))

pub overflow_sub-row : goal.overflow_sub-row
overflow_sub-row c =
    let o = c.requires.batch in
    let row = row_in o.0 o.1 c.args.first c.args.rows.now c.args.errors.now c.loop-i.i c.index-row.result.now o.2 (omega (arith, c.len.ensures, c.loop-i-test.true)) c.index-row.ensures in
    omega (arith, row.1)

pub index_mut-requires : goal.index_mut-requires
index_mut-requires c =
    let o = c.requires.batch in
    let row = row_in o.0 o.1 c.args.first c.args.rows.now c.args.errors.now c.loop-i.i c.index-row.result.now o.2 (omega (arith, c.len.ensures, c.loop-i-test.true)) c.index-row.ensures in
    rw (c.loop-i.failing.ok.0, (c.loop-i.invariant o.0 o.1 o.2).len)
    (omega (arith, row.1, chain_before o.1 c.loop-i.i, many o.0 c.args.first o.1 c.args.rows.now o.2.batch, c.len.ensures, c.loop-i-test.true))

pub loop-i-preserved : goal.loop-i-preserved
loop-i-preserved c = λ w es o.
    let before = c.loop-i.invariant w es o in
    let within : c.loop-i.i < length es = omega (arith, many w c.args.first es c.args.rows.now o.batch, c.len.ensures, c.loop-i-test.true) in
    let row = row_in w es c.args.first c.args.rows.now c.args.errors.now c.loop-i.i c.index-row.result.now o (omega (arith, c.len.ensures, c.loop-i-test.true)) c.index-row.ensures in
    let fails : c.is_some.result ≡ is_some (error_at w es c.loop-i.i) = c.is_some.ensures ∙ ap is_some (c.error_of.ensures ∙ o.each c.loop-i.i) in
    elim c.if-is_some.branch [
      | then-is_some v ↦ subst (λ (xs : List Bool). FailingTo w es (c.loop-i.i + 1) xs) (sym (ap (λ x. x.items) v.failing-is))
          (failing_at w es c.loop-i.i _ c.loop-i.failing.items before within (sym fails ∙ v.if-is_some.true) (omega (arith, row.1)))
      | else-is_some v ↦ subst (λ (xs : List Bool). FailingTo w es (c.loop-i.i + 1) xs) (sym (ap (λ x. x.items) v.failing-is))
          (failing_on w es c.loop-i.i c.loop-i.failing.items before within (sym fails ∙ v.if-is_some.false))
    ]

pub returns : goal.returns
returns c = λ w es o u h.
    failing_all w es c.loop-i.i c.loop-i.failing.items (c.loop-i.invariant w es o) (omega (arith, many w c.args.first es c.args.rows.now o.batch, c.len.ensures, c.loop-i-test.false)) u h
