use Rattle.timeouts_cancel.proofs.Common.{◌∙◌, arith, [], false, pos, refl, sym, slice_get-get_or, slice_index_or, Ending}
use Rattle.timeouts_cancel.proofs.Targets.{guarded_all, guarded_next, listed_within}
use Rattle.timeouts_cancel.proofs.guards.guards_any.Goals as goal

pub is_guarded-requires : goal.is_guarded-requires
is_guarded-requires c =
    let e : Ending = slice_index_or c.args.listed.now c.loop-at.at (0, pos 0) in
    let there = slice_get-get_or c.args.listed.now c.loop-at.at (0, pos 0) c.loop-at-test.true in
    let few = c.requires.few in
    omega (arith, few, listed_within c.args.table.now c.args.listed.now c.loop-at.at e c.requires.listed there)

pub loop-at-preserved : goal.loop-at-preserved
loop-at-preserved c =
    let e : Ending = slice_index_or c.args.listed.now c.loop-at.at (0, pos 0) in
    let there = slice_get-get_or c.args.listed.now c.loop-at.at (0, pos 0) c.loop-at-test.true in
    guarded_next c.args.table.now c.args.listed.now c.loop-at.at [] [] e false c.requires.guards c.requires.listed c.loop-at.invariant there (sym c.if-is_guarded.false ∙ c.is_guarded.ensures) refl

pub returns : goal.returns
returns c = λ none. sym (guarded_all c.args.table.now c.args.listed.now c.loop-at.at [] c.requires.guards c.loop-at.invariant c.loop-at-test.false)
