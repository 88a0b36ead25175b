use Rattle.finding_rules.proofs.Common.{◌≡◌, ◌≤◌, Bool, length, Option, Some, false, option_map_or, Row, sym, ap, ◌∙◌, arith, slice_get_none, syncs}
use Rattle.finding_rules.proofs.Looking.{any_here, any_none, none_more}
use Rattle.finding_rules.proofs.unsynced.has_fsync.Goals as goal

passing : (test : Row → Bool) (o : Option Row) (row : Row) (b : Bool) → Some row ≡ o → test row ≡ b → option_map_or test o false ≡ b
passing test o row b e t = ap (λ (x : Option Row). option_map_or test x false) (sym e) ∙ t

pub loop-number-preserved : goal.loop-number-preserved
loop-number-preserved c =
    none_more (syncs c.args.setup.now c.args.object) _ c.loop-number.number c.loop-number.invariant
    (passing (syncs c.args.setup.now c.args.object) _ c.in-Some.row _ c.in-Some.ensures.row (sym c.syncs.ensures ∙ c.if-syncs.false))

pub returns-then-syncs : goal.returns-then-syncs
returns-then-syncs c =
    sym (any_here (syncs c.args.setup.now c.args.object) _ c.loop-number.number (passing (syncs c.args.setup.now c.args.object) _ c.in-Some.row _ c.in-Some.ensures.row (sym c.syncs.ensures ∙ c.if-syncs.true)))

pub returns-in-None : goal.returns-in-None
returns-in-None c =
    sym (any_none (syncs c.args.setup.now c.args.object) _ c.loop-number.number c.loop-number.invariant (slice_get_none _ c.loop-number.number (sym c.in-None.ensures.row)))

pub returns : goal.returns
returns c =
    let l : length c.args.state.now.table ≤ c.loop-number.number = omega (arith, c.row_at-first.ensures.few) in
    sym (any_none (syncs c.args.setup.now c.args.object) _ c.loop-number.number c.loop-number.invariant l)
