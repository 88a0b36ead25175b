use Rattle.links_drains.proofs.Common.{◌∙◌, ap, ℕ, ℤ, pos, slice_index_or, w32, FitsSigned, rules, arith, slice_get-get_or, Row, Ended, updated, to_z-of_z}
use Rattle.links_drains.proofs.EndingRows.{ending_on, ending_done}
use Rattle.links_drains.proofs.table.Table.end_all.Goals as goal

pub loop-i-preserved : goal.loop-i-preserved
loop-i-preserved c =
    let p : ℕ × ℤ = slice_index_or c.args.ended.now c.loop-i.i (0, pos 0) in
    let fits : FitsSigned w32 p.1 = search rules in
    let e = c.set_phase.ensures in
    ending_on c.args.self.now c.loop-i.self c.set_phase.new.self c.args.notes.now c.loop-i.notes c.set_phase.new.notes c.args.ended.now c.loop-i.i p c.loop-i.invariant c.requires (slice_get-get_or c.args.ended.now c.loop-i.i (0, pos 0) c.loop-i-test.true)
    (c.in_ok-set_phase.ensures.ok ∙ ap (λ z. updated (λ (row : Row). record row { phase = Ended z }) c.loop-i.self p.0) (to_z-of_z w32 p.1 fits)) e.len e.stay e.keeps e.numbers e.completions e.others

pub returns-clause-ok : goal.returns-clause-ok
returns-clause-ok c = ending_done c.args.self.now c.loop-i.self c.args.notes.now c.loop-i.notes c.args.ended.now c.loop-i.i c.loop-i.invariant (let l = c.loop-i-test.false in omega (arith, l))
