use Rattle.machine.proofs.Common.{◌∙◌, ap, sym, ℕ, ℤ, ◌∷◌, [], ◌++◌, take, pos, slice_index_or, w32, FitsSigned, rules, to_z-of_z, take_more, completion_of, completions_of}
use Rattle.machine.proofs.FormedMachines.{completions_more}
use Rattle.machine.proofs.whole.Machine.completions_of.Goals as goal

pub loop-i-preserved : goal.loop-i-preserved
loop-i-preserved c =
    let rows = c.args.self.now.table in
    let es = c.args.endings.now in
    let p : ℕ × ℤ = slice_index_or es c.loop-i.i (0, pos 0) in
    let fits : FitsSigned w32 p.1 = search rules in
    c.in_ok-push.ensures.items ∙ ap (λ cs. cs ++ c.completion_of.result ∷ []) c.loop-i.invariant
    ∙ completions_more rows (take c.loop-i.i es) p c.row_ref.result.now c.completion_of.result c.row_ref.ensures (c.completion_of.ensures ∙ ap (λ z. completion_of z c.row_ref.result.now) (to_z-of_z w32 p.1 fits))
    ∙ sym (ap (completions_of rows) (take_more es c.loop-i.i (0, pos 0) c.loop-i-test.true))
