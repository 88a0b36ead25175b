use Rattle.timeouts_cancel.proofs.Common.{◌∙◌, sym, ap, List, [], Ending, result_in, joined}
use Rattle.timeouts_cancel.proofs.Listed.{joined_none, nothing_in}
use Rattle.timeouts_cancel.proofs.merging.add.Goals as goal

pub returns-then-is_empty : goal.returns-then-is_empty
returns-then-is_empty c =
    let f = c.requires.first in
    let none = nothing_in c.args.others.now (sym c.is_empty.ensures ∙ c.if-is_empty.true) in
    f.1 ∙ sym (ap (λ (es : List Ending). joined c.args.table.now (λ r row. result_in es r) c.args.first.items) none ∙ ap (λ (es : List Ending). joined c.args.table.now (λ r row. result_in [] r) es) f.1 ∙ joined_none f.0 c.args.table.now)
