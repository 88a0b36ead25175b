use Rattle.machine.proofs.Common.{◌≡◌, ◌<◌, ◌^◌, sym, subst, ◌∙◌, rules, None, WellFormed, setup_refusal}
use Rattle.machine.proofs.StartLemmas.{formed_start}
use Rattle.machine.proofs.state.State.new.Goals as goal

pub invariant_of-result : goal.invariant_of-result
invariant_of-result c =
    let none : setup_refusal c.args.setup.now ≡ None = sym c.setup_refusal.ensures ∙ c.in_default.is in
    let base : c.args.setup.now.base < 2 ^ 32 = search rules in
    (subst WellFormed (sym c.in-Ok.ensures.start) (formed_start c.args.setup.now none base c.in-Ok.ensures.widths), c.new-in-Ok.ensures)
