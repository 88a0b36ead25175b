use Rattle.machine.proofs.Common.{◌≡◌, ◌∙◌, ℕ, ℤ, List, [], sym, subst, arith, eqb-true, Direct}
use Rattle.machine.proofs.{FormedSubmissions.cascades_in, NothingTaken.empty, NothingTaken.only_taken, SubmissionLemmas.accepted_fits}
use Rattle.machine.proofs.whole.Machine.submit.Goals as goal

pub cascade-requires-clause-direct : goal.cascade-requires-clause-direct
cascade-requires-clause-direct c =
    let f = cascades_in c.args.self.now _ c.args.to_submit c.requires.formed (accepted_fits c.args.self.now c.args.to_submit c.requires.accepted) c.in_ok-batch.ensures.ok in
    subst (λ (ds : List (ℕ × ℤ)). Direct c.take.new.self.table ds) (sym (c.deref.ensures.value ∙ c.in_ok-batch.ensures.direct)) f.direct_rows

pub cascade-requires-clause-guards : goal.cascade-requires-clause-guards
cascade-requires-clause-guards c = (cascades_in c.args.self.now _ c.args.to_submit c.requires.formed (accepted_fits c.args.self.now c.args.to_submit c.requires.accepted) c.in_ok-batch.ensures.ok).guards

pub cascade-requires-clause-mostly : goal.cascade-requires-clause-mostly
cascade-requires-clause-mostly c = (cascades_in c.args.self.now _ c.args.to_submit c.requires.formed (accepted_fits c.args.self.now c.args.to_submit c.requires.accepted) c.in_ok-batch.ensures.ok).mostly

pub returns-then-is_empty-clause-ok : goal.returns-then-is_empty-clause-ok
returns-then-is_empty-clause-ok c =
    let direct = c.in_ok-batch.batch.direct in
    let zero = eqb-true direct.len 0 (sym c.is_empty.ensures ∙ c.if-is_empty.true) in
    let len = direct.ok.0 in
    let none : direct.items ≡ [] = empty direct.items (omega (arith, zero, len)) in
    c.in_ok-batch.ensures.ok ∙ sym (only_taken c.args.self.now c.args.to_submit c.requires.formed (sym c.in_ok-batch.ensures.direct ∙ none))
