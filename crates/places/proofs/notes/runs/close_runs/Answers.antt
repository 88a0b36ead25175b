use Rattle.std.proofs.Common.{◌≡◌, ◌∙◌, ℕ, ap, sym, subst, rules, false, Bool, List, length}
use Rattle.std.specs.List.{list_any}
use Rattle.places.specs.declared.value.Change.{Change}
use Rattle.places.specs.Closed.{KeptOf}
use Rattle.places.specs.Masked.{masked, marks_from}
use Rattle.places.specs.Runs.{run_changes}
use Rattle.places.proofs.ByteLemmas.{none_kept}
use Rattle.places.proofs.MaskedLemmas.{length_kept, no_marks, marks_closed, masked_nothing}
use Rattle.places.proofs.notes.runs.close_runs.Goals as goal

pub clear_marks-requires-clause-fits : goal.clear_marks-requires-clause-fits
clear_marks-requires-clause-fits g c = rw (c.deref.ensures.value, c.deref-2.ensures.value) (c.requires.once.once.fits ∙ length_kept c.args.olds.now.items c.args.gone.now.items 0)

pub returns-then-is_any_kept-clause-once : goal.returns-then-is_any_kept-clause-once
returns-then-is_any_kept-clause-once g c = marks_closed (g.A.At.seen c.args.whole.now) c.args.runs.now.items c.args.olds.now.items c.args.gone.now.items c.clear_marks.new.gone.items c.requires.once (rw (c.deref-2.ensures.value) at c.clear_marks.ensures.others) (rw (c.deref.ensures.value, c.deref-2.ensures.value) at c.clear_marks.ensures.kept)

pub returns-clause-once : goal.returns-clause-once
returns-clause-once g c = rw (c.clear.ensures.items, c.clear-2.ensures.items, c.clear-3.ensures.items) masked_nothing

pub returns-clause-kept : goal.returns-clause-kept
returns-clause-kept g c =
    let none : list_any (λ (k : Bool). k) (marks_from c.clear_marks.new.gone.items 0 (length c.args.olds.now.items)) ≡ false = ap (λ (gone : List ℕ). list_any (λ (k : Bool). k) (marks_from gone 0 (length c.args.olds.now.items))) (sym c.deref-3.ensures.value) ∙ ap (λ (n : ℕ). list_any (λ (k : Bool). k) (marks_from c.deref-3.result.now 0 n)) (let l : length c.args.olds.now.items ≡ c.len.result = search rules in l) ∙ sym c.is_any_kept.ensures ∙ c.if-is_any_kept.false in
    let kept : KeptOf (g.A.At.seen c.args.whole.now) (run_changes c.args.runs.now.items (masked c.args.olds.now.items (marks_from c.args.gone.now.items 0 (length c.args.olds.now.items)))) (run_changes c.args.runs.now.items (masked c.args.olds.now.items (marks_from c.clear_marks.new.gone.items 0 (length c.args.olds.now.items)))) = rw (c.deref.ensures.value, c.deref-2.ensures.value) at c.clear_marks.ensures.kept in
    rw (c.clear.ensures.items) (subst (λ (ds : List Change). KeptOf (g.A.At.seen c.args.whole.now) (run_changes c.args.runs.now.items (masked c.args.olds.now.items (marks_from c.args.gone.now.items 0 (length c.args.olds.now.items)))) ds) (none_kept c.args.runs.now.items (masked c.args.olds.now.items (marks_from c.clear_marks.new.gone.items 0 (length c.args.olds.now.items))) (no_marks c.args.olds.now.items (marks_from c.clear_marks.new.gone.items 0 (length c.args.olds.now.items)) none)) kept)
