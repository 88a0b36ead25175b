use Rattle.std.proofs.Common.{◌≡◌, ℕ, ◌%◌, sym, ◌∙◌, ap, subst}
use Rattle.compact_size.specs.CompactSizes.{number_of}
use Rattle.places.specs.Notes.{ShortensNothing}
use Rattle.places.specs.Packed.{packed}
use Rattle.places.proofs.Left.{kinds_shorten_nothing}
use Rattle.places.proofs.Recording.{notes_packed}
use Rattle.places.proofs.packing.packed.Packed.from_parts.Goals as goal

pub returns : goal.returns
returns c =
    let f = c.in-Some-first_number in
    ap packed (c.in_ok-bytes.ensures ∙ c.deref.ensures.value) ∙ (notes_packed c.args.numbers.now c.args.completions.now c.args.rows.now f.first _ _ _ _ _ c.clear.ensures.items (f.ensures.count ∙ c.in-Some.ensures) c.in_ok-put_number.ensures c.in_ok-put_notes.ensures c.in_ok-put_notes-2.ensures c.in_ok-put_notes-3.ensures).0

pub invariant_of-result : goal.invariant_of-result
invariant_of-result c = λ e.
    let f = c.in-Some-first_number in
    let q = notes_packed c.args.numbers.now c.args.completions.now c.args.rows.now f.first _ _ _ _ _ c.clear.ensures.items (f.ensures.count ∙ c.in-Some.ensures) c.in_ok-put_number.ensures c.in_ok-put_notes.ensures c.in_ok-put_notes-2.ensures c.in_ok-put_notes-3.ensures in
    let b = c.in_ok-bytes.ensures ∙ c.deref.ensures.value in
    let n : f.first % 2 ≡ 0 = ap (λ (k : ℕ). k % 2) (sym (ap number_of b ∙ q.1)) ∙ e in
    subst ShortensNothing (sym (ap packed b ∙ q.0)) (kinds_shorten_nothing c.args.numbers.now c.args.completions.now c.args.rows.now (sym c.may_shorten.ensures ∙ f.ensures.even n))
