-- Facts about comparing and overwriting lists of bytes.
use Rattle.std.proofs.Common.{◌≡◌, ℕ, Bool, sym, ◌∙◌, ap, List, length, ◌+◌, ◌-◌, ◌<◌, ◌≤◌, arith}
use Rattle.std.specs.Prelude.{None, slice_get, nat_eq, IsTrue, ◌⊎◌, ◌↔◌}
use Rattle.std.proofs.Common.{inl, inr}
use Rattle.std.specs.Cmp.Lexicographic.{pointwise}
use Rattle.std.proofs.lemmas.Bool.Decides.{Decides-eqb}
use Rattle.std.proofs.lemmas.Grind.{common_steps}
use Rattle.std.proofs.lemmas.Option.{gets}
use Rattle.std.proofs.lemmas.Slice.Eq.{slice_eq-Decides}
use Rattle.places.proofs.ListLemmas.{same_list}
use Rattle.model_files.specs.Differing.{Alike}
use Rattle.model_files.specs.Files.{part, overwritten}
use Rattle.model_files.proofs.Noting.{below_or_not, get-overwritten_other}

-- An element of a part of a list.
pub slice_get-part : (xs : List ℕ) (at k d : ℕ) → d < k → slice_get (part xs at k) d ≡ slice_get xs (at + d)
slice_get-part xs at k d h = grind (arith, common_steps, gets)

pub slice_get-part_past : (xs : List ℕ) (at k d : ℕ) → k ≤ d → slice_get (part xs at k) d ≡ None
slice_get-part_past xs at k d h = grind (arith, common_steps, gets)

part_alike : (old others : List ℕ) (from to : ℕ) → Alike old others from to → part old from (to - from) ≡ part others from (to - from)
part_alike old others from to h = same_list _ _ (λ i. by i (below_or_not i (to - from)))
  where
    by : (i : ℕ) → (i < to - from) ⊎ (to - from ≤ i) → slice_get (part old from (to - from)) i ≡ slice_get (part others from (to - from)) i
    by i (inl l) = slice_get-part old from (to - from) i l ∙ h (from + i) (omega arith) (omega arith) ∙ sym (slice_get-part others from (to - from) i l)
    by i (inr l) = slice_get-part_past old from (to - from) i l ∙ sym (slice_get-part_past others from (to - from) i l)

alike_part : (old others : List ℕ) (from to : ℕ) → part old from (to - from) ≡ part others from (to - from) → Alike old others from to
alike_part old others from to e i lo hi =
    let at : i ≡ from + (i - from) = omega arith in
    ap (slice_get old) at ∙ sym (slice_get-part old from (to - from) (i - from) (omega arith)) ∙ ap (λ xs. slice_get xs (i - from)) e
    ∙ slice_get-part others from (to - from) (i - from) (omega arith) ∙ ap (slice_get others) (sym at)

-- The parts are equal if and only if the lists agree in the range.
pub parts_decide : (old others : List ℕ) (from to : ℕ) (r : Bool) → r ≡ pointwise nat_eq (part old from (to - from)) (part others from (to - from)) → IsTrue r ↔ Alike old others from to
parts_decide old others from to r e =
    let d = slice_eq-Decides Decides-eqb (part old from (to - from)) (part others from (to - from)) r e in
    (λ t. alike_part old others from to (d.0 t), λ a. d.1 (part_alike old others from to a))

-- An overwritten element is the new one.
pub get-overwritten : (xs others : List ℕ) (at d : ℕ) → at + length others ≤ length xs → d < length others → slice_get (overwritten xs at others) (at + d) ≡ slice_get others d
get-overwritten xs others at d h l = grind (arith, common_steps, gets)

-- An element is unchanged if no other was written over it, or an equal one.
pub same_overwritten : (xs others : List ℕ) (at k i : ℕ) → at + k ≤ length xs → length others ≡ k → ((d : ℕ) → i ≡ at + d → slice_get (part xs at k) d ≡ slice_get others d) → slice_get (overwritten xs at others) i ≡ slice_get xs i
same_overwritten xs others at k i h l same = by (below_or_not i at) (below_or_not i (at + k))
  where
    by : (i < at) ⊎ (at ≤ i) → (i < at + k) ⊎ (at + k ≤ i) → slice_get (overwritten xs at others) i ≡ slice_get xs i
    by (inl a) b = get-overwritten_other xs at others i (omega arith) (inl a)
    by (inr a) (inr b) = get-overwritten_other xs at others i (omega arith) (inr (omega arith))
    by (inr a) (inl b) =
        let e : i ≡ at + (i - at) = omega arith in
        ap (slice_get (overwritten xs at others)) e ∙ get-overwritten xs others at (i - at) (omega arith) (omega arith) ∙ sym (same (i - at) e)
        ∙ slice_get-part xs at k (i - at) (omega arith) ∙ ap (slice_get xs) (sym e)
