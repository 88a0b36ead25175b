-- Lemmas about thresholds and the minima of their blocks.
use Rattle.std.proofs.Common.{◌≡◌, ℕ, zero, suc, refl, [], ◌∷◌, ◌++◌, replicate, ◌+◌, ◌-◌, ◌*◌, ◌/◌, ◌<◌, ◌≤◌, List, length, set, drop, min, sym, ap, ◌∙◌, inl, inr, subst, arith}
use Rattle.std.proofs.lemmas.Bool.{cases_eq, cases_lt}
use Rattle.std.specs.Prelude.{slice_range}
use Rattle.std.proofs.lemmas.List.{get_or-set_same, get_or-drop, get_or-take, get_or-set_other, get_or_past, length-set}
use Rattle.bit_sets.specs.Thresholds.{never, threshold_at, Bounded}

-- ---- The bounds

-- Writing one threshold, and new bounds of its block and of all blocks, maintains `Bounded`.
pub bounded_written : (each minima : List ℕ) (least after k threshold minimum : ℕ) → Bounded each minima least → k < length each
    → ((i : ℕ) → i / 256 ≡ k / 256 → minimum ≤ threshold_at (set each k threshold) i)
    → ((w : ℕ) → after ≤ threshold_at (set minima (k / 256) minimum) w) → Bounded (set each k threshold) (set minima (k / 256) minimum) after
bounded_written each minima least after k threshold minimum b within block all = record {
  few = omega (arith, length-set minima (k / 256) minimum, b.few);
  covered = omega (arith, length-set minima (k / 256) minimum, length-set each k threshold, b.covered);
  blocks = λ i. elim (cases_eq (i / 256) (k / 256)) [
    | inl same ↦ subst (λ n. n ≤ threshold_at (set each k threshold) i) (sym (here i same)) (block i same)
    | inr other ↦
        let there = get_or-set_other minima (k / 256) (i / 256) minimum never other in
        let kept = get_or-set_other each k i threshold never (λ e. other (ap (λ n. n / 256) e)) in
        omega (arith, there, kept, b.blocks i)
  ];
  all = all;
}
  where
    here : (i : ℕ) → i / 256 ≡ k / 256 → threshold_at (set minima (k / 256) minimum) (i / 256) ≡ minimum
    here i same = ap (threshold_at (set minima (k / 256) minimum)) same ∙ get_or-set_same minima (k / 256) minimum never (let c = b.covered in omega (arith, c, within))

-- ---- Bounds of parts of the list

-- A bound of an item of a subslice is a bound of that item of the list.
pub in_range : (xs : List ℕ) (a b i x : ℕ) → a ≤ i → i < b → x ≤ threshold_at (slice_range xs a b) (i - a) → x ≤ threshold_at xs i
in_range xs a b i x low high h =
    let part = get_or-take (b - a) (drop a xs) (i - a) never (omega (arith, low, high)) in
    let rest = get_or-drop a xs (i - a) never in
    let at : a + (i - a) ≡ i = omega (arith, low) in
    subst (λ n. x ≤ n) (part ∙ rest ∙ ap (threshold_at xs) at) h

-- A bound of the threshold of an item within the list bounds it past the end
-- too, where it is `never`.
bound_at : (xs : List ℕ) (i x : ℕ) → x < never + 1 → (i < length xs → x ≤ threshold_at xs i) → x ≤ threshold_at xs i
bound_at xs i x most h = elim (cases_lt i (length xs)) [
  | inl inside ↦ h inside
  | inr past ↦ let e = get_or_past xs i never past in omega (arith, e, most)
]

-- A bound of the items of a block bounds the threshold of each number in the block.
pub block_bound : (xs : List ℕ) (k i end x : ℕ) → i / 256 ≡ k / 256 → end ≡ min (length xs) (k / 256 * 256 + 256) → x < never + 1
    → ((j : ℕ) → k / 256 * 256 ≤ j → j < end → x ≤ threshold_at xs j) → x ≤ threshold_at xs i
block_bound xs k i end x same last most h = bound_at xs i x most (λ inside. h i (omega (arith, same)) (omega (arith, same, inside, last)))

-- A bound of all items of the list bounds the threshold of every number.
pub whole_bound : (xs : List ℕ) (i x : ℕ) → x < never + 1 → ((j : ℕ) → 0 ≤ j → j < length xs → x ≤ threshold_at xs j) → x ≤ threshold_at xs i
whole_bound xs i x most h = bound_at xs i x most (λ inside. h i (omega arith) inside)

-- ---- Room is made

-- `never` past the end changes no threshold.
pub extended : (xs : List ℕ) (n i : ℕ) → threshold_at (xs ++ replicate n never) i ≡ threshold_at xs i
extended [] zero i = refl
extended [] (suc n) zero = refl
extended [] (suc n) (suc i) = extended [] n i
extended (x ∷ xs) n zero = refl
extended (x ∷ xs) n (suc i) = extended xs n i

pub bounded_more : (each minima more blocks : List ℕ) (least : ℕ) → Bounded each minima least → ((i : ℕ) → threshold_at more i ≡ threshold_at each i) → ((w : ℕ) → threshold_at blocks w ≡ threshold_at minima w) → length blocks ≤ 256
    → length more ≤ 256 * length blocks → Bounded more blocks least
bounded_more each minima more blocks least b e m few covered = record {
  few = few;
  covered = covered;
  blocks = λ k. omega (arith, e k, m (k / 256), b.blocks k);
  all = λ w. omega (arith, m w, b.all w);
}
