-- Lemmas about the bit set of dropped bytes.
use Rattle.std.proofs.Common.{◌≡◌, ◌≢◌, ℕ, zero, suc, ◌<◌, ◌≤◌, ◌+◌, ◌-◌, Bool, true, false, cond, refl, sym, ◌∙◌, ap, subst, List, ◌∷◌, ◌++◌, inl, inr, length, take, drop, arith}
use Rattle.std.specs.Prelude.{Some, None, slice_get, replicate, ◌==◌, ◌||◌, ◌⊎◌}
use Rattle.std.specs.List.{list_any}
use Rattle.std.proofs.lemmas.Bool.{cases_eq, eq-eqb, ne_eqb}
use Rattle.places.specs.Masked.{is_kept, marks_from, SameOutside}

pub length_marks : (gone : List ℕ) (i n : ℕ) → length (marks_from gone i n) ≡ n
length_marks gone i zero = refl
length_marks gone i (suc n) = ap suc (length_marks gone (i + 1) n)

-- ---- One bit

pub mark_there : (gone : List ℕ) (i n q : ℕ) → q < n → slice_get (marks_from gone i n) q ≡ Some (is_kept gone (i + q))
mark_there gone i zero q h = absurd (omega arith)
mark_there gone i (suc n) zero h = ap (λ k. Some (is_kept gone k)) (let e : i ≡ i + 0 = omega arith in e)
mark_there gone i (suc n) (suc q) h = mark_there gone (i + 1) n q (omega arith) ∙ ap (λ k. Some (is_kept gone k)) (let e : (i + 1) + q ≡ i + suc q = omega arith in e)

pub mark_past : (gone : List ℕ) (i n q : ℕ) → n ≤ q → slice_get (marks_from gone i n) q ≡ None
mark_past gone i zero q h = refl
mark_past gone i (suc n) zero h = absurd (omega arith)
mark_past gone i (suc n) (suc q) h = mark_past gone (i + 1) n q (omega arith)

pub mark_is : (gone : List ℕ) (i n q : ℕ) (k : Bool) → slice_get (marks_from gone i n) q ≡ Some k → k ≡ is_kept gone (i + q)
mark_is gone i zero q k h = absurd cc
mark_is gone i (suc n) zero k h = let e : is_kept gone i ≡ k = cc in sym e ∙ ap (is_kept gone) (let a : i ≡ i + 0 = omega arith in a)
mark_is gone i (suc n) (suc q) k h = mark_is gone (i + 1) n q k h ∙ ap (is_kept gone) (let a : (i + 1) + q ≡ i + suc q = omega arith in a)

-- ---- Ranges of bits

pub marks_front : (gone : List ℕ) (i n m : ℕ) → m ≤ n → marks_from gone i m ≡ take m (marks_from gone i n)
marks_front gone i n zero h = refl
marks_front gone i zero (suc m) h = absurd (omega arith)
marks_front gone i (suc n) (suc m) h = ap (λ ks. is_kept gone i ∷ ks) (marks_front gone (i + 1) n m (omega arith))

pub marks_back : (gone : List ℕ) (i n m : ℕ) → m ≤ n → marks_from gone (i + m) (n - m) ≡ drop m (marks_from gone i n)
marks_back gone i n zero h = ap (λ a. marks_from gone a (n - 0)) (let a : i + 0 ≡ i = omega arith in a) ∙ ap (marks_from gone i) (let b : n - 0 ≡ n = omega arith in b)
marks_back gone i zero (suc m) h = absurd (omega arith)
marks_back gone i (suc n) (suc m) h =
    ap (λ a. marks_from gone a (suc n - suc m)) (let a : i + suc m ≡ (i + 1) + m = omega arith in a)
    ∙ ap (marks_from gone ((i + 1) + m)) (let b : suc n - suc m ≡ n - m = omega arith in b)
    ∙ marks_back gone (i + 1) n m (omega arith)

pub marks_more : (gone : List ℕ) (i n m : ℕ) → marks_from gone i (n + m) ≡ marks_from gone i n ++ marks_from gone (i + n) m
marks_more gone i zero m = ap (marks_from gone i) (let b : 0 + m ≡ m = omega arith in b) ∙ ap (λ a. marks_from gone a m) (let a : i ≡ i + 0 = omega arith in a)
marks_more gone i (suc n) m =
    ap (marks_from gone i) (let b : suc n + m ≡ suc (n + m) = omega arith in b)
    ∙ ap (λ ks. is_kept gone i ∷ ks) (marks_more gone (i + 1) n m ∙ ap (λ a. marks_from gone (i + 1) n ++ marks_from gone a m) (let a : (i + 1) + n ≡ i + suc n = omega arith in a))

pub same_marks : (before after : List ℕ) (i n : ℕ) → ((q : ℕ) → i ≤ q → q < i + n → is_kept after q ≡ is_kept before q) → marks_from after i n ≡ marks_from before i n
same_marks before after i zero h = refl
same_marks before after i (suc n) h =
    ap (λ k. k ∷ marks_from after (i + 1) n) (h i (omega arith) (omega arith))
    ∙ ap (λ ks. is_kept before i ∷ ks) (same_marks before after (i + 1) n (λ q l m. h q (omega arith) (omega arith)))

pub all_marks : (gone : List ℕ) (i n : ℕ) → ((q : ℕ) → i ≤ q → is_kept gone q ≡ true) → marks_from gone i n ≡ replicate n true
all_marks gone i zero h = refl
all_marks gone i (suc n) h = ap (λ k. k ∷ marks_from gone (i + 1) n) (h i (omega arith)) ∙ ap (λ ks. true ∷ ks) (all_marks gone (i + 1) n (λ q l. h q (omega arith)))

-- ---- Dropping bytes

pub outside_more : (before after : List ℕ) (i n m : ℕ) → n ≤ m → SameOutside before after i n → SameOutside before after i m
outside_more before after i n m h o q (inl l) = o q (inl l)
outside_more before after i n m h o q (inr l) = o q (inr (omega arith))

pub outside_one : (before now after : List ℕ) (i n : ℕ) (m : Bool) → SameOutside before now i n → ((q : ℕ) → is_kept after q ≡ cond (q == i + n) m (is_kept now q)) → SameOutside before after i (n + 1)
outside_one before now after i n m o w q side = w q ∙ ap (λ t. cond t m (is_kept now q)) (ne_eqb q (i + n) (apart side)) ∙ outside_more before now i n (n + 1) (omega arith) o q side
  where
    apart : (q < i) ⊎ (i + (n + 1) ≤ q) → q ≢ i + n
    apart (inl l) e = absurd (omega arith)
    apart (inr l) e = absurd (omega arith)

-- A loop over bytes, one step: byte i now has the bit m.
pub settled : (x : ℕ → ℕ → Bool → Bool → Type 0) (olds before now after : List ℕ) (mark i b : ℕ) (m : Bool) → slice_get olds i ≡ Some b → ((q : ℕ) → is_kept after q ≡ cond (q == mark + i) m (is_kept now q)) → x i b (is_kept before (mark + i)) m
    → ((j c : ℕ) → j < i → slice_get olds j ≡ Some c → x j c (is_kept before (mark + j)) (is_kept now (mark + j)))
    → (j c : ℕ) → j < i + 1 → slice_get olds j ≡ Some c → x j c (is_kept before (mark + j)) (is_kept after (mark + j))
settled x olds before now after mark i b m e w h done j c l f = elim (cases_eq i j) [
  | inl same ↦
      let one : b ≡ c = let r = ap (slice_get olds) same in cc in
      let two : m ≡ is_kept after (mark + i) = sym (w (mark + i) ∙ ap (λ t. cond t m (is_kept now (mark + i))) (eq-eqb (mark + i) (mark + i) refl)) in
      subst (λ y. x y c (is_kept before (mark + y)) (is_kept after (mark + y))) same (subst (λ y. x i y (is_kept before (mark + i)) (is_kept after (mark + i))) one (subst (λ y. x i b (is_kept before (mark + i)) y) two h))
  | inr other ↦
      let two : is_kept now (mark + j) ≡ is_kept after (mark + j) = sym (w (mark + j) ∙ ap (λ t. cond t m (is_kept now (mark + j))) (ne_eqb (mark + j) (mark + i) (λ d. absurd (omega arith)))) in
      subst (λ y. x j c (is_kept before (mark + j)) y) two (done j c (omega arith) f)
]

-- The same if byte i stays as it was.
pub settled_same : (x : ℕ → ℕ → Bool → Bool → Type 0) (olds before now : List ℕ) (mark i b : ℕ) → SameOutside before now mark i → slice_get olds i ≡ Some b → x i b (is_kept before (mark + i)) (is_kept before (mark + i))
    → ((j c : ℕ) → j < i → slice_get olds j ≡ Some c → x j c (is_kept before (mark + j)) (is_kept now (mark + j)))
    → (j c : ℕ) → j < i + 1 → slice_get olds j ≡ Some c → x j c (is_kept before (mark + j)) (is_kept now (mark + j))
settled_same x olds before now mark i b o e h done j c l f = elim (cases_eq i j) [
  | inl same ↦
      let one : b ≡ c = let r = ap (slice_get olds) same in cc in
      subst (λ y. x y c (is_kept before (mark + y)) (is_kept now (mark + y))) same (subst (λ y. x i y (is_kept before (mark + i)) (is_kept now (mark + i))) one (subst (λ y. x i b (is_kept before (mark + i)) y) (sym (o (mark + i) (inr (omega arith)))) h))
  | inr other ↦ done j c (omega arith) f
]

-- ---- Whether any byte is recorded

pub none_set : (gone : List ℕ) (i n : ℕ) → ((q : ℕ) → i ≤ q → q < i + n → is_kept gone q ≡ false) → list_any (λ k. k) (marks_from gone i n) ≡ false
none_set gone i zero h = refl
none_set gone i (suc n) h = rw (h i (omega arith) (omega arith)) (none_set gone (i + 1) n (λ q l m. h q (omega arith) (omega arith)))

or_true : (b : Bool) → (b || true) ≡ true
or_true true = refl
or_true false = refl

pub one_set : (gone : List ℕ) (i n q : ℕ) → i ≤ q → q < i + n → is_kept gone q ≡ true → list_any (λ k. k) (marks_from gone i n) ≡ true
one_set gone i zero q l m h = absurd (omega arith)
one_set gone i (suc n) q l m h = elim (cases_eq i q) [
  | inl same ↦ ap (λ k. k || list_any (λ k. k) (marks_from gone (i + 1) n)) (ap (is_kept gone) same ∙ h)
  | inr other ↦ ap (λ k. is_kept gone i || k) (one_set gone (i + 1) n q (omega arith) (omega arith) h) ∙ or_true (is_kept gone i)
]
