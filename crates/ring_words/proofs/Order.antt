-- A ring is a queue: writing at the tail appends to the list, and reading at the head takes from
-- its front.
use Rattle.ring_words.proofs.Common.{◌≡◌, ◌≢◌, ℕ, zero, suc, Bool, true, false, cond, refl, sym, ◌∙◌, ap, List, [], ◌∷◌, ◌++◌, length, drop, get_or, ◌+◌, ◌-◌, ◌%◌, ◌<◌, ◌≤◌, ◌^◌, ◌⊎◌, inl, inr, arith, length-set, rules, Some, None, option_to_list, slice_get, slice_set, ◌==◌, add-mod, mod-mod_of_dvd, mod-eq_of_lt, mod-eq-sub-mod, mod_below, slice_get_cases, ◌∣◌, slice_get-set, slice_get-set_same, waiting, items_from, eqb-true, leb_tells}

pub waiting_less : (h t : ℕ) → h < 2 ^ 32 → t < 2 ^ 32 → 0 < waiting h t → waiting ((h + 1) % 2 ^ 32) t + 1 ≡ waiting h t
waiting_less h t a b c = omega arith

pub waiting_more : (h t n : ℕ) → h < 2 ^ 32 → t < 2 ^ 32 → n ≤ 8192 → waiting h t < n → waiting h ((t + 1) % 2 ^ 32) ≡ waiting h t + 1
waiting_more h t n a b c d = omega arith

-- Taking k elements leaves k fewer pending.
pub waiting_after : (h t k : ℕ) → h < 2 ^ 32 → t < 2 ^ 32 → k ≤ waiting h t → waiting ((h + k) % 2 ^ 32) t + k ≡ waiting h t
waiting_after h t k a b c = omega arith

-- Nothing is pending if head and tail are equal.
pub waiting_none : (h : ℕ) → h < 2 ^ 32 → waiting h h ≡ 0
waiting_none h a = omega arith

-- Counter values with the same index have successors with the same index.
next_place : (a b n : ℕ) → a % n ≡ b % n → (a + 1) % n ≡ (b + 1) % n
next_place a b n e = add-mod a 1 n ∙ ap (λ x. (x + 1 % n) % n) e ∙ sym (add-mod b 1 n)

items_same : {X : Type 0} (xs : List X) (a b n : ℕ) → a % length xs ≡ b % length xs → items_from xs a n ≡ items_from xs b n
items_same xs a b zero e = refl
items_same xs a b (suc n) e = grind (arith, items_same xs (a + 1) (b + 1) n (next_place a b (length xs) e))

-- Counter values modulo 2 ^ 32 have the same indexes.
pub items_wrapped : {X : Type 0} (xs : List X) (h n : ℕ) → length xs ∣ 2 ^ 32 → items_from xs h n ≡ items_from xs (h % 2 ^ 32) n
items_wrapped xs h n d = items_same xs h (h % 2 ^ 32) n (sym (mod-mod_of_dvd (length xs) h d))

-- Each index of a ring has an element.
pub item_here : {X : Type 0} (xs : List X) (h : ℕ) → 0 < length xs → (x : X) × (slice_get xs (h % length xs) ≡ Some x)
item_here {X = X} xs h s = by (slice_get_cases xs (h % length xs)).1
  where
    by : ((x : X) × (h % length xs < length xs) × (slice_get xs (h % length xs) ≡ Some x) × (get_or xs (h % length xs) x ≡ x)) ⊎ ((length xs ≤ h % length xs) × (slice_get xs (h % length xs) ≡ None)) → (x : X) × (slice_get xs (h % length xs) ≡ Some x)
    by (inl k) = (k.0, k.2)
    by (inr k) = let b = mod_below h (length xs) s in absurd (omega (arith, k.0, b))

-- Taking one element drops the first of the list.
pub list_front : {X : Type 0} (xs : List X) (h t : ℕ) (x : X) → length xs ∣ 2 ^ 32 → h < 2 ^ 32 → t < 2 ^ 32 → 0 < waiting h t → slice_get xs (h % length xs) ≡ Some x
    → items_from xs h (waiting h t) ≡ x ∷ items_from xs ((h + 1) % 2 ^ 32) (waiting ((h + 1) % 2 ^ 32) t)
list_front = search (rules, waiting_less, items_wrapped)

items_drop : {X : Type 0} (xs : List X) (h n k : ℕ) → 0 < length xs → k ≤ n → items_from xs (h + k) (n - k) ≡ drop k (items_from xs h n)
items_drop xs h n zero s l = let e : h + 0 ≡ h = omega arith in let f : n - 0 ≡ n = omega arith in ap (λ a. items_from xs a (n - 0)) e ∙ ap (items_from xs h) f
items_drop xs h zero (suc k) s l = absurd (omega arith)
items_drop xs h (suc n) (suc k) s l =
    let here = item_here xs h s in
    let e : h + suc k ≡ (h + 1) + k = omega arith in
    let f : suc n - suc k ≡ n - k = omega arith in
    ap (λ a. items_from xs a (suc n - suc k)) e
    ∙ ap (items_from xs ((h + 1) + k)) f
    ∙ items_drop xs (h + 1) n k s (omega arith)
    ∙ ap (λ o. drop (suc k) (option_to_list o ++ items_from xs (h + 1) n)) (sym here.1)

-- Taking k elements drops the first k of the list.
pub list_after : {X : Type 0} (xs : List X) (h t k : ℕ) → 0 < length xs → length xs ∣ 2 ^ 32 → h < 2 ^ 32 → t < 2 ^ 32 → k ≤ waiting h t
    → items_from xs ((h + k) % 2 ^ 32) (waiting ((h + k) % 2 ^ 32) t) ≡ drop k (items_from xs h (waiting h t))
list_after xs h t k s d a b c =
    let w = waiting_after h t k a b c in
    let e : waiting ((h + k) % 2 ^ 32) t ≡ waiting h t - k = omega arith in
    ap (items_from xs ((h + k) % 2 ^ 32)) e ∙ sym (items_wrapped xs (h + k) _ d) ∙ items_drop xs h (waiting h t) k s c

-- Each element of the list, by its index in the ring.
pub items_get : {X : Type 0} (xs : List X) (h n i : ℕ) → 0 < length xs → i < n → slice_get (items_from xs h n) i ≡ slice_get xs ((h + i) % length xs)
items_get xs h zero i s l = absurd (omega arith)
items_get xs h (suc n) zero s l =
    let here = item_here xs h s in
    let e : h + 0 ≡ h = omega arith in
    ap (λ o. slice_get (option_to_list o ++ items_from xs (h + 1) n) 0) here.1 ∙ sym here.1 ∙ ap (λ a. slice_get xs (a % length xs)) (sym e)
items_get xs h (suc n) (suc i) s l =
    let here = item_here xs h s in
    let e : (h + 1) + i ≡ h + suc i = omega arith in
    ap (λ o. slice_get (option_to_list o ++ items_from xs (h + 1) n) (suc i)) here.1 ∙ items_get xs (h + 1) n i s (omega arith) ∙ ap (λ a. slice_get xs (a % length xs)) e

-- The list has n elements.
pub items_length : {X : Type 0} (xs : List X) (h n : ℕ) → 0 < length xs → length (items_from xs h n) ≡ n
items_length xs h zero s = refl
items_length xs h (suc n) s =
    let here = item_here xs h s in
    ap (λ o. length (option_to_list o ++ items_from xs (h + 1) n)) here.1 ∙ ap suc (items_length xs (h + 1) n s)

items_more : {X : Type 0} (xs : List X) (h n : ℕ) → items_from xs h (n + 1) ≡ items_from xs h n ++ option_to_list (slice_get xs ((h + n) % length xs))
items_more xs h zero = grind arith
items_more xs h (suc n) = grind (arith, items_more xs (h + 1) n)

-- Writing an index that the list doesn't include leaves the list unchanged.
items_other : {X : Type 0} (xs : List X) (j : ℕ) (x : X) (h n : ℕ) → j < length xs → ((i : ℕ) → i < n → (h + i) % length xs ≢ j) → items_from (slice_set xs j x) h n ≡ items_from xs h n
items_other xs j x h zero l o = refl
items_other xs j x h (suc n) l o =
    ap (λ k. option_to_list (slice_get (slice_set xs j x) (h % k)) ++ items_from (slice_set xs j x) (h + 1) n) (length-set xs j x)
    ∙ ap (λ y. option_to_list y ++ items_from (slice_set xs j x) (h + 1) n) (slice_get-set xs j (h % length xs) x l ∙ other (j == h % length xs) refl)
    ∙ ap (λ ys. option_to_list (slice_get xs (h % length xs)) ++ ys) (items_other xs j x (h + 1) n l (λ i lt e. let f : (h + 1) + i ≡ h + suc i = omega arith in o (suc i) (omega arith) (ap (λ k. k % length xs) (sym f) ∙ e)))
  where
    other : (b : Bool) → (j == h % length xs) ≡ b → cond b (Some x) (slice_get xs (h % length xs)) ≡ slice_get xs (h % length xs)
    other true e = let f : h + 0 ≡ h = omega arith in absurd (o 0 (omega arith) (ap (λ k. k % length xs) f ∙ sym (eqb-true j _ e)))
    other false e = refl

order : (a b : ℕ) → (a < b) ⊎ (b ≤ a)
order a b = elim (leb_tells b a) [ inl k ↦ inr k.1 | inr k ↦ inl k.1 ]

-- Counter values that differ by less than the size have different indexes.
apart : (h i w n : ℕ) → i < w → w < n → (h + i) % n ≢ (h + w) % n
apart h i w n a b e = by (order ((h + i) % n + (w - i)) n)
  where
    r : (h + i) % n < n
    r = mod_below (h + i) n (omega arith)

    d : (w - i) % n ≡ w - i
    d = mod-eq_of_lt (omega arith)

    f : h + w ≡ (h + i) + (w - i)
    f = omega arith

    moved : (h + i) % n ≡ ((h + i) % n + (w - i)) % n
    moved = e ∙ ap (λ k. k % n) f ∙ add-mod (h + i) (w - i) n ∙ ap (λ k. ((h + i) % n + k) % n) d

    by : ((h + i) % n + (w - i) < n) ⊎ (n ≤ (h + i) % n + (w - i)) → ⊥
    by (inl k) = let m = mod-eq_of_lt k in omega (arith, moved, m)
    by (inr k) =
        let m = mod-eq-sub-mod k in
        let l : (h + i) % n + (w - i) - n < n = omega (arith, r) in
        let g = mod-eq_of_lt l in
        omega (arith, moved, m, g, r)

-- Writing at the tail appends to the list.
pub list_back : {X : Type 0} (xs : List X) (h t : ℕ) (x : X) → 0 < length xs → length xs ≤ 8192 → length xs ∣ 2 ^ 32 → h < 2 ^ 32 → t < 2 ^ 32 → waiting h t < length xs
    → items_from (slice_set xs (t % length xs) x) h (waiting h ((t + 1) % 2 ^ 32)) ≡ items_from xs h (waiting h t) ++ x ∷ []
list_back xs h t x s l d a b f =
    ap (items_from (slice_set xs (t % length xs) x) h) (waiting_more h t (length xs) a b l f)
    ∙ items_more (slice_set xs (t % length xs) x) h (waiting h t)
    ∙ ap (λ ys. ys ++ option_to_list (slice_get (slice_set xs (t % length xs) x) ((h + waiting h t) % length (slice_set xs (t % length xs) x)))) (items_other xs (t % length xs) x h (waiting h t) within (λ i lt e. apart h i (waiting h t) (length xs) lt f (e ∙ sym here)))
    ∙ ap (λ k. items_from xs h (waiting h t) ++ option_to_list (slice_get (slice_set xs (t % length xs) x) k)) (ap (λ k. (h + waiting h t) % k) (length-set xs _ x) ∙ here)
    ∙ ap (λ o. items_from xs h (waiting h t) ++ option_to_list o) (slice_get-set_same xs (t % length xs) x within)
  where
    within : t % length xs < length xs
    within = mod_below t (length xs) s

    sum : (h + waiting h t) % 2 ^ 32 ≡ t
    sum = omega arith

    here : (h + waiting h t) % length xs ≡ t % length xs
    here = sym (mod-mod_of_dvd (length xs) (h + waiting h t) d) ∙ ap (λ k. k % length xs) sum
