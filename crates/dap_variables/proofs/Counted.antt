-- Lists that are made from numbers, one more at a time.
use Rattle.std.proofs.Common.{◌≡◌, ℕ, ◌+◌, ◌-◌, ◌≤◌, List, [], ◌∷◌, ◌++◌, map, sym, ap, ◌∙◌, append_assoc, arith}
use Rattle.std.specs.List.{range_with_len}
use Rattle.std.proofs.lemmas.List.FromFn.{map-range_with_len_more}

-- One more after some front.
pub one_more : {X : Type 0} (f : ℕ → X) (n : ℕ) (front xs ys : List X) → ys ≡ xs ++ f n ∷ [] → xs ≡ front ++ map f (range_with_len 0 n) → ys ≡ front ++ map f (range_with_len 0 (n + 1))
one_more f n front xs ys e h =
    let more : map f (range_with_len 0 (n + 1)) ≡ map f (range_with_len 0 n) ++ f n ∷ [] = map-range_with_len_more f 0 n n (omega arith) in
    e ∙ (ap (λ l. l ++ f n ∷ []) h ∙ (append_assoc front (map f (range_with_len 0 n)) (f n ∷ []) ∙ ap (λ l. front ++ l) (sym more)))

-- One more of those from a number on.
pub one_more_from : {X : Type 0} (f : ℕ → X) (from i : ℕ) (xs ys : List X) → from ≤ i → ys ≡ xs ++ f i ∷ [] → xs ≡ map f (range_with_len from (i - from)) → ys ≡ map f (range_with_len from (i + 1 - from))
one_more_from f from i xs ys le e h =
    let more : map f (range_with_len from ((i - from) + 1)) ≡ map f (range_with_len from (i - from)) ++ f i ∷ [] = map-range_with_len_more f from (i - from) i (omega arith) in
    let count : (i - from) + 1 ≡ i + 1 - from = omega arith in
    e ∙ (ap (λ l. l ++ f i ∷ []) h ∙ (sym more ∙ ap (λ k. map f (range_with_len from k)) count))
