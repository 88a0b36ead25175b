-- Reading the words of the submission ring, and the entries that they refer to.
use Rattle.machine.proofs.Common.{◌≡◌, ℕ, zero, suc, Bool, cond, refl, sym, ◌∙◌, ap, List, [], ◌∷◌, ◌++◌, length, take, drop, ◌+◌, ◌-◌, ◌<◌, ◌≤◌, arith, Some, None, is_some, slice_get, min, common_steps, append-nil, take_more, slice_get_within, get_or_from_slice_get, Sqe, entries_at, up_to_entry, filter_map-append}

-- To take more items than there are takes all of them.
pub take_least : {X : Type 0} (k : ℕ) (xs : List X) → take (min k (length xs)) xs ≡ take k xs
take_least k xs = grind (arith, common_steps)

-- ---- The entries of words

pub one_more : (xs : List ℕ) (i x : ℕ) → slice_get xs i ≡ Some x → take (i + 1) xs ≡ take i xs ++ x ∷ []
one_more xs i x h = take_more xs i x (slice_get_within xs i x h) ∙ ap (λ y. take i xs ++ y ∷ []) (get_or_from_slice_get xs i x x h)

pub entries-named : (slots : List Sqe) (words : List ℕ) (x : ℕ) (e : Sqe) → slice_get slots x ≡ Some e → entries_at slots (words ++ x ∷ []) ≡ entries_at slots words ++ e ∷ []
entries-named slots words x e h = filter_map-append (slice_get slots) words (x ∷ []) ∙ ap (λ es. entries_at slots words ++ es) (rw h refl)

pub entries-skipped : (slots : List Sqe) (words : List ℕ) (x : ℕ) → slice_get slots x ≡ None → entries_at slots (words ++ x ∷ []) ≡ entries_at slots words
entries-skipped slots words x h = filter_map-append (slice_get slots) words (x ∷ []) ∙ ap (λ es. entries_at slots words ++ es) (rw h refl) ∙ append-nil (entries_at slots words)

-- How many entries one more word refers to.
entries_more : (slots : List Sqe) (x : ℕ) (words : List ℕ) → length (entries_at slots (x ∷ words)) ≡ cond (is_some (slice_get slots x)) (suc (length (entries_at slots words))) (length (entries_at slots words))
entries_more = grind arith

-- ---- Up to the n-th entry

pub length-up_to_entry : (slots : List Sqe) (n : ℕ) (words : List ℕ) → length (up_to_entry slots n words) ≤ length words
length-up_to_entry slots zero words = omega arith
length-up_to_entry slots (suc n) [] = omega arith
length-up_to_entry slots (suc n) (x ∷ words) = grind (arith, length-up_to_entry slots n words, length-up_to_entry slots (suc n) words)

-- `count` words were read, and `left` entries remain to be found.
pub record Reading (slots : List Sqe) (words : List ℕ) (n count left : ℕ) : Type 0 where
  pub splits : up_to_entry slots n words ≡ take count words ++ up_to_entry slots left (drop count words)
  pub named : left ≤ length (entries_at slots (drop count words))
  pub enough : n ≤ count + left
  pub within : count ≤ length words

drop_there : (words : List ℕ) (i x : ℕ) → slice_get words i ≡ Some x → drop i words ≡ x ∷ drop (i + 1) words
drop_there [] i x h = absurd cc
drop_there (y ∷ words) zero x h = let e : y ≡ x = cc in let m : suc zero ≡ zero + 1 = omega arith in ap (λ z. z ∷ words) e ∙ ap (λ k. x ∷ drop k (y ∷ words)) m
drop_there (y ∷ words) (suc i) x h = let m : suc (i + 1) ≡ suc i + 1 = omega arith in drop_there words i x h ∙ ap (λ k. x ∷ drop k (y ∷ words)) m

past_end : (words : List ℕ) (i : ℕ) → length words ≤ i → drop i words ≡ []
past_end = grind (arith, common_steps)

-- While entries remain, there is a next word.
pub reading_there : (slots : List Sqe) (words : List ℕ) (n count left : ℕ) → Reading slots words n count left → 0 < left → count < length words
reading_there = grind (arith, past_end)

step_taken : (slots : List Sqe) (x : ℕ) (words : List ℕ) (left : ℕ) (b : Bool) → is_some (slice_get slots x) ≡ b → 0 < left → up_to_entry slots left (x ∷ words) ≡ x ∷ up_to_entry slots (cond b (left - 1) left) words
step_taken = grind arith

-- One more word is read.
pub reading_on : (slots : List Sqe) (words : List ℕ) (n count left x : ℕ) (b : Bool) → Reading slots words n count left → 0 < left → slice_get words count ≡ Some x → is_some (slice_get slots x) ≡ b → Reading slots words n (count + 1) (cond b (left - 1) left)
reading_on slots words n count left x b r l h k = record {
  splits = r.splits ∙ ap (λ ws. take count words ++ up_to_entry slots left ws) here ∙ ap (λ ws. take count words ++ ws) (step_taken slots x (drop (count + 1) words) left b k l)
      ∙ pushed (take count words) x (up_to_entry slots (cond b (left - 1) left) (drop (count + 1) words)) ∙ ap (λ ws. ws ++ up_to_entry slots (cond b (left - 1) left) (drop (count + 1) words)) (sym (one_more words count x h));
  named = by b (let m = r.named in let e = ap (λ ws. length (entries_at slots ws)) here ∙ entries_more slots x (drop (count + 1) words) ∙ ap (λ c. cond c (suc (length rest)) (length rest)) k in rw (← e) m);
  enough = most b;
  within = let l = slice_get_within words count x h in omega (arith, l);
}
  where
    here : drop count words ≡ x ∷ drop (count + 1) words
    here = drop_there words count x h

    rest : List Sqe
    rest = entries_at slots (drop (count + 1) words)

    pushed : (xs : List ℕ) (y : ℕ) (ys : List ℕ) → xs ++ y ∷ ys ≡ (xs ++ y ∷ []) ++ ys
    pushed = grind (arith, common_steps)

    by : (c : Bool) → left ≤ cond c (suc (length rest)) (length rest) → cond c (left - 1) left ≤ length rest
    by = grind arith

    most : (c : Bool) → n ≤ count + 1 + cond c (left - 1) left
    most = grind arith
