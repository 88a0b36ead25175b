-- Writes in a row.
use Rattle.std.proofs.Common.{◌≡◌, ℕ, ◌+◌, ◌-◌, zero, suc, List, [], ◌∷◌, ◌++◌, length, take, drop, Option, refl, sym, ap, ◌∙◌, subst, arith, take-append-drop}
use Rattle.std.proofs.KnownBytes.{Appends-trans}
use Rattle.std.proofs.lemmas.List.{take_rest}
use Rattle.std.specs.Io.KnownBytes.{Appends}
use Rattle.whole_files.specs.Writes.{WritesFront}

none_of_none : (n : ℕ) → take {A = ℕ} n [] ≡ []
none_of_none zero = refl
none_of_none (suc n) = refl

take_on : (at n : ℕ) (bytes : List ℕ) → take at bytes ++ take n (drop at bytes) ≡ take (at + n) bytes
take_on zero n bytes = let e : n ≡ zero + n = omega arith in ap (λ m. take m bytes) e
take_on (suc at) n [] = none_of_none n ∙ sym (none_of_none (suc at + n))
take_on (suc at) n (x ∷ bytes) =
    let e : suc (at + n) ≡ suc at + n = omega arith in
    ap (λ l. x ∷ l) (take_on at n bytes) ∙ ap (λ m. take m (x ∷ bytes)) e

-- The next bytes of a slice.
pub wrote_slice : (a b c : Option (List ℕ)) (bytes : List ℕ) (at n : ℕ) → Appends a b (take at bytes) → Appends b c (take n (take (length bytes - at) (drop at bytes))) → Appends a c (take (at + n) bytes)
wrote_slice a b c bytes at n p q =
    let rest : Appends b c (take n (drop at bytes)) = subst (Appends b c) (ap (take n) (take_rest bytes at)) q in
    subst (Appends a c) (take_on at n bytes) (Appends-trans a b c _ _ p rest)

-- If the first bytes were written, a prefix was.
pub wrote_front : (a b : Option (List ℕ)) (bytes : List ℕ) (at : ℕ) → Appends a b (take at bytes) → WritesFront a b bytes
wrote_front a b bytes at p = record { front = take at bytes; rest = drop at bytes; whole = sym (take-append-drop at bytes); appended = p }
