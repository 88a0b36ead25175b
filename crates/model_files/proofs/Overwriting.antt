-- Facts about writing to contents that are padded with zeros.
use Rattle.std.proofs.Common.{◌≡◌, ℕ, zero, suc, refl, sym, ◌∙◌, ap, List, [], ◌∷◌, ◌++◌, length, take, drop, take-append-drop, max, ◌+◌, ◌-◌, ◌<◌, ◌≤◌, append_assoc, length-append, length-drop, arith}
use Rattle.std.proofs.lemmas.List.{take-append-le, drop-replicate, replicate-append-replicate, length-replicate, length-take-le}
use Rattle.model_files.specs.Files.{FileState, FileFormed, FileSized, zeros, padded, content, overwritten, content_written, written}

drop_none : (e : ℕ) → drop {A = ℕ} e [] ≡ []
drop_none zero = refl
drop_none (suc e) = refl

-- The rest of padded contents after index e.
drop_padded : (c : List ℕ) (e m : ℕ) → drop e (c ++ zeros m) ≡ drop e c ++ zeros (m - (e - length c))
drop_padded [] e m = drop-replicate e m 0 ∙ ap (λ xs. xs ++ zeros (m - e)) (sym (drop_none e)) ∙ ap (λ n. drop e [] ++ zeros (m - n)) (omega arith)
drop_padded (x ∷ xs) zero m = ap (λ n. (x ∷ xs) ++ zeros n) (omega arith)
drop_padded (x ∷ xs) (suc e) m = drop_padded xs e m ∙ ap (λ n. drop e xs ++ zeros (m - n)) (omega arith)

more_zeros : (c : List ℕ) (k most : ℕ) → length c + k ≤ most → c ++ zeros (most - length c) ≡ (c ++ zeros k) ++ zeros (most - length (c ++ zeros k))
more_zeros c k most h =
    let l : length (c ++ zeros k) ≡ length c + k = length-append c (zeros k) ∙ ap (λ n. length c + n) (length-replicate k 0) in
    ap (λ n. c ++ zeros n) (omega (arith, l))
    ∙ ap (λ xs. c ++ xs) (sym (replicate-append-replicate k (most - length (c ++ zeros k)) 0))
    ∙ sym (append_assoc c (zeros k) (zeros (most - length (c ++ zeros k))))

-- The length after overwriting.
pub length-overwritten : (c : List ℕ) (at : ℕ) (others : List ℕ) → at ≤ length c → length (overwritten c at others) ≡ max (length c) (at + length others)
length-overwritten c at others h =
    let a = length-take-le at c h in
    let b = length-drop (at + length others) c in
    let d = length-append others (drop (at + length others) c) in
    length-append (take at c) (others ++ drop (at + length others) c) ∙ omega (arith, a, b, d)

-- Padding after a write within the contents equals a write to the padded contents.
over_zeros : (c : List ℕ) (at : ℕ) (others : List ℕ) (most : ℕ) → at ≤ length c → length c ≤ most → at + length others ≤ most → overwritten c at others ++ zeros (most - length (overwritten c at others)) ≡ overwritten (c ++ zeros (most - length c)) at others
over_zeros c at others most h w k =
    let e = at + length others in
    let l = length-overwritten c at others h in
    let z : most - length (overwritten c at others) ≡ (most - length c) - (e - length c) = omega (arith, l) in
    append_assoc (take at c) (others ++ drop e c) (zeros (most - length (overwritten c at others)))
    ∙ ap (λ xs. take at c ++ xs) (append_assoc others (drop e c) (zeros (most - length (overwritten c at others))))
    ∙ ap (λ n. take at c ++ (others ++ (drop e c ++ zeros n))) z
    ∙ ap (λ xs. take at c ++ (others ++ xs)) (sym (drop_padded c e (most - length c)))
    ∙ ap (λ xs. xs ++ (others ++ drop e (c ++ zeros (most - length c)))) (sym (take-append-le at c (zeros (most - length c)) h))

gap_length : (c : List ℕ) (at : ℕ) → length (c ++ zeros (at - length c)) ≡ max (length c) at
gap_length c at =
    let z : length (zeros (at - length c)) ≡ at - length c = length-replicate (at - length c) 0 in
    length-append c (zeros (at - length c)) ∙ omega (arith, z)

-- The length of a file after a write.
pub length-content_written : (c : List ℕ) (at : ℕ) (others : List ℕ) → 0 < length others → length (content_written c at others) ≡ max (length c) (at + length others)
length-content_written c at [] some = omega arith
length-content_written c at (b ∷ bs) some =
    let g = gap_length c at in
    length-overwritten (c ++ zeros (at - length c)) at (b ∷ bs) (omega (arith, g)) ∙ omega (arith, g)

pub most_written : (c : List ℕ) (at : ℕ) (others : List ℕ) → length (content_written c at others) ≤ max (length c) (at + length others)
most_written c at [] = omega arith
most_written c at (b ∷ bs) = let l = length-content_written c at (b ∷ bs) (omega arith) in omega (arith, l)

-- Overwriting with no bytes changes nothing.
pub overwritten_none : (xs : List ℕ) (at : ℕ) → overwritten xs at [] ≡ xs
overwritten_none xs at = ap (λ n. take at xs ++ drop n xs) (omega arith) ∙ take-append-drop at xs

-- The zeros of a gap are those of the padding.
pub written_over : (c : List ℕ) (at : ℕ) (others : List ℕ) (most : ℕ) → length c ≤ most → at + length others ≤ most → content_written c at others ++ zeros (most - length (content_written c at others)) ≡ overwritten (c ++ zeros (most - length c)) at others
written_over c at [] most w k = sym (overwritten_none (c ++ zeros (most - length c)) at)
written_over c at (b ∷ bs) most w k =
    let g = gap_length c at in
    over_zeros (c ++ zeros (at - length c)) at (b ∷ bs) most (omega (arith, g)) (omega (arith, g)) k
    ∙ ap (λ xs. overwritten xs at (b ∷ bs)) (sym (more_zeros c (at - length c) most (omega arith)))

pub length-content : (f : FileState) → FileSized f → length (content f) ≡ f.len
length-content f s = length-take-le f.len f.bytes (let a = s.bytes in let b = s.len in omega arith)

-- The file after a write: its stored bytes overwritten, and the larger of the two lengths.
pub written_is : (f : FileState) (at : ℕ) (others : List ℕ) (n : ℕ) → FileFormed f → 0 < length others → at + length others ≤ 65536 → n ≡ max f.len (at + length others) → record f { bytes = overwritten f.bytes at others; len = n } ≡ written others at f
written_is f at others n h some k e =
    let l = length-content f h.sized in
    let c = length-content_written (content f) at others some in
    let bytes : overwritten f.bytes at others ≡ padded (content_written (content f) at others) =
    ap (λ xs. overwritten xs at others) h.bytes ∙ sym (written_over (content f) at others 65536 (let b = h.sized.len in omega arith) k) in
    let len : n ≡ length (content_written (content f) at others) = omega arith in
    λ i. record f { bytes = bytes i; len = len i }

-- Writing no bytes changes nothing.
pub written_none : (f : FileState) (at : ℕ) → FileFormed f → written [] at f ≡ f
written_none f at h =
    let bytes : padded (content f) ≡ f.bytes = sym h.bytes in
    let len : length (content f) ≡ f.len = length-content f h.sized in
    λ i. record f { bytes = bytes i; len = len i }
