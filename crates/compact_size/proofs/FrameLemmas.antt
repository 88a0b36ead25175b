-- What `put_frame` appends is read back, whatever follows it.
use Rattle.std.proofs.Common.{◌≡◌, ℕ, zero, suc, ◌+◌, ◌-◌, ◌<◌, ◌≤◌, sym, ◌∙◌, ap, List, [], ◌∷◌, ◌++◌, length, append_assoc, append-nil, length-append, take, slice_index, arith}
use Rattle.std.specs.Prelude.{slice_set}
use Rattle.std.proofs.Math.Seq.{take-append_seam, drop-append_seam, set-append_seam}
use Rattle.compact_size.specs.Reading.{Reads, Puts}
use Rattle.compact_size.specs.CompactSizes.{number_of, after}
use Rattle.compact_size.specs.Frames.{Frames}
use Rattle.compact_size.proofs.CompactSizeLemmas.{small_reads}

-- Where the bytes end, zeros are read.
padded : (xs : List ℕ) (n : ℕ) (bs : List ℕ) → ((j : ℕ) → n ≤ j → slice_index xs j ≡ 0) → Reads number_of after bs (take n xs) [] → Reads number_of after bs xs []
unfolding number_of after
padded [] zero bs z r = r
padded [] (suc n) bs z r = r
padded (x ∷ xs) zero bs z r = (ap number_of r ∙ sym (z 0 (omega arith)), padded xs 0 (after bs) (λ j h. z (suc j) (omega arith)) (ap after r))
padded (x ∷ xs) (suc n) bs z r = (r.0, padded xs n (after bs) (λ j h. z (suc j) (omega arith)) r.1)

-- Appending bytes makes a list no shorter.
pub puts_longer : (a b xs : List ℕ) → Puts number_of after a xs b → length a ≤ length b
puts_longer a b xs g =
    let p = g [] in
    omega (arith, ap length p.joined, length-append b [], length-append a p.put)

-- A byte for the length, the numbers without some zeros, and then the length put into its byte.
pub frame_put : (old mid xs : List ℕ) (n size : ℕ) → ((j : ℕ) → n ≤ j → slice_index xs j ≡ 0) → Puts number_of after (old ++ 0 ∷ []) (take n xs) mid → size ≡ length mid - (length old + 1) → size < 253 → Frames old xs (slice_set mid (length old) size)
frame_put old mid xs n size z g l h =
    let q = g [] in
    let e : mid ≡ old ++ 0 ∷ q.put = sym (append-nil mid) ∙ q.joined ∙ append_assoc old (0 ∷ []) q.put in
    let s : size ≡ length q.put = omega (arith, ap length e, length-append old (0 ∷ q.put)) in
    let t : slice_set mid (length old) size ≡ old ++ size ∷ q.put = ap (λ m. slice_set m (length old) size) e ∙ set-append_seam old 0 q.put size in
    record {
      bytes = q.put;
      put = λ rest.
          let r = small_reads size (q.put ++ rest) h in
          record {
            put = size ∷ (q.put ++ rest);
            joined = ap (λ m. m ++ rest) t ∙ append_assoc old (size ∷ q.put) rest;
            reads = (rw (r.0, r.1, s) (take-append_seam q.put rest), rw (r.0, r.1, s) (drop-append_seam q.put rest));
          };
      reads = padded xs n q.put z q.reads;
    }
