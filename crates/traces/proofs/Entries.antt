-- A submission entry and its 64 bytes.
use Rattle.std.proofs.Common.{◌≡◌, ℕ, ◌+◌, ◌^◌, ◌<◌, ◌≤◌, List, length, take, drop, refl, sym, ap, ◌∙◌, arith, length-drop, Fits, FitsSigned}
use Rattle.std.specs.Int.{w32}
use Rattle.std.proofs.lemmas.Int.{of_z-to_z}
use Rattle.std.proofs.Math.Facts.{sfits_to_z}
use Rattle.std.proofs.lemmas.List.{length-take, take_all}
use Rattle.byteorder.specs.Endian.{little_bytes}
use Rattle.byteorder.specs.Numbers.{little_from-lt}
use Rattle.entries.specs.declared.entry.Sqe.{Sqe}
use Rattle.entries.specs.Layout.{NumberAt, SignedAt, EntryFits, EntryLayout, entry_bytes, number_at, signed_at, entry_of_bytes}
use Rattle.entries.proofs.OneToOne.{entry_is, entry_here}
use Rattle.traces.proofs.Taking.{IsBytes, IsBytes-drop, IsBytes-take, IsWidth, width1, width2, width4, width8}

part_fits : (o w : ℕ) (bytes : List ℕ) → IsBytes bytes → IsBytes (take w (drop o bytes))
part_fits o w bytes fits = IsBytes-take w (drop o bytes) (IsBytes-drop o bytes fits)

number_laid : (o w : ℕ) (bytes : List ℕ) → IsWidth w → o + w ≤ length bytes → IsBytes bytes → NumberAt o w (number_at o w bytes) bytes
number_laid o w bytes wide le fits =
    let len : length (take w (drop o bytes)) ≡ w = omega (arith, length-take w (drop o bytes), length-drop o bytes) in
    sym (wide.back (take w (drop o bytes)) len (part_fits o w bytes fits))

number_below : (o w : ℕ) (bytes : List ℕ) → IsBytes bytes → number_at o w bytes < 256 ^ w
number_below o w bytes fits = little_from-lt 0 w (take w (drop o bytes)) (part_fits o w bytes fits)

signed_laid : (o : ℕ) (bytes : List ℕ) → o + 4 ≤ length bytes → IsBytes bytes → SignedAt o 4 (signed_at o bytes) bytes
signed_laid o bytes le fits =
    let below = number_below o 4 bytes fits in
    number_laid o 4 bytes width4 le fits ∙ ap (little_bytes 4) (sym (of_z-to_z w32 (number_at o 4 bytes) (omega arith)))

signed_fits : (o : ℕ) (bytes : List ℕ) → IsBytes bytes → FitsSigned w32 (signed_at o bytes)
signed_fits o bytes fits = let below = number_below o 4 bytes fits in let small : Fits w32 (number_at o 4 bytes) = omega arith in sfits_to_z small

pub entry_laid : (bytes : List ℕ) → length bytes ≡ 64 → IsBytes bytes → EntryLayout (entry_of_bytes bytes) bytes
unfolding entry_of_bytes
entry_laid bytes n fits = record {
  size = n;
  opcode = number_laid 0 1 bytes width1 (omega arith) fits;
  flags = number_laid 1 1 bytes width1 (omega arith) fits;
  ioprio = number_laid 2 2 bytes width2 (omega arith) fits;
  fd = signed_laid 4 bytes (omega arith) fits;
  off = number_laid 8 8 bytes width8 (omega arith) fits;
  addr = number_laid 16 8 bytes width8 (omega arith) fits;
  len = number_laid 24 4 bytes width4 (omega arith) fits;
  operation_flags = number_laid 28 4 bytes width4 (omega arith) fits;
  user_data = number_laid 32 8 bytes width8 (omega arith) fits;
  buf_index = number_laid 40 2 bytes width2 (omega arith) fits;
  personality = number_laid 42 2 bytes width2 (omega arith) fits;
  splice_fd_in = signed_laid 44 bytes (omega arith) fits;
  rest = refl;
}

below_8 : (o : ℕ) (bytes : List ℕ) → IsBytes bytes → number_at o 1 bytes < 2 ^ 8
below_8 o bytes fits = let below = number_below o 1 bytes fits in omega arith

below_16 : (o : ℕ) (bytes : List ℕ) → IsBytes bytes → number_at o 2 bytes < 2 ^ 16
below_16 o bytes fits = let below = number_below o 2 bytes fits in omega arith

below_32 : (o : ℕ) (bytes : List ℕ) → IsBytes bytes → number_at o 4 bytes < 2 ^ 32
below_32 o bytes fits = let below = number_below o 4 bytes fits in omega arith

below_64 : (o : ℕ) (bytes : List ℕ) → IsBytes bytes → number_at o 8 bytes < 2 ^ 64
below_64 o bytes fits = let below = number_below o 8 bytes fits in omega arith

pub entry_fits : (bytes : List ℕ) → IsBytes bytes → EntryFits (entry_of_bytes bytes)
unfolding entry_of_bytes
entry_fits bytes fits = record {
  opcode = below_8 0 bytes fits;
  flags = below_8 1 bytes fits;
  ioprio = below_16 2 bytes fits;
  fd = signed_fits 4 bytes fits;
  off = below_64 8 bytes fits;
  addr = below_64 16 bytes fits;
  len = below_32 24 bytes fits;
  operation_flags = below_32 28 bytes fits;
  user_data = below_64 32 bytes fits;
  buf_index = below_16 40 bytes fits;
  personality = below_16 42 bytes fits;
  splice_fd_in = signed_fits 44 bytes fits;
}

pub rest_long : (bytes : List ℕ) → length bytes ≡ 64 → length (entry_of_bytes bytes).rest ≡ 16
unfolding entry_of_bytes
rest_long bytes n = omega (arith, length-take 16 (drop 48 bytes), length-drop 48 bytes)

pub entry_spelled : (bytes : List ℕ) → length bytes ≡ 64 → IsBytes bytes → bytes ≡ entry_bytes (entry_of_bytes bytes)
entry_spelled bytes n fits = entry_is (entry_of_bytes bytes) bytes (entry_laid bytes n fits)

pub entry_long : (e : Sqe) → length e.rest ≡ 16 → length (entry_bytes e) ≡ 64
entry_long e n = omega (arith, n)

pub entry_again : (e : Sqe) → EntryFits e → length e.rest ≡ 16 → entry_of_bytes (entry_bytes e) ≡ e
entry_again e f n = sym (entry_here e (entry_bytes e) f (record {
  size = entry_long e n;
  opcode = refl;
  flags = refl;
  ioprio = refl;
  fd = refl;
  off = refl;
  addr = refl;
  len = refl;
  operation_flags = refl;
  user_data = refl;
  buf_index = refl;
  personality = refl;
  splice_fd_in = refl;
  rest = take_all 16 e.rest (omega (arith, n));
}))
