-- Facts about the lists of pending elements and the invariants of the rings.
use Rattle.ring_words.proofs.Common.{◌≡◌, ℕ, zero, suc, Bool, sym, ◌∙◌, List, [], ◌∷◌, ◌++◌, length, ◌+◌, ◌%◌, ◌<◌, ◌≤◌, ◌^◌, arith, length-set, Some, slice_get, slice_set, mod_below, slice_get-set, SubWords, ComWords, SubFormed, ComFormed, waiting, rounded, sub_list, com_list, sub_start, com_start, zero_entry, zero_completion, with_flag, Cqe, Sqe, RingFlag, length-replicate}
use Rattle.std.proofs.Math.ListN.{replicate}
use Rattle.ring_words.proofs.{Order.list_back, Order.items_length, Sizes.size_divides, Sizes.rounded_size, Sizes.size_some, Flags.with_flag_fits}

-- The list is as long as head and tail say.
pub sub_length : (w : SubWords) → SubFormed w → length (sub_list w) ≡ waiting w.head w.tail
unfolding sub_list
sub_length w f = items_length w.array w.head (waiting w.head w.tail) (size_some f.size)

pub com_length : (w : ComWords) → ComFormed w → length (com_list w) ≡ waiting w.head w.tail
unfolding com_list
com_length w f = items_length w.slots w.head (waiting w.head w.tail) (size_some f.size)

-- Posting appends to the list.
pub com_posted : (w : ComWords) (c : Cqe) → ComFormed w → waiting w.head w.tail < length w.slots
    → com_list (record w { tail = (w.tail + 1) % 2 ^ 32; slots = slice_set w.slots (w.tail % length w.slots) c }) ≡ com_list w ++ c ∷ []
unfolding com_list
com_posted w c f l = list_back w.slots w.head w.tail c (size_some f.size) f.size.most (size_divides 8192 _ f.size) f.head f.tail l

set_word : (xs : List ℕ) (j x : ℕ) → j < length xs → x < 2 ^ 32 → ((i y : ℕ) → slice_get xs i ≡ Some y → y < 2 ^ 32) → (i y : ℕ) → slice_get (slice_set xs j x) i ≡ Some y → y < 2 ^ 32
set_word = grind (arith, slice_get-set)

-- Each change preserves the invariant.
pub formed_pushed : (w : SubWords) (x : ℕ) → SubFormed w → x < 2 ^ 32 → SubFormed (record w { tail = (w.tail + 1) % 2 ^ 32; array = slice_set w.array (w.tail % length w.array) x })
formed_pushed = grind (arith, length-set, set_word, mod_below, size_some)

pub formed_taken : (w : SubWords) (head dropped : ℕ) → SubFormed w → head < 2 ^ 32 → dropped < 2 ^ 32 → SubFormed (record w { head = head; dropped = dropped })
formed_taken w head dropped f a b = record { size = f.size; slots = f.slots; head = a; tail = f.tail; flags = f.flags; dropped = b; words = f.words }

pub formed_entry : (w : SubWords) (slot : ℕ) (e : Sqe) → SubFormed w → SubFormed (record w { slots = slice_set w.slots slot e })
formed_entry w slot e f = record { size = f.size; slots = length-set w.slots slot e ∙ f.slots; head = f.head; tail = f.tail; flags = f.flags; dropped = f.dropped; words = f.words }

pub formed_flag : (w : SubWords) (f : RingFlag) (on : Bool) → SubFormed w → SubFormed (record w { flags = with_flag w.flags f on })
formed_flag w g on f = record { size = f.size; slots = f.slots; head = f.head; tail = f.tail; flags = with_flag_fits w.flags g on f.flags; dropped = f.dropped; words = f.words }

pub formed_posted : (w : ComWords) (c : Cqe) → ComFormed w → ComFormed (record w { tail = (w.tail + 1) % 2 ^ 32; slots = slice_set w.slots (w.tail % length w.slots) c })
formed_posted w c f = record { size = rw (length-set w.slots (w.tail % length w.slots) c) f.size; head = f.head; tail = omega arith }

zero_word : (n i y : ℕ) → slice_get (replicate n 0) i ≡ Some y → y < 2 ^ 32
zero_word zero i y e = absurd cc
zero_word (suc n) zero y e = let z : 0 ≡ y = cc in omega arith
zero_word (suc n) (suc i) y e = zero_word n i y e

-- The rings at the start of a run satisfy the invariant.
pub formed_sub_start : (n base : ℕ) → 0 < n → n ≤ 4096 → base < 2 ^ 32 → SubFormed (sub_start n base)
formed_sub_start n base s l b =
    let fits : 0 < 2 ^ 32 = omega arith in
    let words : length (replicate (rounded n) 0) ≡ rounded n = length-replicate (rounded n) 0 in
    let slots : length (replicate (rounded n) zero_entry) ≡ rounded n = length-replicate (rounded n) zero_entry in
    record {
      size = rw words (rounded_size n 12 s (omega arith) (omega arith) (omega arith));
      slots = slots ∙ sym words;
      head = b;
      tail = b;
      flags = fits;
      dropped = fits;
      words = zero_word (rounded n);
    }

pub formed_com_start : (n base : ℕ) → 0 < n → n ≤ 8192 → base < 2 ^ 32 → ComFormed (com_start n base)
formed_com_start n base s l b = record { size = rw (length-replicate (rounded n) zero_completion) (rounded_size n 13 s (omega arith) (omega arith) (omega arith)); head = b; tail = b }
