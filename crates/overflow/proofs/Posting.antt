-- Facts about posting completions into the ring in order.
use Rattle.overflow.proofs.Common.{◌≡◌, ℕ, refl, sym, ◌∙◌, ap, List, [], ◌∷◌, ◌++◌, length, take, append_assoc, length-set, ◌+◌, ◌%◌, ◌≤◌, ◌<◌, arith, None, Some, slice_get, common_steps, gets, append-nil, length-take-le, Cqe, Place, named, Keeps, keeps_then, ComWords, ComFormed, waiting, com_list, com_owns, com_seen, posted_one, posted_in_order, Notes, com_posted, formed_posted}
use Rattle.ring_words.proofs.Order.{waiting_more}

-- Posting one more completion.
pub posted_more : (w : ComWords) (cs : List Cqe) (c : Cqe) → posted_in_order w (cs ++ c ∷ []) ≡ posted_one (posted_in_order w cs) c
posted_more w [] c = refl
posted_more w (x ∷ xs) c = posted_more (posted_one w x) xs c

-- The ring keeps its size and its head.
pub posted_slots : (w : ComWords) (cs : List Cqe) → length (posted_in_order w cs).slots ≡ length w.slots
posted_slots w [] = refl
posted_slots w (c ∷ cs) = posted_slots (posted_one w c) cs ∙ length-set w.slots (w.tail % length w.slots) c

pub posted_well : (w : ComWords) (cs : List Cqe) → ComFormed w → ComFormed (posted_in_order w cs)
posted_well w [] f = f
posted_well w (c ∷ cs) f = posted_well (posted_one w c) cs (formed_posted w c f)

one_waits : (w : ComWords) (c : Cqe) → ComFormed w → waiting w.head w.tail < length w.slots → waiting (posted_one w c).head (posted_one w c).tail ≡ waiting w.head w.tail + 1
one_waits w c f l = waiting_more w.head w.tail (length w.slots) f.head f.tail f.size.most l

-- If all fit, they follow the earlier ones.
pub posted_waits : (w : ComWords) (cs : List Cqe) → ComFormed w → waiting w.head w.tail + length cs ≤ length w.slots → waiting (posted_in_order w cs).head (posted_in_order w cs).tail ≡ waiting w.head w.tail + length cs
posted_waits w [] f l = omega arith
posted_waits w (c ∷ cs) f l =
    let one = one_waits w c f (omega arith) in
    let size = length-set w.slots (w.tail % length w.slots) c in
    let all = posted_waits (posted_one w c) cs (formed_posted w c f) (omega (arith, one, size)) in
    omega (arith, one, all)

pub posted_list : (w : ComWords) (cs : List Cqe) → ComFormed w → waiting w.head w.tail + length cs ≤ length w.slots → com_list (posted_in_order w cs) ≡ com_list w ++ cs
posted_list w [] f l = sym (append-nil (com_list w))
posted_list w (c ∷ cs) f l =
    let one = one_waits w c f (omega arith) in
    let size = length-set w.slots (w.tail % length w.slots) c in
    posted_list (posted_one w c) cs (formed_posted w c f) (omega (arith, one, size))
    ∙ ap (λ xs. xs ++ cs) (com_posted w c f (omega arith))
    ∙ append_assoc (com_list w) (c ∷ []) cs

-- The invariant of the loop: the first i completions are posted.
pub record Posting (before now : ComWords) (old new : Notes) (list : List Cqe) (i : ℕ) : Type 0 where
  pub next : now ≡ posted_in_order before (take i list)
  pub formed : ComFormed before
  pub keeps : Keeps com_owns (com_seen before) (com_seen now) old.made new.made
  pub named : (p : Place) → named new.made p ≡ None → named old.made p ≡ None
  pub numbers : old.numbers ≤ new.numbers + i
  pub completions : old.completions ≤ new.completions + i

-- The next completion fits.
pub posting_room : (before now : ComWords) (old new : Notes) (list : List Cqe) (i : ℕ) → Posting before now old new list i → waiting before.head before.tail + length list ≤ length before.slots → i < length list → waiting now.head now.tail < length now.slots
posting_room = grind (arith, length-take-le, posted_waits, posted_slots)

take_more : (xs : List Cqe) (i : ℕ) (x : Cqe) → slice_get xs i ≡ Some x → take (i + 1) xs ≡ take i xs ++ x ∷ []
take_more xs i x g = grind (arith, common_steps, gets)

-- One iteration.
pub posting_on : (before now next : ComWords) (old mid new : Notes) (list : List Cqe) (i : ℕ) (x : Cqe) → Posting before now old mid list i → slice_get list i ≡ Some x → next ≡ posted_one now x
    → Keeps com_owns (com_seen now) (com_seen next) mid.made new.made → ((p : Place) → named new.made p ≡ None → named mid.made p ≡ None) → mid.numbers ≤ new.numbers + 1 → mid.completions ≤ new.completions + 1 → Posting before next old new list (i + 1)
posting_on before now next old mid new list i x p g e k n a b = record {
  next = e ∙ ap (λ w. posted_one w x) p.next ∙ sym (posted_more before (take i list) x) ∙ ap (posted_in_order before) (sym (take_more list i x g));
  formed = p.formed;
  keeps = keeps_then _ _ _ _ _ _ _ p.keeps k;
  named = λ q h. p.named q (n q h);
  numbers = let u = p.numbers in omega arith;
  completions = let u = p.completions in omega arith;
}
