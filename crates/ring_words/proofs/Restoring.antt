-- Assigning the values of one ring to another of the same size.
use Rattle.ring_words.proofs.Common.{◌≡◌, ℕ, List, length, ◌<◌, arith, Option, Some, None, option_map, slice_get, slice_get_within, slice_get_past, Number, Entry, Completed, same_list, slice_get_none, SubWords, ComWords, SubFormed, ComFormed, sub_seen, com_seen, sub_can_put, com_can_put, Place, SubmissionHead, SubmissionTail, SubmissionFlags, SubmissionDropped, CompletionHead, CompletionTail, Array, Slot, Completion}
use Rattle.places.specs.declared.value.Value.{Value}

-- Lists of the same length have elements at the same indexes.
pub none_here : {X V : Type 0} (f : X → V) (xs ys : List X) (i : ℕ) → length xs ≡ length ys → option_map f (slice_get xs i) ≡ None → option_map f (slice_get ys i) ≡ None
none_here = grind (arith, slice_get_past, slice_get_none)

pub some_here : {X V : Type 0} (f : X → V) (xs ys : List X) (i : ℕ) (v : V) → length xs ≡ length ys → option_map f (slice_get xs i) ≡ Some v → (i < length ys) × ((x : X) × (slice_get xs i ≡ Some x) × (v ≡ f x))
some_here = grind (arith, slice_get_within)

pub same_through : {X V : Type 0} (f : X → V) → ((x y : X) → f x ≡ f y → x ≡ y) → (a b : Option X) → option_map f a ≡ option_map f b → a ≡ b
same_through = grind arith

-- Each value of one ring can be assigned in the other.
pub sub_seen_can_put : (s m : SubWords) → SubFormed s → length s.array ≡ length m.array → length s.slots ≡ length m.slots → (p : Place) (v : Value) → sub_seen s p ≡ Some v → sub_can_put m p (Some v)
sub_seen_can_put = grind (arith, some_here)

pub com_seen_can_put : (s m : ComWords) → ComFormed s → length s.slots ≡ length m.slots → (p : Place) (v : Value) → com_seen s p ≡ Some v → com_can_put m p (Some v)
com_seen_can_put = grind (arith, some_here)

-- The same places are absent in both rings.
pub sub_absent_same : (s m : SubWords) → length s.array ≡ length m.array → length s.slots ≡ length m.slots → (p : Place) → sub_seen s p ≡ None → sub_seen m p ≡ None
sub_absent_same = grind (arith, none_here)

pub com_absent_same : (s m : ComWords) → length s.slots ≡ length m.slots → (p : Place) → com_seen s p ≡ None → com_seen m p ≡ None
com_absent_same = grind (arith, none_here)

-- Rings with equal views are equal.
pub same_sub : (s m : SubWords) → ((p : Place) → sub_seen s p ≡ sub_seen m p) → s ≡ m
same_sub s m e = λ i. record { head = head i; tail = tail i; flags = flags i; dropped = dropped i; array = array i; slots = slots i }
  where
    head : s.head ≡ m.head
    head = let k = e SubmissionHead in cc

    tail : s.tail ≡ m.tail
    tail = let k = e SubmissionTail in cc

    flags : s.flags ≡ m.flags
    flags = let k = e SubmissionFlags in cc

    dropped : s.dropped ≡ m.dropped
    dropped = let k = e SubmissionDropped in cc

    array : s.array ≡ m.array
    array = same_list _ _ (λ i. same_through Number (λ x y k. cc) _ _ (e (Array i)))

    slots : s.slots ≡ m.slots
    slots = same_list _ _ (λ i. same_through Entry (λ x y k. cc) _ _ (e (Slot i)))

pub same_com : (s m : ComWords) → ((p : Place) → com_seen s p ≡ com_seen m p) → s ≡ m
same_com s m e = λ i. record { head = head i; tail = tail i; slots = slots i }
  where
    head : s.head ≡ m.head
    head = let k = e CompletionHead in cc

    tail : s.tail ≡ m.tail
    tail = let k = e CompletionTail in cc

    slots : s.slots ≡ m.slots
    slots = same_list _ _ (λ i. same_through Completed (λ x y k. cc) _ _ (e (Completion i)))
