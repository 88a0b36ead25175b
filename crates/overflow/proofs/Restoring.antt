-- Assigning the values of one backlog to another of the same length.
use Rattle.overflow.proofs.Common.{◌≡◌, length, arith, Some, None, Place, Backlog, BacklogFront, Completed, BacklogState, BacklogFormed, backlog_seen, backlog_can_put, same_list}
use Rattle.places.specs.declared.value.Value.{Value}
use Rattle.ring_words.proofs.Restoring.{none_here, some_here, same_through}

-- Each value can be assigned.
pub backlog_seen_can_put : (s m : BacklogState) → BacklogFormed s → length s.items ≡ length m.items → (p : Place) (v : Value) → backlog_seen s p ≡ Some v → backlog_can_put m p (Some v)
backlog_seen_can_put = grind (arith, some_here)

-- The same places are absent in both backlogs.
pub backlog_absent_same : (s m : BacklogState) → length s.items ≡ length m.items → (p : Place) → backlog_seen s p ≡ None → backlog_seen m p ≡ None
backlog_absent_same = grind (arith, none_here)

-- Backlogs with equal views are equal.
pub same_backlog : (s m : BacklogState) → ((p : Place) → backlog_seen s p ≡ backlog_seen m p) → s ≡ m
same_backlog s m e = λ i. record { items = items i; front = front i }
  where
    items : s.items ≡ m.items
    items = same_list _ _ (λ i. same_through Completed (λ x y k. cc) _ _ (e (Backlog i)))

    front : s.front ≡ m.front
    front = let k = e BacklogFront in cc
