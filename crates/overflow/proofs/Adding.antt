-- Facts about adding completions to the backlog: their places are first recorded as absent.
use Rattle.overflow.proofs.Common.{◌≡◌, ℕ, refl, sym, ◌∙◌, ap, List, [], ◌∷◌, ◌++◌, length, take, append_assoc, length-append, ◌+◌, ◌≤◌, ◌<◌, ◌⊎◌, inl, inr, get_or, arith, Some, None, option_map, slice_get, common_steps, gets, slice_get_past, slice_get_cases, length-take-le, Cqe, Place, Backlog, Completed, named, Keeps, Noted, keeps_then, keeps_noted, noted_keeps, BacklogState, backlog_owns, backlog_seen, backlog_with, Notes}
use Rattle.overflow.proofs.Seen.{seen_more}

-- The invariant of the loop: the first i places after the end are recorded as absent. The same
-- notes are right once these completions are there.
pub record Adding (b : BacklogState) (old new : Notes) (list : List Cqe) (i : ℕ) : Type 0 where
  pub within : i ≤ length list
  pub keeps : Keeps backlog_owns (backlog_seen b) (backlog_seen (backlog_with b (take i list))) old.made new.made
  pub named : (p : Place) → named new.made p ≡ None → named old.made p ≡ None
  pub numbers : old.numbers ≤ new.numbers
  pub completions : old.completions ≤ new.completions

take_more : (xs : List Cqe) (i : ℕ) (x : Cqe) → slice_get xs i ≡ Some x → take (i + 1) xs ≡ take i xs ++ x ∷ []
take_more xs i x g = grind (arith, common_steps, gets)

element : (xs : List Cqe) (i : ℕ) → i < length xs → (x : Cqe) × (slice_get xs i ≡ Some x)
element xs i h = by (slice_get_cases xs i).1
  where
    by : ((x : Cqe) × (i < length xs) × (slice_get xs i ≡ Some x) × (get_or xs i x ≡ x)) ⊎ ((length xs ≤ i) × (slice_get xs i ≡ None)) → (x : Cqe) × (slice_get xs i ≡ Some x)
    by (inl k) = (k.0, k.2)
    by (inr k) = absurd (let l = k.0 in omega arith)

-- One iteration.
pub adding_on : (b : BacklogState) (old mid new : Notes) (list : List Cqe) (i : ℕ) → Adding b old mid list i → i < length list → Noted mid.made new.made (Backlog (length b.items + i)) None → mid.numbers ≤ new.numbers → mid.completions ≤ new.completions → Adding b old new list (i + 1)
adding_on b old mid new list i a h n x y =
    let c = element list i h in
    let more : backlog_with b (take (i + 1) list) ≡ record (backlog_with b (take i list)) { items = (b.items ++ take i list) ++ c.0 ∷ [] } = ap (λ xs. backlog_with b xs) (take_more list i c.0 c.1) ∙ ap (λ xs. record b { items = xs }) (sym (append_assoc b.items (take i list) (c.0 ∷ []))) in
    let k = length-append b.items (take i list) in
    let j = length-take-le i list (omega arith) in
    let at : length (b.items ++ take i list) ≡ length b.items + i = omega (arith, k, j) in
    let absent : option_map Completed (slice_get (b.items ++ take i list) (length b.items + i)) ≡ None = ap (option_map Completed) (slice_get_past (b.items ++ take i list) (length b.items + i) (omega arith)) in
    let one : Keeps backlog_owns (backlog_seen (backlog_with b (take i list))) (backlog_seen (backlog_with b (take (i + 1) list))) mid.made new.made
    = rw more (keeps_noted backlog_owns (backlog_seen (backlog_with b (take i list))) _ mid.made new.made (Backlog (length b.items + i)) (Some (Completed c.0)) refl (rw absent n) (rw (← at) (seen_more (backlog_with b (take i list)) c.0))) in
    record {
      within = omega arith;
      keeps = keeps_then _ _ _ _ _ _ _ a.keeps one;
      named = λ p e. a.named p (noted_keeps _ _ _ _ n p e);
      numbers = let u = a.numbers in omega arith;
      completions = let u = a.completions in omega arith;
    }
