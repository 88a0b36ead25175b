-- How recording the requests of an undo record changes each lifetime.
use Rattle.occupancy.proofs.Common.{◌≡◌, ℕ, zero, suc, ◌+◌, ◌-◌, ◌<◌, ◌≤◌, ◌⊎◌, Bool, true, false, cond, refl, List, [], ◌∷◌, ◌++◌, length, get_or, Option, Some, None, slice_get, slice_set, replicate, Row, Phase, Queued, Issued, Ended, updated, Place, Request, Change, same_place, Stamps, inl, inr, sym, ap, ◌∙◌, arith, append_assoc, replicate-append-replicate, slice_get-get_or, length-updated, updated_set, same_place_is, same_place_self, named, first_moment, stamped, stamp_as, stamp_row, stamp_place, stamp_changes}

-- ---- lists with one element changed

pub get-updated_here : {X : Type 0} (f : X → X) (xs : List X) (i : ℕ) (x : X) → slice_get xs i ≡ Some x → slice_get (updated f xs i) i ≡ Some (f x)
get-updated_here f [] i x h = absurd cc
get-updated_here f (y ∷ ys) zero x h = let e : y ≡ x = cc in ap (λ z. Some (f z)) e
get-updated_here f (y ∷ ys) (suc i) x h = get-updated_here f ys i x h

pub get-updated_other : {X : Type 0} (f : X → X) (xs : List X) (i j : ℕ) → (i ≡ j → ⊥) → slice_get (updated f xs i) j ≡ slice_get xs j
get-updated_other f [] i j h = refl
get-updated_other f (y ∷ ys) zero zero h = absurd (h refl)
get-updated_other f (y ∷ ys) zero (suc j) h = refl
get-updated_other f (y ∷ ys) (suc i) zero h = refl
get-updated_other f (y ∷ ys) (suc i) (suc j) h = get-updated_other f ys i j (λ e. h (ap suc e))

-- ---- one request

twice : (o : Option ℕ) (m : ℕ) → first_moment (first_moment o m) m ≡ first_moment o m
twice None m = refl
twice (Some k) m = refl

-- Recording a phase twice has the same result as recording it once.
pub stamped_twice : (x : Stamps) (p : Phase) (m : ℕ) → stamped (stamped x p m) p m ≡ stamped x p m
stamped_twice x Queued m = refl
stamped_twice x Issued m = ap (λ (o : Option ℕ). record { queued = x.queued; issued = o; ended = x.ended }) (twice x.issued m)
stamped_twice x (Ended res) m = ap (λ (o : Option ℕ). record { queued = x.queued; issued = x.issued; ended = o }) (twice x.ended m)

stamped_here : (rows : List Row) (m : ℕ) (xs : List Stamps) (r : ℕ) (x : Stamps) (row : Row) → slice_get rows r ≡ Some row → slice_get xs r ≡ Some x → slice_get (stamp_row rows m xs r) r ≡ Some (stamped x row.phase m)
stamped_here rows m xs r x row h k =
    ap (λ o. slice_get (stamp_as o m xs r) r) h ∙ get-updated_here (λ y. stamped y row.phase m) xs r x k

stamped_apart : (rows : List Row) (m : ℕ) (xs : List Stamps) (q r : ℕ) → (q ≡ r → ⊥) → slice_get (stamp_row rows m xs q) r ≡ slice_get xs r
stamped_apart rows m xs q r h = by (slice_get rows q)
  where
    by : (o : Option Row) → slice_get (stamp_as o m xs q) r ≡ slice_get xs r
    by None = refl
    by (Some row) = get-updated_other (λ y. stamped y row.phase m) xs q r h

stamp_elsewhere : (rows : List Row) (m : ℕ) (p : Place) (xs : List Stamps) (r : ℕ) → same_place p (Request r) ≡ false → slice_get (stamp_place rows m p xs) r ≡ slice_get xs r
stamp_elsewhere rows m (Request q) xs r h = stamped_apart rows m xs q r (λ e. let k = ap (λ j. same_place (Request q) (Request j)) e in let t = same_place_self (Request q) in absurd cc)
stamp_elsewhere rows m p xs r h = refl

-- ---- all requests of a record

stamp_place_length : (rows : List Row) (m : ℕ) (p : Place) (xs : List Stamps) → length (stamp_place rows m p xs) ≡ length xs
stamp_place_length rows m (Request q) xs = by (slice_get rows q)
  where
    by : (o : Option Row) → length (stamp_as o m xs q) ≡ length xs
    by None = refl
    by (Some row) = length-updated (λ y. stamped y row.phase m) xs q
stamp_place_length rows m p xs = refl

pub stamp_changes_length : (rows : List Row) (m : ℕ) (cs : List Change) (xs : List Stamps) → length (stamp_changes rows m cs xs) ≡ length xs
stamp_changes_length rows m [] xs = refl
stamp_changes_length rows m (c ∷ cs) xs = stamp_changes_length rows m cs (stamp_place rows m c.place xs) ∙ stamp_place_length rows m c.place xs

-- A request's phase is recorded, or no change names it and its lifetime is unchanged.
pub changed_at : (rows : List Row) (m : ℕ) (cs : List Change) (xs : List Stamps) (r : ℕ) (x : Stamps) (row : Row) → slice_get rows r ≡ Some row → slice_get xs r ≡ Some x
    → (slice_get (stamp_changes rows m cs xs) r ≡ Some (stamped x row.phase m)) ⊎ ((slice_get (stamp_changes rows m cs xs) r ≡ Some x) × (named cs (Request r) ≡ None))
unfolding named
changed_at rows m [] xs r x row h k = inr (k, refl)
changed_at rows m (c ∷ cs) xs r x row h k = by (same_place c.place (Request r)) refl (λ y e. changed_at rows m cs (stamp_place rows m c.place xs) r y row h e)
  where
    next : List Stamps
    next = stamp_changes rows m cs (stamp_place rows m c.place xs)

    by : (b : Bool) → same_place c.place (Request r) ≡ b
        → ((y : Stamps) → slice_get (stamp_place rows m c.place xs) r ≡ Some y → (slice_get next r ≡ Some (stamped y row.phase m)) ⊎ ((slice_get next r ≡ Some y) × (named cs (Request r) ≡ None)))
        → (slice_get next r ≡ Some (stamped x row.phase m)) ⊎ ((slice_get next r ≡ Some x) × (cond b (Some c.old) (named cs (Request r)) ≡ None))
    by true e rest =
        let is : c.place ≡ Request r = same_place_is _ _ e in
        let here : slice_get (stamp_place rows m c.place xs) r ≡ Some (stamped x row.phase m) = ap (λ p. slice_get (stamp_place rows m p xs) r) is ∙ stamped_here rows m xs r x row h k in
        elim (rest (stamped x row.phase m) here) [ inl q ↦ inl (q ∙ ap Some (stamped_twice x row.phase m)) | inr q ↦ inl q.0 ]
    by false e rest = rest x (stamp_elsewhere rows m c.place xs r e ∙ k)

-- ---- new requests

pub added_before : {X : Type 0} (xs : List X) (k : ℕ) (y : X) (r : ℕ) → r < length xs → slice_get (xs ++ replicate k y) r ≡ slice_get xs r
added_before [] k y r h = absurd (omega arith)
added_before (x ∷ xs) k y zero h = refl
added_before (x ∷ xs) k y (suc r) h = added_before xs k y r (omega arith)

pub added_after : {X : Type 0} (xs : List X) (k : ℕ) (y : X) (r : ℕ) → length xs ≤ r → r < length xs + k → slice_get (xs ++ replicate k y) r ≡ Some y
added_after [] zero y r h l = absurd (omega arith)
added_after [] (suc k) y zero h l = refl
added_after [] (suc k) y (suc r) h l = added_after [] k y r (omega arith) (omega arith)
added_after (x ∷ xs) k y zero h l = absurd (omega arith)
added_after (x ∷ xs) k y (suc r) h l = added_after xs k y r (omega arith) (omega arith)

pub added_length : {X : Type 0} (xs : List X) (k : ℕ) (y : X) → length (xs ++ replicate k y) ≡ length xs + k
added_length [] zero y = refl
added_length [] (suc k) y = let e = added_length [] k y in omega (arith, e)
added_length (x ∷ xs) k y = let e = added_length xs k y in omega (arith, e)

-- Adding one more request.
pub added_more : {X : Type 0} (xs ys : List X) (n r : ℕ) (y : X) → n ≤ r → ys ≡ xs ++ replicate (r - n) y → ys ++ y ∷ [] ≡ xs ++ replicate (r + 1 - n) y
added_more xs ys n r y h e =
    let one : replicate (r - n) y ++ y ∷ [] ≡ replicate (r - n + 1) y = replicate-append-replicate (r - n) 1 y in
    let count : r - n + 1 ≡ r + 1 - n = omega (arith, h) in
    ap (λ zs. zs ++ y ∷ []) e ∙ append_assoc xs (replicate (r - n) y) (y ∷ []) ∙ ap (λ zs. xs ++ zs) (one ∙ ap (λ k. replicate k y) count)

-- The loop overwrites one lifetime in place.
pub stamp_row_set : (rows : List Row) (m : ℕ) (xs : List Stamps) (r : ℕ) (x : Stamps) (row : Row) → slice_get rows r ≡ Some row → r < length xs → x ≡ get_or xs r x → slice_set xs r (stamped x row.phase m) ≡ stamp_row rows m xs r
stamp_row_set rows m xs r x row h l g =
    sym (updated_set (λ y. stamped y row.phase m) xs r x (slice_get-get_or xs r x l ∙ ap Some (sym g))) ∙ ap (λ o. stamp_as o m xs r) (sym h)
