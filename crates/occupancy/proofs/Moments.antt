-- Lifetimes and occupancy, extended by one moment.
use Rattle.occupancy.proofs.Common.{◌≡◌, ℕ, zero, suc, ◌+◌, ◌-◌, ◌<◌, ◌≤◌, Bool, true, false, cond, refl, List, [], ◌∷◌, ◌++◌, length, Option, Some, None, option_map, slice_get, replicate, ◌==◌, option_map_or, Row, Phase, Queued, Issued, Ended, is_issued, is_ended, Request, Requested, Change, Exact, Event, Setup, view, moment, Filling, Stamps, inl, inr, sym, ap, ◌∙◌, subst, arith, eq-eqb, length-append, eqb-true, slice_get_within, slice_get-push, slice_get_none, same_Some, filling_of, first_moment, new_stamps, stamped, stamp_changes, stamps_after, has_row, any_phase, IsFirst, IsStamped, AreStamped, AreFilled}
use Rattle.occupancy.proofs.Noting.{added_after, added_before, added_length, changed_at, stamp_changes_length}

-- ---- first moments

-- If the next moment fails the test and none passed before, none passes up to it. A first moment
-- stays first.
pub first_not : (holds : ℕ → Bool) (n : ℕ) (o : Option ℕ) → IsFirst holds n o → holds (n + 1) ≡ false → IsFirst holds (n + 1) o
first_not holds n (Some k) f e = let b = f.0 in (omega (arith, b), f.1, f.2)
first_not holds n None f e = λ i l. by i l (i == n + 1) refl
  where
    by : (i : ℕ) → i ≤ n + 1 → (b : Bool) → (i == n + 1) ≡ b → holds i ≡ false
    by i l true k = ap holds (eqb-true i (n + 1) k) ∙ e
    by i l false k =
        let apart : i ≡ n + 1 → ⊥ = λ (q : i ≡ n + 1). let t = eq-eqb i (n + 1) q in absurd cc in
        f i (omega (arith, l, apart))

-- If the next moment passes the test, the first moment is an earlier one or this one.
pub first_more : (holds : ℕ → Bool) (n : ℕ) (o : Option ℕ) → IsFirst holds n o → holds (n + 1) ≡ true → IsFirst holds (n + 1) (first_moment o (n + 1))
first_more holds n (Some k) f e = let b = f.0 in (omega (arith, b), f.1, f.2)
first_more holds n None f e = (omega arith, e, λ i l. f i (omega (arith, l)))

-- If the next moment passes the test exactly if the last one does, the first moment is unchanged.
pub first_kept : (holds : ℕ → Bool) (n : ℕ) (o : Option ℕ) → IsFirst holds n o → holds (n + 1) ≡ holds n → IsFirst holds (n + 1) o
first_kept holds n (Some k) f e = let b = f.0 in (omega (arith, b), f.1, f.2)
first_kept holds n None f e = first_not holds n None f (e ∙ f n (omega arith))

-- ---- one request

-- The test of a request at a moment depends on its phase.
row_test_is : (test : Phase → Bool) (s : Setup) (es : List Event) (i r : ℕ) (row : Row) → slice_get (moment s es i).table r ≡ Some row → has_row test r (moment s es i) ≡ test row.phase
row_test_is test s es i r row h = ap (λ o. option_map_or (λ (x : Row). test x.phase) o false) h

-- The first moments up to n at which request r was issued and was complete.
pub record Progress (s : Setup) (es : List Event) (n r : ℕ) (x : Stamps) : Type 0 where
  pub issued : IsFirst (λ i. has_row is_issued r (moment s es i)) n x.issued
  pub ended : IsFirst (λ i. has_row is_ended r (moment s es i)) n x.ended

progress_more : (s : Setup) (es : List Event) (n r : ℕ) (x : Stamps) (row : Row) → Progress s es n r x → slice_get (moment s es (n + 1)).table r ≡ Some row → (p : Phase) → row.phase ≡ p → Progress s es (n + 1) r (stamped x p (n + 1))
progress_more s es n r x row c h Queued e = record {
  issued = first_not _ n x.issued c.issued (row_test_is is_issued s es (n + 1) r row h ∙ ap is_issued e);
  ended = first_not _ n x.ended c.ended (row_test_is is_ended s es (n + 1) r row h ∙ ap is_ended e);
}
progress_more s es n r x row c h Issued e = record {
  issued = first_more _ n x.issued c.issued (row_test_is is_issued s es (n + 1) r row h ∙ ap is_issued e);
  ended = first_not _ n x.ended c.ended (row_test_is is_ended s es (n + 1) r row h ∙ ap is_ended e);
}
progress_more s es n r x row c h (Ended res) e = record {
  issued = first_not _ n x.issued c.issued (row_test_is is_issued s es (n + 1) r row h ∙ ap is_issued e);
  ended = first_more _ n x.ended c.ended (row_test_is is_ended s es (n + 1) r row h ∙ ap is_ended e);
}

queued_as : (x : Stamps) (p : Phase) (m : ℕ) → (stamped x p m).queued ≡ x.queued
queued_as x Queued m = refl
queued_as x Issued m = refl
queued_as x (Ended res) m = refl

-- The lifetime of an earlier request, after its phase at the next moment is recorded.
stamped_on : (s : Setup) (es : List Event) (n r : ℕ) (x : Stamps) (row : Row) → IsStamped s es n r x → slice_get (moment s es (n + 1)).table r ≡ Some row → IsStamped s es (n + 1) r (stamped x row.phase (n + 1))
stamped_on s es n r x row c h =
    let progress = progress_more s es n r x row (record { issued = c.issued; ended = c.ended }) h row.phase refl in
    let q = c.queued in
    let there : IsFirst (λ i. has_row any_phase r (moment s es i)) (n + 1) (Some x.queued) = let b = q.0 in (omega (arith, b), q.1, q.2) in
    record {
      queued = subst (λ k. IsFirst (λ i. has_row any_phase r (moment s es i)) (n + 1) (Some k)) (sym (queued_as x row.phase (n + 1))) there;
      issued = progress.issued;
      ended = progress.ended;
    }

-- The lifetime of a request that doesn't change stays the same.
stamped_still : (s : Setup) (es : List Event) (n r : ℕ) (x : Stamps) → IsStamped s es n r x → slice_get (moment s es (n + 1)).table r ≡ slice_get (moment s es n).table r → IsStamped s es (n + 1) r x
stamped_still s es n r x c h = record {
  queued = first_kept _ n (Some x.queued) c.queued (ap (λ o. option_map_or (λ (row : Row). any_phase row.phase) o false) h);
  issued = first_kept _ n x.issued c.issued (ap (λ o. option_map_or (λ (row : Row). is_issued row.phase) o false) h);
  ended = first_kept _ n x.ended c.ended (ap (λ o. option_map_or (λ (row : Row). is_ended row.phase) o false) h);
}

beyond : {X : Type 0} (xs : List X) (r : ℕ) → length xs ≤ r → slice_get xs r ≡ None
beyond [] r h = refl
beyond (x ∷ xs) zero h = absurd (omega arith)
beyond (x ∷ xs) (suc r) h = beyond xs r (omega arith)

-- A request that doesn't exist at a moment passes no test there.
absent : (test : Phase → Bool) (s : Setup) (es : List Event) (n r i : ℕ) → length (moment s es i).table ≤ r → has_row test r (moment s es i) ≡ false
absent test s es n r i h = ap (λ o. option_map_or (λ (row : Row). test row.phase) o false) (beyond (moment s es i).table r h)

-- The lifetime of a request that is new at the next moment.
stamped_new : (s : Setup) (es : List Event) (n r : ℕ) (row : Row) → ((i : ℕ) → i ≤ n → length (moment s es i).table ≤ r) → slice_get (moment s es (n + 1)).table r ≡ Some row
    → IsStamped s es (n + 1) r (stamped (new_stamps (n + 1)) row.phase (n + 1))
stamped_new s es n r row none h =
    let before : Progress s es n r (new_stamps (n + 1)) = record {
      issued = λ i l. absent is_issued s es n r i (none i l);
      ended = λ i l. absent is_ended s es n r i (none i l);
    } in
    let progress = progress_more s es n r (new_stamps (n + 1)) row before h row.phase refl in
    let there : IsFirst (λ i. has_row any_phase r (moment s es i)) (n + 1) (Some (n + 1)) =
    (omega arith, row_test_is any_phase s es (n + 1) r row h, λ i l. absent any_phase s es n r i (none i (omega (arith, l)))) in
    record {
      queued = subst (λ k. IsFirst (λ i. has_row any_phase r (moment s es i)) (n + 1) (Some k)) (sym (queued_as (new_stamps (n + 1)) row.phase (n + 1))) there;
      issued = progress.issued;
      ended = progress.ended;
    }

-- ---- all requests

requested_same : (a b : Option Row) → option_map Requested a ≡ option_map Requested b → a ≡ b
requested_same None None h = refl
requested_same None (Some y) h = absurd cc
requested_same (Some x) None h = absurd cc
requested_same (Some x) (Some y) h = let e : x ≡ y = cc in ap Some e

abbrev pub Growing : Setup → List Event → ℕ → Type 0
Growing s es n = (i : ℕ) → i ≤ n → length (moment s es i).table ≤ length (moment s es n).table

pub are_stamped_more : (s : Setup) (es : List Event) (n : ℕ) (past : List Change) (xs : List Stamps) → Growing s es n → length (moment s es n).table ≤ length (moment s es (n + 1)).table
    → Exact (view (moment s es n)) (view (moment s es (n + 1))) past → AreStamped s es n xs → AreStamped s es (n + 1) (stamps_after (moment s es (n + 1)).table (n + 1) past xs)
are_stamped_more s es n past xs growing grows exact a = record { rows = rows; each = each }
  where
    count : ℕ
    count = length (moment s es (n + 1)).table - length xs

    wide : List Stamps
    wide = xs ++ replicate count (new_stamps (n + 1))

    wide_length : length wide ≡ length (moment s es (n + 1)).table
    wide_length = let e = added_length xs count (new_stamps (n + 1)) in let l = a.rows in omega (arith, e, l, grows)

    rows : length (stamp_changes (moment s es (n + 1)).table (n + 1) past wide) ≡ length (moment s es (n + 1)).table
    rows = stamp_changes_length (moment s es (n + 1)).table (n + 1) past wide ∙ wide_length

    one : (r : ℕ) (y : Stamps) (row : Row) → slice_get (moment s es (n + 1)).table r ≡ Some row → slice_get (stamp_changes (moment s es (n + 1)).table (n + 1) past wide) r ≡ Some y → (o : Option Stamps) → slice_get xs r ≡ o → IsStamped s es (n + 1) r y
    one r y row h k (Some x) e =
        let was : IsStamped s es n r x = a.each r x e in
        let at : slice_get wide r ≡ Some x = added_before xs count (new_stamps (n + 1)) r (slice_get_within xs r x e) ∙ e in
        elim (changed_at (moment s es (n + 1)).table (n + 1) past wide r x row h at) [
          | inl q ↦ let z = same_Some _ _ (sym q ∙ k) in subst (IsStamped s es (n + 1) r) z (stamped_on s es n r x row was h)
          | inr q ↦ let z = same_Some _ _ (sym q.0 ∙ k) in subst (IsStamped s es (n + 1) r) z (stamped_still s es n r x was (sym (requested_same _ _ (exact.same (Request r) q.1))))
        ]
    one r y row h k None e =
        let out : length xs ≤ r = slice_get_none xs r e in
        let in_it : r < length (moment s es (n + 1)).table = slice_get_within _ r row h in
        let l = a.rows in
        let none : (i : ℕ) → i ≤ n → length (moment s es i).table ≤ r = λ (i : ℕ) (b : i ≤ n). let g = growing i b in omega (arith, g, l, out) in
        let at : slice_get wide r ≡ Some (new_stamps (n + 1)) = added_after xs count (new_stamps (n + 1)) r out (omega (arith, in_it, l, grows, out)) in
        elim (changed_at (moment s es (n + 1)).table (n + 1) past wide r (new_stamps (n + 1)) row h at) [
          | inl q ↦ let z = same_Some _ _ (sym q ∙ k) in subst (IsStamped s es (n + 1) r) z (stamped_new s es n r row none h)
          | inr q ↦
              let still = requested_same _ _ (exact.same (Request r) q.1) in
              let gone = beyond (moment s es n).table r (omega (arith, l, out)) in
              absurd cc
        ]

    each : (r : ℕ) (y : Stamps) → slice_get (stamp_changes (moment s es (n + 1)).table (n + 1) past wide) r ≡ Some y → IsStamped s es (n + 1) r y
    each r y k = by (slice_get (moment s es (n + 1)).table r) refl
      where
        by : (o : Option Row) → slice_get (moment s es (n + 1)).table r ≡ o → IsStamped s es (n + 1) r y
        by (Some row) h = one r y row h k (slice_get xs r) refl
        by None h =
            let out = slice_get_none _ r h in
            let in_it = slice_get_within _ r y k in
            absurd (omega (arith, out, in_it, rows))

-- ---- occupancy

pub are_filled_more : (s : Setup) (es : List Event) (n : ℕ) (fs : List Filling) → AreFilled s es n fs → AreFilled s es (n + 1) (fs ++ filling_of (moment s es (n + 1)) ∷ [])
are_filled_more s es n fs a = record { count = let e = length-append fs (filling_of (moment s es (n + 1)) ∷ []) in let c = a.count in omega (arith, e, c); each = each }
  where
    each : (i : ℕ) → i ≤ n + 1 → slice_get (fs ++ filling_of (moment s es (n + 1)) ∷ []) i ≡ Some (filling_of (moment s es i))
    each i l = slice_get-push fs i _ ∙ by (length fs == i) refl
      where
        by : (b : Bool) → (length fs == i) ≡ b → cond b (Some (filling_of (moment s es (n + 1)))) (slice_get fs i) ≡ Some (filling_of (moment s es i))
        by true e = let k : n + 1 ≡ i = sym a.count ∙ eqb-true _ _ e in ap (λ j. Some (filling_of (moment s es j))) k
        by false e =
            let apart : length fs ≡ i → ⊥ = λ (q : length fs ≡ i). let t = eq-eqb _ _ q in absurd cc in
            let c = a.count in
            a.each i (omega (arith, l, c, apart))
