-- The followed numbers include every incomplete READ and WRITE, record by record.
use Rattle.findings.proofs.Common.{◌≡◌, ℕ, Bool, true, false, cond, List, [], ◌∷◌, refl, Option, Some, None, slice_get, not, ◌==◌, option_map_or, filter, Row, Place, Request, Value, Change, View, Exact, Machine, view, inl, inr, sym, ap, ◌∙◌, subst, eqb-true, clash, named, is_candidate, is_candidate_in, followed, after_note, after_notes, Covers}
use Rattle.findings.proofs.{Notes.change_there, Shown.row_in_requested}
use Rattle.finding_rules.proofs.Members.{Has, contains_has, has_contains, has_left, has_right}

has_filter : (ns : List ℕ) (r q : ℕ) → Has ns q → (r ≡ q → ⊥) → Has (filter (λ k. not (k == r)) ns) q
has_filter [] r q h g = absurd h
has_filter (n ∷ ns) r q h g = by (n == r) refl h (λ m. has_filter ns r q m g)
  where
    by : (b : Bool) → (n == r) ≡ b → Has (n ∷ ns) q → (Has ns q → Has (filter (λ k. not (k == r)) ns) q) → Has (cond (not b) (n ∷ filter (λ k. not (k == r)) ns) (filter (λ k. not (k == r)) ns)) q
    by true e (inl same) ih = absurd (g (sym (eqb-true n r e) ∙ same))
    by true e (inr more) ih = ih more
    by false e (inl same) ih = inl same
    by false e (inr more) ih = inr (ih more)

followed_keeps : (ns : List ℕ) (r q : ℕ) (was is : Bool) → Has ns q → (r ≡ q → is ≡ true) → Has (followed ns r was is) q
followed_keeps ns r q true true h g = h
followed_keeps ns r q false true h g = has_left ns (r ∷ []) q h
followed_keeps ns r q true false h g = has_filter ns r q h (λ e. clash (g e))
followed_keeps ns r q false false h g = h

followed_new : (ns : List ℕ) (q : ℕ) (was is : Bool) → was ≡ false → is ≡ true → Has (followed ns q was is) q
followed_new ns q false true w i = has_right ns (q ∷ []) q (inl refl)
followed_new ns q true is w i = absurd (clash (sym w))
followed_new ns q false false w i = absurd (clash i)

-- A number that is followed stays so while its request is incomplete.
note_keeps : (v : View) (ns : List ℕ) (x : Option Value) (p : Place) (q : ℕ) → Has ns q → is_candidate_in (v (Request q)) ≡ true → Has (after_note v ns x p) q
note_keeps v ns x (Request r) q h c = followed_keeps ns r q (is_candidate_in x) (is_candidate_in (v (Request r))) h (λ e. ap (λ (k : ℕ). is_candidate_in (v (Request k))) e ∙ c)
note_keeps v ns x _ q h c = h

notes_keep : (v : View) (ns : List ℕ) (cs : List Change) (q : ℕ) → Has ns q → is_candidate_in (v (Request q)) ≡ true → Has (after_notes v ns cs) q
notes_keep v ns [] q h c = h
notes_keep v ns (n ∷ cs) q h c = notes_keep v (after_note v ns n.old n.place) cs q (note_keeps v ns n.old n.place q h c) c

-- A request that has become a candidate is added.
notes_take : (v : View) (ns : List ℕ) (cs : List Change) (q : ℕ) (x : Option Value) → Has cs (record { place = Request q; old = x }) → is_candidate_in x ≡ false → is_candidate_in (v (Request q)) ≡ true → Has (after_notes v ns cs) q
notes_take v ns [] q x h w c = absurd h
notes_take v ns (n ∷ cs) q x (inl e) w c =
    let here : Has (after_note v ns x (Request q)) q = followed_new ns q (is_candidate_in x) (is_candidate_in (v (Request q))) w c in
    notes_keep v (after_note v ns n.old n.place) cs q (subst (λ (d : Change). Has (after_note v ns d.old d.place) q) (sym e) here) c
notes_take v ns (n ∷ cs) q x (inr h) w c = notes_take v (after_note v ns n.old n.place) cs q x h w c

-- Each candidate after a record was one before it, or is named by it.
covers_view : (old new : View) (cs : List Change) (ns : List ℕ) → Exact old new cs → ((q : ℕ) → is_candidate_in (old (Request q)) ≡ true → Has ns q) → (q : ℕ) → is_candidate_in (new (Request q)) ≡ true → Has (after_notes new ns cs) q
covers_view old new cs ns x h q c = by (named cs (Request q)) refl
  where
    was : (y : Option Value) (b : Bool) → is_candidate_in y ≡ b → y ≡ old (Request q) → named cs (Request q) ≡ Some y → Has (after_notes new ns cs) q
    was y true w s e = notes_keep new ns cs q (h q (sym (ap is_candidate_in s) ∙ w)) c
    was y false w s e = notes_take new ns cs q y (change_there cs (Request q) y e) w c

    by : (n : Option (Option Value)) → named cs (Request q) ≡ n → Has (after_notes new ns cs) q
    by None e = notes_keep new ns cs q (h q (ap is_candidate_in (x.same (Request q) e) ∙ c)) c
    by (Some y) e = was y (is_candidate_in y) refl (x.differs (Request q) y e).0 e

seen_alike : (m : Machine) (q : ℕ) → is_candidate_in (view m (Request q)) ≡ option_map_or is_candidate (slice_get m.table q) false
seen_alike m q = ap (λ (o : Option Row). option_map_or is_candidate o false) (row_in_requested (slice_get m.table q))

pub covers_more : (before after : Machine) (cs : List Change) (ns now : List ℕ) → Covers before.table ns → Exact (view before) (view after) cs → now ≡ after_notes (view after) ns cs → Covers after.table now
covers_more before after cs ns now h x e = λ q c.
    let earlier : (k : ℕ) → is_candidate_in (view before (Request k)) ≡ true → Has ns k = λ k t. contains_has ns k (h k (sym (seen_alike before k) ∙ t)) in
    has_contains now q (subst (λ (ks : List ℕ). Has ks q) (sym e) (covers_view (view before) (view after) cs ns x earlier q (seen_alike after q ∙ c)))

pub covers_none : (ns : List ℕ) → Covers [] ns
covers_none ns = λ q c. absurd (clash c)
