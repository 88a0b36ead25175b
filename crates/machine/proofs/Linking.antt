-- Steps of a run, and going back over them.
use Rattle.machine.proofs.Common.{◌≡◌, ℕ, refl, sym, ◌∙◌, ap, subst, List, [], ◌∷◌, ◌++◌, length, take, ◌+◌, ◌≤◌, arith, take_more, slice_get_within, get_or_from_slice_get, Some, None, unwrap_or, slice_get, Place, Change, view, everywhere, Grows, GoesBack, Link, Linked, Machine, Event, View, named, undo, undo_all, Keeps, LeadsBack}
use Rattle.std.proofs.Math.Seq.{take-length}
use Rattle.machine.proofs.Growing.{grows_after}

-- The record of a step leads back.
pub goes_back : (s : Machine) (e : Event) (r : List Change) (m : Machine) → Link s e r m → GoesBack s m r
goes_back s e r m h =
    record {
      formed = h.formed;
      grows = subst (Grows s) (sym h.next.changed) (grows_after s e h.formed h.next.accepted);
      back = h.back;
    }

-- Nothing has been recorded yet.
pub none_named : (cs : List Change) (p : Place) → cs ≡ [] → named cs p ≡ None
unfolding named
none_named cs p h = ap (λ xs. named xs p) h

-- If nothing was recorded before, the notes lead back.
pub back_from_keeps : (u v : View) (cs ds : List Change) → cs ≡ [] → Keeps everywhere u v cs ds → LeadsBack u v ds
unfolding named
back_from_keeps u v cs ds e h p = h.back p refl ∙ ap (λ xs. unwrap_or (named xs p) (u p)) e

-- ---- A list of records

undo_all-more : (v : View) (rs : List (List Change)) (r : List Change) → undo_all v (rs ++ r ∷ []) ≡ undo_all (undo v r) rs
undo_all-more v [] r = refl
undo_all-more v (x ∷ xs) r = ap (λ w. undo w x) (undo_all-more v xs r)

undo_all_same : (v w : View) (rs : List (List Change)) → ((p : Place) → v p ≡ w p) → (p : Place) → undo_all v rs p ≡ undo_all w rs p
undo_all_same = grind arith

-- The last step of a run.
pub record LastLink (s : Machine) (rs : List (List Change)) (r : List Change) (m : Machine) : Type 0 where
  pub before : Machine
  pub event : Event
  pub events : List Event
  pub linked : Linked s events rs before
  pub link : Link before event r m

pub last_link : (s : Machine) (es : List Event) (rs : List (List Change)) (r : List Change) (m : Machine) → Linked s es (rs ++ r ∷ []) m → LastLink s rs r m
last_link s [] [] r m h = absurd h
last_link s [] (x ∷ xs) r m h = absurd h
last_link s (e ∷ []) [] r m h = record { before = s; event = e; events = []; linked = refl; link = subst (Link s e r) (sym h.2) h.1 }
last_link s (e ∷ f ∷ es) [] r m h = absurd h.2
last_link s (e ∷ es) (x ∷ xs) r m h =
    let l = last_link h.0 es xs r m h.2 in
    record { before = l.before; event = l.event; events = e ∷ l.events; linked = (h.0, h.1, l.linked); link = l.link }

-- A run from which all but the first i steps were undone.
pub record Unwinding (before : Machine) (rs : List (List Change)) (now : Machine) (i : ℕ) : Type 0 where
  pub within : i ≤ length rs
  pub linked : (s : Machine) (es : List Event) → Linked s es rs before → (fs : List Event) × Linked s fs (take i rs) now
  pub undone : (p : Place) → undo_all (view now) (take i rs) p ≡ undo_all (view before) rs p

pub unwinding_from : (m : Machine) (rs : List (List Change)) → Unwinding m rs m (length rs)
unwinding_from m rs = record {
  within = omega arith;
  linked = λ s es h. (es, rw take-length h);
  undone = λ p. rw take-length refl;
}

split_at_last : (rs : List (List Change)) (j : ℕ) (r : List Change) → slice_get rs j ≡ Some r → take (j + 1) rs ≡ take j rs ++ r ∷ []
split_at_last rs j r h = take_more rs j r (slice_get_within rs j r h) ∙ ap (λ x. take j rs ++ x ∷ []) (get_or_from_slice_get rs j r r h)

-- The next step to undo.
pub next_link : (s before now : Machine) (es : List Event) (rs : List (List Change)) (j : ℕ) (r : List Change) → slice_get rs j ≡ Some r → Linked s es rs before → Unwinding before rs now (j + 1) → LastLink s (take j rs) r now
next_link s before now es rs j r h l u = let k = u.linked s es l in last_link s k.0 (take j rs) r now (subst (λ (xs : List (List Change)). Linked s k.0 xs now) (split_at_last rs j r h) k.1)

pub unwinding_on : (before now next : Machine) (rs : List (List Change)) (j : ℕ) (r : List Change) → slice_get rs j ≡ Some r → ((s : Machine) (e : Event) → Link s e r now → next ≡ s) → ((p : Place) → view next p ≡ undo (view now) r p) → Unwinding before rs now (j + 1) → Unwinding before rs next j
unwinding_on before now next rs j r h back undone u = record {
  within = let w = slice_get_within rs j r h in omega arith;
  linked = λ s es l. let k = next_link s before now es rs j r h l u in (k.events, subst (Linked s k.events (take j rs)) (sym (back k.before k.event k.link)) k.linked);
  undone = λ p. undo_all_same (view next) (undo (view now) r) (take j rs) undone p ∙ ap (λ (w : View). w p) (sym (undo_all-more (view now) (take j rs) r)) ∙ ap (λ xs. undo_all (view now) xs p) (sym (split_at_last rs j r h)) ∙ u.undone p;
}

pub unwound : (s before now : Machine) (es : List Event) (rs : List (List Change)) → Linked s es rs before → Unwinding before rs now 0 → now ≡ s
unwound s before now es rs l u = by (u.linked s es l)
  where
    by : ((fs : List Event) × Linked s fs [] now) → now ≡ s
    by ([], h) = h
    by (f ∷ fs, h) = absurd h
