-- Lemmas about runs whose records lead back.
use Rattle.machine.proofs.Common.{◌≡◌, ℕ, zero, suc, ◌<◌, List, [], ◌∷◌, ◌++◌, length, take, get_or, refl, sym, ap, ◌∙◌, subst, arith, Change, Machine, Event, after, run, Accepts, Link, Linked}

pub linked_runs : (s m : Machine) (es : List Event) (rs : List (List Change)) → Linked s es rs m → m ≡ run s es
linked_runs s m [] [] l = l
linked_runs s m [] (r ∷ rs) l = absurd l
linked_runs s m (e ∷ es) [] l = absurd l
linked_runs s m (e ∷ es) (r ∷ rs) l = linked_runs l.0 m es rs l.2 ∙ ap (λ x. run x es) l.1.next.changed

pub linked_accepts : (s m : Machine) (es : List Event) (rs : List (List Change)) → Linked s es rs m → Accepts s es
linked_accepts s m [] [] l = tt
linked_accepts s m [] (r ∷ rs) l = absurd l
linked_accepts s m (e ∷ es) [] l = absurd l
linked_accepts s m (e ∷ es) (r ∷ rs) l = (l.1.next.accepted, subst (λ (x : Machine). Accepts x es) l.1.next.changed (linked_accepts l.0 m es rs l.2))

pub length_linked : (s m : Machine) (es : List Event) (rs : List (List Change)) → Linked s es rs m → length rs ≡ length es
length_linked s m [] [] l = refl
length_linked s m [] (r ∷ rs) l = absurd l
length_linked s m (e ∷ es) [] l = absurd l
length_linked s m (e ∷ es) (r ∷ rs) l = ap suc (length_linked l.0 m es rs l.2)

-- The links after the first.
linked_rest : (s m : Machine) (e : Event) (es : List Event) (r : List Change) (rs : List (List Change)) → Linked s (e ∷ es) (r ∷ rs) m → Linked (after s e) es rs m
linked_rest s m e es r rs l = subst (λ (x : Machine). Linked x es rs m) l.1.next.changed l.2

-- The first link.
linked_first : (s m : Machine) (e : Event) (es : List Event) (r : List Change) (rs : List (List Change)) → Linked s (e ∷ es) (r ∷ rs) m → Link s e r (after s e)
linked_first s m e es r rs l = subst (λ (x : Machine). Link s e r x) l.1.next.changed l.1

-- Record i leads from moment i + 1 back to moment i.
pub linked_at : (s m : Machine) (es : List Event) (rs : List (List Change)) (i : ℕ) (r : List Change) → Linked s es rs m → i < length es → r ≡ get_or rs i r → (e : Event) × Link (run s (take i es)) e r (run s (take (suc i) es))
linked_at s m [] rs i r l h g = absurd (omega arith)
linked_at s m (e ∷ es) [] i r l h g = absurd l
linked_at s m (e ∷ es) (x ∷ rs) zero r l h g = (e, subst (λ (y : List Change). Link s e y (after s e)) (sym g) (linked_first s m e es x rs l))
linked_at s m (e ∷ es) (x ∷ rs) (suc i) r l h g = linked_at (after s e) m es rs i r (linked_rest s m e es x rs l) (omega arith) g

-- One more link at the end of linked events.
pub linked_more : (s m n : Machine) (es : List Event) (rs : List (List Change)) (e : Event) (r : List Change) → Linked s es rs m → Link m e r n → Linked s (es ++ e ∷ []) (rs ++ r ∷ []) n
linked_more s m n [] [] e r h k = (n, subst (λ (x : Machine). Link x e r n) h k, refl)
linked_more s m n [] (x ∷ xs) e r h k = absurd h
linked_more s m n (f ∷ fs) [] e r h k = absurd h
linked_more s m n (f ∷ fs) (x ∷ xs) e r h k = (h.0, h.1, linked_more h.0 m n fs xs e r h.2 k)

-- The first n links.
pub linked_take : (s m : Machine) (es : List Event) (rs : List (List Change)) (n : ℕ) → Linked s es rs m → Linked s (take n es) (take n rs) (run s (take n es))
linked_take s m es rs zero l = refl
linked_take s m [] [] (suc n) l = refl
linked_take s m [] (r ∷ rs) (suc n) l = absurd l
linked_take s m (e ∷ es) [] (suc n) l = absurd l
linked_take s m (e ∷ es) (r ∷ rs) (suc n) l = (after s e, linked_first s m e es r rs l, linked_take (after s e) m es rs n (linked_rest s m e es r rs l))
