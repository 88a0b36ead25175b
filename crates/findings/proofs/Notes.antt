-- The changes of an exact record.
use Rattle.findings.proofs.Common.{◌≡◌, Bool, true, false, cond, List, [], ◌∷◌, refl, Option, Some, None, Place, Value, Change, same_place, View, Exact, NamesOnce, inl, inr, sym, ap, ◌∙◌, none-some, same_Some, same_place_is, same_place_self, named}
use Rattle.finding_rules.proofs.Members.{Has}

-- Each change has the old value of its place.
abbrev pub AreTrue : View → List Change → Type 0
AreTrue v [] = Unit {0}
AreTrue v (c ∷ cs) = (c.old ≡ v c.place) × AreTrue v cs

true_from : (v : View) (cs : List Change) → NamesOnce cs → ((p : Place) (x : Option Value) → named cs p ≡ Some x → x ≡ v p) → AreTrue v cs
unfolding named
true_from v [] o h = tt
true_from v (c ∷ cs) o h = (
  h c.place c.old (ap (λ b. cond b (Some c.old) (named cs c.place)) (same_place_self c.place)),
  true_from v cs o.1 (λ p x e. h p x (later p x e (same_place c.place p) refl)),
)
  where
    later : (p : Place) (x : Option Value) → named cs p ≡ Some x → (b : Bool) → same_place c.place p ≡ b → cond b (Some c.old) (named cs p) ≡ Some x
    later p x e true s = absurd (none-some x (sym o.0 ∙ ap (named cs) (same_place_is c.place p s) ∙ e))
    later p x e false s = e

pub true_notes : (old new : View) (cs : List Change) → Exact old new cs → NamesOnce cs → AreTrue old cs
true_notes old new cs x o = true_from old cs o (λ p y e. (x.differs p y e).0)

-- A place whose value changes is named.
pub is_named : (old new : View) (cs : List Change) (p : Place) → Exact old new cs → (old p ≡ new p → ⊥) → named cs p ≡ Some (old p)
is_named old new cs p x d = by (named cs p) refl
  where
    by : (n : Option (Option Value)) → named cs p ≡ n → named cs p ≡ Some (old p)
    by None e = absurd (d (x.same p e))
    by (Some y) e = e ∙ ap Some (x.differs p y e).0

abbrev changed : Place → Option Value → Change
changed p x = record { place = p; old = x }

same_change : (c : Change) (q : Place) (y : Option Value) → c.place ≡ q → c.old ≡ y → c ≡ changed q y
same_change c q y e h = ap (λ (p : Place). changed p c.old) e ∙ ap (changed q) h

-- A named place has a change in the record.
pub change_there : (cs : List Change) (p : Place) (x : Option Value) → named cs p ≡ Some x → Has cs (record { place = p; old = x })
unfolding named
change_there [] p x e = absurd (none-some x e)
change_there (c ∷ cs) p x e = by (same_place c.place p) refl e (change_there cs p x)
  where
    by : (b : Bool) → same_place c.place p ≡ b → cond b (Some c.old) (named cs p) ≡ Some x → (named cs p ≡ Some x → Has cs (record { place = p; old = x })) → Has (c ∷ cs) (record { place = p; old = x })
    by true s k ih = inl (same_change c p x (same_place_is c.place p s) (same_Some c.old x k))
    by false s k ih = inr (ih k)
