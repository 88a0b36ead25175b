-- What the places named in an exact record say about the states before and after its event.
use Rattle.std.proofs.Common.{◌≡◌, ◌≢◌, inl, inr, ℕ, zero, suc, ◌+◌, ◌<◌, Bool, true, false, List, [], ◌∷◌, ◌++◌, length, take, get_or, refl, sym, ap, ◌∙◌, subst, arith, add-one}
use Rattle.std.specs.Prelude.{Option, Some, None, is_some, ◌||◌, ◌⊎◌, ◌↔◌, IsTrue, MatchBool}
use Rattle.std.specs.List.{list_any}
use Rattle.std.proofs.lemmas.List.{take_more}
use Rattle.places.specs.declared.place.Place.{Place}
use Rattle.places.specs.declared.value.Value.{Value}
use Rattle.places.specs.declared.value.Change.{Change}
use Rattle.places.specs.Places.{same_place}
use Rattle.places.specs.View.{View, Exact, named}
use Rattle.machine.specs.declared.whole.Machine.{Machine}
use Rattle.scenario.specs.declared.event.Event.{Event}
use Rattle.machine.specs.Whole.{view}
use Rattle.machine.specs.Steps.{after}
use Rattle.machine.specs.Runs.{run}
use Rattle.inverse_log.specs.Tracks.{Recorded}
use Rattle.watches.specs.declared.watched.Break.{Break}
use Rattle.watches.specs.Stops.{names, Stays, NoneMet}

-- ---- Records of a run

length_recorded : (s : Machine) (es : List Event) (rs : List (List Change)) → Recorded s es rs → length rs ≡ length es
length_recorded s [] [] h = refl
length_recorded s [] (r ∷ rs) h = absurd h
length_recorded s (e ∷ es) [] h = absurd h
length_recorded s (e ∷ es) (r ∷ rs) h = ap suc (length_recorded (after s e) es rs h.1)

-- Each event has a record.
pub record_there : (s : Machine) (es : List Event) (rs : List (List Change)) (i : ℕ) → Recorded s es rs → i < length es → i < length rs
record_there s es rs i h b = let e = length_recorded s es rs h in omega arith

exact_at : (s : Machine) (es : List Event) (rs : List (List Change)) (i : ℕ) (r : List Change) → Recorded s es rs → i < length es → r ≡ get_or rs i r → Exact (view (run s (take i es))) (view (run s (take (suc i) es))) r
exact_at s [] rs i r l h g = absurd (omega arith)
exact_at s (e ∷ es) [] i r l h g = absurd l
exact_at s (e ∷ es) (x ∷ rs) zero r l h g = subst (Exact (view s) (view (after s e))) (sym g) l.0
exact_at s (e ∷ es) (x ∷ rs) (suc i) r l h g = exact_at (after s e) es rs i r l.1 (omega arith) g

-- The record of event i is exact for the states before and after it.
pub exact_record : (s : Machine) (es : List Event) (rs : List (List Change)) (i : ℕ) (r : List Change) → Recorded s es rs → i < length es → r ≡ get_or rs i r → Exact (view (run s (take i es))) (view (run s (take (i + 1) es))) r
exact_record s es rs i r l h g = rw add-one (exact_at s es rs i r l h g)

-- ---- Watches

neither : (a b : Bool) → (a || b) ≡ false → (a ≡ false) × (b ≡ false)
neither true b h = cc
neither false b h = (refl, h)

either : (a b : Bool) → (a || b) ≡ true → (a ≡ true) ⊎ (b ≡ true)
either true b h = inl refl
either false b h = inr h

pub unnamed : (o : Option (Option Value)) → is_some o ≡ false → o ≡ None
unnamed None h = refl
unnamed (Some x) h = cc

-- What a record can't name, it doesn't name.
pub not_named : (named may : Bool) → (named ≡ true → may ≡ true) → may ≡ false → may ≡ named
not_named true may f h = f refl
not_named false may f h = h

-- If the record names none of the places, all stay the same.
pub none_named : (old new : View) (cs : List Change) (ps : List Place) → Exact old new cs → list_any (names cs) ps ≡ false → Stays old new ps
none_named old new cs [] x h = tt
none_named old new cs (p ∷ ps) x h =
    let parts = neither (names cs p) (list_any (names cs) ps) h in
    (x.same p (unnamed (named cs p) parts.0), none_named old new cs ps x parts.1)

-- A place that the record names changes.
pub differs_named : (old new : View) (cs : List Change) (p : Place) → Exact old new cs → names cs p ≡ true → old p ≢ new p
differs_named old new cs p x h = by (named cs p) refl h
  where
    by : (o : Option (Option Value)) → named cs p ≡ o → names cs p ≡ true → old p ≢ new p
    by None e k = absurd (let f : names cs p ≡ false = ap is_some e in cc)
    by (Some y) e k = (x.differs p y e).1

-- If the record names one of the places, not all stay the same.
pub any_named : (old new : View) (cs : List Change) (ps : List Place) → Exact old new cs → list_any (names cs) ps ≡ true → Stays old new ps → ⊥
any_named old new cs [] x h s = cc
any_named old new cs (p ∷ ps) x h s =
    elim (either (names cs p) (list_any (names cs) ps) h) [
      | inl e ↦ differs_named old new cs p x e s.0
      | inr e ↦ any_named old new cs ps x e s.1
    ]

-- ---- Old values

-- The first change of a list names its place.
pub named_first : (c : Change) (cs : List Change) (p : Place) → same_place c.place p ≡ true → named (c ∷ cs) p ≡ Some c.old
unfolding named
named_first c cs p h = rw h refl

-- A change of another place leaves what the rest names.
pub named_next : (c : Change) (cs : List Change) (p : Place) → same_place c.place p ≡ false → named (c ∷ cs) p ≡ named cs p
unfolding named
named_next c cs p h = rw h refl

pub named_none : (p : Place) → named [] p ≡ None
unfolding named
named_none p = refl

-- ---- Breaks

-- An event that doesn't change the place of a break doesn't meet it.
pub unmet_unnamed : (old new : View) (cs : List Change) (b : Break) → Exact old new cs → names cs b.place ≡ false → new b.place ≡ Some b.value → old b.place ≡ Some b.value
unmet_unnamed old new cs b x h e = x.same b.place (unnamed (named cs b.place) h) ∙ e

-- An event that changes the place meets the break exactly if the new value is the break's.
pub met_named : (old new : View) (cs : List Change) (b : Break) (found : Option Value) (r : Bool) → Exact old new cs → names cs b.place ≡ true → found ≡ new b.place → (IsTrue r ↔ (found ≡ Some b.value)) → MatchBool r ((new b.place ≡ Some b.value → old b.place ≡ Some b.value) → ⊥) (new b.place ≡ Some b.value → old b.place ≡ Some b.value)
met_named old new cs b found true x h e d =
    let is : new b.place ≡ Some b.value = sym e ∙ d.0 refl in
    λ f. differs_named old new cs b.place x h (f is ∙ sym is)
met_named old new cs b found false x h e d = λ k. let no : false ≡ true = d.1 (e ∙ k) in absurd cc

none_met_push : (old new : View) (bs : List Break) (b : Break) → NoneMet old new bs → (new b.place ≡ Some b.value → old b.place ≡ Some b.value) → NoneMet old new (bs ++ b ∷ [])
none_met_push old new [] b h f = (f, tt)
none_met_push old new (a ∷ bs) b h f = (h.0, none_met_push old new bs b h.1 f)

-- If neither the first i breaks nor break i are met, none of the first i + 1 is.
pub none_met_more : (old new : View) (bs : List Break) (i : ℕ) (d : Break) → i < length bs → NoneMet old new (take i bs) → (new (get_or bs i d).place ≡ Some (get_or bs i d).value → old (get_or bs i d).place ≡ Some (get_or bs i d).value) → NoneMet old new (take (i + 1) bs)
none_met_more old new bs i d h n f = subst (NoneMet old new) (sym (take_more bs i d h)) (none_met_push old new (take i bs) (get_or bs i d) n f)

-- If no break of the list is met, break i is not.
pub none_met_at : (old new : View) (bs : List Break) (i : ℕ) (d : Break) → i < length bs → NoneMet old new bs → new (get_or bs i d).place ≡ Some (get_or bs i d).value → old (get_or bs i d).place ≡ Some (get_or bs i d).value
none_met_at old new [] i d h n = absurd (omega arith)
none_met_at old new (b ∷ bs) zero d h n = n.0
none_met_at old new (b ∷ bs) (suc i) d h n = none_met_at old new bs i d (omega arith) n.1

-- If none of the first i breaks is met, and there are i, none is.
pub none_met_whole : (old new : View) (bs : List Break) (i : ℕ) → i ≡ length bs → NoneMet old new (take i bs) → NoneMet old new bs
none_met_whole old new [] zero h n = tt
none_met_whole old new [] (suc i) h n = tt
none_met_whole old new (b ∷ bs) zero h n = absurd (omega arith)
none_met_whole old new (b ∷ bs) (suc i) h n = (n.0, none_met_whole old new bs i (omega arith) n.1)
