-- Changes of other places than requests add no findings, and complete no request.
use Rattle.findings.proofs.Common.{◌≡◌, ℕ, ◌+◌, Bool, false, List, [], ◌∷◌, ◌++◌, refl, Option, Some, None, Result, Ok, Err, OnOk, flat_map, Row, Region, Memory, Place, Request, Change, Value, place_in, old_bytes, View, Finding, Member, sym, ap, ◌∙◌, flat_map-append, clash, append_assoc, Circumstances, of_place, of_change, members_at, members_of, after_note, after_notes, is_row, OfNoRow}

-- A byte is no request.
byte_no_row : (g : Region) (i : ℕ) → is_row (place_in g i) ≡ false
byte_no_row Memory i = refl
byte_no_row g i = refl

-- Recorded bytes of a region belong to no request.
pub bytes_no_row : (g : Region) (s : ℕ) (os : List (Option ℕ)) (cs : List Change) → OfNoRow cs → OfNoRow (old_bytes g s os ++ cs)
bytes_no_row g s [] cs h = h
bytes_no_row g s (None ∷ os) cs h = bytes_no_row g (s + 1) os cs h
bytes_no_row g s (Some b ∷ os) cs h = (byte_no_row g s, bytes_no_row g (s + 1) os cs h)

place_follows_none : (v : View) (ns : List ℕ) (x : Option Value) (p : Place) → is_row p ≡ false → after_note v ns x p ≡ ns
place_follows_none v ns x (Request r) e = absurd (clash (sym e))
place_follows_none v ns x _ e = refl

-- A function of changes that gives nothing for changes of other places than requests.
abbrev pub OfRows : {X : Type 0} → (Change → List X) → Type 0
OfRows f = (c : Change) → is_row c.place ≡ false → f c ≡ []

-- Such changes give nothing.
gives_none : {X : Type 0} (f : Change → List X) → OfRows f → (cs : List Change) → OfNoRow cs → flat_map f cs ≡ []
gives_none f of_rows [] h = refl
gives_none {X} f of_rows (c ∷ cs) h = ap (λ (xs : List X). xs ++ flat_map f cs) (of_rows c h.0) ∙ gives_none f of_rows cs h.1

-- They don't change the followed numbers.
follows_none : (v : View) (ns : List ℕ) (cs ds : List Change) → OfNoRow cs → after_notes v ns (cs ++ ds) ≡ after_notes v ns ds
follows_none v ns [] ds h = refl
follows_none v ns (c ∷ cs) ds h = ap (λ (ks : List ℕ). after_notes v ks (cs ++ ds)) (place_follows_none v ns c.old c.place h.0) ∙ follows_none v ns cs ds h.1

follows_parts : (v : View) (ns : List ℕ) (cs ds : List Change) → after_notes v ns (cs ++ ds) ≡ after_notes v (after_notes v ns cs) ds
follows_parts v ns [] ds = refl
follows_parts v ns (c ∷ cs) ds = follows_parts v (after_note v ns c.old c.place) cs ds

given_without : {X : Type 0} (f : Change → List X) → OfRows f → (cs bs ds : List Change) → OfNoRow bs → flat_map f cs ++ flat_map f ds ≡ flat_map f (cs ++ (bs ++ ds))
given_without {X} f of_rows cs bs ds h = sym (
    flat_map-append f cs (bs ++ ds)
    ∙ ap (λ (xs : List X). flat_map f cs ++ xs) (flat_map-append f bs ds ∙ ap (λ (xs : List X). xs ++ flat_map f ds) (gives_none f of_rows bs h)))

-- A record is covered if its first and last part are and its middle names no request.
pub parts_given : {X : Type 0} (f : Change → List X) → OfRows f → (all cs bs ds : List Change) (xs ys zs : List X) → all ≡ cs ++ (bs ++ ds) → OfNoRow bs → ys ≡ xs ++ flat_map f cs → zs ≡ ys ++ flat_map f ds → zs ≡ xs ++ flat_map f all
parts_given {X} f of_rows all cs bs ds xs ys zs e h g k =
    k ∙ ap (λ (us : List X). us ++ flat_map f ds) g
    ∙ append_assoc xs (flat_map f cs) (flat_map f ds)
    ∙ ap (λ (us : List X). xs ++ us) (given_without f of_rows cs bs ds h ∙ ap (flat_map f) (sym e))

-- The findings about requests.
place_shows_none : (i : ℕ) (circumstances_of : ℕ → Row → Circumstances) (rows : List Row) (x : Option Value) (p : Place) → is_row p ≡ false → of_place i circumstances_of rows x p ≡ []
place_shows_none i circumstances_of rows x (Request r) e = absurd (clash (sym e))
place_shows_none i circumstances_of rows x _ e = refl

pub all_shown : {V E : Type 0} (r : Result V E) (i : ℕ) (circumstances_of : ℕ → Row → Circumstances) (rows : List Row) (all cs bs ds : List Change) (fs gs hs : List Finding) → all ≡ cs ++ (bs ++ ds) → OfNoRow bs → gs ≡ fs ++ flat_map (of_change i circumstances_of rows) cs
    → OnOk r (hs ≡ gs ++ flat_map (of_change i circumstances_of rows) ds) → OnOk r (hs ≡ fs ++ flat_map (of_change i circumstances_of rows) all)
all_shown (Ok x) i circumstances_of rows all cs bs ds fs gs hs e h g k = parts_given (of_change i circumstances_of rows) (λ c. place_shows_none i circumstances_of rows c.old c.place) all cs bs ds fs gs hs e h g k
all_shown (Err x) i circumstances_of rows all cs bs ds fs gs hs e h g k = tt

-- The requests that pass a test.
place_has_none : (test : ℕ → Option Row → Row → Bool) (rows : List Row) (x : Option Value) (p : Place) → is_row p ≡ false → members_at test rows x p ≡ []
place_has_none test rows x (Request r) e = absurd (clash (sym e))
place_has_none test rows x _ e = refl

pub all_members : (test : ℕ → Option Row → Row → Bool) (rows : List Row) (all cs bs ds : List Change) (xs ys zs : List Member) → all ≡ cs ++ (bs ++ ds) → OfNoRow bs → xs ≡ [] → ys ≡ xs ++ flat_map (members_of test rows) cs → zs ≡ ys ++ flat_map (members_of test rows) ds
    → zs ≡ flat_map (members_of test rows) all
all_members test rows all cs bs ds xs ys zs e h none g k =
    parts_given (members_of test rows) (λ c. place_has_none test rows c.old c.place) all cs bs ds xs ys zs e h g k
    ∙ ap (λ (us : List Member). us ++ flat_map (members_of test rows) all) none

-- The followed numbers.
pub all_followed : {V E : Type 0} (r : Result V E) (v : View) (all cs bs ds : List Change) (ns ks now : List ℕ) → all ≡ cs ++ (bs ++ ds) → OfNoRow bs → ks ≡ after_notes v ns cs → OnOk r (now ≡ after_notes v ks ds) → OnOk r (now ≡ after_notes v ns all)
all_followed (Ok x) v all cs bs ds ns ks now e h g k =
    k ∙ ap (λ (xs : List ℕ). after_notes v xs ds) g ∙ sym (follows_none v (after_notes v ns cs) bs ds h) ∙ sym (follows_parts v ns cs (bs ++ ds)) ∙ ap (after_notes v ns) (sym e)
all_followed (Err x) v all cs bs ds ns ks now e h g k = tt
