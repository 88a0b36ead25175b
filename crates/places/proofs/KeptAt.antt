-- Recorded bytes by their index.
use Rattle.std.proofs.Common.{◌≡◌, ◌≢◌, ℕ, zero, suc, ◌<◌, ◌≤◌, ◌+◌, ◌-◌, Bool, true, false, cond, refl, sym, ◌∙◌, ap, List, [], ◌∷◌, length, arith}
use Rattle.std.specs.Prelude.{Option, Some, None, is_some, option_map, slice_get, unwrap_or, ◌==◌, ◌&&◌, nat_lt}
use Rattle.std.specs.Option.{option_flatten}
use Rattle.std.proofs.lemmas.Bool.{ltb-true, ltb-false, eqb-true, eqb-false, eq-eqb, lt-ltb, le-ltb}
use Rattle.std.proofs.lemmas.Option.{slice_get_past}
use Rattle.places.specs.declared.place.Place.{Place}
use Rattle.places.specs.declared.value.Value.{Value}
use Rattle.places.specs.declared.value.Value.TheVariants.{Byte}
use Rattle.places.specs.declared.notes.runs.Region.{Region}
use Rattle.places.specs.declared.notes.runs.Region.TheVariants.{Memory, File, Durable, Pipe}
use Rattle.places.specs.View.{View, named, undo}
use Rattle.places.specs.Runs.{place_in, is_in, offset_in, old_bytes}
use Rattle.places.specs.Masked.{masked, kept_at, mark_at, PutOver, BytesPresent}
use Rattle.places.proofs.SamePlace.{same_place_is}
use Rattle.places.proofs.ByteLemmas.{same_in, offset_again, tests}

-- ---- By index

pub kept_before : (s : ℕ) (os : List (Option ℕ)) (i : ℕ) → i < s → kept_at s os i ≡ None
kept_before s os i h = ap (λ t. cond t None (option_flatten (slice_get os (i - s)))) (lt-ltb i s h)

pub kept_past : (s : ℕ) (os : List (Option ℕ)) (i : ℕ) → s + length os ≤ i → kept_at s os i ≡ None
kept_past s os i h =
    ap (λ t. cond t None (option_flatten (slice_get os (i - s)))) (le-ltb i s (omega arith)) ∙ ap (λ (x : Option (Option ℕ)). option_flatten x) (slice_get_past os (i - s) (omega arith))

pub kept_here : (s : ℕ) (os : List (Option ℕ)) (i : ℕ) (o : Option ℕ) → slice_get os i ≡ Some o → kept_at s os (s + i) ≡ o
kept_here s os i o h =
    let k : (s + i) - s ≡ i = omega arith in
    ap (λ t. cond t None (option_flatten (slice_get os ((s + i) - s)))) (le-ltb (s + i) s (omega arith)) ∙ ap (λ n. option_flatten (slice_get os n)) k ∙ ap (λ (x : Option (Option ℕ)). option_flatten x) h

-- If a byte is recorded for index j, j is the index of one of the bytes.
pub kept_there : (s : ℕ) (os : List (Option ℕ)) (j b : ℕ) → kept_at s os j ≡ Some b → (i : ℕ) × (j ≡ s + i) × (slice_get os i ≡ Some (Some b))
kept_there s os j b h = by (nat_lt j s) (slice_get os (j - s)) refl refl h
  where
    by : (t : Bool) (o : Option (Option ℕ)) → nat_lt j s ≡ t → slice_get os (j - s) ≡ o → cond t None (option_flatten o) ≡ Some b → (i : ℕ) × (j ≡ s + i) × (slice_get os i ≡ Some (Some b))
    by true o e f k = absurd cc
    by false None e f k = absurd cc
    by false (Some o) e f k = (j - s, (let l : s ≤ j = ltb-false j s e in omega arith), f ∙ ap (λ (x : Option ℕ). Some x) k)

-- The byte recorded for an index: the first one, or one of those after it.
kept_first : (s : ℕ) (o : Option ℕ) (os : List (Option ℕ)) (i : ℕ) → kept_at s (o ∷ os) i ≡ cond (s == i) o (kept_at (s + 1) os i)
kept_first s o os i = by (s == i) (nat_lt i s) refl refl
  where
    by : (a b : Bool) → (s == i) ≡ a → nat_lt i s ≡ b → cond b None (option_flatten (slice_get (o ∷ os) (i - s))) ≡ cond a o (kept_at (s + 1) os i)
    by true true e f = absurd (let g = eqb-true s i e in let h = ltb-true i s f in omega arith)
    by true false e f = let g = eqb-true s i e in let k : i - s ≡ 0 = omega arith in ap (λ n. option_flatten (slice_get (o ∷ os) n)) k
    by false true e f = let h = ltb-true i s f in sym (kept_before (s + 1) os i (omega arith))
    by false false e f =
        let apart : s ≢ i = eqb-false s i e in
        let h : s ≤ i = ltb-false i s f in
        let k : i - s ≡ suc (i - (s + 1)) = omega arith in
        let late : s + 1 ≤ i = omega arith in
        ap (λ n. option_flatten (slice_get (o ∷ os) n)) k ∙ sym (ap (λ t. cond t None (option_flatten (slice_get os (i - (s + 1))))) (le-ltb i (s + 1) late))

kept_skip : (s : ℕ) (os : List (Option ℕ)) (i : ℕ) → kept_at s (None ∷ os) i ≡ kept_at (s + 1) os i
kept_skip s os i = kept_first s None os i ∙ by (s == i) refl
  where
    by : (t : Bool) → (s == i) ≡ t → cond t None (kept_at (s + 1) os i) ≡ kept_at (s + 1) os i
    by true e = sym (kept_before (s + 1) os i (let g = eqb-true s i e in omega arith))
    by false e = refl

-- ---- By place

none_at_all : (a b : Bool) → ◌≡◌ {A = Option (Option Value)} None (cond a (option_map (λ (x : ℕ). Some (Byte x)) (cond b None None)) None)
none_at_all true true = refl
none_at_all true false = refl
none_at_all false b = refl

cond_mapped : (t : Bool) (x y : Option ℕ) → cond t (option_map (λ (z : ℕ). Some (Byte z)) x) (option_map (λ (z : ℕ). Some (Byte z)) y) ≡ option_map (λ (z : ℕ). Some (Byte z)) (cond t x y)
cond_mapped true x y = refl
cond_mapped false x y = refl

-- The note of a place, in terms of its region and index.
pub named_kept : (g : Region) (s : ℕ) (os : List (Option ℕ)) (q : Place) → named (old_bytes g s os) q ≡ cond (is_in g q) (option_map (λ (x : ℕ). Some (Byte x)) (kept_at s os (offset_in g q))) None
unfolding named
named_kept g s [] q = none_at_all (is_in g q) (nat_lt (offset_in g q) s)
named_kept g s (None ∷ os) q = named_kept g (s + 1) os q ∙ ap (λ k. cond (is_in g q) (option_map (λ (x : ℕ). Some (Byte x)) k) None) (sym (kept_skip s os (offset_in g q)))
named_kept g s (Some b ∷ os) q =
    ap (λ t. cond t (Some (Some (Byte b))) (named (old_bytes g (s + 1) os) q)) (same_in g s q)
    ∙ ap (λ n. cond (is_in g q && (s == offset_in g q)) (Some (Some (Byte b))) n) (named_kept g (s + 1) os q)
    ∙ tests (is_in g q) (s == offset_in g q) (Some (Some (Byte b))) (option_map (λ (x : ℕ). Some (Byte x)) (kept_at (s + 1) os (offset_in g q)))
    ∙ ap (λ n. cond (is_in g q) n None) (cond_mapped (s == offset_in g q) (Some b) (kept_at (s + 1) os (offset_in g q)) ∙ ap (option_map (λ (x : ℕ). Some (Byte x))) (sym (kept_first s (Some b) os (offset_in g q))))

pub in_place : (g : Region) (i : ℕ) → is_in g (place_in g i) ≡ true
in_place Memory i = refl
in_place (File o) i = eq-eqb o o refl
in_place (Durable o) i = eq-eqb o o refl
in_place (Pipe o) i = eq-eqb o o refl

pub place_of_in : (g : Region) (q : Place) → is_in g q ≡ true → place_in g (offset_in g q) ≡ q
place_of_in g q h =
    same_place_is (place_in g (offset_in g q)) q (same_in g (offset_in g q) q ∙ ap (λ t. t && (offset_in g q == offset_in g q)) h ∙ eq-eqb (offset_in g q) (offset_in g q) refl)

pub named_here : (g : Region) (s : ℕ) (os : List (Option ℕ)) (i b : ℕ) → slice_get os i ≡ Some (Some b) → named (old_bytes g s os) (place_in g (s + i)) ≡ Some (Some (Byte b))
named_here g s os i b h =
    named_kept g s os (place_in g (s + i))
    ∙ ap (λ t. cond t (option_map (λ (x : ℕ). Some (Byte x)) (kept_at s os (offset_in g (place_in g (s + i))))) None) (in_place g (s + i))
    ∙ ap (λ j. option_map (λ (x : ℕ). Some (Byte x)) (kept_at s os j)) (offset_again g (s + i))
    ∙ ap (option_map (λ (x : ℕ). Some (Byte x))) (kept_here s os i (Some b) h)

-- A place outside of the region has no note.
pub named_outside : (g : Region) (s : ℕ) (os : List (Option ℕ)) (q : Place) → is_in g q ≡ false → named (old_bytes g s os) q ≡ None
named_outside g s os q h = named_kept g s os q ∙ ap (λ t. cond t (option_map (λ (x : ℕ). Some (Byte x)) (kept_at s os (offset_in g q))) None) h

-- ---- By bit

marked_get : (bs : List ℕ) (ks : List Bool) (n : ℕ) → length ks ≡ length bs → unwrap_or (slice_get ks n) false ≡ is_some (option_map (λ (x : ℕ). Some (Byte x)) (option_flatten (slice_get (masked bs ks) n)))
marked_get [] [] n l = refl
marked_get [] (k ∷ ks) n l = absurd (omega arith)
marked_get (b ∷ bs) [] n l = absurd (omega arith)
marked_get (b ∷ bs) (true ∷ ks) zero l = refl
marked_get (b ∷ bs) (false ∷ ks) zero l = refl
marked_get (b ∷ bs) (k ∷ ks) (suc n) l = marked_get bs ks n (omega arith)

-- A place has a note exactly if it is one of the bytes and is not dropped.
pub named_marked : (g : Region) (s : ℕ) (bs : List ℕ) (ks : List Bool) (q : Place) → length ks ≡ length bs → (is_in g q && unwrap_or (mark_at s ks (offset_in g q)) false) ≡ is_some (named (old_bytes g s (masked bs ks)) q)
named_marked g s bs ks q l = by (is_in g q) ∙ ap is_some (sym (named_kept g s (masked bs ks) q))
  where
    at : (t : Bool) → unwrap_or (cond t None (slice_get ks (offset_in g q - s))) false ≡ is_some (option_map (λ (x : ℕ). Some (Byte x)) (cond t None (option_flatten (slice_get (masked bs ks) (offset_in g q - s)))))
    at true = refl
    at false = marked_get bs ks (offset_in g q - s) l

    by : (t : Bool) → (t && unwrap_or (mark_at s ks (offset_in g q)) false) ≡ is_some (cond t (option_map (λ (x : ℕ). Some (Byte x)) (kept_at s (masked bs ks) (offset_in g q))) None)
    by true = at (nat_lt (offset_in g q) s)
    by false = refl

-- ---- Bytes written back

over_none : (x : Option ℕ) → option_map Byte (option_map (unwrap_or None) x) ≡ option_map Byte x
over_none None = refl
over_none (Some y) = refl

over_some : (x : Option ℕ) (b : ℕ) → is_some (option_map Byte x) ≡ true → option_map Byte (option_map (unwrap_or (Some b)) x) ≡ Some (Byte b)
over_some None b h = absurd cc
over_some (Some y) b h = refl

-- Writing the recorded bytes over those of the region undoes their changes.
pub undone_bytes : (u w : View) (g : Region) (s : ℕ) (os : List (Option ℕ)) (xs ys : List ℕ) (q : Place) → PutOver xs s os ys → BytesPresent u g s os
    → (is_in g q ≡ true → (u q ≡ option_map Byte (slice_get xs (offset_in g q))) × (w q ≡ option_map Byte (slice_get ys (offset_in g q)))) → (is_in g q ≡ false → w q ≡ u q) → w q ≡ undo u (old_bytes g s os) q
undone_bytes u w g s os xs ys q over present inside outside = by (is_in g q) refl ∙ ap (λ n. unwrap_or n (u q)) (sym (named_kept g s os q))
  where
    at : is_in g q ≡ true → (k : Option ℕ) → kept_at s os (offset_in g q) ≡ k → option_map Byte (option_map (unwrap_or k) (slice_get xs (offset_in g q))) ≡ unwrap_or (option_map (λ (x : ℕ). Some (Byte x)) k) (u q)
    at e None f = over_none (slice_get xs (offset_in g q)) ∙ sym (inside e).0
    at e (Some b) f =
        let t = kept_there s os (offset_in g q) b f in
        let p : place_in g (s + t.0) ≡ q = ap (place_in g) (sym t.1) ∙ place_of_in g q e in
        let here : is_some (u (place_in g (s + t.0))) ≡ true = present t.0 b t.2 in
        over_some (slice_get xs (offset_in g q)) b (ap is_some (sym (inside e).0) ∙ ap (λ r. is_some (u r)) (sym p) ∙ here)

    by : (t : Bool) → is_in g q ≡ t → w q ≡ unwrap_or (cond t (option_map (λ (x : ℕ). Some (Byte x)) (kept_at s os (offset_in g q))) None) (u q)
    by true e = (inside e).1 ∙ ap (option_map Byte) (over (offset_in g q)) ∙ at e (kept_at s os (offset_in g q)) refl
    by false e = outside e

-- If all places of the region are absent, no byte of it is recorded.
pub undone_nothing : (u : View) (g : Region) (s : ℕ) (os : List (Option ℕ)) (q : Place) → BytesPresent u g s os → ((j : ℕ) → u (place_in g j) ≡ None) → u q ≡ undo u (old_bytes g s os) q
undone_nothing u g s os q present none = sym (ap (λ n. unwrap_or n (u q)) (named_kept g s os q ∙ by (is_in g q) (kept_at s os (offset_in g q)) refl))
  where
    by : (t : Bool) (k : Option ℕ) → kept_at s os (offset_in g q) ≡ k → cond t (option_map (λ (x : ℕ). Some (Byte x)) k) None ≡ None
    by false k e = refl
    by true None e = refl
    by true (Some b) e =
        let t = kept_there s os (offset_in g q) b e in
        let here : is_some (u (place_in g (s + t.0))) ≡ true = present t.0 b t.2 in
        let gone : is_some (u (place_in g (s + t.0))) ≡ false = ap is_some (none (s + t.0)) in
        absurd (let c : true ≡ false = sym here ∙ gone in cc)
