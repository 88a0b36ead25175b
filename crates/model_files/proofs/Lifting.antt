-- The view of a world in which one object changed.
use Rattle.std.proofs.Common.{◌≡◌, ℕ, Bool, true, false, cond, refl, sym, ◌∙◌, ap, subst, List, length, get_or, ◌+◌, ◌-◌, ◌<◌, arith}
use Rattle.std.specs.Prelude.{Option, Some, None, IsSome, IsSomeAnd, is_some, unwrap_or, slice_get, slice_set, ◌==◌}
use Rattle.std.specs.Option.{option_and_then}
use Rattle.std.proofs.lemmas.Bool.{eqb-true, eq-eqb}
use Rattle.std.proofs.lemmas.Option.{slice_get_within, get_or_from_slice_get}
use Rattle.places.specs.declared.place.Place.{Place}
use Rattle.places.specs.declared.place.Place.TheVariants.{FileByte, DurableByte, FileLength, DurableLength, PipeByte, PutCount, TakenCount, EventCount}
use Rattle.places.specs.declared.value.Change.{Change}
use Rattle.places.specs.declared.value.Value.{Value}
use Rattle.places.specs.Lists.{updated}
use Rattle.places.specs.Places.{same_place}
use Rattle.places.specs.View.{named, put_at, Keeps}
use Rattle.places.proofs.ListLemmas.{slice_get-set, map_same, updated_set}
use Rattle.places.proofs.SamePlace.{same_place_is}
use Rattle.model_files.specs.declared.body.Body.{Body}
use Rattle.model_files.specs.declared.body.Body.TheVariants.{File}
use Rattle.model_files.specs.Objects.{object_owns, object_in, CanPut, PutsIn}
use Rattle.model_files.specs.Files.{FileState, overwritten, part}
use Rattle.model_files.specs.Worlds.{WorldState, bytes_of, world_read, world_owns, world_seen, object_seen, body_seen, kind_of_body, file_in, file_of, OneSetup}

-- The world with the object of one number replaced.
abbrev pub with_body : WorldState → ℕ → Body → WorldState
with_body w o b = record w { objects = slice_set w.objects o b }

seen_here : (os : List Body) (o y : ℕ) (b : Body) (p : Place) → o < length os → option_and_then (λ (c : Body). body_seen c p) (slice_get (slice_set os o b) y) ≡ cond (o == y) (body_seen b p) (option_and_then (λ (c : Body). body_seen c p) (slice_get os y))
seen_here os o y b p h = ap (option_and_then (λ (c : Body). body_seen c p)) (slice_get-set os o y b h) ∙ by (o == y)
  where
    by : (t : Bool) → option_and_then (λ (c : Body). body_seen c p) (cond t (Some b) (slice_get os y)) ≡ cond t (body_seen b p) (option_and_then (λ (c : Body). body_seen c p) (slice_get os y))
    by true = refl
    by false = refl

pub seen_of_set : (w : WorldState) (o : ℕ) (b : Body) (p : Place) → o < length w.objects → world_seen (with_body w o b) p ≡ cond (object_owns o p) (body_seen b p) (world_seen w p)
seen_of_set w o b (FileByte y j) h = seen_here w.objects o y b (FileByte y j) h
seen_of_set w o b (DurableByte y j) h = seen_here w.objects o y b (DurableByte y j) h
seen_of_set w o b (FileLength y) h = seen_here w.objects o y b (FileLength y) h
seen_of_set w o b (DurableLength y) h = seen_here w.objects o y b (DurableLength y) h
seen_of_set w o b (PipeByte y j) h = seen_here w.objects o y b (PipeByte y j) h
seen_of_set w o b (PutCount y) h = seen_here w.objects o y b (PutCount y) h
seen_of_set w o b (TakenCount y) h = seen_here w.objects o y b (TakenCount y) h
seen_of_set w o b (EventCount y) h = seen_here w.objects o y b (EventCount y) h
seen_of_set w o b _ h = refl

own_here : (os : List Body) (o y : ℕ) (b : Body) (p : Place) → slice_get os o ≡ Some b → (o == y) ≡ true → option_and_then (λ (c : Body). body_seen c p) (slice_get os y) ≡ body_seen b p
own_here os o y b p h e = ap (option_and_then (λ (c : Body). body_seen c p)) (ap (slice_get os) (sym (eqb-true o y e)) ∙ h)

-- The view of the world has the values of the object at the object's places.
pub own_seen : (w : WorldState) (o : ℕ) (b : Body) (p : Place) → slice_get w.objects o ≡ Some b → object_owns o p ≡ true → world_seen w p ≡ body_seen b p
own_seen w o b (FileByte y j) h e = own_here w.objects o y b (FileByte y j) h e
own_seen w o b (DurableByte y j) h e = own_here w.objects o y b (DurableByte y j) h e
own_seen w o b (FileLength y) h e = own_here w.objects o y b (FileLength y) h e
own_seen w o b (DurableLength y) h e = own_here w.objects o y b (DurableLength y) h e
own_seen w o b (PipeByte y j) h e = own_here w.objects o y b (PipeByte y j) h e
own_seen w o b (PutCount y) h e = own_here w.objects o y b (PutCount y) h e
own_seen w o b (TakenCount y) h e = own_here w.objects o y b (TakenCount y) h e
own_seen w o b (EventCount y) h e = own_here w.objects o y b (EventCount y) h e
own_seen w o b _ h e = absurd cc

none_other : (o : ℕ) (p : Place) → world_owns p ≡ false → object_owns o p ≡ false
none_other o (FileByte y j) h = absurd cc
none_other o (DurableByte y j) h = absurd cc
none_other o (FileLength y) h = absurd cc
none_other o (DurableLength y) h = absurd cc
none_other o (PipeByte y j) h = absurd cc
none_other o (PutCount y) h = absurd cc
none_other o (TakenCount y) h = absurd cc
none_other o (EventCount y) h = absurd cc
none_other o _ h = refl

-- `Keeps` for an object implies `Keeps` for the world.
pub keeps_object : (w : WorldState) (o : ℕ) (b c : Body) (cs ds : List Change) → slice_get w.objects o ≡ Some b → Keeps (object_owns o) (body_seen b) (body_seen c) cs ds → Keeps world_owns (world_seen w) (world_seen (with_body w o c)) cs ds
keeps_object w o b c cs ds h k = record {
  back = λ p _. ap (unwrap_or (named ds p)) (seen_of_set w o c p (slice_get_within w.objects o b h)) ∙ by p (object_owns o p) refl;
  others = λ p e. k.others p (none_other o p e);
}
  where
    by : (p : Place) (t : Bool) → object_owns o p ≡ t → unwrap_or (named ds p) (cond t (body_seen c p) (world_seen w p)) ≡ unwrap_or (named cs p) (world_seen w p)
    by p true e = k.back p e ∙ sym (ap (unwrap_or (named cs p)) (own_seen w o b p h e))
    by p false e = ap (λ n. unwrap_or n (world_seen w p)) (k.others p e)

-- Setting one place of an object sets that place of the world.
pub put_object : (w : WorldState) (o : ℕ) (b c : Body) (p : Place) (v : Value) → slice_get w.objects o ≡ Some b → object_owns o p ≡ true → PutsIn (body_seen b) (body_seen c) p v → (q : Place) → world_seen (with_body w o c) q ≡ put_at (world_seen w) p (Some v) q
put_object w o b c p v h own k q = seen_of_set w o c q (slice_get_within w.objects o b h) ∙ by (object_owns o q) refl
  where
    true_false : true ≡ false → ⊥
    true_false e = cc

    apart : object_owns o q ≡ false → (t : Bool) → same_place p q ≡ t → world_seen w q ≡ cond t (Some v) (world_seen w q)
    apart e true s = absurd (true_false (sym own ∙ ap (object_owns o) (same_place_is p q s) ∙ e))
    apart e false s = refl

    by : (t : Bool) → object_owns o q ≡ t → cond t (body_seen c q) (world_seen w q) ≡ put_at (world_seen w) p (Some v) q
    by true e = k o q own e ∙ ap (cond (same_place p q) (Some v)) (sym (own_seen w o b q h e))
    by false e = apart e (same_place p q) refl

-- Replacing an object by one of the same kind and size preserves the fixed properties.
pub one_setup_body : (w : WorldState) (o : ℕ) (b c : Body) → slice_get w.objects o ≡ Some b → kind_of_body c ≡ kind_of_body b → OneSetup w (with_body w o c)
one_setup_body w o b c h e = record { memory = refl; objects = sym (map_same kind_of_body w.objects o b c h e); descriptors = refl }

-- A place with object number o belongs to object o.
pub owns_own : (p : Place) (o : ℕ) → object_in p ≡ Some o → object_owns o p ≡ true
owns_own (FileByte y j) o h = eq-eqb o y (let e : y ≡ o = cc in sym e)
owns_own (DurableByte y j) o h = eq-eqb o y (let e : y ≡ o = cc in sym e)
owns_own (FileLength y) o h = eq-eqb o y (let e : y ≡ o = cc in sym e)
owns_own (DurableLength y) o h = eq-eqb o y (let e : y ≡ o = cc in sym e)
owns_own (PipeByte y j) o h = eq-eqb o y (let e : y ≡ o = cc in sym e)
owns_own (PutCount y) o h = eq-eqb o y (let e : y ≡ o = cc in sym e)
owns_own (TakenCount y) o h = eq-eqb o y (let e : y ≡ o = cc in sym e)
owns_own (EventCount y) o h = eq-eqb o y (let e : y ≡ o = cc in sym e)
owns_own _ o h = absurd cc

-- Replacing an object by its changed contents is updating the list.
pub changed_body : (g : Body → Body) (w : WorldState) (o : ℕ) (b c : Body) → slice_get w.objects o ≡ Some b → c ≡ g b → with_body w o c ≡ record w { objects = updated g w.objects o }
changed_body g w o b c h e = ap (λ (bs : List Body). record w { objects = bs }) (ap (slice_set w.objects o) e ∙ sym (updated_set g w.objects o b h))

-- The object that was read is the one with its number.
pub found_body : {X : Type 0} (f : Body → Option X) (w : WorldState) (o : ℕ) (b : Body) → IsSome (option_and_then f (slice_get w.objects o)) → b ≡ get_or w.objects o b → slice_get w.objects o ≡ Some b
found_body f w o b h r = by (slice_get w.objects o) refl h
  where
    by : (x : Option Body) → slice_get w.objects o ≡ x → is_some (option_and_then f x) ≡ true → slice_get w.objects o ≡ Some b
    by None e k = absurd cc
    by (Some y) e k = e ∙ ap Some (sym (r ∙ get_or_from_slice_get w.objects o y b e))

pub some_and : {X : Type 0} (P : X → Type 0) (x : Option X) → IsSomeAnd x P → IsSome x
some_and P None h = absurd h
some_and P (Some x) h = refl

-- A range given by its end is a part given by its length.
pub range_is : (xs : List ℕ) (at k : ℕ) → part xs at ((at + k) - at) ≡ part xs at k
range_is xs at k = ap (λ n. part xs at n) (omega arith)

-- ---- Setting a place of an object

object_there : (os : List Body) (o : ℕ) (b : Body) (p : Place) → IsSome (option_and_then (λ (c : Body). body_seen c p) (slice_get os o)) → b ≡ get_or os o b → slice_get os o ≡ Some b
object_there os o b p h r = by (slice_get os o) refl h
  where
    by : (x : Option Body) → slice_get os o ≡ x → is_some (option_and_then (λ (c : Body). body_seen c p) x) ≡ true → slice_get os o ≡ Some b
    by None e k = absurd cc
    by (Some y) e k = e ∙ ap Some (sym (r ∙ get_or_from_slice_get os o y b e))

-- If a place is present, so is its object.
pub body_there : (w : WorldState) (o : ℕ) (b : Body) (p : Place) → object_in p ≡ Some o → IsSome (world_seen w p) → b ≡ get_or w.objects o b → slice_get w.objects o ≡ Some b
body_there w o b (FileByte y j) h k r = let e : y ≡ o = cc in object_there w.objects o b (FileByte y j) (subst (λ z. IsSome (object_seen w z (FileByte y j))) e k) r
body_there w o b (DurableByte y j) h k r = let e : y ≡ o = cc in object_there w.objects o b (DurableByte y j) (subst (λ z. IsSome (object_seen w z (DurableByte y j))) e k) r
body_there w o b (FileLength y) h k r = let e : y ≡ o = cc in object_there w.objects o b (FileLength y) (subst (λ z. IsSome (object_seen w z (FileLength y))) e k) r
body_there w o b (DurableLength y) h k r = let e : y ≡ o = cc in object_there w.objects o b (DurableLength y) (subst (λ z. IsSome (object_seen w z (DurableLength y))) e k) r
body_there w o b (PipeByte y j) h k r = let e : y ≡ o = cc in object_there w.objects o b (PipeByte y j) (subst (λ z. IsSome (object_seen w z (PipeByte y j))) e k) r
body_there w o b (PutCount y) h k r = let e : y ≡ o = cc in object_there w.objects o b (PutCount y) (subst (λ z. IsSome (object_seen w z (PutCount y))) e k) r
body_there w o b (TakenCount y) h k r = let e : y ≡ o = cc in object_there w.objects o b (TakenCount y) (subst (λ z. IsSome (object_seen w z (TakenCount y))) e k) r
body_there w o b (EventCount y) h k r = let e : y ≡ o = cc in object_there w.objects o b (EventCount y) (subst (λ z. IsSome (object_seen w z (EventCount y))) e k) r
body_there w o b _ h k r = absurd cc

-- A value that can be assigned in the world can be assigned in the object.
pub can_put_body : (w : WorldState) (o : ℕ) (b : Body) (p : Place) (v : Value) → slice_get w.objects o ≡ Some b → object_owns o p ≡ true → CanPut (world_seen w) p v → CanPut (body_seen b) p v
can_put_body w o b p v h e k = record { there = subst (λ (x : Option Value). IsSome x) (own_seen w o b p h e) k.there; fits = k.fits }

-- Storing bytes of a file in memory is `world_read`.
pub read_is : (w : WorldState) (o offset k addr : ℕ) (b : Body) (f : FileState) (bytes memory : List ℕ) → slice_get w.objects o ≡ Some b → b ≡ File f → bytes ≡ f.bytes → memory ≡ overwritten w.memory addr (part bytes offset ((offset + k) - offset)) → record w { memory = memory } ≡ world_read o offset k addr w
read_is w o offset k addr b f bytes memory h e g m =
    let file : file_of w o ≡ Some f = ap (option_and_then file_in) (h ∙ ap Some e) in
    ap (λ (xs : List ℕ). record w { memory = xs })
    (m ∙ ap (overwritten w.memory addr) (range_is bytes offset k ∙ ap (λ xs. part xs offset k) (g ∙ sym (ap bytes_of file))))
