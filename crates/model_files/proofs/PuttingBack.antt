-- The views of objects and of the world after recorded bytes are restored.
use Rattle.std.proofs.Common.{◌≡◌, ℕ, ◌≤◌, ◌+◌, Bool, true, false, cond, refl, sym, ◌∙◌, ap, subst, List, length, arith, inl, inr}
use Rattle.std.specs.Prelude.{Option, Some, None, IsSome, option_map, slice_get, unwrap_or, ◌⊎◌}
use Rattle.std.specs.Option.{option_and_then}
use Rattle.std.proofs.lemmas.Option.{slice_get_within, slice_get_past}
use Rattle.places.specs.declared.place.Place.{Place}
use Rattle.places.specs.declared.place.Place.TheVariants.{MemoryByte, FileByte, DurableByte, PipeByte}
use Rattle.places.specs.declared.value.Value.{Value}
use Rattle.places.specs.declared.value.Value.TheVariants.{Byte}
use Rattle.places.specs.declared.notes.runs.Region.{Region}
use Rattle.places.specs.declared.notes.runs.Region.TheVariants.{Memory, File, Durable, Pipe}
use Rattle.places.specs.View.{View, named, undo}
use Rattle.places.specs.Runs.{place_in, is_in, offset_in, old_bytes}
use Rattle.places.specs.Masked.{PutOver, BytesPresent}
use Rattle.places.proofs.KeptAt.{undone_bytes, undone_nothing, place_of_in, named_outside}
use Rattle.model_files.specs.declared.body.Body.{Body}
use Rattle.model_files.specs.Files.{FileState, file_seen}
use Rattle.model_files.specs.Pipes.{PipeState, pipe_seen, counter_seen}
use Rattle.model_files.specs.Objects.{object_owns, object_in, PutsBack}
use Rattle.model_files.specs.Worlds.{WorldState, world_owns, world_seen, body_seen}
use Rattle.model_files.proofs.Setting.{same_object}
use Rattle.model_files.proofs.Lifting.{with_body, seen_of_set, own_seen}

true_false : true ≡ false → ⊥
true_false e = cc

-- ---- An object

-- Restoring bytes of a file.
pub put_file_bytes : (f : FileState) (x s : ℕ) (os : List (Option ℕ)) (ys : List ℕ) → PutOver f.bytes s os ys → BytesPresent (file_seen f) (File x) s os → PutsBack (file_seen f) (file_seen (record f { bytes = ys })) (File x) s os
put_file_bytes f x s os ys over present o q p own = undone_bytes (file_seen f) (file_seen (record f { bytes = ys })) (File x) s os f.bytes ys q over present (inside q) (outside q own)
  where
    inside : (q : Place) → is_in (File x) q ≡ true → (file_seen f q ≡ option_map Byte (slice_get f.bytes (offset_in (File x) q))) × (file_seen (record f { bytes = ys }) q ≡ option_map Byte (slice_get ys (offset_in (File x) q)))
    inside (FileByte y j) e = (refl, refl)
    inside _ e = absurd cc

    outside : (q : Place) → object_owns o q ≡ true → is_in (File x) q ≡ false → file_seen (record f { bytes = ys }) q ≡ file_seen f q
    outside (FileByte y j) k e = absurd (true_false (sym (same_object o x y p k) ∙ e))
    outside _ k e = refl

-- Restoring durable bytes of a file.
pub put_durable_bytes : (f : FileState) (x s : ℕ) (os : List (Option ℕ)) (ys : List ℕ) → PutOver f.durable s os ys → BytesPresent (file_seen f) (Durable x) s os → PutsBack (file_seen f) (file_seen (record f { durable = ys })) (Durable x) s os
put_durable_bytes f x s os ys over present o q p own = undone_bytes (file_seen f) (file_seen (record f { durable = ys })) (Durable x) s os f.durable ys q over present (inside q) (outside q own)
  where
    inside : (q : Place) → is_in (Durable x) q ≡ true → (file_seen f q ≡ option_map Byte (slice_get f.durable (offset_in (Durable x) q))) × (file_seen (record f { durable = ys }) q ≡ option_map Byte (slice_get ys (offset_in (Durable x) q)))
    inside (DurableByte y j) e = (refl, refl)
    inside _ e = absurd cc

    outside : (q : Place) → object_owns o q ≡ true → is_in (Durable x) q ≡ false → file_seen (record f { durable = ys }) q ≡ file_seen f q
    outside (DurableByte y j) k e = absurd (true_false (sym (same_object o x y p k) ∙ e))
    outside _ k e = refl

-- Restoring slots of a pipe.
pub put_pipe_bytes : (d : PipeState) (x s : ℕ) (os : List (Option ℕ)) (ys : List ℕ) → PutOver d.slots s os ys → BytesPresent (pipe_seen d) (Pipe x) s os → PutsBack (pipe_seen d) (pipe_seen (record d { slots = ys })) (Pipe x) s os
put_pipe_bytes d x s os ys over present o q p own = undone_bytes (pipe_seen d) (pipe_seen (record d { slots = ys })) (Pipe x) s os d.slots ys q over present (inside q) (outside q own)
  where
    inside : (q : Place) → is_in (Pipe x) q ≡ true → (pipe_seen d q ≡ option_map Byte (slice_get d.slots (offset_in (Pipe x) q))) × (pipe_seen (record d { slots = ys }) q ≡ option_map Byte (slice_get ys (offset_in (Pipe x) q)))
    inside (PipeByte y j) e = (refl, refl)
    inside _ e = absurd cc

    outside : (q : Place) → object_owns o q ≡ true → is_in (Pipe x) q ≡ false → pipe_seen (record d { slots = ys }) q ≡ pipe_seen d q
    outside (PipeByte y j) k e = absurd (true_false (sym (same_object o x y p k) ∙ e))
    outside _ k e = refl

-- Nothing is restored if the object doesn't have the region.
put_nothing : (v : View) (g : Region) (s : ℕ) (os : List (Option ℕ)) → BytesPresent v g s os → ((j : ℕ) → v (place_in g j) ≡ None) → PutsBack v v g s os
put_nothing v g s os present none o q p own = undone_nothing v g s os q present none

pub put_no_file_bytes : (f : FileState) (g : Region) (s : ℕ) (os : List (Option ℕ)) → (g ≡ Memory) ⊎ ((x : ℕ) × (g ≡ Pipe x)) → BytesPresent (file_seen f) g s os → PutsBack (file_seen f) (file_seen f) g s os
put_no_file_bytes f g s os other present = put_nothing (file_seen f) g s os present (λ j. none j other)
  where
    none : (j : ℕ) → (g ≡ Memory) ⊎ ((x : ℕ) × (g ≡ Pipe x)) → file_seen f (place_in g j) ≡ None
    none j (inl e) = ap (λ r. file_seen f (place_in r j)) e
    none j (inr e) = ap (λ r. file_seen f (place_in r j)) e.1

pub put_no_pipe_bytes : (d : PipeState) (g : Region) (s : ℕ) (os : List (Option ℕ)) → (g ≡ Memory) ⊎ (((x : ℕ) × (g ≡ File x)) ⊎ ((x : ℕ) × (g ≡ Durable x))) → BytesPresent (pipe_seen d) g s os → PutsBack (pipe_seen d) (pipe_seen d) g s os
put_no_pipe_bytes d g s os other present = put_nothing (pipe_seen d) g s os present (λ j. none j other)
  where
    none : (j : ℕ) → (g ≡ Memory) ⊎ (((x : ℕ) × (g ≡ File x)) ⊎ ((x : ℕ) × (g ≡ Durable x))) → pipe_seen d (place_in g j) ≡ None
    none j (inl e) = ap (λ r. pipe_seen d (place_in r j)) e
    none j (inr (inl e)) = ap (λ r. pipe_seen d (place_in r j)) e.1
    none j (inr (inr e)) = ap (λ r. pipe_seen d (place_in r j)) e.1

pub put_no_counter_bytes : (n : ℕ) (g : Region) (s : ℕ) (os : List (Option ℕ)) → BytesPresent (counter_seen n) g s os → PutsBack (counter_seen n) (counter_seen n) g s os
put_no_counter_bytes n g s os present = put_nothing (counter_seen n) g s os present (λ j. none g j)
  where
    none : (r : Region) (j : ℕ) → counter_seen n (place_in r j) ≡ None
    none Memory j = refl
    none (File x) j = refl
    none (Durable x) j = refl
    none (Pipe x) j = refl

-- ---- The world

-- Restoring bytes of memory.
pub put_memory_bytes : (w : WorldState) (s : ℕ) (os : List (Option ℕ)) (ys : List ℕ) → PutOver w.memory s os ys → BytesPresent (world_seen w) Memory s os → (q : Place) → world_seen (record w { memory = ys }) q ≡ undo (world_seen w) (old_bytes Memory s os) q
put_memory_bytes w s os ys over present q = undone_bytes (world_seen w) (world_seen (record w { memory = ys })) Memory s os w.memory ys q over present (inside q) (outside q)
  where
    inside : (q : Place) → is_in Memory q ≡ true → (world_seen w q ≡ option_map Byte (slice_get w.memory (offset_in Memory q))) × (world_seen (record w { memory = ys }) q ≡ option_map Byte (slice_get ys (offset_in Memory q)))
    inside (MemoryByte a) e = (refl, refl)
    inside _ e = absurd cc

    outside : (q : Place) → is_in Memory q ≡ false → world_seen (record w { memory = ys }) q ≡ world_seen w q
    outside (MemoryByte a) e = absurd cc
    outside _ e = refl

-- A region that belongs to no object is the memory.
pub is_memory : (g : Region) (s : ℕ) → object_in (place_in g s) ≡ None → g ≡ Memory
is_memory Memory s e = refl
is_memory (File x) s e = absurd cc
is_memory (Durable x) s e = absurd cc
is_memory (Pipe x) s e = absurd cc

-- All bytes of a region belong to the same object.
owns_alike : (g : Region) (o i j : ℕ) → object_owns o (place_in g i) ≡ object_owns o (place_in g j)
owns_alike Memory o i j = refl
owns_alike (File x) o i j = refl
owns_alike (Durable x) o i j = refl
owns_alike (Pipe x) o i j = refl

-- A recorded byte that is present in the world is present in the object.
pub present_body : (w : WorldState) (o : ℕ) (b : Body) (g : Region) (s : ℕ) (os : List (Option ℕ)) → slice_get w.objects o ≡ Some b → object_owns o (place_in g s) ≡ true → BytesPresent (world_seen w) g s os → BytesPresent (body_seen b) g s os
present_body w o b g s os h own present i c e = subst (λ (x : Option Value). IsSome x) (own_seen w o b (place_in g (s + i)) h (owns_alike g o (s + i) s ∙ own)) (present i c e)

-- Restoring bytes of an object.
pub put_body_bytes : (w : WorldState) (o : ℕ) (b c : Body) (g : Region) (s : ℕ) (os : List (Option ℕ)) → slice_get w.objects o ≡ Some b → object_owns o (place_in g s) ≡ true → PutsBack (body_seen b) (body_seen c) g s os → (q : Place) → world_seen (with_body w o c) q ≡ undo (world_seen w) (old_bytes g s os) q
put_body_bytes w o b c g s os h own k q = seen_of_set w o c q (slice_get_within w.objects o b h) ∙ by (object_owns o q) refl
  where
    outside : object_owns o q ≡ false → (t : Bool) → is_in g q ≡ t → is_in g q ≡ false
    outside e true i = absurd (true_false (sym (owns_alike g o (offset_in g q) s ∙ own) ∙ ap (object_owns o) (place_of_in g q i) ∙ e))
    outside e false i = i

    by : (t : Bool) → object_owns o q ≡ t → cond t (body_seen c q) (world_seen w q) ≡ undo (world_seen w) (old_bytes g s os) q
    by true e = k o q own e ∙ ap (λ x. unwrap_or (named (old_bytes g s os) q) x) (sym (own_seen w o b q h e))
    by false e = sym (ap (λ n. unwrap_or n (world_seen w q)) (named_outside g s os q (outside e (is_in g q) refl)))

-- The bytes of an object that doesn't exist are absent.
absent : (w : WorldState) (o : ℕ) (g : Region) (s j : ℕ) → object_in (place_in g s) ≡ Some o → length w.objects ≤ o → world_seen w (place_in g j) ≡ None
absent w o Memory s j e l = absurd cc
absent w o (File x) s j e l = let k : x ≡ o = cc in ap (option_and_then (λ (b : Body). body_seen b (FileByte x j))) (slice_get_past w.objects x (omega arith))
absent w o (Durable x) s j e l = let k : x ≡ o = cc in ap (option_and_then (λ (b : Body). body_seen b (DurableByte x j))) (slice_get_past w.objects x (omega arith))
absent w o (Pipe x) s j e l = let k : x ≡ o = cc in ap (option_and_then (λ (b : Body). body_seen b (PipeByte x j))) (slice_get_past w.objects x (omega arith))

pub put_absent : (w : WorldState) (o : ℕ) (g : Region) (s : ℕ) (os : List (Option ℕ)) → object_in (place_in g s) ≡ Some o → length w.objects ≤ o → BytesPresent (world_seen w) g s os → (q : Place) → world_seen w q ≡ undo (world_seen w) (old_bytes g s os) q
put_absent w o g s os e l present q = undone_nothing (world_seen w) g s os q present (λ j. absent w o g s j e l)

-- Bytes of a region are places of the world.
pub named_in_world : (g : Region) (s : ℕ) (os : List (Option ℕ)) (q : Place) → world_owns q ≡ false → named (old_bytes g s os) q ≡ None
named_in_world g s os q h = named_outside g s os q (by (is_in g q) refl)
  where
    owned : (r : Region) (j : ℕ) → world_owns (place_in r j) ≡ true
    owned Memory j = refl
    owned (File x) j = refl
    owned (Durable x) j = refl
    owned (Pipe x) j = refl

    by : (t : Bool) → is_in g q ≡ t → is_in g q ≡ false
    by true e = absurd (true_false (sym (owned g (offset_in g q)) ∙ ap world_owns (place_of_in g q e) ∙ h))
    by false e = e
