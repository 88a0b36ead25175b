-- The view of an object in which one place was set.
use Rattle.std.proofs.Common.{◌≡◌, ℕ, Bool, true, false, cond, refl, sym, ◌∙◌, ap, List, length, ◌<◌}
use Rattle.std.specs.Prelude.{Option, Some, None, IsSome, is_some, option_map, slice_get, slice_set, ◌==◌, ◌&&◌}
use Rattle.std.proofs.lemmas.Bool.{eqb-true, eq-eqb}
use Rattle.std.proofs.lemmas.Option.{slice_get_within}
use Rattle.places.specs.declared.place.Place.TheVariants.{FileByte, DurableByte, FileLength, DurableLength, PipeByte, PutCount, TakenCount, EventCount}
use Rattle.places.specs.declared.value.Value.{Value}
use Rattle.places.specs.declared.value.Value.TheVariants.{Number, Byte}
use Rattle.places.specs.Places.{same_place}
use Rattle.places.proofs.ListLemmas.{slice_get-set}
use Rattle.model_files.specs.Objects.{PutsIn}
use Rattle.model_files.specs.Files.{FileState, file_seen}
use Rattle.model_files.specs.Pipes.{PipeState, pipe_seen, counter_seen}

-- The index of a present byte is within the list.
pub byte_within : (xs : List ℕ) (i : ℕ) → IsSome (option_map Byte (slice_get xs i)) → i < length xs
byte_within xs i h = by (slice_get xs i) refl h
  where
    by : (x : Option ℕ) → slice_get xs i ≡ x → is_some (option_map Byte x) ≡ true → i < length xs
    by None e k = absurd cc
    by (Some x) e k = slice_get_within xs i x e

-- Two places of object o have the same object number.
pub same_object : (o x y : ℕ) → (o == x) ≡ true → (o == y) ≡ true → (x == y) ≡ true
same_object o x y h k = eq-eqb x y (sym (eqb-true o x h) ∙ eqb-true o y k)

number_here : (s : Bool) (a b : Option Value) → s ≡ true → a ≡ cond (s && true) a b
number_here true a b e = refl
number_here false a b e = absurd cc

byte_here : (xs : List ℕ) (i j b : ℕ) (s : Bool) → i < length xs → s ≡ true → option_map Byte (slice_get (slice_set xs i b) j) ≡ cond (s && (i == j)) (Some (Byte b)) (option_map Byte (slice_get xs j))
byte_here xs i j b s h e = ap (option_map Byte) (slice_get-set xs i j b h) ∙ by s (i == j) e
  where
    by : (s t : Bool) → s ≡ true → option_map Byte (cond t (Some b) (slice_get xs j)) ≡ cond (s && t) (Some (Byte b)) (option_map Byte (slice_get xs j))
    by true true k = refl
    by true false k = refl
    by false t k = absurd cc

pub set_file_byte : (f : FileState) (x i b : ℕ) → i < length f.bytes → PutsIn (file_seen f) (file_seen (record f { bytes = slice_set f.bytes i b })) (FileByte x i) (Byte b)
unfolding same_place
set_file_byte f x i b h o (FileByte y j) p q = byte_here f.bytes i j b (x == y) h (same_object o x y p q)
set_file_byte f x i b h o _ p q = refl

pub set_durable_byte : (f : FileState) (x i b : ℕ) → i < length f.durable → PutsIn (file_seen f) (file_seen (record f { durable = slice_set f.durable i b })) (DurableByte x i) (Byte b)
unfolding same_place
set_durable_byte f x i b h o (DurableByte y j) p q = byte_here f.durable i j b (x == y) h (same_object o x y p q)
set_durable_byte f x i b h o _ p q = refl

pub set_file_length : (f : FileState) (x n : ℕ) → PutsIn (file_seen f) (file_seen (record f { len = n })) (FileLength x) (Number n)
unfolding same_place
set_file_length f x n o (FileLength y) p q = number_here (x == y) _ _ (same_object o x y p q)
set_file_length f x n o _ p q = refl

pub set_durable_length : (f : FileState) (x n : ℕ) → PutsIn (file_seen f) (file_seen (record f { durable_len = n })) (DurableLength x) (Number n)
unfolding same_place
set_durable_length f x n o (DurableLength y) p q = number_here (x == y) _ _ (same_object o x y p q)
set_durable_length f x n o _ p q = refl

pub set_pipe_byte : (d : PipeState) (x i b : ℕ) → i < length d.slots → PutsIn (pipe_seen d) (pipe_seen (record d { slots = slice_set d.slots i b })) (PipeByte x i) (Byte b)
unfolding same_place
set_pipe_byte d x i b h o (PipeByte y j) p q = byte_here d.slots i j b (x == y) h (same_object o x y p q)
set_pipe_byte d x i b h o _ p q = refl

pub set_put_count : (d : PipeState) (x n : ℕ) → PutsIn (pipe_seen d) (pipe_seen (record d { put = n })) (PutCount x) (Number n)
unfolding same_place
set_put_count d x n o (PutCount y) p q = number_here (x == y) _ _ (same_object o x y p q)
set_put_count d x n o _ p q = refl

pub set_taken_count : (d : PipeState) (x n : ℕ) → PutsIn (pipe_seen d) (pipe_seen (record d { taken = n })) (TakenCount x) (Number n)
unfolding same_place
set_taken_count d x n o (TakenCount y) p q = number_here (x == y) _ _ (same_object o x y p q)
set_taken_count d x n o _ p q = refl

pub set_event_count : (m x n : ℕ) → PutsIn (counter_seen m) (counter_seen n) (EventCount x) (Number n)
unfolding same_place
set_event_count m x n o (EventCount y) p q = number_here (x == y) _ _ (same_object o x y p q)
set_event_count m x n o _ p q = refl
