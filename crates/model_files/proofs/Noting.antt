-- Facts about the notes of bytes before they change.
use Rattle.std.proofs.Common.{◌≡◌, ℕ, zero, suc, Bool, true, false, cond, refl, sym, ◌∙◌, ap, List, [], ◌∷◌, length, ◌+◌, ◌-◌, ◌<◌, ◌≤◌, arith}
use Rattle.std.specs.Prelude.{Option, Some, None, option_map, slice_get, ◌==◌, ◌⊎◌, nat_lt, unwrap_or}
use Rattle.std.proofs.Common.{inl, inr}
use Rattle.std.proofs.lemmas.Bool.{eqb-true, eq-eqb}
use Rattle.std.proofs.lemmas.Bool.Decides.{nat_tests}
use Rattle.std.proofs.lemmas.Grind.{common_steps}
use Rattle.std.proofs.lemmas.Option.{gets}
use Rattle.places.specs.declared.place.Place.{Place}
use Rattle.places.specs.declared.value.Change.{Change}
use Rattle.places.specs.declared.value.Value.{Value}
use Rattle.places.specs.declared.value.Value.TheVariants.{Byte}
use Rattle.places.specs.declared.notes.runs.Region.{Region}
use Rattle.places.specs.Runs.{byte_from, byte_in, NotedBytes}
use Rattle.places.specs.View.{View, named, undo, first_note, Keeps, Noted}
use Rattle.places.proofs.ListLemmas.{slice_get_none}
use Rattle.places.proofs.SamePlace.{same_place_self}
use Rattle.model_files.specs.Objects.{NamesChanges}
use Rattle.model_files.specs.Files.{part, overwritten}

-- Bytes that begin at index s have no note for a smaller index.
pub byte_from_before : (s : ℕ) (bs : List ℕ) (i : ℕ) → i < s → byte_from s bs i ≡ None
byte_from_before s [] i h = refl
byte_from_before s (b ∷ bs) i h = by (s == i) refl (byte_from_before (s + 1) bs i (omega arith))
  where
    by : (t : Bool) → (s == i) ≡ t → byte_from (s + 1) bs i ≡ None → cond t (Some (Some (Byte b))) (byte_from (s + 1) bs i) ≡ None
    by true e k = absurd (let j = eqb-true s i e in omega arith)
    by false e k = k

pub byte_from_at : (s : ℕ) (bs : List ℕ) (d i : ℕ) → i ≡ s + d → byte_from s bs i ≡ option_map (λ b. Some (Byte b)) (slice_get bs d)
byte_from_at s [] d i e = refl
byte_from_at s (b ∷ bs) zero i e = ap (λ t. cond t (Some (Some (Byte b))) (byte_from (s + 1) bs i)) (eq-eqb s i (omega arith))
byte_from_at s (b ∷ bs) (suc d) i e = by (s == i) refl (byte_from_at (s + 1) bs d i (omega arith))
  where
    by : (t : Bool) → (s == i) ≡ t → byte_from (s + 1) bs i ≡ option_map (λ b. Some (Byte b)) (slice_get bs d) → cond t (Some (Some (Byte b))) (byte_from (s + 1) bs i) ≡ option_map (λ b. Some (Byte b)) (slice_get bs d)
    by true k h = absurd (let j = eqb-true s i k in omega arith)
    by false k h = h

-- An element of a part of a list.
pub get_part : (xs : List ℕ) (at k d b : ℕ) → slice_get (part xs at k) d ≡ Some b → slice_get xs (at + d) ≡ Some b
get_part xs at k d b h = grind (arith, common_steps, gets)

pub length-part : (xs : List ℕ) (at k : ℕ) → at + k ≤ length xs → length (part xs at k) ≡ k
length-part xs at k h = grind (arith, common_steps)

pub below_or_not : (i s : ℕ) → (i < s) ⊎ (s ≤ i)
below_or_not i s = by (nat_lt i s) refl
  where
    by : (t : Bool) → nat_lt i s ≡ t → (i < s) ⊎ (s ≤ i)
    by true e = inl (grind (arith, nat_tests))
    by false e = inr (grind (arith, nat_tests))

-- The note of a byte is its current value.
there_at : (xs bs : List ℕ) (at i d : ℕ) (x : Option Value) → ((j b : ℕ) → slice_get bs j ≡ Some b → slice_get xs (at + j) ≡ Some b) → i ≡ at + d → byte_from at bs i ≡ Some x → x ≡ option_map Byte (slice_get xs i)
there_at xs bs at i d x p h e = by (slice_get bs d) refl (sym (byte_from_at at bs d i h) ∙ e)
  where
    by : (b : Option ℕ) → slice_get bs d ≡ b → option_map (λ b. Some (Byte b)) b ≡ Some x → x ≡ option_map Byte (slice_get xs i)
    by None g f = absurd cc
    by (Some b) g f = let y : x ≡ Some (Byte b) = cc in y ∙ sym (ap (option_map Byte) (ap (slice_get xs) h ∙ p d b g))

pub bytes_there : (xs bs : List ℕ) (at i : ℕ) (x : Option Value) → ((j b : ℕ) → slice_get bs j ≡ Some b → slice_get xs (at + j) ≡ Some b) → byte_from at bs i ≡ Some x → x ≡ option_map Byte (slice_get xs i)
bytes_there xs bs at i x p e = by (below_or_not i at)
  where
    by : (i < at) ⊎ (at ≤ i) → x ≡ option_map Byte (slice_get xs i)
    by (inl l) = absurd (let n = byte_from_before at bs i l in cc)
    by (inr l) = there_at xs bs at i (i - at) x p (omega arith) e

-- A byte without a note, at or after the first one, is after the last one.
past_at : (bs : List ℕ) (at i d : ℕ) → i ≡ at + d → byte_from at bs i ≡ None → at + length bs ≤ i
past_at bs at i d h e = by (slice_get bs d) refl (sym (byte_from_at at bs d i h) ∙ e)
  where
    by : (b : Option ℕ) → slice_get bs d ≡ b → option_map (λ b. Some (Byte b)) b ≡ None → at + length bs ≤ i
    by None g f = let n = slice_get_none bs d g in omega arith
    by (Some b) g f = absurd cc

pub bytes_elsewhere : (bs : List ℕ) (at i : ℕ) → byte_from at bs i ≡ None → (i < at) ⊎ (at + length bs ≤ i)
bytes_elsewhere bs at i e = by (below_or_not i at)
  where
    by : (i < at) ⊎ (at ≤ i) → (i < at) ⊎ (at + length bs ≤ i)
    by (inl l) = inl l
    by (inr l) = inr (past_at bs at i (i - at) (omega arith) e)

-- Overwriting leaves the other bytes unchanged.
pub get-overwritten_other : (xs : List ℕ) (at : ℕ) (others : List ℕ) (i : ℕ) → at + length others ≤ length xs → (i < at) ⊎ (at + length others ≤ i) → slice_get (overwritten xs at others) i ≡ slice_get xs i
get-overwritten_other xs at others i h (inl l) = grind (arith, common_steps, gets)
get-overwritten_other xs at others i h (inr l) = grind (arith, common_steps, gets)

-- ---- Notes

-- A place without a note after bytes were recorded is none of those bytes.
pub unnamed_byte : (cs ds : List Change) (g : Region) (s : ℕ) (bs : List ℕ) → NotedBytes cs ds g s bs → (q : Place) → named ds q ≡ None → byte_in g s bs q ≡ None
unnamed_byte cs ds g s bs n q h = by (named cs q) (byte_in g s bs q) (sym (n q) ∙ h)
  where
    by : (m b : Option (Option Value)) → first_note m b ≡ None → b ≡ None
    by None b k = k
    by (Some x) b k = absurd cc

-- A recorded place has a note.
pub noted_named : (cs ds : List Change) (p : Place) (x : Option Value) → Noted cs ds p x → named ds p ≡ None → ⊥
noted_named cs ds p x n h = by (named cs p) (sym (n p ∙ ap (λ b. first_note (named cs p) (cond b (Some x) None)) (same_place_self p)) ∙ h)
  where
    by : (m : Option (Option Value)) → first_note m (Some x) ≡ None → ⊥
    by None k = cc
    by (Some y) k = cc

-- Places that have notes may change: undoing still gives the same view.
pub keeps_changed : (owns : Place → Bool) (u v w : View) (cs ds : List Change) → Keeps owns u v cs ds → NamesChanges owns v w ds → Keeps owns u w cs ds
keeps_changed owns u v w cs ds k c = record { back = λ p o. by p o (named ds p) refl ∙ k.back p o; others = k.others }
  where
    by : (p : Place) → owns p ≡ true → (n : Option (Option Value)) → named ds p ≡ n → undo w ds p ≡ undo v ds p
    by p o None e = ap (λ m. unwrap_or m (w p)) e ∙ c p o e ∙ sym (ap (λ m. unwrap_or m (v p)) e)
    by p o (Some x) e = ap (λ m. unwrap_or m (w p)) e ∙ sym (ap (λ m. unwrap_or m (v p)) e)
