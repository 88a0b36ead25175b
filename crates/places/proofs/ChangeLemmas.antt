-- A change that was appended to packed bytes is read back.
use Rattle.std.proofs.Common.{◌≡◌, ℕ, ◌+◌, ◌*◌, ◌/◌, ◌%◌, ◌^◌, ◌<◌, ◌≤◌, false, refl, sym, ◌∙◌, ap, List, [], ◌∷◌, ◌++◌, length, arith, append-nil}
use Rattle.std.specs.Prelude.{Option, Some, None, ◌==◌}
use Rattle.std.proofs.Math.Nat.{mod-eq_of_lt}
use Rattle.places.specs.declared.place.Place.{Place}
use Rattle.places.specs.declared.place.Place.TheVariants.{ProgramCounter, Got}
use Rattle.places.specs.declared.value.Value.{Value}
use Rattle.places.specs.declared.value.Value.TheVariants.{Number}
use Rattle.places.specs.declared.value.Change.{Change}
use Rattle.places.specs.Places.{kind_of}
use Rattle.places.specs.PlaceNumbers.{place_of}
use Rattle.places.specs.Slots.{number_places, number_place, other_places, other_place}
use Rattle.places.specs.SlotLaws.{kind_small, AllOf, place_in_slot_of}
use Rattle.compact_size.specs.Reading.{read_all, Puts}
use Rattle.compact_size.specs.Frames.{Frames}
use Rattle.compact_size.specs.CompactSizes.{number_of, after, after_many, word_of}
use Rattle.places.specs.Packed.{Spells, framed_value, value_of_shape, after_value, kind_from, shape_from, change_of, after_change, packed}
use Rattle.compact_size.proofs.ReadingLemmas.{read_all_of}

same_word : {m n : ℕ} → m ≡ n → n < 2 ^ 32 → m % 2 ^ 32 ≡ n
same_word e h = ap (λ i. i % 2 ^ 32) e ∙ mod-eq_of_lt h

-- ---- Changes

abbrev change_at : Place → Option Value → Change
change_at p x = record { place = p; old = x }

made : {p q : Place} {x y : Option Value} → p ≡ q → x ≡ y → change_at p x ≡ change_at q y
made e f = rw (e, f) refl

kind_again : (k s : ℕ) → k < 30 → kind_from (k + 30 * s) ≡ k
kind_again k s h = omega arith

shape_again : (k s : ℕ) → k < 30 → shape_from (k + 30 * s) ≡ s
shape_again k s h = omega arith

-- Bytes that begin with a head, an index and a value of the head's shape begin with that change.
module _ (bs : List ℕ) (p : Place) (x : Option Value) (s i : ℕ) (again : place_of (kind_of p) i 0 ≡ p) (fits : i < 2 ^ 32) (head : number_of bs ≡ kind_of p + 30 * s) (index : number_of (after bs) ≡ i) where
  first_shape : shape_from (number_of bs) ≡ s
  first_shape = ap shape_from head ∙ shape_again (kind_of p) s (kind_small p)

  first_change : value_of_shape s (after_many 2 bs) ≡ x → change_of bs ≡ change_at p x
  unfolding change_of
  first_change e =
      let k : kind_from (number_of bs) ≡ kind_of p = ap kind_from head ∙ kind_again (kind_of p) s (kind_small p) in
      let n : word_of (after_many 1 bs) ≡ i = same_word index fits in
      made (rw (k, n) again) (rw (first_shape) e)

  first_rest : after_change bs ≡ after_value s (after_many 2 bs)
  unfolding after_change
  first_rest = rw (first_shape) refl

module _ (p : Place) (i : ℕ) (old : List ℕ) (again : place_of (kind_of p) i 0 ≡ p) (fits : i < 2 ^ 32) where
  change_put : (x : Option Value) (s : ℕ) (mid new : List ℕ) → Puts number_of after old ((kind_of p + 30 * s) ∷ i ∷ []) mid → Puts (value_of_shape s) (after_value s) mid (x ∷ []) new → Puts change_of after_change old (change_at p x ∷ []) new
  change_put x s mid new g h rest =
      let q = h rest in
      let b = g q.put in
      let m : after_many 2 b.put ≡ q.put = b.reads.1.1 in
      let e = first_change b.put p x s i again fits b.reads.0 b.reads.1.0 (ap (value_of_shape s) m ∙ q.reads.0) in
      let f = first_rest b.put p x s i again fits b.reads.0 b.reads.1.0 in
      record { put = b.put; joined = q.joined ∙ b.joined; reads = (e, f ∙ ap (after_value s) m ∙ q.reads.1) }

  pub absence_put : (new : List ℕ) → Puts number_of after old ((kind_of p + 30 * 0) ∷ i ∷ []) new → Puts change_of after_change old (change_at p None ∷ []) new
  unfolding value_of_shape after_value
  absence_put new g = change_put None 0 new new g (λ rest. record { put = rest; joined = refl; reads = (refl, refl) })

  pub framed_put : (v : Value) (s : ℕ) (xs mid new : List ℕ) → 2 ≤ s → Puts number_of after old ((kind_of p + 30 * s) ∷ i ∷ []) mid → Frames mid xs new → Spells s xs v → Puts change_of after_change old (change_at p (Some v) ∷ []) new
  unfolding value_of_shape after_value
  framed_put v s xs mid new l g f r =
      let a : (s == 0) ≡ false = grind arith in
      let b : (s == 1) ≡ false = grind arith in
      change_put (Some v) s mid new g (λ rest.
      let q = f.put rest in
      record { put = q.put; joined = q.joined; reads = (rw (a, b) (ap (λ (bs : List ℕ). Some (framed_value s bs)) q.reads.0 ∙ ap Some (r f.bytes f.reads)), rw (a, b) q.reads.1) })

pub number_change_put : (p : Place) (i n : ℕ) (old new : List ℕ) → place_of (kind_of p) i 0 ≡ p → i < 2 ^ 32 → Puts number_of after old ((kind_of p + 30) ∷ i ∷ n ∷ []) new → Puts change_of after_change old (change_at p (Some (Number n)) ∷ []) new
unfolding value_of_shape after_value
number_change_put p i n old new again fits g rest =
    let q = g rest in
    let e = first_change q.put p (Some (Number n)) 1 i again fits q.reads.0 q.reads.1.0 (ap (λ m. Some (Number m)) q.reads.1.1.0) in
    let f = first_rest q.put p (Some (Number n)) 1 i again fits q.reads.0 q.reads.1.0 in
    record { put = q.put; joined = q.joined; reads = (e, f ∙ q.reads.1.1.1) }

-- ---- The places of notes, by their kinds

-- The place is the one with its kind and index i.
abbrev IsAt : ℕ → Place → Type 0
IsAt i p = place_of (kind_of p) i 0 ≡ p

all_numbers_at : (i : ℕ) → AllOf (IsAt i) (number_places i)
unfolding AllOf place_of
all_numbers_at i = (refl, (refl, (refl, (refl, (refl, (refl, (refl, (refl, (refl, (refl, (refl, (refl, (refl, (refl, (refl, (refl, (refl, tt)))))))))))))))))

pub number_at : (k i : ℕ) → IsAt i (number_place k i)
unfolding number_place place_of
number_at k i = place_in_slot_of (IsAt i) k (number_places i) (ProgramCounter i) (all_numbers_at i) refl

all_others_at : (i : ℕ) → AllOf (IsAt i) (other_places i)
unfolding AllOf place_of
all_others_at i = (refl, (refl, (refl, (refl, (refl, tt)))))

pub other_at : (k i : ℕ) → IsAt i (other_place k i)
unfolding other_place place_of
other_at k i = place_in_slot_of (IsAt i) k (other_places i) (Got i) (all_others_at i) refl

-- ---- Packed changes

-- Bytes that begin with the number `n`, and after it the changes `cs`, half as many, are read as these.
pub packed_put : (old mid new : List ℕ) (n : ℕ) (cs : List Change) → old ≡ [] → length cs ≡ n / 2 → Puts number_of after old (n ∷ []) mid → Puts change_of after_change mid cs new → (packed new ≡ cs) × (number_of new ≡ n)
packed_put old mid new n cs z l g h =
    let q = h [] in
    let p = g q.put in
    let e : new ≡ p.put = sym (append-nil new) ∙ q.joined ∙ p.joined ∙ ap (λ (xs : List ℕ). xs ++ p.put) z in (
      ap packed e ∙ ap (λ k. read_all change_of after_change k (after p.put)) (ap (λ k. k / 2) p.reads.0 ∙ sym l) ∙ ap (read_all change_of after_change (length cs)) p.reads.1 ∙ read_all_of change_of after_change q.put cs [] q.reads,
      ap number_of e ∙ p.reads.0,
    )
