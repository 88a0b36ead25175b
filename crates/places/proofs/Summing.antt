-- A summary has the bits of a record's places, so it has the bit of each place that the record names.
use Rattle.std.proofs.Common.{◌≡◌, ℕ, ◌+◌, ◌*◌, ◌%◌, ◌-◌, ◌^◌, ◌<◌, ◌≤◌, ◌==◌, inl, inr, bit_or, w64, Bool, true, false, ◌&&◌, List, [], ◌∷◌, ◌++◌, length, take, drop, get_or, eq-eqb, refl, sym, ap, ◌∙◌, subst, arith}
use Rattle.std.specs.Prelude.{Option, Some, None, is_some, map}
use Rattle.std.specs.Int.{bit_at}
use Rattle.std.proofs.lemmas.List.{map_more, take_all}
use Rattle.std.proofs.lemmas.Bool.{cases_eq}
use Rattle.std.proofs.lemmas.Bool.Decides.{nat_tests}
use Rattle.std.proofs.lemmas.Nat.Bits.{bit_at_ones, bit_at_set_same, bit_at_set_other}
use Rattle.places.specs.declared.place.Place.{Place}
use Rattle.places.specs.declared.value.Change.{Change}
use Rattle.places.specs.declared.notes.runs.Region.{Region}
use Rattle.places.specs.declared.notes.runs.Region.TheVariants.{Memory, File, Durable, Pipe}
use Rattle.places.specs.declared.notes.runs.Run.{Run}
use Rattle.places.specs.Places.{same_place}
use Rattle.places.specs.View.{named}
use Rattle.places.specs.Runs.{place_in, old_bytes, run_changes}
use Rattle.places.specs.Summaries.{bit_of, group_bit_of, HasAll, HasBits, Summed}
use Rattle.places.proofs.SamePlace.{same_place_is}

-- ---- Bits of places

pub bit_small : (p : Place) → bit_of p < 64
unfolding bit_of
bit_small p = grind (arith, nat_tests)

pub group_bit_small : (p : Place) → group_bit_of p < 64
unfolding group_bit_of
group_bit_small p = grind (arith, nat_tests, bit_small)

byte_bit : (g : Region) (i : ℕ) → bit_of (place_in g i) ≡ 63
unfolding bit_of
byte_bit Memory i = refl
byte_bit (File o) i = refl
byte_bit (Durable o) i = refl
byte_bit (Pipe o) i = refl

byte_group : (g : Region) (i : ℕ) → group_bit_of (place_in g i) ≡ 63
unfolding bit_of group_bit_of
byte_group Memory i = refl
byte_group (File o) i = refl
byte_group (Durable o) i = refl
byte_group (Pipe o) i = refl

-- Adding a bit keeps the others.
pub bit_added : (a k i : ℕ) → k < 64 → bit_at a i ≡ 1 → bit_at (bit_or a (1 * 2 ^ k % 2 ^ 64)) i ≡ 1
bit_added a k i h e = elim (cases_eq i k) [
  | inl same ↦ rw same (bit_at_set_same w64 a k h)
  | inr other ↦ bit_at_set_other w64 a k h i other ∙ e
]

-- ---- Summaries of lists

pub summed_more : (a b : ℕ) (cs : List Change) → HasAll a b → Summed a cs → Summed b cs
summed_more a b [] f h = tt
summed_more a b (c ∷ cs) f h = ((f (bit_of c.place) h.0.0, f (group_bit_of c.place) h.0.1), summed_more a b cs f h.1)

pub summed_append : (a : ℕ) (cs ds : List Change) → Summed a cs → Summed a ds → Summed a (cs ++ ds)
summed_append a [] ds h k = k
summed_append a (c ∷ cs) ds h k = (h.0, summed_append a cs ds h.1 k)

summed_left : (a : ℕ) (cs ds : List Change) → Summed a (cs ++ ds) → Summed a cs
summed_left a [] ds h = tt
summed_left a (c ∷ cs) ds h = (h.0, summed_left a cs ds h.1)

summed_right : (a : ℕ) (cs ds : List Change) → Summed a (cs ++ ds) → Summed a ds
summed_right a [] ds h = h
summed_right a (c ∷ cs) ds h = summed_right a cs ds h.1

-- A summary of all bits is one of any list.
pub summed_ones : (cs : List Change) → Summed (2 ^ 64 - 1) cs
summed_ones [] = tt
summed_ones (c ∷ cs) = ((bit_at_ones 64 (bit_of c.place) (bit_small c.place), bit_at_ones 64 (group_bit_of c.place) (group_bit_small c.place)), summed_ones cs)

summed_old : (a : ℕ) (g : Region) (s : ℕ) (os : List (Option ℕ)) → bit_at a 63 ≡ 1 → Summed a (old_bytes g s os)
summed_old a g s [] h = tt
summed_old a g s (None ∷ os) h = summed_old a g (s + 1) os h
summed_old a g s (Some b ∷ os) h = ((ap (bit_at a) (byte_bit g s) ∙ h, ap (bit_at a) (byte_group g s) ∙ h), summed_old a g (s + 1) os h)

-- The bit of bytes is a summary of runs of bytes.
pub summed_runs : (a : ℕ) (rs : List Run) (os : List (Option ℕ)) → bit_at a 63 ≡ 1 → Summed a (run_changes rs os)
summed_runs a [] os h = tt
summed_runs a (r ∷ rs) os h = summed_append a (old_bytes r.region r.start (take r.len os)) (run_changes rs (drop r.len os)) (summed_old a r.region r.start (take r.len os) h) (summed_runs a rs (drop r.len os) h)

-- One more note, whose bits were added.
pub summed_note : {X : Type 0} (f : X → Change) (a b : ℕ) (xs : List X) (i : ℕ) (x : X) (p : Place) → i < length xs → x ≡ get_or xs i x → p ≡ (f x).place → Summed a (map f (take i xs)) → HasAll a b → HasBits b p → Summed b (map f (take (i + 1) xs))
summed_note f a b xs i x p h is at s k e =
    let here : HasBits b (f (get_or xs i x)).place = subst (λ y. HasBits b (f y).place) is (subst (HasBits b) at e) in
    subst (Summed b) (sym (map_more f xs i x h)) (summed_append b (map f (take i xs)) (f (get_or xs i x) ∷ []) (summed_more a b (map f (take i xs)) k s) (here, tt))

-- All notes of a list are its first ones, as many as there are.
pub summed_whole : {X : Type 0} (f : X → Change) (a : ℕ) (xs : List X) (i : ℕ) → length xs ≤ i → Summed a (map f (take i xs)) → Summed a (map f xs)
summed_whole f a xs i e h = subst (λ ys. Summed a (map f ys)) (take_all i xs e) h

-- Parts of all notes, in the order in which their bits are added.
pub summed_parts : (a b c d : ℕ) (ns cs rs bs os : List Change) → Summed a (bs ++ os) → HasAll a b → Summed b ns → HasAll b c → Summed c cs → HasAll c d → Summed d rs → Summed d ((ns ++ (cs ++ (rs ++ bs))) ++ os)
summed_parts a b c d ns cs rs bs os sa ab sb bc sc cd sd =
    let ad : HasAll a d = λ i h. cd i (bc i (ab i h)) in
    let bytes = summed_more a d bs ad (summed_left a bs os sa) in
    let odd = summed_more a d os ad (summed_right a bs os sa) in
    let numbers = summed_more b d ns (λ i h. cd i (bc i h)) sb in
    let completions = summed_more c d cs cd sc in
    summed_append d (ns ++ (cs ++ (rs ++ bs))) os (summed_append d ns (cs ++ (rs ++ bs)) numbers (summed_append d cs (rs ++ bs) completions (summed_append d rs bs sd bytes))) odd

-- ---- What a summary says

-- A place that the changes name has its bits.
summed_named : (a : ℕ) (cs : List Change) (p : Place) → Summed a cs → is_some (named cs p) ≡ true → HasBits a p
unfolding named
summed_named a [] p h k = absurd cc
summed_named a (c ∷ cs) p h k = by (same_place c.place p) refl (summed_named a cs p h.1) k
  where
    by : (b : Bool) → same_place c.place p ≡ b → (is_some (named cs p) ≡ true → HasBits a p) → is_some (named (c ∷ cs) p) ≡ true → HasBits a p
    by true e f l = subst (HasBits a) (same_place_is c.place p e) h.0
    by false e f l = f (rw e at l)

pub summed_bits : (a : ℕ) (cs : List Change) (p : Place) → Summed a cs → is_some (named cs p) ≡ true → ((bit_at a (bit_of p) == 1) && (bit_at a (group_bit_of p) == 1)) ≡ true
summed_bits a cs p h k =
    let both = summed_named a cs p h k in
    rw (eq-eqb (bit_at a (bit_of p)) 1 both.0) (eq-eqb (bit_at a (group_bit_of p)) 1 both.1)
