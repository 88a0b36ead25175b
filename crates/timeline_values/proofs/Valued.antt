-- The values of a moment, extended by the places of one number, by one byte, and by one region.
use Rattle.std.proofs.Common.{◌≡◌, ℕ, zero, suc, ◌+◌, ◌-◌, ◌<◌, ◌≤◌, ◌⊎◌, inl, inr, Bool, true, false, refl, sym, ap, ◌∙◌, List, [], ◌∷◌, ◌++◌, length, map, get_or, drop, drop-cons, add-one, append_assoc, append-nil, arith, string_bytes}
use Rattle.std.specs.Prelude.{nat_le, nat_lt, nat_eq, min, max, None, option_map, slice_get, take, replicate, if◌then◌else◌}
use Rattle.std.specs.Str.Lossy.{utf8_lossy}
use Rattle.std.proofs.lemmas.Bool.{cases_lt}
use Rattle.std.proofs.lemmas.Bool.Decides.{nat_tests}
use Rattle.base64.specs.GeneralPurpose.{encode_of}
use Rattle.base64.specs.Engines.{standard}
use Rattle.places.specs.declared.notes.runs.Region.{Region}
use Rattle.places.specs.declared.place.Place.{Place}
use Rattle.places.specs.declared.place.Place.TheVariants.{Array, Slot, Completion, Request, Backlog}
use Rattle.places.specs.declared.value.Value.TheVariants.{Byte}
use Rattle.places.specs.Runs.{place_in}
use Rattle.places.specs.View.{View}
use Rattle.scenario.specs.declared.setup.Setup.{Setup}
use Rattle.scenario.specs.PlaceTexts.{place_text}
use Rattle.scenario.specs.Setups.{setup_refusal, has_objects}
use Rattle.machine.proofs.StartLemmas.{accepted}
use Rattle.machine.specs.Extents.{IsNumberedBelow}
use Rattle.state_places.specs.Lists.{lone_places, places_of_slot, places_of_part, places_of_request}
use Rattle.timeline_values.specs.declared.parts.ValuePart.{ValuePart}
use Rattle.timeline_values.specs.Values.{byte_of, value_listed, places_at, values_of, values_below, value_texts, all_values, bytes_below, setup_regions, region_listed, IsRegionShown, AreRegions, AreValues}

-- The places of one more number.
pub values_more : (s : Setup) (v : View) (n : ℕ) (front xs ys : List (List (List ℕ))) → xs ≡ front ++ values_below s v n → ys ≡ xs ++ values_of s v (places_at n) → ys ≡ front ++ values_below s v (n + 1)
values_more s v n front xs ys e h =
    h ∙ ap (λ zs. zs ++ values_of s v (places_at n)) e ∙ append_assoc front (values_below s v n) (values_of s v (places_at n)) ∙ ap (λ k. front ++ values_below s v k) (sym (add-one n))

-- An absent place adds nothing.
not_listed : (s : Setup) (v : View) (p : Place) (rest : List (List (List ℕ))) → v p ≡ None → value_listed s p (v p) ++ rest ≡ rest
not_listed s v p rest none = ap (λ o. value_listed s p o ++ rest) none

-- A number adds nothing if no place has it.
nothing_at : (s : Setup) (v : View) (n i : ℕ) → IsNumberedBelow v n → n ≤ i → 128 ≤ i → values_of s v (places_at i) ≡ []
nothing_at s v n i below past parts = by (nat_lt i 8192) (nat_lt i 128) (grind (arith, nat_tests))
  where
    slots : values_of s v (places_of_slot i) ≡ []
    slots = not_listed s v (Array i) _ (below.words i past) ∙ not_listed s v (Slot i) _ (below.entries i past) ∙ not_listed s v (Completion i) _ (below.completions i past)

    requests : (rest : List (List (List ℕ))) → value_listed s (Request i) (v (Request i)) ++ (value_listed s (Backlog i) (v (Backlog i)) ++ rest) ≡ rest
    requests rest = not_listed s v (Request i) _ (below.requests i past) ∙ not_listed s v (Backlog i) rest (below.backlog i past)

    by : (b c : Bool) → c ≡ false → values_of s v (places_of_request i ++ (if b then places_of_slot i else []) ++ (if c then places_of_part i else [])) ≡ []
    by true false e = requests _ ∙ slots
    by false false e = requests _
    by b true e = absurd cc

-- Numbers from a bound on add nothing.
values_past : (s : Setup) (v : View) (n m k : ℕ) → IsNumberedBelow v n → n ≤ m → 128 ≤ m → values_below s v (m + k) ≡ values_below s v m
values_past s v n m zero below past parts = let e : m + 0 ≡ m = omega arith in ap (values_below s v) e
values_past s v n m (suc k) below past parts =
    let e : m + suc k ≡ suc (m + k) = omega arith in
    ap (values_below s v) e ∙ ap (λ xs. values_below s v (m + k) ++ xs) (nothing_at s v n (m + k) below (omega arith) (omega arith))
    ∙ append-nil (values_below s v (m + k)) ∙ values_past s v n m k below past parts

-- The places below the bound are all that are there.
pub values_stay : (s : Setup) (v : View) (n most count : ℕ) → IsNumberedBelow v n → most ≡ min (max n 128) count → values_below s v most ≡ values_below s v count
values_stay s v n most count below e = by (cases_lt count (max n 128))
  where
    by : (count < max n 128) ⊎ (max n 128 ≤ count) → values_below s v most ≡ values_below s v count
    by (inl less) = let all : most ≡ count = omega arith in ap (values_below s v) all
    by (inr more) =
        let all : most + (count - most) ≡ count = omega arith in
        sym (values_past s v n most (count - most) below (omega arith) (omega arith)) ∙ ap (values_below s v) all

-- All places are listed with those below the bound.
pub all_listed : (s : Setup) (v : View) (most count : ℕ) (xs : List (List (List ℕ))) → xs ≡ values_of s v lone_places ++ values_below s v most → values_below s v most ≡ values_below s v count → xs ≡ all_values s v count
all_listed s v most count xs e stay = e ∙ ap (λ ys. values_of s v lone_places ++ ys) stay

-- One more byte.
pub bytes_more : (v : View) (g : Region) (n : ℕ) (xs ys : List ℕ) → xs ≡ bytes_below v g n → ys ≡ xs ++ byte_of (v (place_in g n)) → ys ≡ bytes_below v g (n + 1)
bytes_more v g n xs ys e h = h ∙ ap (λ zs. zs ++ byte_of (v (place_in g n))) e ∙ ap (bytes_below v g) (sym (add-one n))

-- The bytes of a region that is stored as a list are the bytes of the list.
pub bytes_at : (v : View) (g : Region) (bytes : List ℕ) (n : ℕ) → ((i : ℕ) → v (place_in g i) ≡ option_map Byte (slice_get bytes i)) → take n bytes ≡ bytes_below v g n
bytes_at v g bytes zero h = refl
bytes_at v g bytes (suc n) h =
    one_more bytes n ∙ ap (λ xs. xs ++ byte_of (option_map Byte (slice_get bytes n))) (bytes_at v g bytes n h) ∙ ap (λ o. bytes_below v g n ++ byte_of o) (sym (h n))
  where
    one_more : (xs : List ℕ) (k : ℕ) → take (suc k) xs ≡ take k xs ++ byte_of (option_map Byte (slice_get xs k))
    one_more [] zero = refl
    one_more [] (suc k) = refl
    one_more (x ∷ xs) zero = refl
    one_more (x ∷ xs) (suc k) = ap (λ ys. x ∷ ys) (one_more xs k)

-- One more zero at the end.
pub zeros_more : (bytes : List ℕ) (end : ℕ) → 0 < end → end ≤ length bytes → get_or bytes (end - 1) 0 ≡ 0 → drop end bytes ≡ replicate (length bytes - end) 0 → drop (end - 1) bytes ≡ replicate (length bytes - (end - 1)) 0
zeros_more bytes end some within is_zero zeros =
    let next : suc (end - 1) ≡ end = omega arith in
    let more : suc (length bytes - end) ≡ length bytes - (end - 1) = omega arith in
    drop-cons bytes (end - 1) 0 (omega arith) ∙ ap (λ x. x ∷ drop (suc (end - 1)) bytes) is_zero ∙ ap (λ k. 0 ∷ drop k bytes) next ∙ ap (λ xs. 0 ∷ xs) zeros ∙ ap (λ k. replicate k 0) more

-- A region with bytes.
pub region_some : (s : Setup) (g : Region) (bytes : List ℕ) (x : ValuePart)
    → nat_eq (length bytes) 0 ≡ false → string_bytes x.0 ≡ utf8_lossy (place_text s (place_in g 0)) → string_bytes x.1 ≡ encode_of standard bytes → map value_texts (x ∷ []) ≡ region_listed s g bytes
region_some s g [] x some name text = absurd cc
region_some s g (b ∷ bs) x some name text = cc

-- A region without bytes.
pub region_none : (s : Setup) (g : Region) (bytes : List ℕ) → nat_eq (length bytes) 0 ≡ true → [] ≡ region_listed s g bytes
region_none s g [] none = refl
region_none s g (b ∷ bs) none = absurd (grind (arith, nat_tests))

-- A region whose first bytes are these.
pub region_shown : (s : Setup) (v : View) (n : ℕ) (g : Region) (whole bytes : List ℕ) (z : ℕ) (xs : List ValuePart) → whole ≡ bytes_below v g n → whole ≡ bytes ++ replicate z 0 → map value_texts xs ≡ region_listed s g bytes → IsRegionShown s v n g xs
region_shown s v n g whole bytes z xs h e listed = record { bytes = bytes; zeros = z; whole = sym h ∙ e; listed = listed }

-- One more region.
pub regions_more : (s : Setup) (v : View) (n : ℕ) (gs : List Region) (g : Region) (xs parts : List ValuePart) → AreRegions s v n gs xs → IsRegionShown s v n g parts → AreRegions s v n (gs ++ g ∷ []) (xs ++ parts)
regions_more s v n [] g xs parts none shown = (parts, [], ap (λ ys. ys ++ parts) none ∙ sym (append-nil parts), shown, refl)
regions_more s v n (h ∷ gs) g xs parts (front, rest, e, first, others) shown =
    (front, rest ++ parts, ap (λ ys. ys ++ parts) e ∙ append_assoc front rest parts, first, regions_more s v n gs g rest parts others shown)

-- A setup has at most 32 objects.
pub few_objects : (s : Setup) → setup_refusal s ≡ None → length s.objects ≤ 32
few_objects s h = by (nat_le (length s.objects) 32) refl (accepted s h).objects
  where
    by : (b : Bool) → nat_le (length s.objects) 32 ≡ b → has_objects s ≡ true → length s.objects ≤ 32
    by true e k = grind (arith, nat_tests)
    by false e k = absurd cc

-- The values of a moment.
pub are_values : (s : Setup) (v : View) (count : ℕ) (xs gs : List ValuePart) → count ≡ 65536 → map value_texts xs ≡ all_values s v count → AreRegions s v count (setup_regions s) gs → AreValues s v xs gs
are_values s v count xs gs most values regions = record { count = count; most = most; values = values; regions = regions }
