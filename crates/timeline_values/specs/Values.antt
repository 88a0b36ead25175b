-- How a page contains the changes of an event, and the values of places at its first moment.
use Rattle.std.specs.Prelude.{◌≡◌, ℕ, zero, suc, ◌+◌, nat_lt, List, [], ◌∷◌, ◌++◌, map, string_bytes, replicate, Bool, true, false, if◌then◌else◌, Option, Some, None}
use Rattle.std.specs.List.{flat_map}
use Rattle.std.specs.Str.Lossy.{utf8_lossy}
use Rattle.base64.specs.GeneralPurpose.{encode_of}
use Rattle.base64.specs.Engines.{standard}
use Rattle.places.specs.declared.object.Contents.{Contents}
use Rattle.places.specs.declared.object.Contents.TheVariants.{File, Pipe, EventFd}
use Rattle.places.specs.declared.object.Object.{Object}
use Rattle.places.specs.declared.place.Place.{Place}
use Rattle.places.specs.declared.place.Place.TheVariants.{MemoryByte, FileByte, DurableByte, PipeByte}
use Rattle.places.specs.declared.value.Value.{Value}
use Rattle.places.specs.declared.value.Value.TheVariants.{Byte}
use Rattle.places.specs.declared.notes.runs.Region.{Region}
use Rattle.places.specs.declared.notes.runs.Region.TheVariants as region
use Rattle.places.specs.Runs.{place_in}
use Rattle.places.specs.View.{View}
use Rattle.state_places.specs.Lists.{lone_places, places_of_slot, places_of_part, places_of_request}
use Rattle.scenario.specs.declared.setup.Setup.{Setup}
use Rattle.scenario.specs.PlaceTexts.{place_text}
use Rattle.run_log.specs.declared.changed.Changed.{Changed}
use Rattle.run_log.specs.Lines.{row_place, value_shown}
use Rattle.timeline_values.specs.declared.changes.Side.{Side}
use Rattle.timeline_values.specs.declared.changes.Side.TheVariants.{Old, New}
use Rattle.timeline_values.specs.declared.parts.ChangePart.{ChangePart}
use Rattle.timeline_values.specs.declared.parts.ValuePart.{ValuePart}

-- ---- changes

-- Whether a place is a byte of memory or of an object.
abbrev pub is_byte : Place → Bool
is_byte (MemoryByte a) = true
is_byte (FileByte o i) = true
is_byte (DurableByte o i) = true
is_byte (PipeByte o i) = true
is_byte _ = false

-- The byte of a value, if it is one.
abbrev pub byte_of : Option Value → List ℕ
byte_of (Some (Byte b)) = b ∷ []
byte_of _ = []

-- The old value of a change, or its new one.
abbrev pub value_on : Side → Changed → Option Value
value_on Old d = d.old
value_on New d = d.new

-- The old values of a row, or its new ones: bytes in base64 (RFC 4648), any other value as the log
-- prints it.
abbrev pub values_shown : Side → List Changed → List ℕ
values_shown side [] = []
values_shown side (d ∷ ds) =
    if is_byte d.place then encode_of standard (flat_map (λ c. byte_of (value_on side c)) (d ∷ ds))
    else utf8_lossy (value_shown (value_on side d))

-- A row as a page contains it: its place, its old values and its new ones.
abbrev pub change_shown : Setup → List Changed → List (List ℕ)
change_shown s ds =
    utf8_lossy (row_place s ds) ∷ values_shown Old ds ∷ values_shown New ds ∷ []

-- The texts of a change.
abbrev pub change_texts : ChangePart → List (List ℕ)
change_texts x = string_bytes x.0 ∷ string_bytes x.1 ∷ string_bytes x.2 ∷ []

-- ---- values at a moment

-- A place with its value, unless it is absent.
abbrev pub value_listed : Setup → Place → Option Value → List (List (List ℕ))
value_listed s p None = []
value_listed s p (Some v) =
    (utf8_lossy (place_text s p) ∷ utf8_lossy (value_shown (Some v)) ∷ []) ∷ []

-- The texts of a value.
abbrev pub value_texts : ValuePart → List (List ℕ)
value_texts x = string_bytes x.0 ∷ string_bytes x.1 ∷ []

-- The values of places, in their order.
abbrev pub values_of : Setup → View → List Place → List (List (List ℕ))
values_of s v ps = flat_map (λ p. value_listed s p (v p)) ps

-- The places with number i that are no bytes. Slots are numbered below 8,192, the size of the
-- largest completion ring; objects, descriptors and threads below 128.
abbrev pub places_at : ℕ → List Place
places_at i =
    places_of_request i ++ (if nat_lt i 8192 then places_of_slot i else [])
    ++ (if nat_lt i 128 then places_of_part i else [])

-- The values of the places with a number below n.
abbrev pub values_below : Setup → View → ℕ → List (List (List ℕ))
values_below s v zero = []
values_below s v (suc n) = values_below s v n ++ values_of s v (places_at n)

-- The values of all places that are no bytes, of those with a number below n.
abbrev pub all_values : Setup → View → ℕ → List (List (List ℕ))
all_values s v n = values_of s v lone_places ++ values_below s v n

-- ---- bytes at a moment

-- The bytes of a region below index n.
abbrev pub bytes_below : View → Region → ℕ → List ℕ
bytes_below v g zero = []
bytes_below v g (suc n) = bytes_below v g n ++ byte_of (v (place_in g n))

-- The regions of object n. An eventfd has none.
abbrev pub object_regions : ℕ → Contents → List Region
object_regions n (File bytes) = region.File n ∷ region.Durable n ∷ []
object_regions n (Pipe capacity) = region.Pipe n ∷ []
object_regions n (EventFd counter) = []

-- The regions of objects that are numbered from n on.
abbrev pub regions_from : ℕ → List Object → List Region
regions_from n [] = []
regions_from n (o ∷ os) = object_regions n o.contents ++ regions_from (n + 1) os

-- The regions of a setup.
abbrev pub setup_regions : Setup → List Region
setup_regions s = region.Memory ∷ regions_from 0 s.objects

-- The bytes of a region in base64, after the place of the first one. A region without bytes is left
-- out.
abbrev pub region_listed : Setup → Region → List ℕ → List (List (List ℕ))
region_listed s g [] = []
region_listed s g (b ∷ bs) =
    (utf8_lossy (place_text s (place_in g 0)) ∷ encode_of standard (b ∷ bs) ∷ []) ∷ []

-- The first n bytes of a region are listed, without zeros at the end.
pub record IsRegionShown (s : Setup) (v : View) (n : ℕ) (g : Region) (xs : List ValuePart) : Type 0 where
  pub bytes : List ℕ
  pub zeros : ℕ
  pub whole : bytes_below v g n ≡ bytes ++ replicate zeros 0
  pub listed : map value_texts xs ≡ region_listed s g bytes

-- The bytes of regions, in their order.
abbrev pub AreRegions : Setup → View → ℕ → List Region → List ValuePart → Type 0
AreRegions s v n [] xs = xs ≡ []
AreRegions s v n (g ∷ gs) xs =
    (front : List ValuePart) × (rest : List ValuePart) × (xs ≡ front ++ rest)
    × IsRegionShown s v n g front × AreRegions s v n gs rest

-- The values of all places at a moment. Requests, overflowed completions and bytes are numbered
-- below 65,536.
pub record AreValues (s : Setup) (v : View) (xs gs : List ValuePart) : Type 0 where
  pub count : ℕ
  pub most : count ≡ 65536
  pub values : map value_texts xs ≡ all_values s v count
  pub regions : AreRegions s v count (setup_regions s) gs
