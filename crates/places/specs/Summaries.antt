-- Summaries of records: which bits a place has, and that a summary has the bits of a record's
-- places.
use Rattle.std.specs.Prelude.{◌≡◌, ℕ, ◌+◌, ◌/◌, ◌%◌, ◌==◌, ◌||◌, Bool, if◌then◌else◌, List, [], ◌∷◌}
use Rattle.std.specs.Int.{bit_at}
use Rattle.places.specs.declared.place.Place.{Place}
use Rattle.places.specs.declared.value.Change.{Change}
use Rattle.places.specs.Places.{kind_of, index_of}

-- Whether places of this kind are bytes.
abbrev pub is_byte_kind : ℕ → Bool
is_byte_kind k = (k == 9) || ((k == 10) || ((k == 11) || (k == 16)))

-- The first bit of a place: requests have bits 0 to 15 in turn, bytes bit 63, other places the bits
-- 32 to 62.
unfoldable pub bit_of : Place → ℕ
bit_of p =
    if kind_of p == 20 then index_of p % 16 else (
    if is_byte_kind (kind_of p) then 63 else 32 + (kind_of p + index_of p) % 31)

-- The second bit of a place: 4,096 successive requests share one of the bits 16 to 31. Other places
-- have one bit only.
unfoldable pub group_bit_of : Place → ℕ
group_bit_of p = if kind_of p == 20 then 16 + index_of p / 4096 % 16 else bit_of p

-- The bits have both of a place.
abbrev pub HasBits : ℕ → Place → Type 0
HasBits bits p = (bit_at bits (bit_of p) ≡ 1) × (bit_at bits (group_bit_of p) ≡ 1)

-- Each bit of `a` is a bit of `b`.
abbrev pub HasAll : ℕ → ℕ → Type 0
HasAll a b = (i : ℕ) → bit_at a i ≡ 1 → bit_at b i ≡ 1

-- The bits have those of each changed place.
abbrev pub Summed : ℕ → List Change → Type 0
Summed bits [] = Unit {0}
Summed bits (c ∷ cs) = HasBits bits c.place × Summed bits cs
