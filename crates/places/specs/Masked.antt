-- Old bytes together with a bit set of those that were dropped.
use Rattle.std.specs.Prelude.{◌≡◌, ◌≢◌, ℕ, zero, suc, ◌+◌, ◌-◌, ◌<◌, ◌≤◌, nat_lt, Bool, true, false, not, List, [], ◌∷◌, Option, Some, None, IsSome, ◌⊎◌, length, option_map, slice_get, unwrap_or, if◌then◌else◌}
use Rattle.std.specs.Option.{option_flatten}
use Rattle.places.specs.declared.notes.runs.Region.{Region}
use Rattle.places.specs.declared.notes.runs.Run.{Run}
use Rattle.bit_sets.specs.Sets.{has}
use Rattle.places.specs.Runs.{place_in, RunsOnce}
use Rattle.places.specs.View.{View}

-- ---- The bit set

-- Whether byte i is still recorded: its bit in `gone` is not set.
abbrev pub is_kept : List ℕ → ℕ → Bool
is_kept gone i = not (has gone i)

-- Whether each of n bytes from number i on is still recorded.
abbrev pub marks_from : List ℕ → ℕ → ℕ → List Bool
marks_from gone i zero = []
marks_from gone i (suc n) = is_kept gone i ∷ marks_from gone (i + 1) n

-- Outside the n bytes from number i on, no byte was dropped or added.
abbrev pub SameOutside : List ℕ → List ℕ → ℕ → ℕ → Type 0
SameOutside before after i n = (q : ℕ) → (q < i) ⊎ (i + n ≤ q) → is_kept after q ≡ is_kept before q

-- ---- Old bytes

abbrev pub kept_byte : Bool → ℕ → Option ℕ
kept_byte true b = Some b
kept_byte false b = None

-- Old bytes, with `None` for those that were dropped.
abbrev pub masked : List ℕ → List Bool → List (Option ℕ)
masked [] ks = []
masked (b ∷ bs) [] = []
masked (b ∷ bs) (k ∷ ks) = kept_byte k b ∷ masked bs ks

-- How comparing old byte b with the current byte x changes whether it is recorded, from k to l: it
-- is dropped if they are equal.
abbrev pub LeftMark : Option ℕ → ℕ → Bool → Bool → Type 0
LeftMark x b k l = ((l ≡ k) × (x ≢ Some b)) ⊎ ((l ≡ false) × (x ≡ Some b))

-- The invariant of recorded bytes: no place is recorded twice, and no byte past the end is dropped.
pub record MaskedOnce (rs : List Run) (bs gone : List ℕ) : Type 0 where
  pub once : RunsOnce rs (masked bs (marks_from gone 0 (length bs)))
  pub fresh : (i : ℕ) → length bs ≤ i → is_kept gone i ≡ true

-- The byte that is recorded for index i, among bytes that begin at index s.
abbrev pub kept_at : ℕ → List (Option ℕ) → ℕ → Option ℕ
kept_at s os i = if nat_lt i s then None else option_flatten (slice_get os (i - s))

-- Whether the byte of index i is still recorded, among bytes that begin at
-- s; `None` outside of them.
abbrev pub mark_at : ℕ → List Bool → ℕ → Option Bool
mark_at s ks i = if nat_lt i s then None else slice_get ks (i - s)

-- `after` is `before` with the recorded bytes written over it from index s on. No byte is appended.
abbrev pub PutOver : List ℕ → ℕ → List (Option ℕ) → List ℕ → Type 0
PutOver before s os after = (i : ℕ) → slice_get after i ≡ option_map (unwrap_or (kept_at s os i)) (slice_get before i)

-- Each recorded byte of the region has a place that is present in the view.
abbrev pub BytesPresent : View → Region → ℕ → List (Option ℕ) → Type 0
BytesPresent v g s os = (i b : ℕ) → slice_get os i ≡ Some (Some b) → IsSome (v (place_in g (s + i)))
