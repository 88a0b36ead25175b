-- How frames are spelled, with any other header fields: "Base protocol" of the Debug Adapter Protocol.
use Rattle.std.specs.Prelude.{◌≡◌, ◌≢◌, ℕ, ◌≤◌, ◌<◌, if◌then◌else◌, List, [], ◌∷◌, ◌++◌, length, drop, Option, Some}
use Rattle.std.specs.List.{flat_map}
use Rattle.dap_frames.specs.Decoding.{number, has_length_name}

-- A line has no carriage return and no line feed.
abbrev pub IsPlain : List ℕ → Type 0
IsPlain [] = Unit {0}
IsPlain (b ∷ bs) = (b ≢ 13) × (b ≢ 10) × IsPlain bs

abbrev pub with_end : List ℕ → List ℕ
with_end line = line ++ 13 ∷ 10 ∷ []

abbrev pub AreLines : List (List ℕ) → Type 0
AreLines [] = Unit {0}
AreLines (l ∷ ls) = (0 < length l) × IsPlain l × AreLines ls

-- The values of the fields that have the length.
abbrev pub lengths : List (List ℕ) → List (Option ℕ)
lengths [] = []
lengths (l ∷ ls) = if has_length_name l then number (drop 16 l) ∷ lengths ls else lengths ls

abbrev pub header : List (List ℕ) → List ℕ
header lines = flat_map with_end lines ++ 13 ∷ 10 ∷ []

-- A body after a header of at most 1,024 bytes, of which exactly one field has the length.
pub record IsFrame (bytes body : List ℕ) : Type 0 where
  pub lines : List (List ℕ)
  pub spelled : bytes ≡ header lines ++ body
  pub plain : AreLines lines
  pub one : lengths lines ≡ Some (length body) ∷ []
  pub short : length (header lines) ≤ 1024

-- These are frames of these bodies.
abbrev pub AreFrames : List (List ℕ) → List (List ℕ) → Type 0
AreFrames [] [] = Unit {0}
AreFrames (f ∷ fs) (b ∷ bs) = IsFrame f b × AreFrames fs bs
AreFrames [] (b ∷ bs) = ⊥
AreFrames (f ∷ fs) [] = ⊥

-- The stream begins with frames of these bodies.
pub record Begins (stream : List ℕ) (bodies : List (List ℕ)) : Type 0 where
  pub frames : List (List ℕ)
  pub rest : List ℕ
  pub whole : stream ≡ flat_map (λ f. f) frames ++ rest
  pub each : AreFrames frames bodies

-- The number of bytes of the longest body that is written.
abbrev pub most_written : ℕ
most_written = 16777216
