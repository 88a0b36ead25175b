-- Lists of a word and whole numbers, as texts of JSON.
use Rattle.std.specs.Prelude.{◌≡◌, ℕ, ◌<◌, ◌^◌, List, [], ◌∷◌, ◌++◌, map, Bool, decimal}
use Rattle.json.specs.Token.{Token}
use Rattle.json.specs.Spaced.{IsGap, AreGaps, print_spaced}
use Rattle.serde_json.specs.Data.{Data, unsigned, number, string, array, Items, no_items, item}

abbrev pub number_items : List ℕ → Items
number_items [] = no_items
number_items (n ∷ ns) = item (number (unsigned n)) (number_items ns)

-- The JSON value of a list of a word and numbers.
abbrev pub list_value : List ℕ → List ℕ → Data
list_value word ns = array (item (string word) (number_items ns))

-- The tokens of such a list after its word.
abbrev pub number_tokens : List ℕ → List Token
number_tokens [] = Token.end_array ∷ []
number_tokens (n ∷ ns) = Token.number (decimal n) ∷ number_tokens ns

abbrev pub list_tokens : List ℕ → List ℕ → List Token
list_tokens word ns = Token.begin_array ∷ Token.string word ∷ number_tokens ns

-- A text consists of tokens, each with spaces and line feeds before it.
pub record HasTokens (after_value : Bool) (text : List ℕ) (ts : List Token) : Type 0 where
  pub printed : List (List ℕ × Token)
  pub gaps : AreGaps printed
  pub spelled : text ≡ print_spaced after_value printed
  pub tokens : map (λ p. p.1) printed ≡ ts

-- A text is spaces and line feeds, and then the rest.
abbrev pub FollowsGap : List ℕ → List ℕ → Type 0
FollowsGap text rest = (gap : List ℕ) × IsGap gap × (text ≡ gap ++ rest)

-- The numbers have at most 64 bits.
abbrev pub Fit : List ℕ → Type 0
Fit [] = Unit {0}
Fit (n ∷ ns) = (n < 2 ^ 64) × Fit ns
