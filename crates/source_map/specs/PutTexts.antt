-- Texts of puts whose entry is a JSON object of whole numbers.
use Rattle.std.specs.Prelude.{◌≡◌, ℕ, ℤ, pos, negsuc, ◌<◌, ◌^◌, List, [], ◌∷◌, codes, get_or, set, decimal, Bool, Option, Some, None}
use Rattle.json.specs.Token.{Token}
use Rattle.entries.specs.declared.entry.Sqe.{Sqe}
use Rattle.script.specs.declared.number.Whole.TheVariants.{Natural}
use Rattle.script.specs.Entries.{entry_of_numbers}
use Rattle.source_map.specs.ListTexts.{HasTokens}

-- The keys of an entry. Its numbers are in the same order.
abbrev pub entry_keys : List (List ℕ)
entry_keys =
    codes "op" ∷ codes "flags" ∷ codes "ioprio" ∷ codes "fd" ∷ codes "off" ∷ codes "addr" ∷ codes "len" ∷ codes "opflags" ∷ codes "ud" ∷ []

abbrev pub entry_key : ℕ → List ℕ
entry_key i = get_or entry_keys i []

-- A number, if it isn't negative.
abbrev pub natural_in : ℤ → Option ℕ
natural_in (pos n) = Some n
natural_in (negsuc n) = None

-- The numbers of an entry, if they have at most 64 bits.
pub record HasNumbers (e : Sqe) (ns : List ℕ) : Type 0 where
  pub numbers : ((i : ℕ) → get_or ns i 0 < 2 ^ 64) → entry_of_numbers (record {
    op = Natural (get_or ns 0 0);
    flags = Natural (get_or ns 1 0);
    ioprio = Natural (get_or ns 2 0);
    fd = Natural (get_or ns 3 0);
    off = Natural (get_or ns 4 0);
    addr = Natural (get_or ns 5 0);
    len = Natural (get_or ns 6 0);
    opflags = Natural (get_or ns 7 0);
    ud = Natural (get_or ns 8 0);
  }) ≡ Some e

-- The tokens of members, given by their keys' indices, and of the closing brackets of a put.
abbrev pub member_tokens : List ℕ → List ℕ → List Token
member_tokens ns [] = Token.end_object ∷ Token.end_array ∷ []
member_tokens ns (i ∷ is) = Token.key (entry_key i) ∷ Token.number (decimal (get_or ns i 0)) ∷ member_tokens ns is

-- The tokens of a put before the members of its entry.
abbrev pub put_tokens : ℕ → List Token → List Token
put_tokens slot ts = Token.begin_array ∷ Token.string (codes "put") ∷ Token.number (decimal slot) ∷ Token.begin_object ∷ ts

-- The members are those of numbers, and a number that is left is 0 if no member has it.
abbrev pub Cover : List ℕ → List ℕ → Type 0
Cover left [] = (j : ℕ) → get_or left j 0 ≡ 0
Cover left (i ∷ is) = (i < 9) × Cover (set left i 0) is

-- A text is the rest of a put from a member on.
pub record EndsPut (after_value : Bool) (text ns left : List ℕ) : Type 0 where
  pub fit : (i : ℕ) → get_or ns i 0 < 2 ^ 64
  pub members : List ℕ
  pub cover : Cover left members
  pub tokens : HasTokens after_value text (member_tokens ns members)
