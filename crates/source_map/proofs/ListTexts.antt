-- Texts of lists of a word and numbers read as those lists.
use Rattle.std.proofs.Common.{◌≡◌, ℕ, suc, ◌-◌, ◌<◌, ◌≤◌, ◌^◌, max, Bool, true, false, List, [], ◌∷◌, ◌++◌, length, map, take, drop, get_or, Option, Some, option_and_then, decimal, refl, sym, ap, ◌∙◌, subst, append-nil, arith}
use Rattle.std.proofs.lemmas.List.{length-drop, take-append-drop}
use Rattle.std.proofs.Math.Seq.{take-length}
use Rattle.json.specs.Token.{Token}
use Rattle.json.specs.Lex.{tokens}
use Rattle.json.specs.Print.{ends, quoted, separator, token_text, ArePrintable}
use Rattle.json.specs.Spaced.{IsGap, print_spaced}
use Rattle.json.specs.Json as json
use Rattle.json.specs.Tree as tree
use Rattle.json.proofs.Printed.Decimals.{IsNumber-decimal}
use Rattle.json.proofs.Printed.Tokens.{tokens-print_spaced}
use Rattle.json.proofs.Printed.Trees.{value-json_tokens}
use Rattle.serde_json.specs.Data.{Data}
use Rattle.serde_json.specs.Read.{read, of_json, of_items, max_depth}
use Rattle.serde_json.proofs.Numbers.{number_of-decimal}
use Rattle.source_map.specs.ListTexts.{number_items, list_value, number_tokens, list_tokens, HasTokens, FollowsGap, Fit}

pub no_tokens : (c : Bool) → HasTokens c [] []
unfolding print_spaced
no_tokens c = record { printed = []; gaps = tt; spelled = refl; tokens = refl }

-- One more token at the front.
pub token_first : (c : Bool) (t : Token) (gap rest text : List ℕ) (ts : List Token) → IsGap gap → HasTokens (ends t) rest ts → text ≡ separator c t ++ (gap ++ (token_text t ++ rest)) → HasTokens c text (t ∷ ts)
unfolding print_spaced
token_first c t gap rest text ts g h e = record {
  printed = (gap, t) ∷ h.printed;
  gaps = (g, h.gaps);
  spelled = e ∙ ap (λ r. separator c t ++ (gap ++ (token_text t ++ r))) h.spelled;
  tokens = ap (λ us. t ∷ us) h.tokens;
}

abbrev number_json : List ℕ → json.Items
number_json [] = json.no_items
number_json (n ∷ ns) = json.item (json.number (decimal n)) (number_json ns)

pub fit_each : (ns : List ℕ) → ((i : ℕ) → get_or ns i 0 < 2 ^ 64) → Fit ns
fit_each [] h = tt
fit_each (n ∷ ns) h = (h 0, fit_each ns (λ i. h (suc i)))

same_tokens : (ns : List ℕ) → tree.items_tokens (number_json ns) ≡ number_tokens ns
same_tokens [] = refl
same_tokens (n ∷ ns) = ap (λ ts. Token.number (decimal n) ∷ ts) (same_tokens ns)

are_read : (ns : List ℕ) → Fit ns → of_items (number_json ns) ≡ Some (number_items ns)
are_read [] h = refl
are_read (n ∷ ns) h = rw (number_of-decimal n h.0, are_read ns h.1)

json_depth : (ns : List ℕ) → tree.items_depth (number_json ns) ≡ 0
json_depth [] = refl
json_depth (n ∷ ns) = ap (max 0) (json_depth ns)

are_printable : (ns : List ℕ) → Fit ns → ArePrintable (number_tokens ns)
unfolding ArePrintable
are_printable [] h = (tt, tt)
are_printable (n ∷ ns) h = (IsNumber-decimal n h.0, are_printable ns h.1)

list_printable : (word ns : List ℕ) → Fit ns → ArePrintable (list_tokens word ns)
unfolding ArePrintable
list_printable word ns h = (tt, (tt, are_printable ns h))

-- What a value is, where nothing follows it.
abbrev whole : Option (json.Json × List Token) → Option Data
whole o = option_and_then of_json (option_and_then (λ p. json.if_last p.0 p.1) o)

pub list_reads : (text word ns : List ℕ) → Fit ns → HasTokens false text (list_tokens word ns) → read text ≡ Some (list_value word ns)
list_reads text word ns fit h =
    let j = json.array (json.item (json.string word) (number_json ns)) in
    let printable : ArePrintable (map (λ p. p.1) h.printed) = subst ArePrintable (sym h.tokens) (list_printable word ns fit) in
    let same : tokens text ≡ list_tokens word ns = ap tokens h.spelled ∙ tokens-print_spaced h.printed h.gaps printable ∙ h.tokens in
    let made : list_tokens word ns ≡ tree.json_tokens j = ap (λ ts. Token.begin_array ∷ Token.string word ∷ ts) (sym (same_tokens ns)) in
    let flat : tree.depth j ≡ 1 = ap (λ k. suc (max 0 k)) (json_depth ns) in
    let value : json.value max_depth (tokens text) ≡ Some (j, []) = ap (json.value max_depth) (same ∙ made ∙ sym (append-nil (tree.json_tokens j))) ∙ value-json_tokens j max_depth [] (omega (arith, flat)) in
    ap whole value ∙ rw (are_read ns fit)

-- The end of a list: its closing bracket.
pub rest_empty : (text after rest ns : List ℕ) → length ns < 1 → length rest < 1 → FollowsGap text after → after ≡ 93 ∷ rest → HasTokens true text (number_tokens ns)
rest_empty text after [] [] h k g e = token_first true Token.end_array g.0 [] text [] g.1 (no_tokens true) (g.2 ∙ ap (λ r. g.0 ++ r) e)
rest_empty text after (x ∷ rest) ns h k g e = absurd (omega arith)
rest_empty text after [] (n ∷ ns) h k g e = absurd (omega arith)

-- A number after another item.
pub rest_more : (text spaced after rest ns : List ℕ) → 1 ≤ length ns → text ≡ 44 ∷ spaced → FollowsGap spaced after → after ≡ decimal (get_or ns 0 0) ++ rest → HasTokens true rest (number_tokens (take (length ns - 1) (drop 1 ns))) → HasTokens true text (number_tokens ns)
rest_more text spaced after rest [] h e g f more = absurd (omega arith)
rest_more text spaced after rest (n ∷ ns) h e g f more =
    let count : length (n ∷ ns) - 1 ≡ length ns = omega arith in
    let all : take (length (n ∷ ns) - 1) ns ≡ ns = ap (λ k. take k ns) count ∙ take-length ns in
    token_first true (Token.number (decimal n)) g.0 rest text (number_tokens ns) g.1 (subst (λ ms. HasTokens true rest (number_tokens ms)) all more) (e ∙ ap (λ r. 44 ∷ r) (g.2 ∙ ap (λ r. g.0 ++ r) f))

-- A list from its opening bracket on.
pub list_spelled : (text spaced after rest in_quotes word ns : List ℕ) → text ≡ 91 ∷ spaced → FollowsGap spaced after → after ≡ in_quotes ++ rest → in_quotes ≡ quoted word → HasTokens true rest (number_tokens ns) → HasTokens false text (list_tokens word ns)
list_spelled text spaced after rest in_quotes word ns e g f w more =
    let word_first : spaced ≡ g.0 ++ (quoted word ++ rest) = g.2 ∙ ap (λ r. g.0 ++ r) (f ∙ ap (λ q. q ++ rest) w) in
    token_first false Token.begin_array [] spaced text (Token.string word ∷ number_tokens ns) tt (token_first false (Token.string word) g.0 rest spaced (number_tokens ns) g.1 more word_first) e

pub gap_before : (gap : ℕ) (text : List ℕ) → IsGap (take gap text) → FollowsGap text (take (length text - gap) (drop gap text))
gap_before gap text h =
    let all : take (length text - gap) (drop gap text) ≡ drop gap text = ap (λ n. take n (drop gap text)) (sym (length-drop gap text)) ∙ take-length (drop gap text) in
    (take gap text, h, sym (take-append-drop gap text) ∙ ap (λ r. take gap text ++ r) (sym all))
