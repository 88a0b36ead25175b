-- Texts of puts read as those puts.
use Rattle.std.proofs.Common.{◌≡◌, ◌≢◌, ◌⊎◌, inl, inr, ℕ, zero, suc, ◌<◌, ◌≤◌, ◌^◌, max, if◌then◌else◌, Bool, true, false, List, [], ◌∷◌, ◌++◌, codes, get_or, set, Option, Some, None, option_and_then, map, decimal, length, replicate, ℤ, pos, negsuc, Ok, Ordering, Less, Equal, Greater, nat_cmp, bytes_eq, refl, sym, ap, ◌∙◌, subst, append-nil, arith}
use Rattle.std.proofs.lemmas.Bool.{and_from, and_parts, cases_eq, le-leb, lt-ltb}
use Rattle.std.proofs.Math.Dec.{leb-zero}
use Rattle.std.proofs.lemmas.List.{get_or-set_other}
use Rattle.std.proofs.lemmas.Option.{none-some, same_Some}
use Rattle.std.specs.Cmp.Lexicographic.{slice_cmp}
use Rattle.std.specs.Ordering.{match_ordering}
use Rattle.json.specs.Token.{Token}
use Rattle.json.specs.Lex.{tokens}
use Rattle.json.specs.Print.{ArePrintable, quoted, separator, token_text}
use Rattle.json.specs.Json as json
use Rattle.json.specs.Tree as tree
use Rattle.json.proofs.Printed.Decimals.{IsNumber-decimal}
use Rattle.json.proofs.Printed.Tokens.{tokens-print_spaced}
use Rattle.json.proofs.Printed.Trees.{value-json_tokens}
use Rattle.serde_json.specs.Data.{Data, Members, no_members, member, no_items, item, put, array, object, string, number, unsigned}
use Rattle.serde_json.specs.Find.{get_member}
use Rattle.serde_json.specs.Read.{read, of_json, of_members, max_depth}
use Rattle.serde_json.proofs.Numbers.{number_of-decimal}
use Rattle.serde_json.proofs.Views.{get_member-put, get_member-put_other}
use Rattle.entries.specs.declared.entry.Sqe.{Sqe}
use Rattle.scenario.specs.declared.setup.Instruction.TheVariants.{Put}
use Rattle.script.specs.declared.number.Whole.TheVariants.{Natural}
use Rattle.script.specs.Entries.{is_entry_key}
use Rattle.script.specs.Instructions.{instruction_at}
use Rattle.script.specs.Lists.{keys_pass}
use Rattle.script.specs.Numbers.{whole_or_zero}
use Rattle.source_map.proofs.ListTexts.{no_tokens, token_first}
use Rattle.source_map.specs.ListTexts.{FollowsGap, HasTokens}
use Rattle.source_map.specs.PutTexts.{entry_key, HasNumbers, natural_in, member_tokens, put_tokens, Cover}

-- The members of an entry as JSON, by their keys' indices.
abbrev members_json : List ℕ → List ℕ → json.Members
members_json ns [] = json.no_members
members_json ns (i ∷ is) = json.member (entry_key i) (json.number (decimal (get_or ns i 0))) (members_json ns is)

abbrev put_json : ℕ → List ℕ → List ℕ → json.Json
put_json slot ns is = json.array (json.item (json.string (codes "put")) (json.item (json.number (decimal slot)) (json.item (json.object (members_json ns is)) json.no_items)))

-- The members of an entry after those that were found.
abbrev pub found : List ℕ → List ℕ → Members → Members
found ns [] ms = ms
found ns (i ∷ is) ms = found ns is (put (entry_key i) (number (unsigned (get_or ns i 0))) ms)

abbrev pub put_value : ℕ → List ℕ → List ℕ → Data
put_value slot ns is = array (item (string (codes "put")) (item (number (unsigned slot)) (item (object (found ns is no_members)) no_items)))

abbrev pub Bounded : List ℕ → Type 0
Bounded ns = (i : ℕ) → get_or ns i 0 < 2 ^ 64

members_read : (ns is : List ℕ) (ms : Members) → Bounded ns → of_members (members_json ns is) ms ≡ Some (found ns is ms)
members_read ns [] ms h = refl
members_read ns (i ∷ is) ms h = rw (number_of-decimal (get_or ns i 0) (h i)) (members_read ns is (put (entry_key i) (number (unsigned (get_or ns i 0))) ms) h)

members_flat : (ns is : List ℕ) → tree.members_depth (members_json ns is) ≡ 0
members_flat ns [] = refl
members_flat ns (i ∷ is) = ap (max 0) (members_flat ns is)

-- The tokens of members, with the closing bracket of their list.
members_same : (ns is : List ℕ) → tree.members_tokens (members_json ns is) ++ Token.end_array ∷ [] ≡ member_tokens ns is
members_same ns [] = refl
members_same ns (i ∷ is) = ap (λ ts. Token.key (entry_key i) ∷ Token.number (decimal (get_or ns i 0)) ∷ ts) (members_same ns is)

members_printable : (ns is : List ℕ) → Bounded ns → ArePrintable (member_tokens ns is)
unfolding ArePrintable
members_printable ns [] h = (tt, (tt, tt))
members_printable ns (i ∷ is) h = (tt, (IsNumber-decimal (get_or ns i 0) (h i), members_printable ns is h))

put_printable : (slot : ℕ) (ns is : List ℕ) → slot < 2 ^ 64 → Bounded ns → ArePrintable (put_tokens slot (member_tokens ns is))
unfolding ArePrintable
put_printable slot ns is h k = (tt, (tt, (IsNumber-decimal slot h, (tt, members_printable ns is k))))

-- What a value is, where nothing follows it.
abbrev whole : Option (json.Json × List Token) → Option Data
whole o = option_and_then of_json (option_and_then (λ p. json.if_last p.0 p.1) o)

pub put_reads : (text ns is : List ℕ) (slot : ℕ) → slot < 2 ^ 64 → Bounded ns → HasTokens false text (put_tokens slot (member_tokens ns is)) → read text ≡ Some (put_value slot ns is)
put_reads text ns is slot h k has =
    let j = put_json slot ns is in
    let printable : ArePrintable (map (λ p. p.1) has.printed) = subst ArePrintable (sym has.tokens) (put_printable slot ns is h k) in
    let same : tokens text ≡ put_tokens slot (member_tokens ns is) = ap tokens has.spelled ∙ tokens-print_spaced has.printed has.gaps printable ∙ has.tokens in
    let made : put_tokens slot (member_tokens ns is) ≡ tree.json_tokens j = ap (put_tokens slot) (sym (members_same ns is)) in
    let flat : tree.depth j ≤ max_depth = omega (arith, members_flat ns is) in
    let value : json.value max_depth (tokens text) ≡ Some (j, []) = ap (json.value max_depth) (same ∙ made ∙ sym (append-nil (tree.json_tokens j))) ∙ value-json_tokens j max_depth [] flat in
    ap whole value ∙ rw (number_of-decimal slot h, members_read ns is no_members k) refl

-- The index of a key.
abbrev index_of : List ℕ → ℕ
index_of k =
    if bytes_eq k (codes "op") then 0 else if bytes_eq k (codes "flags") then 1 else if bytes_eq k (codes "ioprio") then 2
    else if bytes_eq k (codes "fd") then 3 else if bytes_eq k (codes "off") then 4 else if bytes_eq k (codes "addr") then 5
    else if bytes_eq k (codes "len") then 6 else if bytes_eq k (codes "opflags") then 7 else 8

-- What holds of each index of a key.
pub each_index : (P : ℕ → Type 0) → P 0 → P 1 → P 2 → P 3 → P 4 → P 5 → P 6 → P 7 → P 8 → (i : ℕ) → i < 9 → P i
each_index P a b c d e f g h k zero lt = a
each_index P a b c d e f g h k (suc zero) lt = b
each_index P a b c d e f g h k (suc (suc zero)) lt = c
each_index P a b c d e f g h k (suc (suc (suc zero))) lt = d
each_index P a b c d e f g h k (suc (suc (suc (suc zero)))) lt = e
each_index P a b c d e f g h k (suc (suc (suc (suc (suc zero))))) lt = f
each_index P a b c d e f g h k (suc (suc (suc (suc (suc (suc zero)))))) lt = g
each_index P a b c d e f g h k (suc (suc (suc (suc (suc (suc (suc zero))))))) lt = h
each_index P a b c d e f g h k (suc (suc (suc (suc (suc (suc (suc (suc zero)))))))) lt = k
each_index P a b c d e f g h k (suc (suc (suc (suc (suc (suc (suc (suc (suc i))))))))) lt = absurd (omega arith)

index_of_key : (i : ℕ) → i < 9 → index_of (entry_key i) ≡ i
index_of_key = each_index (λ i. index_of (entry_key i) ≡ i) refl refl refl refl refl refl refl refl refl

other_key : (i j : ℕ) → i < 9 → j < 9 → j ≢ i → entry_key j ≢ entry_key i
other_key i j h k ne same = ne (sym (index_of_key j k) ∙ ap index_of same ∙ index_of_key i h)

key_passes : (i : ℕ) → i < 9 → is_entry_key (entry_key i) ≡ true
key_passes = each_index (λ i. is_entry_key (entry_key i) ≡ true) refl refl refl refl refl refl refl refl refl

put_passes_at : (o : Ordering) (test : List ℕ → Bool) (k l : List ℕ) (d e : Data) (ms : Members) → test k ≡ true → keys_pass test (member l e ms) ≡ true → keys_pass test (put k d ms) ≡ true → keys_pass test (match_ordering o (member k d (member l e ms)) (member l d ms) (member l e (put k d ms))) ≡ true
put_passes_at Less test k l d e ms h all later = and_from _ _ h all
put_passes_at Equal test k l d e ms h all later = all
put_passes_at Greater test k l d e ms h all later = and_from _ _ (and_parts _ _ all).0 later

put_passes : (test : List ℕ → Bool) (k : List ℕ) (d : Data) (ms : Members) → test k ≡ true → keys_pass test ms ≡ true → keys_pass test (put k d ms) ≡ true
put_passes test k d no_members h all = and_from _ _ h refl
put_passes test k d (member l e ms) h all = put_passes_at (slice_cmp nat_cmp k l) test k l d e ms h all (put_passes test k d ms h (and_parts _ _ all).1)

found_passes : (ns left is : List ℕ) (ms : Members) → Cover left is → keys_pass is_entry_key ms ≡ true → keys_pass is_entry_key (found ns is ms) ≡ true
found_passes ns left [] ms h all = all
found_passes ns left (i ∷ is) ms h all = found_passes ns (set left i 0) is (put (entry_key i) (number (unsigned (get_or ns i 0))) ms) h.1 (put_passes is_entry_key (entry_key i) (number (unsigned (get_or ns i 0))) ms (key_passes i h.0) all)

-- A member has its number, or is missing and its number is left.
abbrev Holds : List ℕ → List ℕ → ℕ → Members → Type 0
Holds ns left j ms = (get_member (entry_key j) ms ≡ Some (number (unsigned (get_or ns j 0)))) ⊎ ((get_member (entry_key j) ms ≡ None) × (get_or left j 0 ≡ get_or ns j 0))

holds_other : (ns left : List ℕ) (i j : ℕ) (ms : Members) → i < 9 → j < 9 → j ≢ i → Holds ns left j ms → Holds ns (set left i 0) j (put (entry_key i) (number (unsigned (get_or ns i 0))) ms)
holds_other ns left i j ms h k ne (inl there) = inl (get_member-put_other (entry_key j) (entry_key i) _ ms (other_key i j h k ne) ∙ there)
holds_other ns left i j ms h k ne (inr missing) = inr (get_member-put_other (entry_key j) (entry_key i) _ ms (other_key i j h k ne) ∙ missing.0, get_or-set_other left i j 0 0 ne ∙ missing.1)

holds_more : (ns left : List ℕ) (i j : ℕ) (ms : Members) → i < 9 → j < 9 → (j ≡ i) ⊎ (j ≢ i) → Holds ns left j ms → Holds ns (set left i 0) j (put (entry_key i) (number (unsigned (get_or ns i 0))) ms)
holds_more ns left i j ms h k (inl same) there = inl (subst (λ n. get_member (entry_key n) (put (entry_key i) (number (unsigned (get_or ns i 0))) ms) ≡ Some (number (unsigned (get_or ns n 0)))) (sym same) (get_member-put (entry_key i) (number (unsigned (get_or ns i 0))) ms))
holds_more ns left i j ms h k (inr ne) there = holds_other ns left i j ms h k ne there

number_found : (ns left : List ℕ) (j : ℕ) (ms : Members) → ((k : ℕ) → get_or left k 0 ≡ 0) → Holds ns left j ms → whole_or_zero (get_member (entry_key j) ms) ≡ Some (Natural (get_or ns j 0))
number_found ns left j ms none (inl there) = rw there refl
number_found ns left j ms none (inr missing) = rw missing.0 (ap (λ n. Some (Natural n)) (sym (none j) ∙ missing.1))

numbers_found : (ns left is : List ℕ) (j : ℕ) (ms : Members) → j < 9 → Cover left is → Holds ns left j ms → whole_or_zero (get_member (entry_key j) (found ns is ms)) ≡ Some (Natural (get_or ns j 0))
numbers_found ns left [] j ms h cover there = number_found ns left j ms cover there
numbers_found ns left (i ∷ is) j ms h cover there =
    numbers_found ns (set left i 0) is j (put (entry_key i) (number (unsigned (get_or ns i 0))) ms) h cover.1 (holds_more ns left i j ms cover.0 h (cases_eq j i) there)

-- The members of a put, which began with all numbers left.
number_there : (ns is : List ℕ) (j : ℕ) → j < 9 → Cover ns is → whole_or_zero (get_member (entry_key j) (found ns is no_members)) ≡ Some (Natural (get_or ns j 0))
number_there ns is j h cover = numbers_found ns ns is j no_members h cover (inr (refl, refl))

pub put_item : (size thread i slot : ℕ) (ns is : List ℕ) (e : Sqe) → slot < size → Bounded ns → HasNumbers e ns → Cover ns is → instruction_at size thread i (put_value slot ns is) ≡ Ok (Put slot e)
put_item size thread i slot ns is e h fit has cover =
    rw (found_passes ns ns is no_members cover refl, number_there ns is 0 (omega arith) cover, number_there ns is 1 (omega arith) cover, number_there ns is 2 (omega arith) cover, number_there ns is 3 (omega arith) cover, number_there ns is 4 (omega arith) cover, number_there ns is 5 (omega arith) cover, number_there ns is 6 (omega arith) cover, number_there ns is 7 (omega arith) cover, number_there ns is 8 (omega arith) cover, lt-ltb slot size h, has.numbers fit) refl

pub numbers_there : (e : Sqe) (a b c d f g : ℕ) → a ≡ e.opcode → b ≡ e.flags → c ≡ e.ioprio → pos d ≡ e.fd → f ≡ e.len → g ≡ e.operation_flags
    → e.opcode < 2 ^ 8 → e.flags < 2 ^ 8 → e.ioprio < 2 ^ 16 → d < 2 ^ 31 → e.len < 2 ^ 32 → e.operation_flags < 2 ^ 32
    → e ≡ record e { buf_index = 0; personality = 0; splice_fd_in = pos 0; rest = replicate 16 0 }
    → HasNumbers e (a ∷ b ∷ c ∷ d ∷ e.off ∷ e.addr ∷ f ∷ g ∷ e.user_data ∷ [])
numbers_there e a b c d f g ea eb ec ed ef eg ha hb hc hd hf hg plain = record {
  numbers = λ fit.
      let off : e.off < 2 ^ 64 = fit 4 in
      let addr : e.addr < 2 ^ 64 = fit 5 in
      let user : e.user_data < 2 ^ 64 = fit 8 in
      rw (leb-zero a, le-leb a 255 (omega arith), leb-zero b, le-leb b 255 (omega arith), leb-zero c, le-leb c 65535 (omega arith), le-leb d 2147483647 (omega arith), leb-zero e.off, le-leb e.off 18446744073709551615 (omega arith), leb-zero e.addr, le-leb e.addr 18446744073709551615 (omega arith), leb-zero f, le-leb f 4294967295 (omega arith), leb-zero g, le-leb g 4294967295 (omega arith), leb-zero e.user_data, le-leb e.user_data 18446744073709551615 (omega arith), ea, eb, ec, ed, ef, eg)
      (ap Some (sym plain));
}

-- The tokens of a text after the opening brackets of a put.
abbrev pub Starts : ℕ → List ℕ → List ℕ → Type 0
Starts slot text rest = (ts : List Token) → HasTokens false rest ts → HasTokens false text (put_tokens slot ts)

pub put_spelled : (slot : ℕ) (text a a' b c c' d e e' rest : List ℕ) → text ≡ 91 ∷ a → FollowsGap a a' → a' ≡ quoted (codes "put") ++ b → b ≡ 44 ∷ c → FollowsGap c c' → c' ≡ decimal slot ++ d → d ≡ 44 ∷ e → FollowsGap e e' → e' ≡ 123 ∷ rest → Starts slot text rest
put_spelled slot text a a' b c c' d e e' rest ta ga ab bc gc cd de ge er ts has =
    let opened : HasTokens true d (Token.begin_object ∷ ts) = token_first true Token.begin_object ge.0 rest d ts ge.1 has (de ∙ ap (λ r. 44 ∷ r) (ge.2 ∙ ap (λ r. ge.0 ++ r) er)) in
    let numbered : HasTokens true b (Token.number (decimal slot) ∷ Token.begin_object ∷ ts) = token_first true (Token.number (decimal slot)) gc.0 d b (Token.begin_object ∷ ts) gc.1 opened (bc ∙ ap (λ r. 44 ∷ r) (gc.2 ∙ ap (λ r. gc.0 ++ r) cd)) in
    token_first false Token.begin_array [] a text (Token.string (codes "put") ∷ Token.number (decimal slot) ∷ Token.begin_object ∷ ts) tt (token_first false (Token.string (codes "put")) ga.0 b a (Token.number (decimal slot) ∷ Token.begin_object ∷ ts) ga.1 numbered (ga.2 ∙ ap (λ r. ga.0 ++ r) ab)) ta

-- A member at the start of a text: its key with its colon, and its number.
pub member_spelled : (after_value : Bool) (word text a a' b b' rest : List ℕ) (n : ℕ) → text ≡ separator after_value (Token.key word) ++ a → FollowsGap a a' → a' ≡ token_text (Token.key word) ++ b → FollowsGap b b' → b' ≡ decimal n ++ rest → (ts : List Token) → HasTokens true rest ts → HasTokens after_value text (Token.key word ∷ Token.number (decimal n) ∷ ts)
member_spelled after_value word text a a' b b' rest n ta ga ab gb br ts has =
    let numbered : HasTokens false b (Token.number (decimal n) ∷ ts) = token_first false (Token.number (decimal n)) gb.0 rest b ts gb.1 has (gb.2 ∙ ap (λ r. gb.0 ++ r) br) in
    token_first after_value (Token.key word) ga.0 b text (Token.number (decimal n) ∷ ts) ga.1 numbered (ta ∙ ap (λ r. separator after_value (Token.key word) ++ r) (ga.2 ∙ ap (λ r. ga.0 ++ r) ab))

no_comma : (after_value : Bool) {text rest : List ℕ} → text ≡ rest → text ≡ separator after_value Token.end_object ++ rest
no_comma true same = same
no_comma false same = same

-- The closing brackets of a put.
pub end_spelled : (after_value : Bool) (text a b c rest : List ℕ) → FollowsGap text a → a ≡ 125 ∷ b → FollowsGap b c → c ≡ 93 ∷ rest → length rest < 1 → HasTokens after_value text (Token.end_object ∷ Token.end_array ∷ [])
end_spelled after_value text a b c (x ∷ rest) ga ab gc cr none = absurd (omega arith)
end_spelled after_value text a b c [] ga ab gc cr none =
    let last : HasTokens true b (Token.end_array ∷ []) = token_first true Token.end_array gc.0 [] b [] gc.1 (no_tokens true) (gc.2 ∙ ap (λ r. gc.0 ++ r) cr) in
    token_first after_value Token.end_object ga.0 b text (Token.end_array ∷ []) ga.1 last (no_comma after_value (ga.2 ∙ ap (λ r. ga.0 ++ r) ab))

pub zeros : (j : ℕ) → ◌≡◌ {A = ℕ} (get_or (replicate 9 0) j 0) 0
zeros zero = refl
zeros (suc zero) = refl
zeros (suc (suc zero)) = refl
zeros (suc (suc (suc zero))) = refl
zeros (suc (suc (suc (suc zero)))) = refl
zeros (suc (suc (suc (suc (suc zero))))) = refl
zeros (suc (suc (suc (suc (suc (suc zero)))))) = refl
zeros (suc (suc (suc (suc (suc (suc (suc zero))))))) = refl
zeros (suc (suc (suc (suc (suc (suc (suc (suc zero)))))))) = refl
zeros (suc (suc (suc (suc (suc (suc (suc (suc (suc j))))))))) = refl

pub is_natural : (z : ℤ) (n : ℕ) → natural_in z ≡ Some n → pos n ≡ z
is_natural (pos m) n same = ap pos (sym (same_Some m n same))
is_natural (negsuc m) n same = absurd (none-some n same)
