-- The words of a `break` command, from the code's references to lists of bytes.
use Rattle.std.proofs.Common.{◌≡◌, ℕ, ◌+◌, ◌-◌, ◌==◌, List, [], ◌∷◌, length, take, drop, map, not, Bool, false, cond, nat_lt, Some, None, refl, sym, ap, ◌∙◌, Bor, arith}
use Rattle.std.proofs.lemmas.List.{take-map, drop-map, take_rest, length-map}
use Rattle.std.specs.List.{count_by, fold, position, position_or_len}
use Rattle.std.proofs.lemmas.Bool.Decides.{nat_tests}
use Rattle.scenario.specs.declared.setup.Setup.{Setup}
use Rattle.commands.specs.Commands.{is_mark, followed, mark_of, break_named, breaking_by, breaking}

abbrev Words : Type 0
Words = List (Bor (List ℕ))

-- The bytes of borrowed words.
abbrev pub seen : Words → List (List ℕ)
seen ws = map (λ w. w.now) ws

fold_seen : (f : ℕ → List ℕ → ℕ) (n : ℕ) (ws : Words) → fold f n (seen ws) ≡ fold (λ a w. f a w.now) n ws
fold_seen f n [] = refl
fold_seen f n (w ∷ ws) = fold_seen f (f n w.now) ws

count_seen : (p : List ℕ → Bool) (ws : Words) → count_by p (seen ws) ≡ count_by (λ w. p w.now) ws
count_seen p ws = fold_seen (λ a x. a + cond (p x) 1 0) 0 ws

first_seen : (p : List ℕ → Bool) (ws : Words) → position_or_len p (seen ws) ≡ position_or_len (λ w. p w.now) ws
first_seen p [] = refl
first_seen p (w ∷ ws) = ap (λ n. cond (not (p w.now)) (1 + n) 0) (first_seen p ws)

position_seen : (p : List ℕ → Bool) (ws : Words) → position p (seen ws) ≡ position (λ w. p w.now) ws
position_seen p ws =
    ap (λ n. cond (nat_lt n (length (seen ws))) (Some n) None) (first_seen p ws)
    ∙ ap (λ n. cond (nat_lt (position_or_len (λ w. p w.now) ws) n) (Some (position_or_len (λ w. p w.now) ws)) None) (length-map ws (λ w. w.now))

followed_seen : (ws : Words) → followed (seen ws) ≡ seen (take (length ws - 1) ws)
followed_seen ws = ap (λ n. take (n - 1) (seen ws)) (length-map ws (λ w. w.now)) ∙ take-map (λ w. w.now) (length ws - 1) ws

-- The position of the mark, in terms of references.
mark_seen : (ws : Words) → mark_of (seen ws) ≡ cond (count_by (λ w. is_mark w.now) (take (length ws - 1) ws) == 1) (position (λ w. is_mark w.now) (take (length ws - 1) ws)) None
mark_seen ws =
    ap (λ l. cond (count_by is_mark l == 1) (position is_mark l) None) (followed_seen ws)
    ∙ ap (λ n. cond (n == 1) (position is_mark (seen (take (length ws - 1) ws))) None) (count_seen is_mark (take (length ws - 1) ws))
    ∙ ap (λ o. cond (count_by (λ w. is_mark w.now) (take (length ws - 1) ws) == 1) o None) (position_seen is_mark (take (length ws - 1) ws))

-- The search finds the mark if exactly one word is the mark.
pub marked : (ws : Words) (n k : ℕ) → n ≡ length ws - 1 → k ≡ count_by (λ w. is_mark w.now) (take n ws) → k ≡ 1 → position (λ w. is_mark w.now) (take n ws) ≡ mark_of (seen ws)
marked ws n k e f g =
    let one : count_by (λ (w : Bor (List ℕ)). is_mark w.now) (take (length ws - 1) ws) ≡ 1 = ap (λ m. count_by (λ (w : Bor (List ℕ)). is_mark w.now) (take m ws)) (sym e) ∙ sym f ∙ g in
    ap (λ m. position (λ (w : Bor (List ℕ)). is_mark w.now) (take m ws)) e
    ∙ sym (mark_seen ws ∙ ap (λ m. cond (m == 1) (position (λ (w : Bor (List ℕ)). is_mark w.now) (take (length ws - 1) ws)) None) one)

pub unmarked : (ws : Words) (n k : ℕ) → n ≡ length ws - 1 → k ≡ count_by (λ w. is_mark w.now) (take n ws) → (k ≡ 1 → ⊥) → None ≡ mark_of (seen ws)
unmarked ws n k e f g =
    let same : count_by (λ (w : Bor (List ℕ)). is_mark w.now) (take (length ws - 1) ws) ≡ k = ap (λ m. count_by (λ (w : Bor (List ℕ)). is_mark w.now) (take m ws)) (sym e) ∙ sym f in
    let none : (k == 1) ≡ false = grind (arith, nat_tests) in
    sym (mark_seen ws
    ∙ ap (λ m. cond (m == 1) (position (λ (w : Bor (List ℕ)). is_mark w.now) (take (length ws - 1) ws)) None) same
    ∙ ap (λ t. cond t (position (λ (w : Bor (List ℕ)). is_mark w.now) (take (length ws - 1) ws)) None) none)

-- A `break` command, split at its mark.
pub break_seen : (setup : Setup) (ws : Words) (i : ℕ) → Some i ≡ mark_of (seen ws) → break_named setup (seen (take i ws)) (seen (take (length ws - (i + 1)) (drop (i + 1) ws))) ≡ breaking setup (seen ws)
break_seen setup ws i h =
    ap (λ l. break_named setup l (seen (take (length ws - (i + 1)) (drop (i + 1) ws)))) (sym (take-map (λ w. w.now) i ws))
    ∙ ap (λ l. break_named setup (take i (seen ws)) (seen l)) (take_rest ws (i + 1))
    ∙ ap (λ l. break_named setup (take i (seen ws)) l) (sym (drop-map (λ w. w.now) (i + 1) ws))
    ∙ ap (breaking_by setup (seen ws)) h

pub no_break : (setup : Setup) (ws : Words) → None ≡ mark_of (seen ws) → breaking_by setup (seen ws) None ≡ breaking setup (seen ws)
no_break setup ws h = ap (breaking_by setup (seen ws)) h
