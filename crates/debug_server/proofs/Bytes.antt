-- Incomplete lines, and how bytes extend them.
use Rattle.std.proofs.Common.{◌≡◌, ℕ, zero, suc, ◌+◌, ◌==◌, ◌<◌, ◌≤◌, List, [], ◌∷◌, ◌++◌, length, take, not, Bool, true, false, cond, ◌&&◌, refl, sym, ap, ◌∙◌, arith, append-nil, length-append, length-take}
use Rattle.std.proofs.Math.ListN.{set}
use Rattle.std.proofs.Math.Seq.{take-suc-set, take-append_seam}
use Rattle.std.specs.List.{list_all}
use Rattle.debug_server.specs.Lines.{onto_line, lines_by, lines_of, ended_lines}
use Rattle.debug_server.specs.Pending.{grown}

pub take_all : {X : Type 0} → (xs : List X) (n : ℕ) → length xs ≤ n → take n xs ≡ xs
take_all [] zero h = refl
take_all [] (suc n) h = refl
take_all (x ∷ xs) zero h = absurd (omega arith)
take_all (x ∷ xs) (suc n) h = ap (λ ys. x ∷ ys) (take_all xs n (omega arith))

-- Storing a byte at the end of a line that has room.
pub grown_stored : (bytes line : List ℕ) (n b : ℕ) → line ≡ take n bytes → n ≤ 256 → n < length bytes → take (n + 1) (set bytes n b) ≡ grown line b
grown_stored bytes line n b e short room =
    let stored : take (suc n) (set bytes n b) ≡ take n bytes ++ b ∷ [] = take-suc-set bytes n b room in
    let count : length (take n bytes ++ b ∷ []) ≤ 257 = omega (arith, length-append (take n bytes) (b ∷ []), length-take n bytes) in
    let more : n + 1 ≡ suc n = omega arith in
    ap (λ m. take m (set bytes n b)) more ∙ stored ∙ sym (take_all (take n bytes ++ b ∷ []) 257 count) ∙ ap (λ l. grown l b) (sym e)

-- A line past its limit doesn't change.
pub grown_full : (line : List ℕ) (b : ℕ) → length line ≡ 257 → grown line b ≡ line
grown_full line b h = ap (λ n. take n (line ++ b ∷ [])) (sym h) ∙ take-append_seam line (b ∷ [])

-- A line that has room gets the byte at its end.
pub grown_room : (line : List ℕ) (b : ℕ) → length line ≤ 256 → grown line b ≡ line ++ b ∷ []
grown_room line b h = take_all (line ++ b ∷ []) 257 (omega (arith, length-append line (b ∷ [])))

abbrev pub is_plain : List ℕ → Bool
is_plain line = list_all (λ b. not (b == 10)) line

head_plain : (b more : Bool) → (not b && more) ≡ true → (b ≡ false) × (more ≡ true)
head_plain true more h = absurd (cc)
head_plain false more h = (refl, h)

-- The bytes of a line, prepended to the first line.
abbrev pub onto_lines : Bool → List ℕ → List (List ℕ) → List (List ℕ)
onto_lines last [] ls = ls
onto_lines last (b ∷ line) ls = onto_line last b (onto_lines last line ls)

pub lines_by-plain : (last : Bool) (line bytes : List ℕ) → is_plain line ≡ true → lines_by last (line ++ bytes) ≡ onto_lines last line (lines_by last bytes)
lines_by-plain last [] bytes h = refl
lines_by-plain last (b ∷ line) bytes h =
    let p = head_plain (b == 10) (is_plain line) h in
    rw p.0 (ap (onto_line last b) (lines_by-plain last line bytes p.1))

pub onto_lines-cons : (last : Bool) (line l : List ℕ) (ls : List (List ℕ)) → onto_lines last line (l ∷ ls) ≡ (line ++ l) ∷ ls
onto_lines-cons last [] l ls = refl
onto_lines-cons last (b ∷ line) l ls = ap (onto_line last b) (onto_lines-cons last line l ls)

pub onto_lines-nil : (line : List ℕ) → 0 < length line → onto_lines true line [] ≡ line ∷ []
onto_lines-nil [] h = absurd (omega arith)
onto_lines-nil (b ∷ []) h = refl
onto_lines-nil (b ∷ c ∷ line) h = ap (onto_line true b) (onto_lines-nil (c ∷ line) (omega arith))

onto_lines-none : (line : List ℕ) → onto_lines false line [] ≡ []
onto_lines-none [] = refl
onto_lines-none (b ∷ line) = ap (onto_line false b) (onto_lines-none line)

-- A complete line at the front is the first line.
pub lines_by-ended : (last : Bool) (line bytes : List ℕ) → is_plain line ≡ true → lines_by last (line ++ 10 ∷ bytes) ≡ line ∷ lines_by last bytes
lines_by-ended last line bytes h =
    lines_by-plain last line (10 ∷ bytes) h
    ∙ onto_lines-cons last line [] (lines_by last bytes)
    ∙ ap (λ l. l ∷ lines_by last bytes) (append-nil line)

-- The last line, without a newline, is the only line.
pub lines_of-last : (line : List ℕ) → is_plain line ≡ true → 0 < length line → lines_of line ≡ line ∷ []
lines_of-last line h some = ap lines_of (sym (append-nil line)) ∙ lines_by-plain true line [] h ∙ onto_lines-nil line some

-- It isn't a complete line.
pub ended_lines-plain : (line : List ℕ) → is_plain line ≡ true → ended_lines line ≡ []
ended_lines-plain line h = ap ended_lines (sym (append-nil line)) ∙ lines_by-plain false line [] h ∙ onto_lines-none line

-- ---- Whatever follows

stays_rest : (q : Bool) (b : ℕ) (all ended ls : List (List ℕ)) → all ≡ ended ++ ls → (more : List (List ℕ)) × (cond q ([] ∷ all) (onto_line true b all) ≡ cond q ([] ∷ ended) (onto_line false b ended) ++ more)
stays_rest true b all ended ls h = (ls, ap (λ x. [] ∷ x) h)
stays_rest false b all [] ls h = (onto_line true b all, refl)
stays_rest false b all (l ∷ ended) ls h = (ls, ap (onto_line true b) h)

-- Complete lines stay the first lines.
pub ended_stay : (bytes more : List ℕ) → (ls : List (List ℕ)) × (lines_of (bytes ++ more) ≡ ended_lines bytes ++ ls)
ended_stay [] more = (lines_of more, refl)
ended_stay (b ∷ bytes) more =
    let rest = ended_stay bytes more in
    stays_rest (b == 10) b (lines_of (bytes ++ more)) (ended_lines bytes) rest.0 rest.1
