use Rattle.std.proofs.Common.{◌≡◌, ◌≤◌, ◌<◌, ℕ, ◌+◌, length, List, ◌∷◌, drop, get_or, nat_lt, true, false, arith, refl, sym, ap, ◌∙◌, add-one}
use Rattle.std.proofs.Math.Seq.{drop-cons}
use Rattle.std.proofs.lemmas.Bool.Decides.{nat_tests}
use Rattle.ring_words.specs.Rings.{rounded, first_not_below, sizes}
use Rattle.scenario.proofs.limits.ring_size.Goals as goal

first : (n x : ℕ) (xs : List ℕ) → n ≤ x → first_not_below n (x ∷ xs) ≡ x
first n x xs h = let e : nat_lt x n ≡ false = grind (arith, nat_tests) in rw e refl

later : (n x : ℕ) (xs : List ℕ) → x < n → first_not_below n (x ∷ xs) ≡ first_not_below n xs
later n x xs h = let e : nat_lt x n ≡ true = grind (arith, nat_tests) in rw e refl

at : (n i : ℕ) (xs : List ℕ) → i < length xs → drop i xs ≡ get_or xs i 0 ∷ drop (i + 1) xs
at n i xs h = rw (add-one, drop-cons xs i 0) refl

pub returns-then-size-entries : goal.returns-then-size-entries
unfolding rounded
returns-then-size-entries c =
    let lt : c.loop-size.size-index < 14 = omega arith in
    sym (first c.args.entries _ _ c.if-size-entries.true) ∙ ap (first_not_below c.args.entries) (sym (at c.args.entries c.loop-size.size-index sizes lt)) ∙ c.loop-size.invariant

pub loop-size-preserved : goal.loop-size-preserved
loop-size-preserved c =
    let lt : c.loop-size.size-index < 14 = omega arith in
    sym (later c.args.entries _ _ c.if-size-entries.false) ∙ ap (first_not_below c.args.entries) (sym (at c.args.entries c.loop-size.size-index sizes lt)) ∙ c.loop-size.invariant

pub returns : goal.returns
unfolding rounded
returns c =
    let over : c.loop-size.size-index ≡ 14 = omega arith in
    rw over at c.loop-size.invariant
