-- Locked sections of programs, and who holds the lock.
use Rattle.std.proofs.Common.{◌≡◌, ℕ, zero, suc, ◌-◌, ◌<◌, ◌≤◌, Bool, true, false, refl, sym, ap, ◌∙◌, subst, arith, List, [], ◌∷◌, length, drop, map, get_or, inl, inr}
use Rattle.std.specs.Prelude.{Option, Some, None, nat_lt, ◌||◌, ◌&&◌, not, slice_get, unwrap_or}
use Rattle.std.specs.Option.{option_map, option_map_or}
use Rattle.std.specs.List.{list_any}
use Rattle.std.proofs.lemmas.Option.{slice_get-map, slice_get_read}
use Rattle.std.proofs.lemmas.Bool.Decides.{nat_tests}
use Rattle.std.proofs.lemmas.Bool.{cases_lt}
use Rattle.scenario.specs.declared.setup.Instruction.{Instruction}
use Rattle.machine.specs.declared.whole.Machine.{Machine}
use Rattle.machine.specs.Threads.{ThreadState, program_of}
use Rattle.machine.specs.Whole.{WellFormed}
use Rattle.sampling.specs.Locks.{sections, is_waiting, holds, locks, any_below, is_locked}
use Rattle.sampling.specs.Spots.{spot_of}
use Rattle.sampling.specs.declared.locks.Spot.{Spot}
use Rattle.std.proofs.lemmas.List.{length-map}

-- ---- sections

or_true : (a b : Bool) → b ≡ true → (a || b) ≡ true
or_true true b h = refl
or_true false b h = h

pub any_from : {X : Type 0} (f : X → Bool) (xs : List X) (j k : ℕ) (x : X) → slice_get xs j ≡ Some x → f x ≡ true → k ≤ j → list_any f (drop k xs) ≡ true
any_from f [] j k x e h le = absurd (cc)
any_from f (y ∷ ys) zero zero x e h le = let same : y ≡ x = cc in rw (same, h) refl
any_from f (y ∷ ys) zero (suc k) x e h le = absurd (omega arith)
any_from f (y ∷ ys) (suc j) zero x e h le = or_true (f y) (list_any f ys) (any_from f ys j zero x e h (omega arith))
any_from f (y ∷ ys) (suc j) (suc k) x e h le = any_from f ys j k x e h (omega arith)

or_false : (a b : Bool) → (a || b) ≡ false → b ≡ false
or_false true b h = absurd (cc)
or_false false b h = h

pub none_from : {X : Type 0} (f : X → Bool) (xs : List X) (n k : ℕ) → list_any f (drop n xs) ≡ false → n ≤ k → list_any f (drop k xs) ≡ false
none_from f [] zero zero h le = refl
none_from f [] zero (suc k) h le = refl
none_from f [] (suc n) zero h le = refl
none_from f [] (suc n) (suc k) h le = refl
none_from f (y ∷ ys) zero zero h le = h
none_from f (y ∷ ys) zero (suc k) h le = none_from f ys zero k (or_false (f y) (list_any f ys) h) (omega arith)
none_from f (y ∷ ys) (suc n) zero h le = absurd (omega arith)
none_from f (y ∷ ys) (suc n) (suc k) h le = none_from f ys n k h (omega arith)

-- ---- the lock

pub no_lock : (f : ℕ → Bool) (n : ℕ) → ((k : ℕ) → k < n → f k ≡ false) → any_below f n ≡ false
no_lock f zero h = refl
no_lock f (suc n) h = let a = no_lock f n (λ k low. h k (omega arith)) in let b = h n (omega arith) in rw (a, b) refl

first_true : (a b : Bool) → a ≡ true → (a || b) ≡ true
first_true true b h = refl
first_true false b h = absurd (cc)

by_place : (f : ℕ → Bool) (n k : ℕ) → k < suc n → (k < n → any_below f n ≡ true) → f k ≡ true → any_below f (suc n) ≡ true
by_place f n k low earlier h = elim (cases_lt k n) [
  | inl before ↦ first_true (any_below f n) (f n) (earlier before)
  | inr after ↦ let same : k ≡ n = omega arith in or_true (any_below f n) (f n) (subst (λ (a : ℕ). f a ≡ true) same h)
]

pub some_lock : (f : ℕ → Bool) (n k : ℕ) → k < n → f k ≡ true → any_below f n ≡ true
some_lock f zero k low h = absurd (omega arith)
some_lock f (suc n) k low h = by_place f n k low (λ before. some_lock f n k before h) h

-- A thread's counter is at most 4,096.
pub counter_small : (m : Machine) (t : ℕ) (x : ThreadState) → WellFormed m → slice_get m.threads t ≡ Some x → x.counter ≤ 4096
counter_small m t x f e =
    let y = f.mostly.threads t x e in
    let a = y.within in let b = y.program.short in omega (arith, a, b)

-- ---- where the last section ends

pub ends_here : {X : Type 0} (f : X → Bool) (xs : List X) (end k : ℕ) (x : X) → 0 < end → end ≤ length xs → x ≡ get_or xs (end - 1) x → f x ≡ true → list_any f (drop end xs) ≡ false → list_any f (drop k xs) ≡ nat_lt k end
ends_here f xs end k x some within is here none = elim (cases_lt k end) [
  | inl low ↦
      let at : slice_get xs (end - 1) ≡ Some x = slice_get_read xs (length xs) (end - 1) x refl (omega (arith, some, within)) is in
      let less : nat_lt k end ≡ true = grind (arith, nat_tests) in
      any_from f xs (end - 1) k x at here (omega (arith, low)) ∙ sym less
  | inr high ↦
      let more : nat_lt k end ≡ false = grind (arith, nat_tests) in
      none_from f xs end k none high ∙ sym more
]

pub ends_nowhere : {X : Type 0} (f : X → Bool) (xs : List X) (end k : ℕ) → end ≡ 0 → list_any f (drop end xs) ≡ false → list_any f (drop k xs) ≡ nat_lt k 0
ends_nowhere f xs end k is none =
    let more : nat_lt k 0 ≡ false = grind (arith, nat_tests) in
    none_from f xs end k none (omega (arith, is)) ∙ sym more

-- ---- holding

inside_is : (m : Machine) (ps : List (List Instruction)) (t counter : ℕ) (x : ThreadState) → map program_of m.threads ≡ ps → slice_get m.threads t ≡ Some x → option_map_or (λ p. unwrap_or (slice_get (sections p) counter) false) (slice_get ps t) false ≡ unwrap_or (slice_get (sections x.program) counter) false
inside_is m ps t counter x e h =
    let inside : Option (List Instruction) → Bool = λ o. option_map_or (λ p. unwrap_or (slice_get (sections p) counter) false) o false in
    ap (λ (qs : List (List Instruction)). inside (slice_get qs t)) (sym e) ∙ ap inside (slice_get-map program_of m.threads t) ∙ ap (λ (o : Option ThreadState). inside (option_map program_of o)) h

ready_by : (m : Machine) (ps : List (List Instruction)) (t : ℕ) (spot : Spot) (inside : Bool) (o : Option ThreadState) → slice_get m.threads t ≡ o → map program_of m.threads ≡ ps → Some spot ≡ option_map spot_of o → spot.is_waiting ≡ false
    → inside ≡ option_map_or (λ p. unwrap_or (slice_get (sections p) spot.counter) false) (slice_get ps t) false → inside ≡ option_map_or holds o false
unfolding holds
ready_by m ps t spot inside None h e s w i = absurd (cc)
ready_by m ps t spot inside (Some x) h e s w i =
    let is : spot ≡ spot_of x = cc in
    let waits : is_waiting x.stage ≡ false = sym (ap (λ (y : Spot). y.is_waiting) is) ∙ w in
    let counter : spot.counter ≡ x.counter = ap (λ (y : Spot). y.counter) is in
    i ∙ inside_is m ps t spot.counter x e h ∙ ap (λ (k : ℕ). unwrap_or (slice_get (sections x.program) k) false) counter
    ∙ ap (λ (b : Bool). not b && unwrap_or (slice_get (sections x.program) x.counter) false) (sym waits)

pub ready_holds : (m : Machine) (ps : List (List Instruction)) (t : ℕ) (spot : Spot) (inside : Bool) → map program_of m.threads ≡ ps → Some spot ≡ option_map spot_of (slice_get m.threads t) → spot.is_waiting ≡ false
    → inside ≡ option_map_or (λ p. unwrap_or (slice_get (sections p) spot.counter) false) (slice_get ps t) false → inside ≡ option_map_or holds (slice_get m.threads t) false
ready_holds m ps t spot inside e s w i = ready_by m ps t spot inside (slice_get m.threads t) refl e s w i

waits_by : (spot : Spot) (o : Option ThreadState) → Some spot ≡ option_map spot_of o → spot.is_waiting ≡ true → not spot.is_waiting ≡ option_map_or holds o false
unfolding holds
waits_by spot None s w = absurd (cc)
waits_by spot (Some x) s w =
    let is : spot ≡ spot_of x = cc in
    let waits : is_waiting x.stage ≡ true = sym (ap (λ (y : Spot). y.is_waiting) is) ∙ w in
    ap not w ∙ ap (λ (b : Bool). not b && unwrap_or (slice_get (sections x.program) x.counter) false) (sym waits)

pub waiting_holds : (m : Machine) (t : ℕ) (spot : Spot) → Some spot ≡ option_map spot_of (slice_get m.threads t) → spot.is_waiting ≡ true → not spot.is_waiting ≡ option_map_or holds (slice_get m.threads t) false
waiting_holds m t spot s w = waits_by spot (slice_get m.threads t) s w

-- ---- whether some thread does

pub thread_count : (m : Machine) (ps : List (List Instruction)) → map program_of m.threads ≡ ps → length m.threads ≡ length ps
thread_count m ps e = sym (length-map m.threads program_of) ∙ ap (λ qs. length qs) e

pub locked : (m : Machine) (t : ℕ) → t < length m.threads → locks m t ≡ true → true ≡ is_locked m
unfolding is_locked
locked m t low h = sym (some_lock (locks m) (length m.threads) t low h)

pub unlocked : (m : Machine) (n : ℕ) → length m.threads ≤ n → ((k : ℕ) → k < n → locks m k ≡ false) → false ≡ is_locked m
unfolding is_locked
unlocked m n le none = sym (no_lock (locks m) (length m.threads) (λ k low. none k (omega (arith, low, le))))
