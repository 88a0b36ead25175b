-- Facts about the sizes of rings.
use Rattle.ring_words.proofs.Common.{length, slice_index_or, ◌∙◌, ◌-◌, ◌++◌, ◌≡◌, ◌*◌, ℕ, zero, suc, Bool, true, false, cond, refl, sym, ap, List, [], ◌∷◌, ◌+◌, ◌/◌, ◌<◌, ◌≤◌, ◌^◌, ◌⊎◌, inl, inr, nat_lt, subst, arith, pow_mono, pow-succ', pow_pos, ◌∣◌, IsNextPowerOfTwo, IsSize, sizes, first_not_below, rounded, replicate, ltb-true, ltb-false, leb_tells}
use Rattle.std.proofs.{Math.Dec.leb, lemmas.Nat.Gcd.dvd_of_mod-eq-zero}

-- The powers of two from 2 ^ k to 2 ^ (k + j).
powers : ℕ → ℕ → List ℕ
powers k zero = 2 ^ k ∷ []
powers k (suc j) = 2 ^ k ∷ powers (suc k) j

sizes_are : sizes ≡ powers 0 13
unfolding powers
sizes_are = refl

size_at : (i n : ℕ) → i < length sizes → slice_index_or sizes i n ≡ 2 ^ i
size_at = grind arith

-- A size is 2 to the power of its index in the list.
size_is : (limit n : ℕ) → IsSize limit n → (i : ℕ) × (i < 14) × (n ≡ 2 ^ i)
size_is = grind arith

pub size_some : {limit n : ℕ} → IsSize limit n → 0 < n
size_some {limit} {n} h = let (i, l, e) = size_is limit n h in let p = pow_pos i in omega (arith, e, p)

-- Each size divides 2 ^ 32, so counters wrap at a multiple of it.
pub size_divides : (limit n : ℕ) → IsSize limit n → n ∣ 2 ^ 32
size_divides = grind (arith, dvd_of_mod-eq-zero)

-- The first power in the list that is at least n is the smallest one.
walk : (n k j : ℕ) → 0 < n → n ≤ 2 ^ (k + j) → 2 ^ k / 2 < n → IsNextPowerOfTwo n (first_not_below n (powers k j))
unfolding powers
walk n k zero s l h = by (nat_lt (2 ^ k) n) refl
  where
    e : 2 ^ (k + 0) ≡ 2 ^ k
    e = ap (λ i. 2 ^ i) (omega arith)

    by : (b : Bool) → nat_lt (2 ^ k) n ≡ b → IsNextPowerOfTwo n (cond b 0 (2 ^ k))
    by true t = let a = ltb-true _ _ t in absurd (omega (arith, e))
    by false t = ((k, refl), omega (arith, e), omega arith)
walk n k (suc j) s l h = by (nat_lt (2 ^ k) n) refl (walk n (suc k) j)
  where
    e : 2 ^ (k + suc j) ≡ 2 ^ (suc k + j)
    e = ap (λ i. 2 ^ i) (omega arith)

    f : 2 ^ suc k ≡ 2 * 2 ^ k
    f = pow-succ' 2 k

    by : (b : Bool) → nat_lt (2 ^ k) n ≡ b → (0 < n → n ≤ 2 ^ (suc k + j) → 2 ^ suc k / 2 < n → IsNextPowerOfTwo n (first_not_below n (powers (suc k) j))) → IsNextPowerOfTwo n (cond b (first_not_below n (powers (suc k) j)) (2 ^ k))
    by true t more = let a = ltb-true _ _ t in more s (omega (arith, e)) (omega (arith, f))
    by false t more = let a = ltb-false _ _ t in ((k, refl), a, omega arith)

-- `rounded` is the next power of two.
pub rounded_next : (n : ℕ) → 0 < n → n ≤ 8192 → IsNextPowerOfTwo n (rounded n)
unfolding rounded
rounded_next n s l = subst (λ (ps : List ℕ). IsNextPowerOfTwo n (first_not_below n ps)) (sym sizes_are) (walk n 0 13 s (omega arith) (omega arith))

not_below : (n a b : ℕ) → 0 < n → n ≤ 2 ^ a → 2 ^ b / 2 < n → b ≤ a
not_below n a b s l h = by (leb_tells b a)
  where
    by : ((leb b a ≡ true) × (b ≤ a)) ⊎ ((leb b a ≡ false) × (a < b)) → b ≤ a
    by (inl k) = k.1
    by (inr k) = let m : 2 ^ suc a ≤ 2 ^ b = pow_mono {i = suc a} {j = b} (omega arith) in let f = pow-succ' 2 a in absurd (omega (arith, m, f))

-- The next power of two is unique.
pub next_is_one : (n p q : ℕ) → 0 < n → IsNextPowerOfTwo n p → IsNextPowerOfTwo n q → p ≡ q
next_is_one = grind (arith, not_below)

-- The next power of two is a size, if n is within the limit 2 ^ l.
pub next_size : (n p l : ℕ) → 0 < n → n ≤ 2 ^ l → l ≤ 13 → IsNextPowerOfTwo n p → IsSize (2 ^ l) p
next_size = grind (arith, not_below, pow_mono, size_at)

pub rounded_size : (n l : ℕ) → 0 < n → n ≤ 2 ^ l → l ≤ 13 → n ≤ 8192 → IsSize (2 ^ l) (rounded n)
rounded_size n l s m few k = next_size n (rounded n) l s m few (rounded_next n s k)

-- An empty list was filled.
pub grown : {X : Type 0} (old new : List X) (n : ℕ) (x : X) → old ≡ [] → new ≡ old ++ replicate (n - length old) x → new ≡ replicate n x
grown [] new n x none e = let all : n - 0 ≡ n = omega arith in e ∙ ap (λ k. replicate k x) all
grown (y ∷ old) new n x none e = absurd cc
