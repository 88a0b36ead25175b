-- Reading and writing a field are inverse.
use Rattle.std.proofs.Common.{◌≡◌, ℕ, ◌+◌, ◌^◌, ◌<◌, ◌≤◌, Bool, true, false, cond, ltb, List, [], ◌∷◌, ◌++◌, length, get_or, take, drop, Result, Ok, Err, refl, sym, ap, subst, ◌∙◌, append_assoc, arith, inl, inr}
use Rattle.std.specs.Prelude.{nat_le}
use Rattle.std.proofs.lemmas.Bool.{cases_lt, ltb-false, le-ltb, leb-true}
use Rattle.std.proofs.lemmas.List.{take_at, drop_at, take-append-drop, length-append, length-take, get_or-drop, get_or-take, get_or_past}
use Rattle.std.proofs.lemmas.Nat.{le_bytes_2, le_bytes_4, le_bytes_8}
use Rattle.byteorder.specs.Endian.{little_bytes, little_number}
use Rattle.byteorder.specs.Numbers.{little_number-reads_back, little_from-lt, little_from-take, length-bytes_low_first}
use Rattle.traces.specs.declared.fault.TraceFault.{TraceFault}
use Rattle.traces.specs.declared.fault.TraceFault.TheVariants.{Truncated}
use Rattle.traces.specs.Cursors.{Cursor}
use Rattle.traces.specs.Setups.{long_bytes}
use Rattle.traces.specs.Reading.{◌>>=◌, past, kept, number_at, number_in, bytes_at, count_at, long_at}

abbrev pub IsBytes : List ℕ → Type 0
IsBytes bytes = (i : ℕ) → get_or bytes i 0 < 256

pub IsBytes-drop : (n : ℕ) (bytes : List ℕ) → IsBytes bytes → IsBytes (drop n bytes)
IsBytes-drop n bytes h i = rw get_or-drop (h (n + i))

pub IsBytes-take : (n : ℕ) (bytes : List ℕ) → IsBytes bytes → IsBytes (take n bytes)
IsBytes-take n bytes h i =
    elim (cases_lt i n) [
      | inl lt ↦ rw (get_or-take n bytes i 0 lt) (h i)
      | inr le ↦ rw (get_or_past (take n bytes) i 0 (omega (arith, length-take n bytes))) (omega arith)
    ]

-- The value of a step that didn't fail.
pub bind_ok : {A B : Type 0} (r : Result A TraceFault) (f : A → Result B TraceFault) (y : B) → (r >>= f) ≡ Ok y → (x : A) × (r ≡ Ok x) × (f x ≡ Ok y)
bind_ok (Ok x) f y e = (x, refl, e)
bind_ok (Err d) f y e = absurd cc

-- A test that didn't fail.
guard_ok : {A : Type 0} (b : Bool) (d : TraceFault) (x y : A) → cond b (Err d) (Ok x) ≡ Ok y → (b ≡ false) × (x ≡ y)
guard_ok true d x y e = absurd cc
guard_ok false d x y e = (refl, cc)

pub kept_ok : {A : Type 0} (b : Bool) (at : ℕ) (x y : A) → kept b at x ≡ Ok y → (b ≡ true) × (x ≡ y)
kept_ok true at x y e = (refl, cc)
kept_ok false at x y e = absurd cc

abbrev done : {A : Type 0} → A → Result A TraceFault
done x = Ok x

pub ok_is : {A : Type 0} (x y : A) → done x ≡ done y → x ≡ y
ok_is x y e = cc

abbrev pub cursor_at : ℕ → List ℕ → Cursor
cursor_at offset rest = record { offset = offset; rest = rest }

-- The text that a field consumed from the front.
pub record Takes (s : Cursor) (text : List ℕ) (t : Cursor) : Type 0 where
  pub parts : s.rest ≡ text ++ t.rest
  pub fits : IsBytes t.rest

pub Takes-then : (a : Cursor) (x : List ℕ) (b : Cursor) (y : List ℕ) (c : Cursor) → Takes a x b → Takes b y c → Takes a (x ++ y) c
Takes-then a x b y c p q = record { parts = p.parts ∙ ap (λ (t : List ℕ). x ++ t) q.parts ∙ sym (append_assoc x y c.rest); fits = q.fits }

-- Reading the text returns the value, and leaves the rest.
abbrev pub Again : {A : Type 0} → (Cursor → Result (A × Cursor) TraceFault) → ℕ → List ℕ → A → List ℕ → Type 0
Again at offset input x rest = (o : ℕ) × (at (cursor_at offset input) ≡ Ok (x, cursor_at o rest))

-- ---- numbers

pub record IsWidth (n : ℕ) : Type 0 where
  pub back : (bytes : List ℕ) → length bytes ≡ n → IsBytes bytes → little_bytes n (little_number n bytes) ≡ bytes

one_back : (bytes : List ℕ) → length bytes ≡ 1 → IsBytes bytes → little_bytes 1 (little_number 1 bytes) ≡ bytes
one_back [] e fits = absurd (omega (arith, e))
one_back (b ∷ []) e fits = let lt = fits 0 in grind arith
one_back (b ∷ c ∷ cs) e fits = absurd (omega (arith, e))

pub width1 : IsWidth 1
width1 = record { back = one_back }

pub width2 : IsWidth 2
width2 = record { back = λ bytes len fits. le_bytes_2 bytes _ len fits (omega arith) }

pub width4 : IsWidth 4
width4 = record { back = λ bytes len fits. le_bytes_4 bytes _ len fits (omega arith) }

pub width8 : IsWidth 8
width8 = record { back = λ bytes len fits. le_bytes_8 bytes _ len fits (omega arith) }

pub number_takes : (n : ℕ) → IsWidth n → (s : Cursor) (x : ℕ) (t : Cursor) → IsBytes s.rest → number_at n s ≡ Ok (x, t) → Takes s (little_bytes n x) t × (x < 256 ^ n)
number_takes n wide s x t fits e =
    let g = guard_ok (ltb (length s.rest) n) Truncated (little_number n s.rest, past n s) (x, t) e in
    let long : n ≤ length s.rest = ltb-false _ _ g.0 in
    let front = take n s.rest in
    let x-is : little_number n s.rest ≡ x = ap (λ (p : ℕ × Cursor). p.0) g.1 in
    let t-is : past n s ≡ t = ap (λ (p : ℕ × Cursor). p.1) g.1 in
    let same : little_number n front ≡ little_number n s.rest = little_from-take 0 n n s.rest (omega arith) in
    let text : little_bytes n x ≡ front = ap (little_bytes n) (sym x-is) ∙ ap (little_bytes n) (sym same) ∙ wide.back front (omega (arith, length-take n s.rest)) (IsBytes-take n s.rest fits) in
    let below : little_number n s.rest < 256 ^ n = little_from-lt 0 n s.rest fits in
    let whole : Takes s (little_bytes n x) (past n s) = record { parts = rw text (sym (take-append-drop n s.rest)); fits = IsBytes-drop n s.rest fits } in
    (subst (λ (r : Cursor). Takes s (little_bytes n x) r) t-is whole, subst (λ (y : ℕ). y < 256 ^ n) x-is below)

pub number_again : (n offset x : ℕ) (rest : List ℕ) → x < 256 ^ n → Again (number_at n) offset (little_bytes n x ++ rest) x rest
number_again n offset x rest lt =
    let len : length (little_bytes n x) ≡ n = length-bytes_low_first 0 n x in
    let long : ltb (length (little_bytes n x ++ rest)) n ≡ false = le-ltb _ _ (omega (arith, length-append (little_bytes n x) rest)) in
    let value : little_number n (little_bytes n x ++ rest) ≡ x = little_number-reads_back n x rest lt in
    let after : drop n (little_bytes n x ++ rest) ≡ rest = drop_at (little_bytes n x) rest n len in
    (offset + n, rw (long, value, after) refl)

pub number_in_takes : (n : ℕ) → IsWidth n → (test : ℕ → Bool) (s : Cursor) (x : ℕ) (t : Cursor) → IsBytes s.rest → number_in n test s ≡ Ok (x, t)
    → Takes s (little_bytes n x) t × (x < 256 ^ n) × (test x ≡ true)
unfolding number_in
number_in_takes n wide test s x t fits e =
    let a = bind_ok (number_at n s) (λ k. kept (test k.0) s.offset k) (x, t) e in
    let b = kept_ok (test a.0.0) s.offset a.0 (x, t) a.2 in
    let taken = number_takes n wide s a.0.0 a.0.1 fits a.1 in
    subst (λ (p : ℕ × Cursor). Takes s (little_bytes n p.0) p.1 × (p.0 < 256 ^ n) × (test p.0 ≡ true)) b.1 (taken.0, taken.1, b.0)

pub number_in_again : (n : ℕ) (test : ℕ → Bool) (offset x : ℕ) (rest : List ℕ) → x < 256 ^ n → test x ≡ true → Again (number_in n test) offset (little_bytes n x ++ rest) x rest
unfolding number_in
number_in_again n test offset x rest lt passes =
    let a = number_again n offset x rest lt in
    (a.0, rw (a.1, passes) refl)

-- ---- bytes

pub bytes_takes : (n : ℕ) (s : Cursor) (x : List ℕ) (t : Cursor) → IsBytes s.rest → bytes_at n s ≡ Ok (x, t) → Takes s x t × (length x ≡ n)
bytes_takes n s x t fits e =
    let g = guard_ok (ltb (length s.rest) n) Truncated (take n s.rest, past n s) (x, t) e in
    let long : n ≤ length s.rest = ltb-false _ _ g.0 in
    let whole : Takes s (take n s.rest) (past n s) = record { parts = sym (take-append-drop n s.rest); fits = IsBytes-drop n s.rest fits } in
    subst (λ (p : List ℕ × Cursor). Takes s p.0 p.1 × (length p.0 ≡ n)) g.1 (whole, omega (arith, length-take n s.rest))

pub bytes_again : (n offset : ℕ) (x rest : List ℕ) → length x ≡ n → Again (bytes_at n) offset (x ++ rest) x rest
bytes_again n offset x rest len =
    let long : ltb (length (x ++ rest)) n ≡ false = le-ltb _ _ (omega (arith, length-append x rest)) in
    (offset + n, rw (long, take_at x rest n len, drop_at x rest n len) refl)

pub long_takes : (most : ℕ) (s : Cursor) (x : List ℕ) (t : Cursor) → IsBytes s.rest → long_at most s ≡ Ok (x, t) → Takes s (long_bytes x) t × (nat_le (length x) most ≡ true)
unfolding long_at
long_takes most s x t fits e =
    let a = bind_ok (count_at most s) (λ n. bytes_at n.0 n.1) (x, t) e in
    let count = number_in_takes 4 width4 (λ n. nat_le n most) s a.0.0 a.0.1 fits a.1 in
    let bytes = bytes_takes a.0.0 a.0.1 x t count.0.fits a.2 in
    let both = Takes-then s (little_bytes 4 a.0.0) a.0.1 x t count.0 bytes.0 in
    subst (λ (n : ℕ). Takes s (little_bytes 4 n ++ x) t × (nat_le n most ≡ true)) (sym bytes.1) (both, count.2)

pub long_again : (most offset : ℕ) (x rest : List ℕ) → most < 2 ^ 32 → nat_le (length x) most ≡ true → Again (long_at most) offset (long_bytes x ++ rest) x rest
unfolding long_at
long_again most offset x rest small le =
    let few : length x ≤ most = leb-true _ _ le in
    let a = number_in_again 4 (λ n. nat_le n most) offset (length x) (x ++ rest) (omega arith) le in
    let b = bytes_again (length x) a.0 x rest refl in
    let regrouped : long_bytes x ++ rest ≡ little_bytes 4 (length x) ++ (x ++ rest) = append_assoc (little_bytes 4 (length x)) x rest in
    (b.0, ap (λ (input : List ℕ). long_at most (cursor_at offset input)) regrouped ∙ rw (a.1, b.1) refl)
