-- The value of a parsed number, and the parsing of a printed one.
use Rattle.std.proofs.Common.{◌≡◌, ℕ, zero, suc, ◌^◌, ◌<◌, List, length, get_or, Bool, true, false, ◌&&◌, ◌||◌, not, eqb, Some, None, Result, Ok, Err, nat_lt, cond, refl, ap, ◌∙◌, arith, rules}
use Rattle.std.specs.Prelude.{decimal, slice_index}
use Rattle.std.proofs.lemmas.Str.Parse.{IsNumeralModel, numerals_by_value, parse_digits}
use Rattle.std.proofs.lemmas.Bool.Decides.{nat_tests}
use Rattle.std.proofs.lemmas.Str.{IsUtf8-from_ascii}
use Rattle.std.proofs.lemmas.Fmt.{IsAscii-from_digits, decimal_digit, decimal_nonempty, digits_decimal, digits_value-decimal, first_decimal}
use Rattle.std.specs.Char.{is_ascii_digit}
use Rattle.std.specs.List.{list_all}
use Rattle.std.specs.Result.{OkIff, result_ok}
use Rattle.std.specs.Str.{IsUtf8}
use Rattle.std.specs.Str.Parse.{ParsesUnsigned, digits_value}
use Rattle.scenario.specs.Names.{is_numeral, fitting, number_of}

-- Parsing gives the value of the digits.
pub numerals : IsNumeralModel (λ word. list_all is_ascii_digit word ≡ true) (digits_value 10)
numerals = numerals_by_value (λ word. list_all is_ascii_digit word ≡ true) (search (rules, nat_tests))

first_true : (a b c : Bool) → (a && b && c) ≡ true → a ≡ true
first_true true b c h = refl
first_true false b c h = h

second_true : (a b c : Bool) → (a && b && c) ≡ true → b ≡ true
second_true true true c h = refl
second_true true false c h = h
second_true false b c h = cc

within : {E : Type 0} (r : Result ℕ E) (len v k : ℕ) → OkIff r ((0 < len) × (v < k)) v → 0 < len → result_ok r ≡ cond (nat_lt v k) (Some v) None
within (Ok n) len v k h l = grind (arith, nat_tests)
within (Err e) len v k h l = grind (arith, nat_tests)

-- The result of parsing a number into the given number of bits.
pub numeral_parsed : {E : Type 0} (bits : ℕ) (word : List ℕ) (r : Result ℕ E) → is_numeral word ≡ true → ParsesUnsigned bits 10 word r → result_ok r ≡ cond (nat_lt (digits_value 10 word) (2 ^ bits)) (Some (digits_value 10 word)) None
numeral_parsed bits word r h p =
    let digits : list_all is_ascii_digit word ≡ true = first_true _ _ _ h in
    let some : nat_lt 0 (length word) ≡ true = second_true (list_all is_ascii_digit word) (nat_lt 0 (length word)) _ h in
    let some_bytes : 0 < length word = search (rules, nat_tests) in
    within r (length word) (digits_value 10 word) (2 ^ bits) (parse_digits numerals bits word r p digits) some_bytes

-- The same for 32 bits.
pub number_parsed : {E : Type 0} (word : List ℕ) (r : Result ℕ E) → is_numeral word ≡ true → ParsesUnsigned 32 10 word r → result_ok r ≡ number_of word
number_parsed word r h p = numeral_parsed 32 word r h p ∙ rw h

-- A number is valid UTF-8.
pub numeral_is_text : (word : List ℕ) → is_numeral word ≡ true → IsUtf8 word
numeral_is_text word h = IsUtf8-from_ascii word (IsAscii-from_digits word (numerals.to word (first_true _ _ _ h)))

-- ---- Printed numbers

all_true : (a b c : Bool) → a ≡ true → b ≡ true → c ≡ true → (a && b && c) ≡ true
all_true true true true x y z = refl
all_true true true false x y z = z
all_true true false c x y z = cc
all_true false b c x y z = cc

not_leading_zero : (n : ℕ) → n < 2 ^ 64 → (nat_lt (length (decimal n)) 2 || not (eqb (slice_index (decimal n) 0) 48)) ≡ true
not_leading_zero zero h = rw (decimal_digit 0 (omega arith)) refl
not_leading_zero (suc m) h = let first : 48 < get_or (decimal (suc m)) 0 0 = first_decimal (suc m) (omega arith) h in grind (arith, nat_tests)

pub digits_printed : (n : ℕ) → n < 2 ^ 64 → list_all is_ascii_digit (decimal n) ≡ true
digits_printed n h = digits_decimal numerals n h

numeral_printed : (n : ℕ) → n < 2 ^ 64 → is_numeral (decimal n) ≡ true
numeral_printed n h =
    let some : 0 < length (decimal n) = decimal_nonempty n h in
    all_true (list_all is_ascii_digit (decimal n)) (nat_lt 0 (length (decimal n))) _
    (digits_printed n h) (grind (arith, nat_tests)) (not_leading_zero n h)

fits : (n : ℕ) → n < 2 ^ 32 → fitting n ≡ Some n
fits n h = let e : nat_lt n (2 ^ 32) ≡ true = grind (arith, nat_tests) in rw e refl

-- A printed number is read as the number.
pub number_again : (n : ℕ) → n < 2 ^ 32 → number_of (decimal n) ≡ Some n
number_again n h =
    let wide : n < 2 ^ 64 = omega arith in
    ap (λ (b : Bool). cond b (fitting (digits_value 10 (decimal n))) None) (numeral_printed n wide)
    ∙ ap fitting (digits_value-decimal numerals n wide) ∙ fits n h

pub fitting_is : (n i : ℕ) → fitting n ≡ Some i → (n ≡ i) × (i < 2 ^ 32)
fitting_is n i h = by (nat_lt n (2 ^ 32)) refl h
  where
    by : (b : Bool) → nat_lt n (2 ^ 32) ≡ b → cond b (Some n) None ≡ Some i → (n ≡ i) × (i < 2 ^ 32)
    by true e k = let same : n ≡ i = cc in (same, grind (arith, nat_tests))
    by false e k = absurd (cc)

-- A number that is read fits into 32 bits.
pub number_below : (word : List ℕ) (i : ℕ) → number_of word ≡ Some i → i < 2 ^ 32
number_below word i h = by (is_numeral word) h
  where
    by : (b : Bool) → cond b (fitting (digits_value 10 word)) None ≡ Some i → i < 2 ^ 32
    by true k = (fitting_is (digits_value 10 word) i k).1
    by false k = absurd (cc)
