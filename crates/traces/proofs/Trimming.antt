-- Setups with rounded sizes and trimmed memory.
use Rattle.std.proofs.Common.{◌≡◌, ℕ, zero, suc, ◌+◌, ◌-◌, ◌*◌, ◌<◌, ◌≤◌, Bool, true, false, cond, eqb, ltb, List, [], ◌∷◌, ◌++◌, length, take, get_or, Option, Some, None, refl, sym, ap, subst, ◌∙◌, arith}
use Rattle.std.specs.Prelude.{nat_le, ◌==◌, ◌&&◌, ◌||◌, not, slice_index}
use Rattle.std.specs.List.{list_all}
use Rattle.std.proofs.lemmas.Bool.{and_parts, and_from, eqb-true, leb-true, le-leb, le-ltb}
use Rattle.std.proofs.lemmas.Bool.Decides.{nat_tests}
use Rattle.std.proofs.Math.ListN.{replicate}
use Rattle.std.proofs.lemmas.List.{append_assoc, take_more}
use Rattle.ring_words.specs.Rings.{rounded, first_not_below}
use Rattle.scenario.specs.declared.setup.Setup.{Setup}
use Rattle.traces.specs.Limits.{is_within, is_size, all_with_prefix, keeps_object, keeps_descriptor, keeps_program, keeps_completions, keeps_rings, keeps_objects, keeps_threads, keeps_ranges, Widths}
use Rattle.traces.specs.Setups.{cons_trimmed, trimmed, is_trimmed, completion_size, canonical, IsCanonical}
use Rattle.traces.proofs.ObjectLaws.{within_most}
use Rattle.traces.proofs.SetupLaws.{size_rounded, size_most, size_within, Spelled}

-- ---- memory

pub trimmed_zero : (xs : List ℕ) → trimmed (xs ++ 0 ∷ []) ≡ trimmed xs
trimmed_zero [] = refl
trimmed_zero (x ∷ xs) = ap (cons_trimmed x) (trimmed_zero xs)

cut_front : (x b : ℕ) (xs : List ℕ) → cons_trimmed x (xs ++ b ∷ []) ≡ x ∷ (xs ++ b ∷ [])
cut_front x b [] = refl
cut_front x b (y ∷ ys) = refl

pub trimmed_last : (xs : List ℕ) (b : ℕ) → eqb b 0 ≡ false → trimmed (xs ++ b ∷ []) ≡ xs ++ b ∷ []
trimmed_last [] b some = rw some refl
trimmed_last (x ∷ xs) b some = ap (cons_trimmed x) (trimmed_last xs b some) ∙ cut_front x b xs

-- one byte less, if it is 0
pub trimmed_less : (bytes : List ℕ) (n : ℕ) → suc n ≤ length bytes → get_or bytes n 0 ≡ 0 → trimmed (take (suc n) bytes) ≡ trimmed bytes → trimmed (take n bytes) ≡ trimmed bytes
trimmed_less bytes n le none h =
    let more : take (n + 1) bytes ≡ take n bytes ++ get_or bytes n 0 ∷ [] = take_more bytes n 0 (omega arith) in
    let k : n + 1 ≡ suc n = omega arith in
    let same : take (suc n) bytes ≡ take n bytes ++ 0 ∷ [] = ap (λ (m : ℕ). take m bytes) (sym k) ∙ more ∙ ap (λ (b : ℕ). take n bytes ++ b ∷ []) none in
    sym (trimmed_zero (take n bytes)) ∙ ap trimmed (sym same) ∙ h

pub trimmed_stays : (bytes : List ℕ) (n : ℕ) → suc n ≤ length bytes → eqb (get_or bytes n 0) 0 ≡ false → trimmed (take (suc n) bytes) ≡ take (suc n) bytes
trimmed_stays bytes n le some =
    let more : take (n + 1) bytes ≡ take n bytes ++ get_or bytes n 0 ∷ [] = take_more bytes n 0 (omega arith) in
    let k : n + 1 ≡ suc n = omega arith in
    let same : take (suc n) bytes ≡ take n bytes ++ get_or bytes n 0 ∷ [] = ap (λ (m : ℕ). take m bytes) (sym k) ∙ more in
    ap trimmed same ∙ trimmed_last (take n bytes) (get_or bytes n 0) some ∙ sym same

-- one step of a count of bytes from the end
pub stepped : (bytes : List ℕ) (len : ℕ) → 0 < len → len ≤ length bytes → slice_index bytes (len - 1) ≡ 0 → trimmed (take len bytes) ≡ trimmed bytes
    → (len - 1 ≤ length bytes) × (trimmed (take (len - 1) bytes) ≡ trimmed bytes)
stepped bytes zero lt le none h = absurd (omega arith)
stepped bytes (suc n) lt le none h =
    let k : suc n - 1 ≡ n = omega arith in
    let last : get_or bytes n 0 ≡ 0 = subst (λ (m : ℕ). slice_index bytes m ≡ 0) k none in
    let less = trimmed_less bytes n le last h in
    (omega arith, subst (λ (m : ℕ). trimmed (take m bytes) ≡ trimmed bytes) (sym k) less)

-- its end
pub stopped : (bytes : List ℕ) (len : ℕ) → 0 < len → len ≤ length bytes → eqb (slice_index bytes (len - 1)) 0 ≡ false → trimmed (take len bytes) ≡ trimmed bytes
    → take len bytes ≡ trimmed bytes
stopped bytes zero lt le some h = absurd (omega arith)
stopped bytes (suc n) lt le some h =
    let k : suc n - 1 ≡ n = omega arith in
    let last : eqb (get_or bytes n 0) 0 ≡ false = subst (λ (m : ℕ). eqb (slice_index bytes m) 0 ≡ false) k some in
    sym (trimmed_stays bytes n le last) ∙ h

cut_none : (b : ℕ) (z : Bool) → length (cond z [] (b ∷ [])) ≤ 1
cut_none b true = omega arith
cut_none b false = omega arith

cut_length : (b : ℕ) (t : List ℕ) → length (cons_trimmed b t) ≤ suc (length t)
cut_length b [] = cut_none b (eqb b 0)
cut_length b (c ∷ cs) = omega arith

trimmed_length : (xs : List ℕ) → length (trimmed xs) ≤ length xs
trimmed_length [] = omega arith
trimmed_length (x ∷ xs) = omega (arith, cut_length x (trimmed xs), trimmed_length xs)

is_trimmed-more : (b c : ℕ) (cs : List ℕ) → is_trimmed (b ∷ c ∷ cs) ≡ is_trimmed (c ∷ cs)
is_trimmed-more b c cs =
    let index : length (b ∷ c ∷ cs) - 1 ≡ suc (length (c ∷ cs) - 1) = omega arith in
    let long : eqb (length (b ∷ c ∷ cs)) 0 ≡ false = grind (arith, nat_tests) in
    let also : eqb (length (c ∷ cs)) 0 ≡ false = grind (arith, nat_tests) in
    let last : slice_index (b ∷ c ∷ cs) (length (b ∷ c ∷ cs) - 1) ≡ slice_index (c ∷ cs) (length (c ∷ cs) - 1) = ap (slice_index (b ∷ c ∷ cs)) index in
    ap (λ (z : Bool). z || not (slice_index (b ∷ c ∷ cs) (length (b ∷ c ∷ cs) - 1) == 0)) long
    ∙ ap (λ (n : ℕ). not (n == 0)) last
    ∙ sym (ap (λ (z : Bool). z || not (slice_index (c ∷ cs) (length (c ∷ cs) - 1) == 0)) also)

one_trimmed : (b : ℕ) (z : Bool) → eqb b 0 ≡ z → is_trimmed (cond z [] (b ∷ [])) ≡ true
one_trimmed b true e = refl
one_trimmed b false e = ap not e

cut_trimmed : (b : ℕ) (t : List ℕ) → is_trimmed t ≡ true → is_trimmed (cons_trimmed b t) ≡ true
cut_trimmed b [] h = one_trimmed b (eqb b 0) refl
cut_trimmed b (c ∷ cs) h = is_trimmed-more b c cs ∙ h

pub trimmed_is : (xs : List ℕ) → is_trimmed (trimmed xs) ≡ true
trimmed_is [] = refl
trimmed_is (x ∷ xs) = cut_trimmed x (trimmed xs) (trimmed_is xs)

-- Bytes are others, with zeros after them.
pub record ZerosAfter (bytes front : List ℕ) : Type 0 where
  pub count : ℕ
  pub are : bytes ≡ front ++ replicate count 0

-- all that is cut off is zeros
pub only_zeros : (bytes : List ℕ) → ZerosAfter bytes (trimmed bytes)
only_zeros [] = record { count = 0; are = refl }
only_zeros (b ∷ bs) = by (trimmed bs) (only_zeros bs)
  where
    one : (z : Bool) → eqb b 0 ≡ z → (k : ℕ) → bs ≡ replicate k 0 → ZerosAfter (b ∷ bs) (cond z [] (b ∷ []))
    one true e k h = let zero_byte : b ≡ 0 = eqb-true b 0 e in record { count = suc k; are = ap (λ (x : ℕ). x ∷ bs) zero_byte ∙ ap (λ (xs : List ℕ). 0 ∷ xs) h }
    one false e k h = record { count = k; are = ap (λ (xs : List ℕ). b ∷ xs) h }

    by : (t : List ℕ) → ZerosAfter bs t → ZerosAfter (b ∷ bs) (cons_trimmed b t)
    by [] z = one (eqb b 0) refl z.count z.are
    by (c ∷ cs) z = record { count = z.count; are = ap (λ (xs : List ℕ). b ∷ xs) z.are }

-- ---- sizes

last_of : ℕ → List ℕ → ℕ
last_of x [] = x
last_of x (y ∷ ys) = last_of y ys

picked : (p : ℕ → Bool) (b : Bool) (x rest : ℕ) → p x ≡ true → (b ≡ true → p rest ≡ true) → p (cond b rest x) ≡ true
picked p true x rest here there = there refl
picked p false x rest here there = here

chosen : (p : ℕ → Bool) (n x : ℕ) (xs ys : List ℕ) → list_all p (x ∷ xs) ≡ true → n ≤ last_of x xs → p (first_not_below n (x ∷ (xs ++ ys))) ≡ true
unfolding last_of
chosen p n x [] ys all le =
    let not_below : ltb x n ≡ false = le-ltb _ _ le in
    rw not_below (and_parts (p x) (list_all p []) all).0
chosen p n x (y ∷ ys) more all le =
    let parts = and_parts (p x) (list_all p (y ∷ ys)) all in
    picked p (ltb x n) x (first_not_below n (y ∷ (ys ++ more))) parts.0 (λ h. chosen p n y ys more parts.1 le)

-- what each size of a submission ring is
abbrev is_entries : ℕ → Bool
is_entries v = is_size 4096 v && is_size 8192 (2 * v)

abbrev small_sizes : List ℕ
small_sizes = 2 ∷ 4 ∷ 8 ∷ 16 ∷ 32 ∷ 64 ∷ 128 ∷ 256 ∷ 512 ∷ 1024 ∷ 2048 ∷ 4096 ∷ []

entries_sizes : list_all is_entries (1 ∷ small_sizes) ≡ true
unfolding rounded
entries_sizes = refl

all_sizes : list_all (is_size 8192) (1 ∷ (small_sizes ++ 8192 ∷ [])) ≡ true
unfolding rounded
all_sizes = refl

small_last : last_of 1 small_sizes ≡ 4096
unfolding last_of
small_last = refl

all_last : last_of 1 (small_sizes ++ 8192 ∷ []) ≡ 8192
unfolding last_of
all_last = refl

entries_rounded : (n : ℕ) → n ≤ 4096 → is_entries (rounded n) ≡ true
unfolding rounded
entries_rounded n le = chosen is_entries n 1 small_sizes (8192 ∷ []) entries_sizes (omega (arith, small_last))

size_rounded_up : (n : ℕ) → n ≤ 8192 → is_size 8192 (rounded n) ≡ true
unfolding rounded
size_rounded_up n le = chosen (is_size 8192) n 1 (small_sizes ++ 8192 ∷ []) [] all_sizes (omega (arith, all_last))

completion_is : (entries : ℕ) (cq : Option ℕ) → is_within 1 4096 entries ≡ true → keeps_completions entries cq ≡ true
    → is_size 8192 (completion_size entries cq) ≡ true
completion_is entries None e h = (and_parts (is_size 4096 (rounded entries)) (is_size 8192 (2 * rounded entries)) (entries_rounded entries (within_most 1 4096 entries e))).1
completion_is entries (Some cq) e h = size_rounded_up cq (within_most 1 8192 cq (and_parts (is_within 1 8192 cq) (nat_le (rounded entries) (rounded cq)) h).0)

-- a size that is rounded stays as it is
pub entries_again : (n : ℕ) → is_within 1 4096 n ≡ true → rounded (rounded n) ≡ rounded n
entries_again n h = size_rounded 4096 (rounded n) (and_parts (is_size 4096 (rounded n)) (is_size 8192 (2 * rounded n)) (entries_rounded n (within_most 1 4096 n h))).0

pub completion_again : (n : ℕ) → n ≤ 8192 → rounded (rounded n) ≡ rounded n
completion_again n le = size_rounded 8192 (rounded n) (size_rounded_up n le)

-- what a size takes of its width
pub entries_most : (n : ℕ) → is_within 1 4096 n ≡ true → rounded n ≤ 4096
entries_most n h = size_most 4096 (rounded n) (and_parts (is_size 4096 (rounded n)) (is_size 8192 (2 * rounded n)) (entries_rounded n (within_most 1 4096 n h))).0

pub completion_most : (entries : ℕ) (cq : Option ℕ) → is_within 1 4096 entries ≡ true → keeps_completions entries cq ≡ true → completion_size entries cq ≤ 8192
completion_most entries cq e h = size_most 8192 (completion_size entries cq) (completion_is entries cq e h)

pub rings_kept : (s : Setup) → keeps_rings s ≡ true → (is_within 1 4096 s.entries ≡ true) × (keeps_completions s.entries s.cq ≡ true)
rings_kept s h = and_parts (is_within 1 4096 s.entries) (keeps_completions s.entries s.cq) h

completion_above : (entries : ℕ) (cq : Option ℕ) → keeps_completions entries cq ≡ true → rounded entries ≤ completion_size entries cq
completion_above entries None h = omega arith
completion_above entries (Some cq) h = leb-true _ _ (and_parts (is_within 1 8192 cq) (nat_le (rounded entries) (rounded cq)) h).1

-- ---- setups

-- a setup with rounded sizes and trimmed memory keeps its ranges
pub canonical_kept : (s : Setup) → keeps_ranges s ≡ true → IsCanonical (canonical s) × (keeps_ranges (canonical s) ≡ true)
unfolding keeps_ranges
canonical_kept s ranges =
    let q = and_parts (keeps_rings s && keeps_objects s) (keeps_threads s) ranges in
    let r = and_parts (keeps_rings s) (keeps_objects s) q.0 in
    let rings = and_parts (is_within 1 4096 s.entries) (keeps_completions s.entries s.cq) r.0 in
    let entries = rounded s.entries in
    let completions = completion_size s.entries s.cq in
    let size : is_size 4096 entries ≡ true = (and_parts (is_size 4096 entries) (is_size 8192 (2 * entries)) (entries_rounded s.entries (within_most 1 4096 s.entries rings.0))).0 in
    let other : is_size 8192 completions ≡ true = completion_is s.entries s.cq rings.0 rings.1 in
    let same : rounded entries ≡ entries = size_rounded 4096 entries size in
    let also : rounded completions ≡ completions = size_rounded 8192 completions other in
    let above : entries ≤ completions = completion_above s.entries s.cq rings.1 in
    let order : nat_le (rounded entries) (rounded completions) ≡ true =
    ap (λ (n : ℕ). nat_le n (rounded completions)) same ∙ ap (λ (n : ℕ). nat_le entries n) also ∙ le-leb _ _ above in
    let new_rings = and_from (is_within 1 4096 entries) (is_within 1 8192 completions && nat_le (rounded entries) (rounded completions)) (size_within 4096 entries size)
    (and_from (is_within 1 8192 completions) (nat_le (rounded entries) (rounded completions)) (size_within 8192 completions other) order) in
    let o5 = and_parts (nat_le (length s.memory) 65536 && nat_le (length s.objects) 32 && all_with_prefix keeps_object [] s.objects && nat_le (length s.fds) 64) (list_all (keeps_descriptor s.objects) s.fds) r.1 in
    let o4 = and_parts (nat_le (length s.memory) 65536 && nat_le (length s.objects) 32 && all_with_prefix keeps_object [] s.objects) (nat_le (length s.fds) 64) o5.0 in
    let o3 = and_parts (nat_le (length s.memory) 65536 && nat_le (length s.objects) 32) (all_with_prefix keeps_object [] s.objects) o4.0 in
    let o2 = and_parts (nat_le (length s.memory) 65536) (nat_le (length s.objects) 32) o3.0 in
    let long : length s.memory ≤ 65536 = leb-true _ _ o2.0 in
    let memory : nat_le (length (trimmed s.memory)) 65536 ≡ true = le-leb _ _ (omega (arith, trimmed_length s.memory)) in
    let things = and_from _ _ (and_from _ _ (and_from _ _ (and_from _ _ memory o2.1) o3.1) o4.1) o5.1 in
    let th = and_parts (nat_le (length s.threads) 16) (list_all (keeps_program (rounded s.entries)) s.threads) q.1 in
    let programs : list_all (keeps_program (rounded entries)) s.threads ≡ true = subst (λ (n : ℕ). list_all (keeps_program n) s.threads ≡ true) (sym same) th.1 in
    (record { entries = size; completions = (completions, refl, other); memory = trimmed_is s.memory }, and_from _ _ (and_from _ _ new_rings things) (and_from _ _ th.0 programs))

pub canonical_spelled : (s : Setup) → keeps_ranges s ≡ true → Widths s → Spelled (canonical s)
canonical_spelled s ranges widths =
    let k = canonical_kept s ranges in
    record { canonical = k.0; ranges = k.1; widths = record { base = widths.base; threads = widths.threads } }

-- what is asked of each part of a setup
pub record Required (s : Setup) : Type 0 where
  pub rings : keeps_rings s ≡ true
  pub memory : length s.memory ≤ 65536
  pub few_objects : length s.objects ≤ 32
  pub objects : all_with_prefix keeps_object [] s.objects ≡ true
  pub few_fds : length s.fds ≤ 64
  pub fds : list_all (keeps_descriptor s.objects) s.fds ≡ true
  pub few_threads : length s.threads ≤ 16
  pub threads : list_all (keeps_program (rounded s.entries)) s.threads ≡ true

pub required : (s : Setup) → keeps_ranges s ≡ true → Required s
unfolding keeps_ranges
required s ranges =
    let q = and_parts (keeps_rings s && keeps_objects s) (keeps_threads s) ranges in
    let r = and_parts (keeps_rings s) (keeps_objects s) q.0 in
    let o5 = and_parts (nat_le (length s.memory) 65536 && nat_le (length s.objects) 32 && all_with_prefix keeps_object [] s.objects && nat_le (length s.fds) 64) (list_all (keeps_descriptor s.objects) s.fds) r.1 in
    let o4 = and_parts (nat_le (length s.memory) 65536 && nat_le (length s.objects) 32 && all_with_prefix keeps_object [] s.objects) (nat_le (length s.fds) 64) o5.0 in
    let o3 = and_parts (nat_le (length s.memory) 65536 && nat_le (length s.objects) 32) (all_with_prefix keeps_object [] s.objects) o4.0 in
    let o2 = and_parts (nat_le (length s.memory) 65536) (nat_le (length s.objects) 32) o3.0 in
    let th = and_parts (nat_le (length s.threads) 16) (list_all (keeps_program (rounded s.entries)) s.threads) q.1 in
    record {
      rings = r.0;
      memory = leb-true _ _ o2.0;
      few_objects = leb-true _ _ o2.1;
      objects = o3.1;
      few_fds = leb-true _ _ o4.1;
      fds = o5.1;
      few_threads = leb-true _ _ th.0;
      threads = th.1;
    }

-- Parts that are written one after the other make up the whole.
pub chained : (old r m o f t a b c d new : List ℕ) → a ≡ old ++ r → b ≡ a ++ m → c ≡ b ++ o → d ≡ c ++ f → new ≡ d ++ t
    → new ≡ old ++ (r ++ (m ++ (o ++ (f ++ t))))
chained old r m o f t a b c d new e1 e2 e3 e4 e5 =
    e5 ∙ ap (λ (x : List ℕ). x ++ t) (e4 ∙ ap (λ (x : List ℕ). x ++ f) (e3 ∙ ap (λ (x : List ℕ). x ++ o) (e2 ∙ ap (λ (x : List ℕ). x ++ m) e1)))
    ∙ simp append_assoc
