-- The least and the greatest of some moments.
use Rattle.std.proofs.Common.{◌≡◌, ℕ, zero, suc, ◌<◌, ◌≤◌, inl, inr, min, max, List, [], ◌∷◌, ◌++◌, length, get_or, Bool, true, false, cond, nat_lt, refl, sym, ap, ◌∙◌, arith}
use Rattle.std.specs.Prelude.{Option, Some, None, Contains, filter, slice_get, IfSome}
use Rattle.std.specs.List.{AllByRecursion}
use Rattle.std.specs.Option.{option_map_or, option_to_list}
use Rattle.std.proofs.lemmas.Bool.{cases_lt, lt-ltb, le-ltb, ltb-true}
use Rattle.std.proofs.lemmas.Bool.Decides.{nat_tests}
use Rattle.std.proofs.lemmas.List.Elements.{All-from_recursion, recursion_from_All, All-filter, All-contains, All-contains_itself, All-get_or, All-weaker, Contains-append_right, filter-append, filter_passes}
use Rattle.std.proofs.lemmas.Option.{slice_get-get_or}
use Rattle.stops.specs.Nearest.{least, greatest, least_above, greatest_below, IsLeastAbove, IsGreatestBelow}
use Rattle.stops.specs.Landings.{sooner, later}
use Rattle.stops.proofs.Sorting.{Rises, further}

-- ---- Bounds

least_from : (m n : ℕ) (ns : List ℕ) → AllByRecursion (λ k. m ≤ k) (n ∷ ns) → m ≤ option_map_or (min n) (least ns) n
least_from m n [] h = h.0
least_from m n (p ∷ ps) h = let r = least_from m p ps h.1 in let s : m ≤ n = h.0 in omega arith

-- The first of ascending moments is the least.
pub least_first : (m : ℕ) (ms : List ℕ) → AllByRecursion (λ k. m ≤ k) ms → least (m ∷ ms) ≡ Some m
least_first m [] h = refl
least_first m (n ∷ ns) h =
    let r = least_from m n ns h in
    let e : min m (option_map_or (min n) (least ns) n) ≡ m = omega arith in
    ap Some e

least_low : (ms : List ℕ) (m : ℕ) → least ms ≡ Some m → AllByRecursion (λ k. m ≤ k) ms
least_low [] m h = tt
least_low (n ∷ []) m h = (let e : n ≡ m = cc in omega arith, tt)
least_low (n ∷ p ∷ ps) m h =
    let l : ℕ = option_map_or (min p) (least ps) p in
    let e : min n l ≡ m = cc in
    (omega arith, further m l (p ∷ ps) (omega arith) (least_low (p ∷ ps) l refl))

greatest_high : (ms : List ℕ) (m : ℕ) → greatest ms ≡ Some m → AllByRecursion (λ k. k ≤ m) ms
greatest_high [] m h = tt
greatest_high (n ∷ []) m h = (let e : n ≡ m = cc in omega arith, tt)
greatest_high (n ∷ p ∷ ps) m h =
    let l : ℕ = option_map_or (max p) (greatest ps) p in
    let e : max n l ≡ m = cc in
    (omega arith, nearer m l (p ∷ ps) (omega arith) (greatest_high (p ∷ ps) l refl))
  where
    nearer : (x y : ℕ) (ns : List ℕ) → y ≤ x → AllByRecursion (λ k. k ≤ y) ns → AllByRecursion (λ k. k ≤ x) ns
    nearer x y [] a h = tt
    nearer x y (n ∷ ns) a h = (let b : n ≤ y = h.0 in omega arith, nearer x y ns a h.1)

-- ---- Members

least_in : (ms : List ℕ) (m : ℕ) → least ms ≡ Some m → Contains ms m
least_in [] m h = cc
least_in (n ∷ []) m h = (0, omega arith, cc)
least_in (n ∷ p ∷ ps) m h =
    let l : ℕ = option_map_or (min p) (least ps) p in
    let e : min n l ≡ m = cc in
    elim (cases_lt n l) as (λ _. Contains (n ∷ p ∷ ps) m) [
      | inl c ↦ (0, omega arith, (let f : n ≡ m = omega arith in f))
      | inr c ↦ Contains-append_right (n ∷ []) (p ∷ ps) m (least_in (p ∷ ps) m (let f : l ≡ m = omega arith in ap Some f))
    ]

greatest_in : (ms : List ℕ) (m : ℕ) → greatest ms ≡ Some m → Contains ms m
greatest_in [] m h = cc
greatest_in (n ∷ []) m h = (0, omega arith, cc)
greatest_in (n ∷ p ∷ ps) m h =
    let l : ℕ = option_map_or (max p) (greatest ps) p in
    let e : max n l ≡ m = cc in
    elim (cases_lt l n) as (λ _. Contains (n ∷ p ∷ ps) m) [
      | inl c ↦ (0, omega arith, (let f : n ≡ m = omega arith in f))
      | inr c ↦ Contains-append_right (n ∷ []) (p ∷ ps) m (greatest_in (p ∷ ps) m (let f : l ≡ m = omega arith in ap Some f))
    ]

of_filter : (q : ℕ → Bool) (ms : List ℕ) (m : ℕ) → Contains (filter q ms) m → Contains ms m × (q m ≡ true)
of_filter q ms m h = (
  All-contains (Contains ms) (filter q ms) m (All-filter q (Contains ms) ms (All-contains_itself ms)) h,
  All-contains (λ x. q x ≡ true) (filter q ms) m (filter_passes q ms) h,
)

-- ---- The meaning of `least_above` and `greatest_below`

none_above : (at : ℕ) (ms : List ℕ) → least (filter (nat_lt at) ms) ≡ None → AllByRecursion (λ k. k ≤ at) ms
none_above at [] h = tt
none_above at (m ∷ ms) h = by (nat_lt at m) refl h (λ k. none_above at ms k)
  where
    by : (b : Bool) → nat_lt at m ≡ b → least (cond b (m ∷ filter (nat_lt at) ms) (filter (nat_lt at) ms)) ≡ None → (least (filter (nat_lt at) ms) ≡ None → AllByRecursion (λ k. k ≤ at) ms) → (m ≤ at) × AllByRecursion (λ k. k ≤ at) ms
    by true e k r = cc
    by false e k r = (grind (arith, nat_tests), r k)

none_below : (at : ℕ) (ms : List ℕ) → greatest (filter (λ m. nat_lt m at) ms) ≡ None → AllByRecursion (λ k. at ≤ k) ms
none_below at [] h = tt
none_below at (m ∷ ms) h = by (nat_lt m at) refl h (λ k. none_below at ms k)
  where
    by : (b : Bool) → nat_lt m at ≡ b → greatest (cond b (m ∷ filter (λ m. nat_lt m at) ms) (filter (λ m. nat_lt m at) ms)) ≡ None → (greatest (filter (λ m. nat_lt m at) ms) ≡ None → AllByRecursion (λ k. at ≤ k) ms) → (at ≤ m) × AllByRecursion (λ k. at ≤ k) ms
    by true e k r = cc
    by false e k r = (grind (arith, nat_tests), r k)

-- What holds of each that passes, holds of each if it passes.
if_passes : (q : ℕ → Bool) (P : ℕ → Type 0) (ms : List ℕ) → AllByRecursion P (filter q ms) → AllByRecursion (λ k. q k ≡ true → P k) ms
if_passes q P [] h = tt
if_passes q P (m ∷ ms) h = by (q m) refl h (λ k. if_passes q P ms k)
  where
    by : (b : Bool) → q m ≡ b → AllByRecursion P (cond b (m ∷ filter q ms) (filter q ms)) → (AllByRecursion P (filter q ms) → AllByRecursion (λ k. q k ≡ true → P k) ms) → (q m ≡ true → P m) × AllByRecursion (λ k. q k ≡ true → P k) ms
    by true e k r = (λ _. k.0, r k.1)
    by false e k r = (λ f. absurd (cc), r k)

pub means_above : (ms : List ℕ) (at : ℕ) (o : Option ℕ) → o ≡ least_above ms at → IsLeastAbove ms at o
unfolding least_above
means_above ms at None h = All-from_recursion (λ k. k ≤ at) ms (none_above at ms (sym h))
means_above ms at (Some m) h =
    let there = of_filter (nat_lt at) ms m (least_in (filter (nat_lt at) ms) m (sym h)) in (
      there.0,
      ltb-true at m there.1,
      All-weaker (λ k. nat_lt at k ≡ true → m ≤ k) (λ k. at < k → m ≤ k) (λ k f a. f (lt-ltb at k a)) ms
          (All-from_recursion (λ k. nat_lt at k ≡ true → m ≤ k) ms (if_passes (nat_lt at) (λ k. m ≤ k) ms (least_low (filter (nat_lt at) ms) m (sym h)))),
    )

pub means_below : (ms : List ℕ) (at : ℕ) (o : Option ℕ) → o ≡ greatest_below ms at → IsGreatestBelow ms at o
unfolding greatest_below
means_below ms at None h = All-from_recursion (λ k. at ≤ k) ms (none_below at ms (sym h))
means_below ms at (Some m) h =
    let there = of_filter (λ k. nat_lt k at) ms m (greatest_in (filter (λ k. nat_lt k at) ms) m (sym h)) in (
      there.0,
      ltb-true m at there.1,
      All-weaker (λ k. nat_lt k at ≡ true → k ≤ m) (λ k. k < at → k ≤ m) (λ k f a. f (lt-ltb k at a)) ms
          (All-from_recursion (λ k. nat_lt k at ≡ true → k ≤ m) ms (if_passes (λ k. nat_lt k at) (λ k. k ≤ m) ms (greatest_high (filter (λ k. nat_lt k at) ms) m (sym h)))),
    )

-- ---- The partition point of ascending moments

kept : (q : ℕ → Bool) (x : ℕ) (ms : List ℕ) → AllByRecursion (λ k. x ≤ k) ms → AllByRecursion (λ k. x ≤ k) (filter q ms)
kept q x ms h = recursion_from_All (λ k. x ≤ k) (filter q ms) (All-filter q (λ k. x ≤ k) ms (All-from_recursion (λ k. x ≤ k) ms h))

pub first_above : (ms : List ℕ) (at i : ℕ) → Rises ms → ((k d : ℕ) → k < i → get_or ms k d ≤ at) → ((k d : ℕ) → i ≤ k → k < length ms → at < get_or ms k d) → slice_get ms i ≡ least_above ms at
unfolding least_above
first_above [] at i r a b = refl
first_above (m ∷ ms) at zero r a b = rw (lt-ltb at m (b 0 0 (omega arith) (omega arith))) (sym (least_first m (filter (nat_lt at) ms) (kept (nat_lt at) m ms r.0)))
first_above (m ∷ ms) at (suc i) r a b =
    rw (le-ltb at m (a 0 0 (omega arith)))
    (first_above ms at i r.1 (λ k d x. a (suc k) d (omega arith)) (λ k d x y. b (suc k) d (omega arith) (omega arith)))

none_pass : (at : ℕ) (ms : List ℕ) → ((k d : ℕ) → k < length ms → at ≤ get_or ms k d) → filter (λ m. nat_lt m at) ms ≡ []
none_pass at [] b = refl
none_pass at (m ∷ ms) b = rw (le-ltb m at (b 0 0 (omega arith))) (none_pass at ms (λ k d x. b (suc k) d (omega arith)))

pub none_lower : (ms : List ℕ) (at : ℕ) → ((k d : ℕ) → k < length ms → at ≤ get_or ms k d) → None ≡ greatest_below ms at
unfolding greatest_below
none_lower ms at b = rw (none_pass at ms b) refl

pub last_below : (ms : List ℕ) (at i : ℕ) → Rises ms → i < length ms → ((k d : ℕ) → k ≤ i → get_or ms k d < at) → ((k d : ℕ) → i < k → k < length ms → at ≤ get_or ms k d) → slice_get ms i ≡ greatest_below ms at
unfolding greatest_below
last_below [] at i r l a b = absurd (omega arith)
last_below (m ∷ ms) at zero r l a b =
    rw (lt-ltb m at (a 0 0 (omega arith)), none_pass at ms (λ k d x. b (suc k) d (omega arith) (omega arith))) refl
last_below (m ∷ ms) at (suc i) r l a b =
    let e = last_below ms at i r.1 (omega arith) (λ k d x. a (suc k) d (omega arith)) (λ k d x y. b (suc k) d (omega arith) (omega arith)) in
    let there = slice_get-get_or ms i 0 (omega arith) in
    let low : m ≤ get_or ms i 0 = All-get_or (λ k. m ≤ k) ms i 0 (omega arith) (All-from_recursion (λ k. m ≤ k) ms r.0) in
    let f : greatest (filter (λ k. nat_lt k at) ms) ≡ Some (get_or ms i 0) = sym e ∙ there in
    let g : get_or ms i 0 ≡ max m (get_or ms i 0) = omega arith in
    rw (lt-ltb m at (a 0 0 (omega arith)), f) (there ∙ ap Some g)

-- ---- Several lists

min_first : (x : ℕ) (a b : Option ℕ) → Some (option_map_or (min x) (sooner a b) x) ≡ sooner (Some (option_map_or (min x) a x)) b
min_first x None None = refl
min_first x None (Some n) = refl
min_first x (Some m) None = refl
min_first x (Some m) (Some n) = let e : min x (min m n) ≡ min (min x m) n = omega arith in ap Some e

least-append : (ms ns : List ℕ) → least (ms ++ ns) ≡ sooner (least ms) (least ns)
least-append [] ns = refl
least-append (m ∷ ms) ns = ap (λ o. Some (option_map_or (min m) o m)) (least-append ms ns) ∙ min_first m (least ms) (least ns)

max_first : (x : ℕ) (a b : Option ℕ) → Some (option_map_or (max x) (later a b) x) ≡ later (Some (option_map_or (max x) a x)) b
max_first x None None = refl
max_first x None (Some n) = refl
max_first x (Some m) None = refl
max_first x (Some m) (Some n) = let e : max x (max m n) ≡ max (max x m) n = omega arith in ap Some e

greatest-append : (ms ns : List ℕ) → greatest (ms ++ ns) ≡ later (greatest ms) (greatest ns)
greatest-append [] ns = refl
greatest-append (m ∷ ms) ns = ap (λ o. Some (option_map_or (max m) o m)) (greatest-append ms ns) ∙ max_first m (greatest ms) (greatest ns)

lone_above : (at : ℕ) (o : Option ℕ) → IfSome o (λ m. at < m) → least (filter (nat_lt at) (option_to_list o)) ≡ o
lone_above at None h = refl
lone_above at (Some m) h = rw (lt-ltb at m h) refl

lone_below : (at : ℕ) (o : Option ℕ) → IfSome o (λ m. m < at) → greatest (filter (λ m. nat_lt m at) (option_to_list o)) ≡ o
lone_below at None h = refl
lone_below at (Some m) h = rw (lt-ltb m at h) refl

-- The least above a position in two lists and, if there is one, a moment above it.
pub least_of_all : (ms ns : List ℕ) (o : Option ℕ) (at : ℕ) → IfSome o (λ m. at < m) → sooner (least_above ms at) (sooner (least_above ns at) o) ≡ least_above (ms ++ (ns ++ option_to_list o)) at
unfolding least_above
least_of_all ms ns o at h =
    let q : ℕ → Bool = nat_lt at in
    sym (ap least (filter-append q ms (ns ++ option_to_list o) ∙ ap (λ l. filter q ms ++ l) (filter-append q ns (option_to_list o)))
    ∙ least-append (filter q ms) (filter q ns ++ filter q (option_to_list o))
    ∙ ap (sooner (least (filter q ms))) (least-append (filter q ns) (filter q (option_to_list o)) ∙ ap (sooner (least (filter q ns))) (lone_above at o h)))

pub greatest_of_all : (ms ns : List ℕ) (o : Option ℕ) (at : ℕ) → IfSome o (λ m. m < at) → later (greatest_below ms at) (later (greatest_below ns at) o) ≡ greatest_below (ms ++ (ns ++ option_to_list o)) at
unfolding greatest_below
greatest_of_all ms ns o at h =
    let q : ℕ → Bool = λ m. nat_lt m at in
    sym (ap greatest (filter-append q ms (ns ++ option_to_list o) ∙ ap (λ l. filter q ms ++ l) (filter-append q ns (option_to_list o)))
    ∙ greatest-append (filter q ms) (filter q ns ++ filter q (option_to_list o))
    ∙ ap (later (greatest (filter q ms))) (greatest-append (filter q ns) (filter q (option_to_list o)) ∙ ap (later (greatest (filter q ns))) (lone_below at o h)))
