-- Lists in pages of one size: where an element is, and what changes one.
use Rattle.std.proofs.Common.{◌≡◌, ℕ, zero, suc, refl, sym, ◌∙◌, ap, List, [], ◌∷◌, ◌++◌, length, map, take, drop, set, get_or, ◌+◌, ◌-◌, ◌*◌, ◌/◌, ◌%◌, ◌<◌, ◌≤◌, inl, inr, add-one, arith}
use Rattle.std.specs.Prelude.{Some, option_map, slice_get}
use Rattle.std.proofs.lemmas.List.{get_or_append_left, get_or-append-add, set-append_left, set-append_right, take-append-le, take-take, length-take-le, length-drop, length-append, take_at, length-set, get_or-take, take_all, append_assoc, take_more_set}
use Rattle.std.proofs.Math.Seq.{take-add, take-append-add, take-set-lt}
use Rattle.std.proofs.lemmas.Slice.{drop-append-drop}
use Rattle.std.proofs.Math.Nat.{mul-le-mul_left}
use Rattle.std.proofs.lemmas.Bool.{cases_lt}
use Rattle.std.proofs.lemmas.Option.{slice_get-map, slice_get_read}
use Rattle.shared_pages.specs.Lists.{joined, elements, Extends, IsPaged}

-- Each page has n elements.
abbrev pub Full : {T : Type 0} → ℕ → List (List T) → Type 0
Full {T} n pages = (k : ℕ) (page : List T) → slice_get pages k ≡ Some page → length page ≡ n

pub length-joined : {T : Type 0} (n : ℕ) (pages : List (List T)) → Full n pages → length (joined pages) ≡ n * length pages
length-joined n [] full = omega arith
length-joined n (page ∷ pages) full =
    let own = full 0 page refl in
    let rest = length-joined n pages (λ k p h. full (suc k) p h) in
    let both = length-append page (joined pages) in
    omega (arith, own, rest, both)

-- Element j of page k.
pub get-joined : {T : Type 0} (n : ℕ) (pages : List (List T)) → Full n pages → (k j : ℕ) (page : List T) (d : T) → slice_get pages k ≡ Some page → j < n
    → get_or (joined pages) (n * k + j) d ≡ get_or page j d
get-joined n [] full k j page d there below = absurd cc
get-joined n (first ∷ pages) full zero j page d there below =
    let own = full 0 first refl in
    let same : first ≡ page = cc in
    let at : n * 0 + j ≡ j = omega arith in
    rw (at, ← same) (get_or_append_left first (joined pages) d j (omega (arith, own)))
get-joined n (first ∷ pages) full (suc k) j page d there below =
    let own = full 0 first refl in
    let at : n * suc k + j ≡ length first + (n * k + j) = omega (arith, own) in
    rw at (get_or-append-add first (joined pages) (n * k + j) d ∙ get-joined n pages (λ i p h. full (suc i) p h) k j page d there below)

-- Element j of page k is assigned.
pub set-joined : {T : Type 0} (n : ℕ) (pages : List (List T)) → Full n pages → (k j : ℕ) (page : List T) (x : T) → slice_get pages k ≡ Some page → j < n
    → joined (set pages k (set page j x)) ≡ set (joined pages) (n * k + j) x
set-joined n [] full k j page x there below = absurd cc
set-joined n (first ∷ pages) full zero j page x there below =
    let own = full 0 first refl in
    let same : first ≡ page = cc in
    let at : n * 0 + j ≡ j = omega arith in
    rw (at, ← same) (sym (set-append_left first (joined pages) j x (omega (arith, own))))
set-joined n (first ∷ pages) full (suc k) j page x there below =
    let own = full 0 first refl in
    let at : n * suc k + j ≡ n + (n * k + j) = omega arith in
    let less : n + (n * k + j) - n ≡ n * k + j = omega arith in
    let rest = set-joined n pages (λ i p h. full (suc i) p h) k j page x there below in
    let right = set-append_right first (joined pages) n (n + (n * k + j)) x own (omega arith) in
    rw at (ap (λ xs. first ++ xs) rest ∙ sym (rw less at right))

pub joined-append : {T : Type 0} (xs ys : List (List T)) → joined (xs ++ ys) ≡ joined xs ++ joined ys
joined-append [] ys = refl
joined-append (page ∷ xs) ys = ap (λ zs. page ++ zs) (joined-append xs ys) ∙ sym (append_assoc page (joined xs) (joined ys))

-- The first pages have the first elements.
pub take-joined : {T : Type 0} (n : ℕ) (pages : List (List T)) → Full n pages → (k : ℕ) → joined (take k pages) ≡ take (n * k) (joined pages)
take-joined n [] full zero = sym (take_all (n * 0) [] (omega arith))
take-joined n [] full (suc k) = sym (take_all (n * suc k) [] (omega arith))
take-joined n (page ∷ pages) full zero = let none : n * 0 ≡ 0 = omega arith in rw none refl
take-joined n (page ∷ pages) full (suc k) =
    let own = full 0 page refl in
    let at : n * suc k ≡ length page + n * k = omega (arith, own) in
    let rest = take-joined n pages (λ i p h. full (suc i) p h) k in
    rw at (ap (λ xs. page ++ xs) rest ∙ sym (take-append-add page (joined pages) (n * k)))

-- ---- The elements

pub length-elements : {T : Type 0} (n len : ℕ) (pages : List (List T)) → IsPaged n len pages → length (elements len pages) ≡ len
unfolding elements
length-elements n len pages h = length-take-le len (joined pages) (let a = length-joined n pages h.full in let b = h.within in omega (arith, a, b))

-- Element i is in page i / n.
pub page_within : {T : Type 0} (n len : ℕ) (pages : List (List T)) (i : ℕ) → IsPaged n len pages → i < len → i / n < length pages
page_within n len pages i h below =
    let positive = h.positive in
    let within = h.within in
    elim (cases_lt (i / n) (length pages)) [
      | inl less ↦ less
      | inr more ↦ let most = mul-le-mul_left n more in absurd (omega (arith, most, within, positive))
    ]

-- An index into the list is below its length.
pub within_list : {T : Type 0} (n len : ℕ) (pages : List (List T)) (i : ℕ) → IsPaged n len pages → i < length (elements len pages) → i < len
within_list n len pages i h below = let l = length-elements n len pages h in omega (arith, l, below)

-- The page of element i: it is there, and its size.
pub page_of : {T : Type 0} (n len : ℕ) (pages : List (List T)) (i : ℕ) (page : List T) → IsPaged n len pages → i < len → page ≡ get_or pages (i / n) page
    → (slice_get pages (i / n) ≡ Some page) × (length page ≡ n) × (i % n < length page)
page_of n len pages i page h below read =
    let positive = h.positive in
    let there = slice_get_read pages (length pages) (i / n) page refl (page_within n len pages i h below) read in
    let size = h.full (i / n) page there in
    (there, size, omega (arith, size, positive))

pub place_of : (n i : ℕ) → 0 < n → i ≡ n * (i / n) + i % n
place_of n i positive = omega arith

pub get-elements : {T : Type 0} (n len : ℕ) (pages : List (List T)) (i : ℕ) (page : List T) (d : T) → IsPaged n len pages → i < len → slice_get pages (i / n) ≡ Some page
    → get_or (elements len pages) i d ≡ get_or page (i % n) d
unfolding elements
get-elements n len pages i page d h below there =
    let positive = h.positive in
    get_or-take len (joined pages) i d below
    ∙ ap (λ k. get_or (joined pages) k d) (place_of n i positive)
    ∙ get-joined n pages h.full (i / n) (i % n) page d there (omega arith)

pub set-elements : {T : Type 0} (n len : ℕ) (pages : List (List T)) (i : ℕ) (page : List T) (x : T) → IsPaged n len pages → i < len → slice_get pages (i / n) ≡ Some page
    → elements len (set pages (i / n) (set page (i % n) x)) ≡ set (elements len pages) i x
unfolding elements
set-elements n len pages i page x h below there =
    let positive = h.positive in
    ap (take len) (set-joined n pages h.full (i / n) (i % n) page x there (omega arith) ∙ ap (λ k. set (joined pages) k x) (sym (place_of n i positive)))
    ∙ take-set-lt len (joined pages) i x below

pub push-elements : {T : Type 0} (n len : ℕ) (pages : List (List T)) (page : List T) (x : T) → IsPaged n len pages → len < n * length pages → slice_get pages (len / n) ≡ Some page
    → elements (len + 1) (set pages (len / n) (set page (len % n) x)) ≡ elements len pages ++ x ∷ []
unfolding elements
push-elements n len pages page x h below there =
    let positive = h.positive in
    let all = length-joined n pages h.full in
    ap (take (len + 1)) (set-joined n pages h.full (len / n) (len % n) page x there (omega arith) ∙ ap (λ k. set (joined pages) k x) (sym (place_of n len positive)))
    ∙ take_more_set (joined pages) len x (omega (arith, all))

pub take-elements : {T : Type 0} (n len m : ℕ) (pages : List (List T)) → m ≤ len → take m (elements len pages) ≡ elements m pages
unfolding elements
take-elements n len m pages below = take-take m len (joined pages) below

-- Pages past the end hold no elements.
pub elements-append : {T : Type 0} (n len : ℕ) (pages more : List (List T)) → IsPaged n len pages → elements len (pages ++ more) ≡ elements len pages
unfolding elements
elements-append n len pages more h =
    let all = length-joined n pages h.full in
    let within = h.within in
    ap (take len) (joined-append pages more) ∙ take-append-le len (joined pages) (joined more) (omega (arith, all, within))

pub elements-take : {T : Type 0} (n len k : ℕ) (pages : List (List T)) → IsPaged n len pages → len ≤ n * k → elements len (take k pages) ≡ elements len pages
unfolding elements
elements-take n len k pages h within = ap (take len) (take-joined n pages h.full k) ∙ take-take len (n * k) (joined pages) within

-- ---- The pages

-- A page is replaced by one of the same size.
pub paged_set : {T : Type 0} (n len : ℕ) (pages : List (List T)) (k : ℕ) (page : List T) → IsPaged n len pages → length page ≡ n → IsPaged n len (set pages k page)
paged_set n len pages k page h size = record {
  positive = h.positive;
  full = full_set n pages k page h.full size;
  within = let w = h.within in let l = length-set pages k page in omega (arith, w, ap (λ c. n * c) l);
}
  where
    full_set : {T : Type 0} (n : ℕ) (pages : List (List T)) (k : ℕ) (page : List T) → Full n pages → length page ≡ n → Full n (set pages k page)
    full_set n [] k page full size i p there = absurd cc
    full_set n (first ∷ pages) zero page full size zero p there = let same : page ≡ p = cc in rw (← same) size
    full_set n (first ∷ pages) zero page full size (suc i) p there = full (suc i) p there
    full_set n (first ∷ pages) (suc k) page full size zero p there = full 0 p there
    full_set n (first ∷ pages) (suc k) page full size (suc i) p there = full_set n pages k page (λ j q h. full (suc j) q h) size i p there

-- A page is added at the end.
pub paged_append : {T : Type 0} (n len : ℕ) (pages : List (List T)) (page : List T) → IsPaged n len pages → length page ≡ n → IsPaged n len (pages ++ page ∷ [])
paged_append n len pages page h size = record {
  positive = h.positive;
  full = full_append n pages page h.full size;
  within = let w = h.within in let l = length-append pages (page ∷ []) in omega (arith, w, ap (λ c. n * c) l);
}
  where
    full_append : {T : Type 0} (n : ℕ) (pages : List (List T)) (page : List T) → Full n pages → length page ≡ n → Full n (pages ++ page ∷ [])
    full_append n [] page full size zero p there = let same : page ≡ p = cc in rw (← same) size
    full_append n [] page full size (suc i) p there = absurd cc
    full_append n (first ∷ pages) page full size zero p there = full 0 p there
    full_append n (first ∷ pages) page full size (suc i) p there = full_append n pages page (λ j q h. full (suc j) q h) size i p there

pub paged_less : {T : Type 0} (n len m : ℕ) (pages : List (List T)) → IsPaged n len pages → m ≤ len → IsPaged n m pages
paged_less n len m pages h less = record { positive = h.positive; full = h.full; within = let w = h.within in omega (arith, w) }

-- The list becomes longer, over pages that are there.
pub paged_more : {T : Type 0} (n len m : ℕ) (pages : List (List T)) → IsPaged n len pages → m ≤ n * length pages → IsPaged n m pages
paged_more n len m pages h within = record { positive = h.positive; full = h.full; within = within }

-- The first pages suffice.
pub paged_take : {T : Type 0} (n len k : ℕ) (pages : List (List T)) → IsPaged n len pages → k ≤ length pages → len ≤ n * k → IsPaged n len (take k pages)
paged_take n len k pages h there within = record {
  positive = h.positive;
  full = full_take n pages k h.full;
  within = let l = length-take-le k pages there in omega (arith, within, ap (λ c. n * c) l);
}
  where
    full_take : {T : Type 0} (n : ℕ) (pages : List (List T)) (k : ℕ) → Full n pages → Full n (take k pages)
    full_take n [] zero full i p there = absurd cc
    full_take n [] (suc k) full i p there = absurd cc
    full_take n (first ∷ pages) zero full i p there = absurd cc
    full_take n (first ∷ pages) (suc k) full zero p there = full 0 p there
    full_take n (first ∷ pages) (suc k) full (suc i) p there = full_take n pages k (λ j q h. full (suc j) q h) i p there

full_take : {T : Type 0} (n : ℕ) (pages : List (List T)) (k : ℕ) → Full n pages → Full n (take k pages)
full_take n [] zero full i p there = absurd cc
full_take n [] (suc k) full i p there = absurd cc
full_take n (first ∷ pages) zero full i p there = absurd cc
full_take n (first ∷ pages) (suc k) full zero p there = full 0 p there
full_take n (first ∷ pages) (suc k) full (suc i) p there = full_take n pages k (λ j q h. full (suc j) q h) i p there

full_drop : {T : Type 0} (n k : ℕ) (own : List (List T)) → Full n own → Full n (drop k own)
full_drop n zero [] full i p there = absurd cc
full_drop n (suc k) [] full i p there = absurd cc
full_drop n zero (page ∷ own) full i p there = full i p there
full_drop n (suc k) (page ∷ own) full i p there = full_drop n k own (λ j q h. full (suc j) q h) i p there

full_both : {T : Type 0} (n : ℕ) (own other : List (List T)) → Full n own → Full n other → Full n (other ++ own)
full_both n own [] full rest i p there = full i p there
full_both n own (page ∷ other) full rest zero p there = rest 0 p there
full_both n own (page ∷ other) full rest (suc i) p there = full_both n own other full (λ j q h. rest (suc j) q h) i p there

-- The pages of one list, over those of another.
pub paged_over : {T : Type 0} (n len m k : ℕ) (own other : List (List T)) → IsPaged n len own → IsPaged n m other → IsPaged n m (other ++ drop k own)
paged_over n len m k own other h o = record {
  positive = h.positive;
  full = full_both n (drop k own) other (full_drop n k own h.full) o.full;
  within = let w = o.within in let l = length-append other (drop k own) in let most = mul-le-mul_left n (le_more (length other) (length (drop k own))) in omega (arith, w, most, ap (λ c. n * c) l);
}
  where
    le_more : (a b : ℕ) → a ≤ a + b
    le_more a b = omega arith

-- ---- Pages are added

pub extends_none : {T : Type 0} (others pages : List (List T)) → Extends others pages pages
extends_none others pages n len m h o = (h, refl)

pub extends_page : {T : Type 0} (others old new : List (List T)) (k : ℕ) (page : List T) → Extends others old new → slice_get others k ≡ Some page → Extends others old (new ++ page ∷ [])
extends_page others old new k page e there n len m h o =
    let f = e n len m h o in
    (paged_append n len new page f.0 (o.full k page there), elements-append n len new (page ∷ []) f.0 ∙ f.1)

-- ---- Pages are lent, one after the other

set_next : {X : Type 0} (next own : List X) (k : ℕ) (x : X) → k < length own → slice_get next k ≡ Some x → set (take k next ++ drop k own) k x ≡ take (suc k) next ++ drop (suc k) own
set_next [] own k x within there = absurd cc
set_next (y ∷ next) [] k x within there = absurd (omega (arith, within))
set_next (y ∷ next) (o ∷ own) zero x within there = let same : y ≡ x = cc in ap (λ z. z ∷ own) (sym same)
set_next (y ∷ next) (o ∷ own) (suc k) x within there = ap (λ zs. y ∷ zs) (set_next next own k x (omega (arith, within)) there)

-- The pages after the first k were lent.
abbrev pub lent_to : {X : Type 0} → ℕ → List X → List X → List X
lent_to k next own = take k next ++ drop k own

pub lent_none : {X : Type 0} (next own : List X) → own ≡ lent_to 0 next own
lent_none [] [] = refl
lent_none [] (o ∷ own) = refl
lent_none (y ∷ next) [] = refl
lent_none (y ∷ next) (o ∷ own) = refl

pub lent_page : {X : Type 0} (pages next own : List X) (k : ℕ) (x : X) → pages ≡ lent_to k next own → k < length own → slice_get next k ≡ Some x → set pages k x ≡ lent_to (k + 1) next own
lent_page pages next own k x e within there = rw (e, add-one) (set_next next own k x within there)

-- There are as many pages as before.
pub lent_length : {X : Type 0} (next own : List X) (k : ℕ) → k ≤ length next → k ≤ length own → length (lent_to k next own) ≡ length own
lent_length next own k a b =
    let c = length-append (take k next) (drop k own) in
    let d = length-take-le k next a in
    let e = length-drop k own in
    omega (arith, b, c, d, e)

-- Each page has the size of the one that replaces it.
pub lent_size : {T : Type 0} (pages next own : List (List T)) (n len m k : ℕ) (page shown : List T) → pages ≡ lent_to k next own → IsPaged n len own → IsPaged n m next → k < length next → k < length own → page ≡ get_or pages k page
    → slice_get next k ≡ Some shown → length page ≡ length shown
lent_size pages next own n len m k page shown e h o a b read there =
    let full : Full n pages = rw e (full_both n (drop k own) (take k next) (full_drop n k own h.full) (full_take n next k o.full)) in
    let all = ap length e ∙ lent_length next own k (omega (arith, a)) (omega (arith, b)) in
    full k page (slice_get_read pages (length pages) k page refl (omega (arith, all, b)) read) ∙ sym (o.full k shown there)

-- All pages were lent.
pub lent_all : {X : Type 0} (pages next own : List X) (k : ℕ) → pages ≡ lent_to k next own → k ≡ length next → pages ≡ next ++ drop (length next) own
lent_all pages next own k e same = rw same at e ∙ ap (λ xs. xs ++ drop (length next) own) (take_all (length next) next (omega arith))

-- ---- Pages are copied

pub there_in : {A B : Type 0} (f : A → B) (xs : List A) (k : ℕ) (x : A) (y : B) → k < length xs → x ≡ get_or xs k x → y ≡ f x → slice_get (map f xs) k ≡ Some y
there_in f xs k x y within read same = slice_get-map f xs k ∙ ap (option_map f) (slice_get_read xs (length xs) k x refl within read) ∙ ap Some (sym same)

-- One more piece is copied over the elements.
pub overwritten : {X : Type 0} (old own others new : List X) (at n : ℕ) → own ≡ take at others ++ drop at old → at + n ≤ length others
    → new ≡ take at own ++ (take (at + n - at) (drop at others) ++ drop (at + length (take (at + n - at) (drop at others))) own) → new ≡ take (at + n) others ++ drop (at + n) old
overwritten old own others new at n e h g =
    let less : at + n - at ≡ n = omega arith in
    let one = length-take-le at others (omega (arith, h)) in
    let rest = length-drop at others in
    let two = length-take-le n (drop at others) (omega (arith, h, rest)) in
    let front = ap (take at) e ∙ take_at (take at others) (drop at old) at one in
    let back = ap (drop (at + n)) e ∙ drop-append-drop at old (take at others) (at + n) (omega arith) one in
    rw (less, two) at g
    ∙ ap (λ xs. xs ++ (take n (drop at others) ++ drop (at + n) own)) front
    ∙ ap (λ xs. take at others ++ (take n (drop at others) ++ xs)) back
    ∙ sym (append_assoc (take at others) (take n (drop at others)) (drop (at + n) old))
    ∙ ap (λ xs. xs ++ drop (at + n) old) (sym (take-add at n others))
