-- Splitting changes into rows, from the front.
use Rattle.run_log.proofs.Common.{◌≡◌, ℕ, ◌+◌, ◌<◌, ◌≤◌, zero, suc, List, [], ◌∷◌, length, take, drop, get_or, cond, Bool, true, false, refl, ◌++◌, Place, Changed, arith, sym, ap, ◌∙◌, append_assoc, drop-cons, drop_all, is_next, onto, rows}

-- The number of changes at the front that are consecutive bytes after a place.
abbrev pub length_from : Place → List Changed → ℕ
length_from p [] = zero
length_from p (d ∷ ds) = cond (is_next p d.place) (suc (length_from d.place ds)) zero

-- The first row, and the rest.
pub parted : (d : Changed) (ds : List Changed) → rows (d ∷ ds) ≡ (d ∷ take (length_from d.place ds) ds) ∷ rows (drop (length_from d.place ds) ds)
parted d [] = refl
parted d (e ∷ es) = ap (onto d) (parted e es) ∙ by (is_next d.place e.place) (parted e es)
  where
    by : (b : Bool) → rows (e ∷ es) ≡ (e ∷ take (length_from e.place es) es) ∷ rows (drop (length_from e.place es) es)
        → cond b ((d ∷ e ∷ take (length_from e.place es) es) ∷ rows (drop (length_from e.place es) es)) ((d ∷ []) ∷ (e ∷ take (length_from e.place es) es) ∷ rows (drop (length_from e.place es) es))
        ≡ (d ∷ take (cond b (suc (length_from e.place es)) zero) (e ∷ es)) ∷ rows (drop (cond b (suc (length_from e.place es)) zero) (e ∷ es))
    by true h = refl
    by false h = ap (λ x. (d ∷ []) ∷ x) (sym h)

-- The length of a row, by whether the next change continues it.
pub from_next : (p : Place) (ds : List Changed) (i : ℕ) (d : Changed) → i < length ds → length_from p (drop i ds) ≡ cond (is_next p (get_or ds i d).place) (suc (length_from (get_or ds i d).place (drop (i + 1) ds))) zero
from_next p ds i d h =
    let e : suc i ≡ i + 1 = omega arith in
    ap (length_from p) (drop-cons ds i d h) ∙ ap (λ k. cond (is_next p (get_or ds i d).place) (suc (length_from (get_or ds i d).place (drop k ds))) zero) e

parted_at : (d : Changed) (ds : List Changed) (n : ℕ) → length_from d.place ds ≡ n → rows (d ∷ ds) ≡ (d ∷ take n ds) ∷ rows (drop n ds)
parted_at d ds n e = parted d ds ∙ ap (λ k. (d ∷ take k ds) ∷ rows (drop k ds)) e

-- The row ends before a change.
pub parted_before : (d : Changed) (ds : List Changed) (i count : ℕ) (last : Place) (x : Changed) → i < length ds → is_next last (get_or ds i x).place ≡ false
    → length_from d.place ds ≡ count + length_from last (drop i ds) → rows (d ∷ ds) ≡ (d ∷ take count ds) ∷ rows (drop count ds)
parted_before d ds i count last x h ends all =
    let more = suc (length_from (get_or ds i x).place (drop (i + 1) ds)) in
    let none : length_from last (drop i ds) ≡ zero = from_next last ds i x h ∙ ap (λ b. cond b more zero) ends in
    parted_at d ds count (omega (arith, all, none))

-- The row ends with the last change.
pub parted_whole : (d : Changed) (ds : List Changed) (i count : ℕ) (last : Place) → length ds ≤ i → length_from d.place ds ≡ count + length_from last (drop i ds) → rows (d ∷ ds) ≡ (d ∷ take count ds) ∷ rows (drop count ds)
parted_whole d ds i count last h all =
    let none : length_from last (drop i ds) ≡ zero = ap (length_from last) (drop_all i ds h) in
    parted_at d ds count (omega (arith, all, none))

-- ---- text

-- The lines of a row, `f`, after the earlier lines. The lines of several rows are `g`.
pub line_more : {A : Type 0} (f : List Changed → List A) (g : List (List Changed) → List A) → ((r : List Changed) (rs : List (List Changed)) → g (r ∷ rs) ≡ f r ++ g rs)
    → (start out written : List A) (all rest row others : List Changed) (n : ℕ) → rows rest ≡ take n rest ∷ rows (drop n rest) → row ≡ take n rest → others ≡ drop n rest → written ≡ out ++ f row
    → out ++ g (rows rest) ≡ start ++ g (rows all) → written ++ g (rows others) ≡ start ++ g (rows all)
line_more f g cons start out written all rest row others n parts e h w before =
    let line : written ≡ out ++ f (take n rest) = w ∙ ap (λ x. out ++ f x) e in
    ap (λ ds. written ++ g (rows ds)) h
    ∙ ap (λ o. o ++ g (rows (drop n rest))) line
    ∙ append_assoc out (f (take n rest)) (g (rows (drop n rest)))
    ∙ ap (λ x. out ++ x) (sym (ap g parts ∙ cons (take n rest) (rows (drop n rest))))
    ∙ before
