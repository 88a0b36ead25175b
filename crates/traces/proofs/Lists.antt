-- Reading a list returns the items that were written.
use Rattle.std.proofs.Common.{◌≡◌, ℕ, zero, suc, ◌^◌, ◌<◌, ◌≤◌, Bool, true, List, [], ◌∷◌, ◌++◌, length, Result, Ok, refl, sym, ap, subst, ◌∙◌, append_assoc, arith}
use Rattle.std.specs.Prelude.{nat_le}
use Rattle.std.specs.List.{flat_map, list_all, AllByRecursion}
use Rattle.std.proofs.lemmas.Bool.{and_parts, and_from, leb-true}
use Rattle.std.proofs.lemmas.List.{append-nil}
use Rattle.std.proofs.lemmas.List.Concat.{flat_map-cons}
use Rattle.byteorder.specs.Endian.{little_bytes}
use Rattle.traces.specs.declared.fault.TraceFault.{TraceFault}
use Rattle.traces.specs.Cursors.{Cursor}
use Rattle.traces.specs.Limits.{all_with_prefix}
use Rattle.traces.specs.Setups.{list_bytes}
use Rattle.traces.specs.Reading.{count_at, items_at, list_at}
use Rattle.traces.proofs.Taking.{IsBytes, bind_ok, ok_is, cursor_at, Takes, Takes-then, Again, width4, number_in_takes, number_in_again}

-- Reading and writing an item are inverse. An item may depend on the earlier ones.
pub record Reads (A : Type 0) (item : List A → Cursor → Result (A × Cursor) TraceFault) (bytes : A → List ℕ) (Fits : List A → A → Type 0) : Type 0 where
  pub takes : (before : List A) (s : Cursor) (x : A) (t : Cursor) → IsBytes s.rest → item before s ≡ Ok (x, t) → Takes s (bytes x) t × Fits before x
  pub again : (before : List A) (offset : ℕ) (x : A) (rest : List ℕ) → Fits before x → Again (item before) offset (bytes x ++ rest) x rest

abbrev pub FitWithPrefix : {A : Type 0} → (List A → A → Type 0) → List A → List A → Type 0
FitWithPrefix Fits before [] = Unit {0}
FitWithPrefix Fits before (x ∷ xs) = Fits before x × FitWithPrefix Fits (before ++ x ∷ []) xs

-- The items that were read, after the earlier ones.
pub record Took (A : Type 0) (bytes : A → List ℕ) (Fits : List A → A → Type 0) (n : ℕ) (before : List A) (s : Cursor) (all : List A) (t : Cursor) : Type 0 where
  pub xs : List A
  pub all-is : all ≡ before ++ xs
  pub count : length xs ≡ n
  pub taken : Takes s (flat_map bytes xs) t
  pub fit : FitWithPrefix Fits before xs

items_take : (A : Type 0) (item : List A → Cursor → Result (A × Cursor) TraceFault) (bytes : A → List ℕ) (Fits : List A → A → Type 0) → Reads A item bytes Fits
    → (n : ℕ) (before : List A) (s : Cursor) (all : List A) (t : Cursor) → IsBytes s.rest → items_at item n before s ≡ Ok (all, t) → Took A bytes Fits n before s all t
unfolding items_at
items_take A item bytes Fits r zero before s all t fits e =
    subst (λ (p : List A × Cursor). Took A bytes Fits 0 before s p.0 p.1) (ok_is (before, s) (all, t) e)
    (record { xs = []; all-is = sym (append-nil before); count = refl; taken = record { parts = refl; fits = fits }; fit = tt })
items_take A item bytes Fits r (suc n) before s all t fits e =
    let a = bind_ok (item before s) (λ x. items_at item n (before ++ x.0 ∷ []) x.1) (all, t) e in
    let first = r.takes before s a.0.0 a.0.1 fits a.1 in
    let more = items_take A item bytes Fits r n (before ++ a.0.0 ∷ []) a.0.1 all t first.0.fits a.2 in
    let both = Takes-then s (bytes a.0.0) a.0.1 (flat_map bytes more.xs) t first.0 more.taken in
    record {
      xs = a.0.0 ∷ more.xs;
      all-is = more.all-is ∙ append_assoc before (a.0.0 ∷ []) more.xs;
      count = ap suc more.count;
      taken = rw flat_map-cons both;
      fit = (first.1, more.fit);
    }

items_again : (A : Type 0) (item : List A → Cursor → Result (A × Cursor) TraceFault) (bytes : A → List ℕ) (Fits : List A → A → Type 0) → Reads A item bytes Fits
    → (xs before : List A) (offset : ℕ) (rest : List ℕ) → FitWithPrefix Fits before xs
    → (o : ℕ) × (items_at item (length xs) before (cursor_at offset (flat_map bytes xs ++ rest)) ≡ Ok (before ++ xs, cursor_at o rest))
unfolding items_at
items_again A item bytes Fits r [] before offset rest fit = (offset, ap (λ (l : List A). Ok (l, cursor_at offset rest)) (sym (append-nil before)))
items_again A item bytes Fits r (x ∷ xs) before offset rest fit =
    let a = r.again before offset x (flat_map bytes xs ++ rest) fit.0 in
    let b = items_again A item bytes Fits r xs (before ++ x ∷ []) a.0 rest fit.1 in
    let regrouped : flat_map bytes (x ∷ xs) ++ rest ≡ bytes x ++ (flat_map bytes xs ++ rest) =
    ap (λ (t : List ℕ). t ++ rest) (flat_map-cons bytes x xs) ∙ append_assoc (bytes x) (flat_map bytes xs) rest in (
      b.0,
      ap (λ (input : List ℕ). items_at item (suc (length xs)) before (cursor_at offset input)) regrouped
          ∙ rw (a.1, b.1) (ap (λ (l : List A). Ok (l, cursor_at b.0 rest)) (append_assoc before (x ∷ []) xs)),
    )

pub list_takes : (A : Type 0) (item : List A → Cursor → Result (A × Cursor) TraceFault) (bytes : A → List ℕ) (Fits : List A → A → Type 0) → Reads A item bytes Fits
    → (most : ℕ) (s : Cursor) (xs : List A) (t : Cursor) → IsBytes s.rest → list_at most item s ≡ Ok (xs, t)
    → Takes s (list_bytes bytes xs) t × (nat_le (length xs) most ≡ true) × FitWithPrefix Fits [] xs
unfolding list_at
list_takes A item bytes Fits r most s xs t fits e =
    let a = bind_ok (count_at most s) (λ n. items_at item n.0 [] n.1) (xs, t) e in
    let count = number_in_takes 4 width4 (λ n. nat_le n most) s a.0.0 a.0.1 fits a.1 in
    let items = items_take A item bytes Fits r a.0.0 [] a.0.1 xs t count.0.fits a.2 in
    let both = Takes-then s (little_bytes 4 a.0.0) a.0.1 (flat_map bytes items.xs) t count.0 items.taken in
    let counted = subst (λ (n : ℕ). Takes s (little_bytes 4 n ++ flat_map bytes items.xs) t × (nat_le n most ≡ true) × FitWithPrefix Fits [] items.xs) (sym items.count) (both, count.2, items.fit) in
    subst (λ (ys : List A). Takes s (list_bytes bytes ys) t × (nat_le (length ys) most ≡ true) × FitWithPrefix Fits [] ys) (sym items.all-is) counted

pub list_again : (A : Type 0) (item : List A → Cursor → Result (A × Cursor) TraceFault) (bytes : A → List ℕ) (Fits : List A → A → Type 0) → Reads A item bytes Fits
    → (most offset : ℕ) (xs : List A) (rest : List ℕ) → most < 2 ^ 32 → nat_le (length xs) most ≡ true → FitWithPrefix Fits [] xs
    → Again (list_at most item) offset (list_bytes bytes xs ++ rest) xs rest
unfolding list_at
list_again A item bytes Fits r most offset xs rest small le fit =
    let few : length xs ≤ most = leb-true _ _ le in
    let a = number_in_again 4 (λ n. nat_le n most) offset (length xs) (flat_map bytes xs ++ rest) (omega arith) le in
    let b = items_again A item bytes Fits r xs [] a.0 rest fit in
    let regrouped : list_bytes bytes xs ++ rest ≡ little_bytes 4 (length xs) ++ (flat_map bytes xs ++ rest) = append_assoc (little_bytes 4 (length xs)) (flat_map bytes xs) rest in
    (b.0, ap (λ (input : List ℕ). list_at most item (cursor_at offset input)) regrouped ∙ rw (a.1, b.1) refl)

-- A test of each item that may depend on the earlier ones.
pub prefix_fits : {A : Type 0} (keeps : List A → A → Bool) (before xs : List A) → all_with_prefix keeps before xs ≡ true → FitWithPrefix (λ b x. keeps b x ≡ true) before xs
prefix_fits keeps before [] h = tt
prefix_fits keeps before (x ∷ xs) h =
    let p = and_parts _ _ h in
    (p.0, prefix_fits keeps (before ++ x ∷ []) xs p.1)

pub fits_with_prefix : {A : Type 0} (keeps : List A → A → Bool) (before xs : List A) → FitWithPrefix (λ b x. keeps b x ≡ true) before xs → all_with_prefix keeps before xs ≡ true
fits_with_prefix keeps before [] h = refl
fits_with_prefix keeps before (x ∷ xs) h = and_from _ _ h.0 (fits_with_prefix keeps (before ++ x ∷ []) xs h.1)

-- A test of each item, together with a property of each item.
pub all_fit : {A : Type 0} (keeps : A → Bool) (Wide : A → Type 0) (before xs : List A) → list_all keeps xs ≡ true → AllByRecursion Wide xs
    → FitWithPrefix (λ b x. (keeps x ≡ true) × Wide x) before xs
all_fit keeps Wide before [] h w = tt
all_fit keeps Wide before (x ∷ xs) h w =
    let p = and_parts _ _ h in
    ((p.0, w.0), all_fit keeps Wide (before ++ x ∷ []) xs p.1 w.1)

pub fit_all : {A : Type 0} (keeps : A → Bool) (Wide : A → Type 0) (before xs : List A) → FitWithPrefix (λ b x. (keeps x ≡ true) × Wide x) before xs
    → (list_all keeps xs ≡ true) × AllByRecursion Wide xs
fit_all keeps Wide before [] h = (refl, tt)
fit_all keeps Wide before (x ∷ xs) h =
    let more = fit_all keeps Wide (before ++ x ∷ []) xs h.1 in
    (and_from _ _ h.0.0 more.0, (h.0.1, more.1))

pub no_more : {A : Type 0} (xs : List A) → AllByRecursion (λ x. Unit {0}) xs
no_more [] = tt
no_more (x ∷ xs) = (tt, no_more xs)
