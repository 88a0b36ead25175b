-- The rows contain all changes, and each row is a single change or consecutive bytes.
use Rattle.run_log.proofs.Common.{◌≡◌, List, [], ◌∷◌, ◌++◌, cond, Bool, true, false, refl, flat_map, All, Changed, ap, ◌∙◌, All-nil, All-cons, All-head, All-tail, is_next, onto, rows, IsRow}

onto_holds : (d : Changed) (rs : List (List Changed)) → flat_map (λ row. row) (onto d rs) ≡ d ∷ flat_map (λ row. row) rs
onto_holds d [] = refl
onto_holds d ([] ∷ rs) = refl
onto_holds d ((e ∷ es) ∷ rs) = by (is_next d.place e.place)
  where
    by : (b : Bool) → flat_map (λ row. row) (cond b ((d ∷ e ∷ es) ∷ rs) ((d ∷ []) ∷ (e ∷ es) ∷ rs)) ≡ d ∷ (e ∷ es) ++ flat_map (λ row. row) rs
    by true = refl
    by false = refl

pub hold_all : (ds : List Changed) → flat_map (λ row. row) (rows ds) ≡ ds
hold_all [] = refl
hold_all (d ∷ ds) = onto_holds d (rows ds) ∙ ap (λ xs. d ∷ xs) (hold_all ds)

onto_continues : (d : Changed) (rs : List (List Changed)) → All IsRow rs → All IsRow (onto d rs)
onto_continues d [] a = All-cons IsRow (d ∷ []) [] tt (All-nil IsRow)
onto_continues d ([] ∷ rs) a = All-cons IsRow (d ∷ []) rs tt (All-tail IsRow [] rs a)
onto_continues d ((e ∷ es) ∷ rs) a = by (is_next d.place e.place) refl
  where
    by : (b : Bool) → is_next d.place e.place ≡ b → All IsRow (cond b ((d ∷ e ∷ es) ∷ rs) ((d ∷ []) ∷ (e ∷ es) ∷ rs))
    by true h = All-cons IsRow (d ∷ e ∷ es) rs (h, All-head IsRow (e ∷ es) rs a) (All-tail IsRow (e ∷ es) rs a)
    by false h = All-cons IsRow (d ∷ []) ((e ∷ es) ∷ rs) tt a

pub continues : (ds : List Changed) → All IsRow (rows ds)
continues [] = All-nil IsRow
continues (d ∷ ds) = onto_continues d (rows ds) (continues ds)
