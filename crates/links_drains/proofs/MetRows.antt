-- The first TIMEOUT whose count is reached, found by the thresholds.
use Rattle.links_drains.proofs.Common.{◌≡◌, ℕ, false, ap, List, ◌<◌, arith, Option, Some, slice_get, option_map_or, Row, is_met, threshold_of, threshold_in, IsNextMet, NoneMetFrom, never, threshold_at, IsNextReached, NoneReachedFrom}

unmet_below : (total : ℕ) (row : Row) → total < threshold_of row → is_met total row ≡ false
unmet_below = grind arith

here : (rows : List Row) (r : ℕ) (row : Row) → slice_get rows r ≡ Some row → threshold_in rows r ≡ threshold_of row
here rows r row e = ap (λ (o : Option Row). option_map_or threshold_of o never) e

pub met_found : (rows : List Row) (thresholds : List ℕ) (total from r : ℕ) → ((q : ℕ) → threshold_at thresholds q ≡ threshold_in rows q) → total < never
    → IsNextReached thresholds total from r → IsNextMet rows total from r
met_found = grind arith

pub none_met : (rows : List Row) (thresholds : List ℕ) (total from : ℕ) → ((q : ℕ) → threshold_at thresholds q ≡ threshold_in rows q)
    → NoneReachedFrom thresholds total from → NoneMetFrom rows total from
none_met rows thresholds total from ties none = λ i x after g. unmet_below total x (let t = ties i in let k = here rows i x g in let m = none i after in omega (arith, t, k, m))
