-- Lists of requests that complete, with their results.
use Rattle.std.specs.Prelude.{◌≡◌, ℕ, ℤ, negsuc, ◌<◌, ◌==◌, Bool, true, if◌then◌else◌, Option, Some, None, slice_get, List, [], ◌∷◌}
use Rattle.links_drains.specs.Common.{Row, filter_map, list_any, enumerate_from, option_map_or, Ended}
use Rattle.links_drains.specs.Phases.{is_unfinished}

-- A request's number and its result.
abbrev pub Ending : Type 0
Ending = ℕ × ℤ

-- -ECANCELED (errno(3)).
abbrev pub ecanceled : ℤ
ecanceled = negsuc 124

-- The result listed for request r, if any.
abbrev pub result_in : List Ending → ℕ → Option ℤ
result_in [] r = None
result_in (e ∷ es) r = if e.0 == r then Some e.1 else result_in es r

-- Whether request r is listed.
abbrev pub is_listed : List Ending → ℕ → Bool
is_listed es r = list_any (λ (e : Ending). e.0 == r) es

-- A request, after the listed ones completed.
abbrev pub ended_by : List Ending → ℕ → Row → Row
ended_by es r row = option_map_or (λ res. record row { phase = Ended res }) (result_in es r) row

-- The result, if the condition holds.
abbrev pub given : Bool → ℤ → Option ℤ
given b res = if b then Some res else None

-- The first result, or the second if there is no first.
abbrev pub or_else : Option ℤ → Option ℤ → Option ℤ
or_else (Some res) other = Some res
or_else None other = other

-- The completion of request r, if there is a result.
abbrev pub paired : ℕ → Option ℤ → Option Ending
paired r None = None
paired r (Some res) = Some (r, res)

-- The unfinished requests for which f has a result, by ascending number. `first` is the number of
-- the first request.
abbrev pub endings_from : (ℕ → Row → Option ℤ) → ℕ → List Row → List Ending
endings_from f first rows =
    filter_map (λ (p : ℕ × Row). if is_unfinished p.1.phase then paired p.0 (f p.0 p.1) else None)
    (enumerate_from first rows)

-- The same, with requests numbered from 0.
abbrev pub endings : (ℕ → Row → Option ℤ) → List Row → List Ending
endings f rows = endings_from f 0 rows

-- The listed requests are unfinished, and listed once, by ascending number.
pub record Direct (rows : List Row) (direct : List Ending) : Type 0 where
  pub each : (i : ℕ) (e : Ending) → slice_get direct i ≡ Some e
      → (row : Row) × (slice_get rows e.0 ≡ Some row) × (is_unfinished row.phase ≡ true)
  pub rising : (i j : ℕ) (p q : Ending) → slice_get direct i ≡ Some p → slice_get direct j ≡ Some q
      → i < j → p.0 < q.0
