-- The least deadline ahead, by a search of the issued requests.
use Rattle.std.proofs.Common.{◌≡◌, ℕ, zero, suc, ◌+◌, ◌-◌, ◌<◌, ◌≤◌, Bool, false, refl, sym, ap, ◌∙◌, arith, add-one, length, if◌then◌else◌}
use Rattle.std.specs.Prelude.{Option, Some, None, slice_get}
use Rattle.std.specs.Option.{option_map_or}
use Rattle.std.proofs.lemmas.Option.{slice_get_within}
use Rattle.entries.specs.declared.row.Row.{Row}
use Rattle.links_drains.specs.Units.{is_issued_row, IsNextIssued, NoneIssuedFrom}
use Rattle.machine.specs.declared.whole.Machine.{Machine}
use Rattle.machine.specs.Deadlines.{issued_deadline, deadline_at}
use Rattle.sampling.specs.Offers.{if_ahead, smaller_of, least_value, least_ahead}

-- ---- the least value of a function

with_none : (o : Option ℕ) → smaller_of o None ≡ o
with_none None = refl
with_none (Some a) = refl

value_skip : (f : ℕ → Option ℕ) (n d m : ℕ) → m ≡ d + n → ((k : ℕ) → n ≤ k → k < m → f k ≡ None) → least_value f m ≡ least_value f n
value_skip f n zero m is none = let e : m ≡ n = omega (arith, is) in ap (λ k. least_value f k) e
value_skip f n (suc d) m is none =
    let e : m ≡ suc (d + n) = omega (arith, is) in
    ap (λ k. least_value f k) e ∙ ap (λ o. smaller_of (least_value f (d + n)) o) (none (d + n) (omega arith) (omega (arith, e)))
    ∙ with_none (least_value f (d + n)) ∙ value_skip f n d (d + n) refl (λ k low high. none k low (omega (arith, high, e)))

value_same : (f : ℕ → Option ℕ) (n m : ℕ) → n ≤ m → ((k : ℕ) → n ≤ k → k < m → f k ≡ None) → least_value f m ≡ least_value f n
value_same f n m h none = value_skip f n (m - n) m (omega arith) none

value_next : (f : ℕ → Option ℕ) (from r : ℕ) → from ≤ r → ((k : ℕ) → from ≤ k → k < r → f k ≡ None) → least_value f (r + 1) ≡ smaller_of (least_value f from) (f r)
value_next f from r h none = ap (λ k. least_value f k) (add-one r) ∙ ap (λ o. smaller_of o (f r)) (value_same f from r h none)

-- ---- deadlines ahead

abbrev pub ahead_at : Machine → ℕ → Option ℕ
ahead_at m r = if_ahead m.clock (deadline_at m.table r)

no_deadline : (o : Option Row) → ((row : Row) → o ≡ Some row → is_issued_row row ≡ false) → option_map_or issued_deadline o None ≡ None
no_deadline None h = refl
no_deadline (Some row) h = ap (λ (b : Bool). if b then row.deadline else None) (h row refl)

not_ahead : (m : Machine) (k : ℕ) → ((row : Row) → slice_get m.table k ≡ Some row → is_issued_row row ≡ false) → ahead_at m k ≡ None
not_ahead m k h = ap (λ o. if_ahead m.clock o) (no_deadline (slice_get m.table k) h)

pub row_within : (m : Machine) (from r : ℕ) → IsNextIssued m.table from r → r < length m.table
row_within m from r next = slice_get_within m.table r next.row next.there

pub least_on : (m : Machine) (from r clock : ℕ) (least deadline ahead next : Option ℕ) → IsNextIssued m.table from r → clock ≡ m.clock → deadline ≡ deadline_at m.table r → ahead ≡ if_ahead clock deadline → next ≡ smaller_of least ahead → least ≡ least_value (ahead_at m) from → next ≡ least_value (ahead_at m) (r + 1)
least_on m from r clock least deadline ahead next row c d a n l =
    let here : ahead ≡ ahead_at m r = a ∙ ap (λ k. if_ahead k deadline) c ∙ ap (λ o. if_ahead m.clock o) d in
    n ∙ ap (λ o. smaller_of o ahead) l ∙ ap (λ o. smaller_of (least_value (ahead_at m) from) o) here
    ∙ sym (value_next (ahead_at m) from r row.after (λ k low high. not_ahead m k (λ x e. row.least k x low high e)))

pub least_end : (m : Machine) (from : ℕ) (least : Option ℕ) → from ≤ length m.table → NoneIssuedFrom m.table from → least ≡ least_value (ahead_at m) from → least ≡ least_ahead m
least_end m from least within none l =
    l ∙ sym (value_same (ahead_at m) from (length m.table) within (λ k low high. not_ahead m k (λ x e. none k x low e)))
