-- In a cascade, only direct completions sever chains.
use Rattle.timeouts_cancel.proofs.Common.{◌≡◌, ℕ, ℤ, pos, Bool, true, false, ◌∙◌, List, ◌<◌, arith, Some, slice_get, ◌&&◌, Row, is_guard, Ending, is_severed, severs_by, is_bad, is_count_timeout, Severs}
use Rattle.timeouts_cancel.proofs.Again.{any_at}

pub both : (a b : Bool) → (a && b) ≡ true → (a ≡ true) × (b ≡ true)
both = grind arith

-- ---- What is never a failure

pub guard_not_bad : (row : Row) (res : ℤ) → is_guard row ≡ true → is_bad row res ≡ false
guard_not_bad = grind arith

pub timeout_not_bad : (row : Row) → is_count_timeout row ≡ true → is_bad row (pos 0) ≡ false
timeout_not_bad = grind arith

pub severs_is : (rows : List Row) (r : ℕ) (row : Row) (e : Ending) → severs_by r row (slice_get rows e.0) e ≡ true → Severs rows r row e
severs_is = grind arith

pub severs_so : (rows : List Row) (r : ℕ) (row : Row) (e : Ending) → Severs rows r row e → severs_by r row (slice_get rows e.0) e ≡ true
severs_so = grind arith

-- A listed row that severs r makes r severed.
pub severed_by : (rows : List Row) (es : List Ending) (r : ℕ) (row : Row) (i : ℕ) (e : Ending) → slice_get es i ≡ Some e → Severs rows r row e → is_severed rows es r row ≡ true
severed_by rows es r row i e h s = any_at (λ (x : Ending). severs_by r row (slice_get rows x.0) x) es i e h (severs_so rows r row e s)

-- If e severs row q, it also severs the later rows of q's chain.
pub severs_then : (rows : List Row) (q r : ℕ) (b row : Row) (e : Ending) → q < r → b.unit ≡ row.unit → Severs rows q b e → Severs rows r row e
severs_then rows q r b row e l u s = record { before = s.before; there = s.there; less = let k = s.less in omega (arith, k, l); unit = s.unit ∙ u; soft = s.soft; bad = s.bad }
