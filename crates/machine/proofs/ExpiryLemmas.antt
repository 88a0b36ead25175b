-- The direct completions when a timer expires.
use Rattle.machine.proofs.Common.{◌≡◌, ℕ, true, sym, ◌∙◌, ap, List, [], ◌∷◌, arith, Option, Some, slice_get, Row, Issued, Direct, ecanceled, is_guard, is_ended, is_unfinished, WorldState, waiting_target, etime, WellFormed, Machine}
use Rattle.machine.proofs.CascadedRows.{direct_two}

-- Only a linked timeout has a target that waits.
waiting_is_guard : (rows : List Row) (w : WorldState) (x : Row) (o : Option ℕ) (t : ℕ) → waiting_target rows w x o ≡ Some t → (is_guard x ≡ true) × (o ≡ Some t)
waiting_is_guard = grind arith

-- The target comes before its linked timeout.
pub direct_pair : (m : Machine) (r t : ℕ) (x : Row) → WellFormed m → slice_get m.table r ≡ Some x → x.phase ≡ Issued → waiting_target m.table m.world x x.target ≡ Some t → Direct m.table ((t, ecanceled) ∷ (r, etime) ∷ [])
direct_pair m r t x f h q k =
    let w = waiting_is_guard m.table m.world x x.target t k in
    let s = f.guards r x h w.0 (ap is_unfinished q) in
    let same : s.target ≡ t = let o = sym s.is ∙ w.1 in cc in
    direct_two m.table t r ecanceled etime s.row x (ap (slice_get m.table) (sym same) ∙ s.there) (ap is_ended (s.alike ∙ q)) h (ap is_ended q) (let b = s.follows in omega (arith, same, b))
