-- Lists that are read item by item.
use Rattle.std.proofs.Common.{◌≡◌, ℕ, suc, ◌+◌, ◌-◌, ◌<◌, ◌≤◌, List, [], ◌∷◌, ◌++◌, Result, Ok, Err, refl, sym, ◌∙◌, arith}
use Rattle.traces.specs.declared.fault.TraceFault.{TraceFault}
use Rattle.traces.specs.declared.fault.TraceFault.TheVariants.{Magic, Truncated, Count, Kind, Padding, Trailing, Memory, Setup}
use Rattle.traces.specs.Cursors.{Cursor}
use Rattle.traces.specs.Reading.{Fails, items_at}

pub items_continue : {A : Type 0} (item : List A → Cursor → Result (A × Cursor) TraceFault) (count i : ℕ) (before : List A) (s : Cursor) (x : A) (after : Cursor) (total : Result (List A × Cursor) TraceFault)
    → i < count → item before s ≡ Ok (x, after)
    → items_at item (count - i) before s ≡ total → items_at item (count - (i + 1)) (before ++ x ∷ []) after ≡ total
unfolding items_at
items_continue {A} item count i before s x after total lt h so_far =
    let k : count - i ≡ suc (count - (i + 1)) = omega arith in
    let one : items_at item (count - i) before s ≡ items_at item (count - (i + 1)) (before ++ x ∷ []) after = rw (k, h) refl in
    sym one ∙ so_far

stops : {A : Type 0} (item : List A → Cursor → Result (A × Cursor) TraceFault) (count i : ℕ) (before : List A) (s : Cursor) (e : TraceFault) (total : Result (List A × Cursor) TraceFault)
    → i < count → item before s ≡ Err e → items_at item (count - i) before s ≡ total → total ≡ Err e
unfolding items_at
stops {A} item count i before s e total lt h so_far =
    let k : count - i ≡ suc (count - (i + 1)) = omega arith in
    let one : items_at item (count - i) before s ≡ Err e = rw (k, h) refl in
    sym so_far ∙ one

pub ends : {A : Type 0} (item : List A → Cursor → Result (A × Cursor) TraceFault) (count i : ℕ) (before : List A) (s : Cursor) (e : TraceFault) (total : Result (List A × Cursor) TraceFault)
    → i < count → Fails e (item before s) → items_at item (count - i) before s ≡ total → Fails e total
ends item count i before s Memory total lt h so_far = tt
ends item count i before s Magic total lt h so_far = stops item count i before s Magic total lt h so_far
ends item count i before s Truncated total lt h so_far = stops item count i before s Truncated total lt h so_far
ends item count i before s Count total lt h so_far = stops item count i before s Count total lt h so_far
ends item count i before s Kind total lt h so_far = stops item count i before s Kind total lt h so_far
ends item count i before s Padding total lt h so_far = stops item count i before s Padding total lt h so_far
ends item count i before s Trailing total lt h so_far = stops item count i before s Trailing total lt h so_far
ends item count i before s (Setup offset) total lt h so_far = stops item count i before s (Setup offset) total lt h so_far

pub is_done : {A : Type 0} (item : List A → Cursor → Result (A × Cursor) TraceFault) (count i : ℕ) (before : List A) (s : Cursor) (total : Result (List A × Cursor) TraceFault)
    → count ≤ i → items_at item (count - i) before s ≡ total → total ≡ Ok (before, s)
unfolding items_at
is_done {A} item count i before s total le so_far =
    let k : count - i ≡ 0 = omega arith in
    let one : items_at item (count - i) before s ≡ Ok (before, s) = rw k refl in
    sym so_far ∙ one
