-- The places of changed threads.
use Rattle.machine.proofs.Common.{◌≡◌, ℕ, zero, suc, ℤ, Bool, true, cond, refl, sym, ◌∙◌, ap, List, [], ◌∷◌, arith, Option, Some, slice_get, slice_set, ◌&&◌, slice_get_within, Cqe, Stage, Place, ProgramCounter, ThreadStage, Last, Got, Number, Signed, Staged, Reaped, put_at, updated, field_set, field_same, ThreadState, threads_seen, same_place}

-- Places of the same kind differ only by their index.
one_index : {X : Type 0} (b : Bool) (x y : X) → cond b x y ≡ cond (b && true) x y
one_index = grind arith

pub seen_counter : (ts : List ThreadState) (t : ℕ) (x : ThreadState) (n : ℕ) → slice_get ts t ≡ Some x → (q : Place) → threads_seen (slice_set ts t (record x { counter = n })) q ≡ put_at (threads_seen ts) (ProgramCounter t) (Some (Number n)) q
unfolding same_place
seen_counter = grind (arith, field_set, slice_get_within, one_index, field_same)

pub seen_stage : (ts : List ThreadState) (t : ℕ) (x : ThreadState) (n : Stage) → slice_get ts t ≡ Some x → (q : Place) → threads_seen (slice_set ts t (record x { stage = n })) q ≡ put_at (threads_seen ts) (ThreadStage t) (Some (Staged n)) q
unfolding same_place
seen_stage = grind (arith, field_same, field_set, slice_get_within, one_index)

pub seen_last : (ts : List ThreadState) (t : ℕ) (x : ThreadState) (n : ℤ) → slice_get ts t ≡ Some x → (q : Place) → threads_seen (slice_set ts t (record x { last = n })) q ≡ put_at (threads_seen ts) (Last t) (Some (Signed n)) q
unfolding same_place
seen_last = grind (arith, field_same, field_set, slice_get_within, one_index)

pub seen_got : (ts : List ThreadState) (t : ℕ) (x : ThreadState) (n : Option Cqe) → slice_get ts t ≡ Some x → (q : Place) → threads_seen (slice_set ts t (record x { got = n })) q ≡ put_at (threads_seen ts) (Got t) (Some (Reaped n)) q
unfolding same_place
seen_got = grind (arith, field_same, field_set, slice_get_within, one_index)

-- A thread changes twice.
pub updated_then : (f g : ThreadState → ThreadState) (ts : List ThreadState) (t : ℕ) → updated g (updated f ts t) t ≡ updated (λ x. g (f x)) ts t
updated_then f g [] t = refl
updated_then f g (x ∷ xs) zero = refl
updated_then f g (x ∷ xs) (suc t) = ap (λ ys. x ∷ ys) (updated_then f g xs t)

-- A change that changes nothing.
pub updated_same : (f : ThreadState → ThreadState) (ts : List ThreadState) (t : ℕ) (x : ThreadState) → slice_get ts t ≡ Some x → f x ≡ x → ts ≡ updated f ts t
updated_same f [] t x h e = refl
updated_same f (y ∷ ys) zero x h e = let same : y ≡ x = cc in ap (λ z. z ∷ ys) (same ∙ sym e ∙ ap f (sym same))
updated_same f (y ∷ ys) (suc t) x h e = ap (λ zs. y ∷ zs) (updated_same f ys t x h e)
