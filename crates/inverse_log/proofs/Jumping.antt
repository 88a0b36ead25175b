-- The number of steps of a jump that starts from a checkpoint.
use Rattle.std.proofs.Common.{◌≡◌, ℕ, ◌+◌, ◌-◌, ◌<◌, ◌≤◌, ◌∙◌, arith}
use Rattle.std.specs.Prelude.{Ok, Err, Result, OnOk, IfOk}
use Rattle.std.proofs.lemmas.Bool.Decides.{nat_tests}
use Rattle.checkpoints.specs.Checkpoints.{nearest}
use Rattle.inverse_log.specs.Walks.{Walk, steps_to}

pub steps_from_copy : (w : Walk) (m n : ℕ) → n ≡ nearest w.every m → (m ≤ w.at → m + w.window < w.at) → (n ≤ w.at → w.at ≤ m → ⊥) → steps_to w m ≡ m - n
steps_from_copy w m n e far later = grind (arith, nat_tests)

pub on_ok : {T E : Type 0} (r : Result T E) {P Q : Type 0} → (P → Q) → OnOk r P → OnOk r Q
on_ok (Ok x) f p = f p
on_ok (Err e) f p = p

pub ok_at : {T E : Type 0} (r : Result T E) (x y : T) → x ≡ y → IfOk r (λ z. z ≡ x) → IfOk r (λ z. z ≡ y)
ok_at (Ok z) x y e h = h ∙ e
ok_at (Err e) x y f h = h
