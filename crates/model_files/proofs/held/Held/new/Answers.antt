use Rattle.std.proofs.Common.{◌≡◌, ℕ, ◌-◌, Bool, true, false, cond, refl, get_or, arith}
use Rattle.std.specs.Prelude.{replicate}
use Rattle.std.proofs.lemmas.Grind.{common_steps}
use Rattle.model_files.specs.Holders.{is_descriptor_number}
use Rattle.model_files.proofs.held.Held.new.Goals as goal

nothing : (n k x : ℕ) → get_or (replicate n x) k x ≡ x
nothing n k x = grind (arith, common_steps)

pub returns : goal.returns
returns c = λ fd. none (is_descriptor_number fd) fd
  where
    none : (b : Bool) (fd : ℕ) → cond b (get_or {A = ℕ} (replicate 64 0) (fd - 3) 0) 0 ≡ 0
    none true fd = nothing 64 (fd - 3) 0
    none false fd = refl
