-- A transfer of 0 bytes changes nothing.
use Rattle.std.proofs.Common.{◌≡◌, ℕ, zero, suc, List, [], ◌∷◌, Some, refl, ap, ◌∙◌, take, drop, arith}
use Rattle.opcodes.proofs.Common.{slice_get, Sqe, Body, DescriptorState, written, WorldState, WorldFormed, descriptor_of, on_file, world_put, world_read, world_taken, world_written, moved_on, bytes_read, bytes_written, offset_of, position_of, updated}
use Rattle.model_files.{specs.declared.body.Body.TheVariants.File, specs.declared.body.Body.TheVariants.Pipe, specs.declared.body.Body.TheVariants.EventFd, proofs.Overwriting.overwritten_none, proofs.Overwriting.written_none}
use Rattle.std.proofs.lemmas.Grind.{common_steps}

updated_same : {X : Type 0} (f : X → X) (xs : List X) (i : ℕ) → ((x : X) → slice_get xs i ≡ Some x → f x ≡ x) → updated f xs i ≡ xs
updated_same f [] i h = refl
updated_same f (x ∷ xs) zero h = ap (λ y. y ∷ xs) (h x refl)
updated_same f (x ∷ xs) (suc i) h = ap (λ ys. x ∷ ys) (updated_same f xs i (λ y e. h y e))

take_none : (xs : List ℕ) → take 0 xs ≡ []
take_none = grind arith

read_nothing : (o at addr : ℕ) (w : WorldState) → world_read o at 0 addr w ≡ w
read_nothing = grind (arith, overwritten_none)

written_nothing : (o at addr : ℕ) (w : WorldState) → WorldFormed w → world_written o at 0 addr w ≡ w
written_nothing o at addr w f =
    ap (λ os. record w { objects = os })
    (ap (λ bs. updated (on_file (written bs at)) w.objects o) (take_none (drop addr w.memory)) ∙ updated_same (on_file (written [] at)) w.objects o keep)
  where
    keep : (b : Body) → slice_get w.objects o ≡ Some b → on_file (written [] at) b ≡ b
    keep (File g) e = ap File (written_none g at (f.objects o (File g) e))
    keep (Pipe p) e = refl
    keep (EventFd n) e = refl

-- A READ of 0 bytes from a pipe.
pub taken_nothing : (o addr : ℕ) (w : WorldState) → world_taken o 0 addr w ≡ w
taken_nothing = grind (arith, overwritten_none, updated_same)

pub put_nothing : (o addr : ℕ) (w : WorldState) → world_put o 0 addr w ≡ w
put_nothing = grind (arith, updated_same)

moved_nothing : (entry : Sqe) (fd : ℕ) (d : DescriptorState) (w : WorldState) → descriptor_of w fd ≡ Some d → moved_on entry fd d.position 0 w ≡ w
moved_nothing = grind (arith, updated_same)

-- A READ of 0 bytes from a file.
pub bytes_read_nothing : (entry : Sqe) (fd : ℕ) (d : DescriptorState) (w : WorldState) → descriptor_of w fd ≡ Some d → bytes_read entry fd d 0 w ≡ w
bytes_read_nothing = grind (arith, common_steps, read_nothing, moved_nothing)

pub bytes_written_nothing : (entry : Sqe) (fd : ℕ) (d : DescriptorState) (w : WorldState) → WorldFormed w → descriptor_of w fd ≡ Some d → bytes_written entry fd d 0 w ≡ w
bytes_written_nothing entry fd d w f there =
    ap (moved_on entry fd d.position 0) (written_nothing d.object (offset_of entry (position_of (Some d))) entry.addr w f) ∙ moved_nothing entry fd d w there
