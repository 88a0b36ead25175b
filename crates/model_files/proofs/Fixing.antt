-- Changes of the world preserve the properties that the setup fixed.
use Rattle.std.proofs.Common.{◌≡◌, ℕ, zero, suc, true, false, refl, sym, ◌∙◌, ap, List, [], ◌∷◌, length, ◌+◌, ◌-◌, ◌≤◌, drop, length-take, arith}
use Rattle.std.specs.Prelude.{Option, Some, None, IsSome, IsSomeAnd, is_some, option_map, slice_get, map}
use Rattle.places.specs.Lists.{updated}
use Rattle.model_files.specs.declared.body.Body.{Body}
use Rattle.model_files.specs.declared.body.Body.TheVariants.{File, Pipe, EventFd}
use Rattle.model_files.specs.declared.descriptor.DescriptorState.{DescriptorState}
use Rattle.model_files.specs.Files.{part, written, synced}
use Rattle.model_files.specs.Pipes.{GivesOut, put_in, taken_out}
use Rattle.model_files.specs.Worlds.{WorldState, WorldFormed, OneSetup, kind_of_body, fixed_of, on_file, on_pipe, on_counter, pipe_of, world_taken, world_put, world_added, world_cleared, world_read, world_written, world_synced, world_at, world_closed, world_stored}
use Rattle.model_files.proofs.Wrapping.{length-slots_with}
use Rattle.model_files.proofs.Forming.{world_taken_formed, world_cleared_formed, written_formed, world_read_formed, world_stored_formed}

pub setup_self : (w : WorldState) → OneSetup w w
setup_self w = record { memory = refl; objects = refl; descriptors = refl }

pub setup_then : (a b c : WorldState) → OneSetup a b → OneSetup b c → OneSetup a c
setup_then a b c h k = record { memory = h.memory ∙ k.memory; objects = h.objects ∙ k.objects; descriptors = h.descriptors ∙ k.descriptors }

-- A field that a change of one element leaves alone is the same in all of them.
kept : {X V : Type 0} (f : X → V) (g : X → X) (xs : List X) (i : ℕ) → ((x : X) → slice_get xs i ≡ Some x → f (g x) ≡ f x) → map f xs ≡ map f (updated g xs i)
kept f g [] i h = refl
kept f g (x ∷ xs) zero h = ap (λ v. v ∷ map f xs) (sym (h x refl))
kept f g (x ∷ xs) (suc i) h = ap (λ vs. f x ∷ vs) (kept f g xs i h)

pub setup_read : (o offset k addr : ℕ) (w : WorldState) → WorldFormed w → addr + k ≤ 65536 → OneSetup w (world_read o offset k addr w)
setup_read o offset k addr w h l = record { memory = h.memory ∙ sym (world_read_formed o offset k addr w h l).memory; objects = refl; descriptors = refl }

pub setup_stored : (addr : ℕ) (bytes : List ℕ) (w : WorldState) → WorldFormed w → addr + length bytes ≤ 65536 → OneSetup w (world_stored addr bytes w)
setup_stored addr bytes w h l = record { memory = h.memory ∙ sym (world_stored_formed addr bytes w h l).memory; objects = refl; descriptors = refl }

pub setup_written : (o offset k addr : ℕ) (w : WorldState) → WorldFormed w → offset + k ≤ 65536 → OneSetup w (world_written o offset k addr w)
setup_written o offset k addr w h l = record { memory = refl; objects = kept kind_of_body (on_file (written (part w.memory addr k) offset)) w.objects o same; descriptors = refl }
  where
    same : (b : Body) → slice_get w.objects o ≡ Some b → kind_of_body (on_file (written (part w.memory addr k) offset) b) ≡ kind_of_body b
    same (File f) e =
        let formed = h.objects o (File f) e in
        let d = length-take k (drop addr w.memory) in
        let n = written_formed f offset (part w.memory addr k) formed (omega (arith, d)) in
        ap (λ m. record { file = Some m; device = Some (length f.durable); pipe = None; counts = None }) (n.sized.bytes ∙ sym formed.sized.bytes)
    same (Pipe p) e = refl
    same (EventFd n) e = refl

pub setup_synced : (o : ℕ) (w : WorldState) → WorldFormed w → OneSetup w (world_synced o w)
setup_synced o w h = record { memory = refl; objects = kept kind_of_body (on_file synced) w.objects o same; descriptors = refl }
  where
    same : (b : Body) → slice_get w.objects o ≡ Some b → kind_of_body (on_file synced b) ≡ kind_of_body b
    same (File f) e =
        let formed = h.objects o (File f) e in
        ap (λ m. record { file = Some (length f.bytes); device = Some m; pipe = None; counts = None }) (formed.sized.bytes ∙ sym formed.sized.durable)
    same (Pipe p) e = refl
    same (EventFd n) e = refl

pub setup_closed : (fd : ℕ) (w : WorldState) → OneSetup w (world_closed fd w)
setup_closed fd w = record { memory = refl; objects = refl; descriptors = kept fixed_of (λ d. record d { is_open = false }) w.descriptors (fd - 3) (λ d e. refl) }

-- Setting the position of a descriptor that has one preserves its fixed properties.
pub setup_at : (fd n : ℕ) (w : WorldState) → ((d : DescriptorState) → slice_get w.descriptors (fd - 3) ≡ Some d → IsSome d.position) → OneSetup w (world_at fd n w)
setup_at fd n w h = record { memory = refl; objects = refl; descriptors = kept fixed_of (λ d. record d { position = Some n }) w.descriptors (fd - 3) (λ d e. same d d.position refl (h d e)) }
  where
    same : (d : DescriptorState) (x : Option ℕ) → d.position ≡ x → is_some x ≡ true → fixed_of (record d { position = Some n }) ≡ fixed_of d
    same d None e k = absurd cc
    same d (Some m) e k = ap (λ (y : Option ℕ). record { object = d.object; end = d.end; positioned = option_map (λ (z : ℕ). 0) y }) (sym e)

pub setup_taken : (o k addr : ℕ) (w : WorldState) → WorldFormed w → addr + k ≤ 65536 → IsSomeAnd (pipe_of w o) (GivesOut k) → OneSetup w (world_taken o k addr w)
setup_taken o k addr w h l there = record { memory = h.memory ∙ sym (world_taken_formed o k addr w h l there).memory; objects = kept kind_of_body (on_pipe (taken_out k)) w.objects o (λ b e. same b); descriptors = refl }
  where
    same : (b : Body) → kind_of_body (on_pipe (taken_out k) b) ≡ kind_of_body b
    same (File f) = refl
    same (Pipe p) = refl
    same (EventFd n) = refl

pub setup_put : (o k addr : ℕ) (w : WorldState) → OneSetup w (world_put o k addr w)
setup_put o k addr w = record { memory = refl; objects = kept kind_of_body (on_pipe (put_in (part w.memory addr k))) w.objects o (λ b e. same b); descriptors = refl }
  where
    same : (b : Body) → kind_of_body (on_pipe (put_in (part w.memory addr k)) b) ≡ kind_of_body b
    same (File f) = refl
    same (Pipe p) = ap (λ m. record { file = None; device = None; pipe = Some m; counts = None }) (length-slots_with p.slots p.put (part w.memory addr k))
    same (EventFd n) = refl

counters_same : (g : ℕ → ℕ) (b : Body) → kind_of_body (on_counter g b) ≡ kind_of_body b
counters_same g (File f) = refl
counters_same g (Pipe p) = refl
counters_same g (EventFd n) = refl

pub setup_added : (o n : ℕ) (w : WorldState) → OneSetup w (world_added o n w)
setup_added o n w = record { memory = refl; objects = kept kind_of_body (on_counter (λ m. m + n)) w.objects o (λ b e. counters_same (λ m. m + n) b); descriptors = refl }

pub setup_cleared : (o addr : ℕ) (w : WorldState) → WorldFormed w → addr + 8 ≤ 65536 → OneSetup w (world_cleared o addr w)
setup_cleared o addr w h l = record { memory = h.memory ∙ sym (world_cleared_formed o addr w h l).memory; objects = kept kind_of_body (on_counter (λ n. 0)) w.objects o (λ b e. counters_same (λ n. 0) b); descriptors = refl }
