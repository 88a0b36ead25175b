-- Threads that advance remain within their programs.
use Rattle.machine.proofs.Common.{◌≡◌, ℕ, ℤ, sym, ◌∙◌, ap, subst, List, length, ◌+◌, ◌<◌, ◌^◌, ◌⊎◌, inl, inr, arith, FitsSigned, Option, Some, slice_get, slice_get_within, Cqe, updated, Stage, Ready, Waiting, ThreadState, WellFormed, ThreadWellFormed, Instruction, Enter, Machine}
use Rattle.std.specs.Int.{w64}
use Rattle.machine.proofs.ListsChanged.{updated_get}

-- A thread that has an instruction advances.
pub well_formed_on : (size : ℕ) (x : ThreadState) (i : Instruction) (stage : Stage) (n : ℤ) (got : Option Cqe) → ThreadWellFormed size x → slice_get x.program x.counter ≡ Some i → stage ≡ Ready → FitsSigned w64 n → ThreadWellFormed size (record x { counter = x.counter + 1; stage = stage; last = n; got = got })
well_formed_on = grind (arith, slice_get_within)

-- A thread that is at an Enter waits there.
pub well_formed_held : (size : ℕ) (x : ThreadState) (n w to_submit min_complete flags : ℕ) → ThreadWellFormed size x → slice_get x.program x.counter ≡ Some (Enter to_submit min_complete flags) → n < 2 ^ 32 → w < 2 ^ 32 → ThreadWellFormed size (record x { stage = Waiting n w })
well_formed_held = grind arith

-- One thread changes.
pub well_formed_updated : (size : ℕ) (ts : List ThreadState) (f : ThreadState → ThreadState) (t : ℕ) (x : ThreadState) → ((j : ℕ) (y : ThreadState) → slice_get ts j ≡ Some y → ThreadWellFormed size y) → slice_get ts t ≡ Some x → ThreadWellFormed size (f x)
    → (j : ℕ) (y : ThreadState) → slice_get (updated f ts t) j ≡ Some y → ThreadWellFormed size y
well_formed_updated size ts f t x h e s j y g = by (updated_get f ts t j y g)
  where
    by : (slice_get ts j ≡ Some y) ⊎ ((z : ThreadState) × (t ≡ j) × (slice_get ts j ≡ Some z) × (y ≡ f z)) → ThreadWellFormed size y
    by (inl k) = h j y k
    by (inr k) =
        let same : x ≡ k.0 = let o = sym e ∙ ap (slice_get ts) k.1 ∙ k.2 in cc in
        subst (ThreadWellFormed size) (ap f same ∙ sym k.3) s

pub formed_thread : (m : Machine) (f : ThreadState → ThreadState) (t : ℕ) (x : ThreadState) → WellFormed m → slice_get m.threads t ≡ Some x → ThreadWellFormed (length m.submissions.slots) (f x) → WellFormed (record m { threads = updated f m.threads t })
formed_thread m f t x h e s = record {
  mostly = record {
    rings = h.mostly.rings;
    kept = h.mostly.kept;
    table = h.mostly.table;
    world = h.mostly.world;
    clock = h.mostly.clock;
    threads = well_formed_updated (length m.submissions.slots) m.threads f t x h.mostly.threads e s;
  };
  rows = h.rows;
  guards = h.guards;
  unmet = h.unmet;
  puts = h.puts;
}
