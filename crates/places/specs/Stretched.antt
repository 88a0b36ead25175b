-- A run of recorded bytes as an iterator returns it.
use Rattle.std.specs.Prelude.{ℕ, ◌+◌, ◌<◌, ◌^◌, List, Option, length}
use Rattle.places.specs.declared.notes.byte_changes.Stretch.{Stretch}
use Rattle.places.specs.Masked.{marks_from, masked}

-- The old bytes of the run, with `None` for dropped ones.
abbrev pub kept_of : Stretch → List (Option ℕ)
kept_of s = masked s.olds.now (marks_from s.gone.now s.mark (length s.olds.now))

-- The numbers of its bits fit into 64 bits.
abbrev pub CanCount : Stretch → Type 0
CanCount s = s.mark + length s.olds.now < 2 ^ 64
