-- Up to which number a state has requests, overflowed completions and slots of the rings.
use Rattle.std.specs.Prelude.{◌≡◌, ℕ, ◌≤◌, None}
use Rattle.machine.specs.Common.{View, Request, Backlog, Array, Slot, Completion}

-- From number n on, no request, overflowed completion or slot of a ring is there.
pub record IsNumberedBelow (v : View) (n : ℕ) : Type 0 where
  pub requests : (i : ℕ) → n ≤ i → v (Request i) ≡ None
  pub backlog : (i : ℕ) → n ≤ i → v (Backlog i) ≡ None
  pub words : (i : ℕ) → n ≤ i → v (Array i) ≡ None
  pub entries : (i : ℕ) → n ≤ i → v (Slot i) ≡ None
  pub completions : (i : ℕ) → n ≤ i → v (Completion i) ≡ None
