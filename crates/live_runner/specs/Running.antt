-- The threads of a live run.
use Rattle.std.specs.Prelude.{◌≡◌, ℕ, ◌<◌, List, length, slice_index_or, All}
use Rattle.std.specs.declared.thread.PromisedHandle.{PromisedHandle}
use Rattle.live_runner.specs.declared.running.ForActor.{ForActor}

-- Handle i belongs to the thread of actor i.
abbrev pub HandlesInOrder : {T G : Type 0} → List (PromisedHandle T (ForActor G)) → Type 0
HandlesInOrder {T} {G} handles =
    (i : ℕ) (d : PromisedHandle T (ForActor G)) → i < length handles
    → (slice_index_or handles i d).promise.actor ≡ i

-- The thread of a handle arrives at gate g, and takes n turns.
pub record IsOfTurns {T G : Type 0} (g : G) (n : ℕ) (h : PromisedHandle T (ForActor G)) : Type 0 where
  pub turns : h.promise.turns ≡ n
  pub gate : h.promise.gate.value ≡ g

-- Each thread arrives at gate g, and takes n turns.
abbrev pub AllOfTurns : {T G : Type 0} → G → ℕ → List (PromisedHandle T (ForActor G)) → Type 0
AllOfTurns {T} {G} g n handles = All (IsOfTurns g n) handles
