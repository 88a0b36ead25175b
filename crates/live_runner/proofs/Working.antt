-- Workers created from seats, and workers returned by threads.
use Rattle.std.proofs.Common.{◌≡◌, ℕ, List, [], ◌∷◌, ◌++◌, map, sym, ap, ◌∙◌, append_assoc}
use Rattle.std.specs.Prelude.{All}
use Rattle.std.specs.declared.thread.PromisedHandle.{PromisedHandle}
use Rattle.std.proofs.lemmas.List.Elements.{All-head, All-push, All-rest, All-same}
use Rattle.live_states.specs.History.{Held}
use Rattle.live_runner.specs.declared.running.ForActor.{ForActor}
use Rattle.live_runner.specs.History.{WorkerState, fresh}
use Rattle.live_runner.specs.Running.{IsOfTurns, AllOfTurns}

module _ {G : Type 0} (g : G) where
  -- The workers created so far, and those of the remaining seats, before and after the next one.
  pub made_next : (ws ws' all : List (WorkerState G)) (w : WorkerState G) (s : Held) (rest rest' : List Held) → ws ++ map (fresh g) rest ≡ all → rest ≡ s ∷ rest' → w ≡ fresh g s → ws' ≡ ws ++ w ∷ [] → ws' ++ map (fresh g) rest' ≡ all
  made_next ws ws' all w s rest rest' was next made pushed =
      ap (λ l. l ++ map (fresh g) rest') pushed ∙ append_assoc ws (w ∷ []) (map (fresh g) rest') ∙ ap (λ x. ws ++ x ∷ map (fresh g) rest') made
      ∙ ap (λ l. ws ++ map (fresh g) l) (sym next) ∙ was

  -- The remaining handles, and the workers returned so far, after the next one.
  pub worked_next : {T : Type 0} (Has : WorkerState G → Type 0) (n : ℕ) (ws ws' : List (WorkerState G)) (w : WorkerState G) (h : PromisedHandle T (ForActor G)) (rest rest' : List (PromisedHandle T (ForActor G))) → AllOfTurns g n rest × All Has ws → rest ≡ h ∷ rest' → (IsOfTurns g n h → Has w) → ws' ≡ ws ++ w ∷ [] → AllOfTurns g n rest' × All Has ws'
  worked_next {T} Has n ws ws' w h rest rest' was next has pushed =
      let P : PromisedHandle T (ForActor G) → Type 0 = IsOfTurns g n in
      let all : All P (h ∷ rest') = All-same P (h ∷ rest') rest (sym next) was.0 in
      (All-rest P h rest' rest next was.0, All-same Has ws' (ws ++ w ∷ []) pushed (All-push Has ws w was.1 (has (All-head P h rest' all))))
