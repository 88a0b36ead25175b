-- The turns of an actor, and what its gate did at each.
use Rattle.std.proofs.Common.{◌≡◌, inl, inr, ℕ, ◌+◌, ◌<◌, ◌≤◌, Bool, true, false, List, [], ◌∷◌, length, length-append, slice_get, Some, option_map, refl, sym, ◌∙◌, ap, subst, arith}
use Rattle.std.specs.Prelude.{All, Result, Ok, Err, IfOk}
use Rattle.std.proofs.lemmas.Bool.{true≢false}
use Rattle.std.proofs.lemmas.List.Elements.{All-get_or}
use Rattle.std.proofs.lemmas.Option.{slice_get-map, slice_get_cases, same_Some, none-some}
use Rattle.std.proofs.Math.Nat.{eq-or-lt_of_le}
use Rattle.live_states.specs.declared.receipt.Receipt.{Receipt}
use Rattle.live_states.specs.History.{Held, History, Past, closed_of}
use Rattle.live_runner.specs.declared.worker.Turn.{Turn}
use Rattle.live_runner.specs.declared.worker.Turn.TheVariants.{Did, Idle, Refused, Stuck}
use Rattle.live_runner.specs.History.{WorkerState, WorkInOrder, all_receipts}
use Rattle.live_runner.specs.Turns.{seat_after, HasPassed, HasWorked, AllPassed}

-- A turn makes at most one event.
pub one_more : (s : Held) (r : Turn) → length (seat_after s r).receipts ≤ length s.receipts + 1
one_more s (Did r) = omega (arith, length-append s.receipts (r ∷ []))
one_more s Idle = omega arith
one_more s (Refused x) = omega arith
one_more s Stuck = omega arith

-- What holds of each turn up to t and of turn t + 1 holds of each turn up to t + 1.
up_to_next : (P : ℕ → Type 0) (t : ℕ) → ((k : ℕ) → 0 < k → k ≤ t → P k) → P (t + 1) → (k : ℕ) → 0 < k → k ≤ t + 1 → P k
up_to_next P t all last k a b = elim (eq-or-lt_of_le b) [
  | inl e ↦ subst P (sym e) last
  | inr l ↦ all k a (omega arith)
]

module _ {G : Type 0} (opens shuts : G → ℕ → ℕ → Type 0) where
  -- An actor that has taken no turn.
  pub passed_none : (g : G) (actor n taken events : ℕ) (stuck : Bool) → n ≡ 0 → taken ≡ 0 → events ≡ 0 → stuck ≡ false → HasPassed opens shuts g actor n taken events stuck
  passed_none g actor n taken events stuck start none empty free = record {
    turns = 0;
    most = omega arith;
    opened = λ k a b. absurd (omega arith);
    made = omega arith;
    whole = λ e. (sym start, none ∙ sym start);
    shut = λ e. absurd (true≢false (sym e ∙ free));
  }

  -- The actor after one more turn.
  pub passed_next : (g : G) (actor n t t' v v' : ℕ) (b b' : Bool) → HasPassed opens shuts g actor n t v b
      → (b ≡ true → (t' ≡ t) × (v' ≡ v) × (b' ≡ true))
      → (b ≡ false → b' ≡ true → shuts g actor t' × (t' ≡ t + 1) × (v' ≡ v))
      → (b' ≡ false → opens g actor t' × (t' ≡ t + 1) × (v' ≤ v + 1))
      → HasPassed opens shuts g actor (n + 1) t' v' b'
  passed_next g actor n t t' v v' true b' was staying shutting opening =
      let s = staying refl in
      let e = s.1 in
      let m = was.most in
      let made = was.made in record {
        turns = was.turns;
        most = omega arith;
        opened = was.opened;
        made = omega arith;
        whole = λ x. absurd (true≢false (sym s.2 ∙ x));
        shut = λ x. ((was.shut refl).0, s.0 ∙ (was.shut refl).1);
      }
  passed_next g actor n t t' v v' false true was staying shutting opening =
      let s = shutting refl refl in
      let w = was.whole refl in
      let more : t' ≡ was.turns + 1 = s.1 ∙ ap (λ x. x + 1) (w.1 ∙ sym w.0) in
      let m = was.most in
      let made = was.made in
      let e = s.2 in record {
        turns = was.turns;
        most = omega arith;
        opened = was.opened;
        made = omega arith;
        whole = λ x. absurd (true≢false x);
        shut = λ x. (subst (shuts g actor) more s.0, more);
      }
  passed_next g actor n t t' v v' false false was staying shutting opening =
      let s = opening refl in
      let w = was.whole refl in
      let more : t' ≡ was.turns + 1 = s.1 ∙ ap (λ x. x + 1) (w.1 ∙ sym w.0) in
      let m = was.most in
      let made = was.made in
      let e = s.2 in record {
        turns = was.turns + 1;
        most = omega arith;
        opened = up_to_next (opens g actor) was.turns was.opened (subst (opens g actor) more s.0);
        made = omega arith;
        whole = λ x. (ap (λ y. y + 1) w.0, s.1 ∙ ap (λ y. y + 1) w.1);
        shut = λ x. absurd (true≢false (sym x));
      }

  -- The same of equal values.
  pub passed_same : (g g' : G) (actor actor' n n' t t' v v' : ℕ) (b b' : Bool) → g' ≡ g → actor ≡ actor' → n' ≡ n → t ≡ t' → v ≡ v' → b ≡ b' → HasPassed opens shuts g' actor' n' t' v' b' → HasPassed opens shuts g actor n t v b
  passed_same g g' actor actor' n n' t t' v v' b b' eg ea en et ev eb h =
      rw ea (rw et (rw ev (rw eb (rw (sym en) (rw (sym eg) h)))))

  -- What the gate let each worker of a closed run pass.
  pub passed_all : (g : G) (n : ℕ) (ws : List (WorkerState G)) (h : History) → WorkInOrder ws → All (HasWorked opens shuts g n) ws → AllPassed opens g n (closed_of h (all_receipts ws))
  passed_all g n ws h order all a rs there =
      let f : WorkerState G → List Receipt = λ w. w.seat.receipts in
      let mapped : option_map f (slice_get ws a) ≡ Some rs = sym (slice_get-map f ws a) ∙ there in
      elim (slice_get_cases ws a).1 [
        | inl found ↦
            let w = found.0 in
            let same : f w ≡ rs = same_Some _ _ (sym (ap (option_map f) found.2) ∙ mapped) in
            let worked : HasWorked opens shuts g n w = subst (HasWorked opens shuts g n) found.3 (All-get_or (HasWorked opens shuts g n) ws a w found.1 all) in
            let actor : w.seat.actor ≡ a = ap (λ (x : WorkerState G). x.seat.actor) (sym found.3) ∙ order a w found.1 in (
              worked.turns,
              worked.most,
              subst (λ x. length x ≤ worked.turns) same worked.made,
              λ k low high. subst (λ x. opens g x k) actor (worked.opened k low high),
            )
        | inr none ↦ absurd (none-some _ (sym (ap (option_map f) none.1) ∙ mapped))
      ]

  -- The same of a run that was closed of them.
  pub passed_closed : {E : Type 0} (r : Result Past E) (g : G) (n : ℕ) (x : Past) → IfOk r (λ c. c ≡ x) → AllPassed opens g n x → IfOk r (AllPassed opens g n)
  passed_closed (Ok c) g n x e all = subst (AllPassed opens g n) (sym e) all
  passed_closed (Err f) g n x e all = tt
