-- Searching a list, element by element, for one that passes a test.
use Rattle.finding_rules.proofs.Common.{◌≡◌, ℕ, ◌+◌, ◌<◌, ◌≤◌, Bool, true, false, List, length, refl, Option, Some, None, slice_get, option_map_or, list_any, inl, inr, sym, ap, ◌∙◌, arith, cases_lt, any_true, any_false}
use Rattle.finding_rules.proofs.Draining.{none_past}

-- Whether element k passes.
abbrev pub passes : {X : Type 0} → (X → Bool) → List X → ℕ → Bool
passes test xs k = option_map_or test (slice_get xs k) false

-- No element before k passes.
abbrev pub NonePasses : {X : Type 0} → (X → Bool) → List X → ℕ → Type 0
NonePasses test xs k = (j : ℕ) → j < k → passes test xs j ≡ false

pub none_more : {X : Type 0} (test : X → Bool) (xs : List X) (k : ℕ) → NonePasses test xs k → passes test xs k ≡ false → NonePasses test xs (k + 1)
none_more test xs k none h = λ j l.
    elim (cases_lt j k) [
      | inl below ↦ none j below
      | inr past ↦ let same : j ≡ k = omega arith in ap (passes test xs) same ∙ h
    ]

pub any_here : {X : Type 0} (test : X → Bool) (xs : List X) (k : ℕ) → passes test xs k ≡ true → list_any test xs ≡ true
any_here {X = X} test xs k h = by (slice_get xs k) refl h
  where
    by : (o : Option X) → slice_get xs k ≡ o → option_map_or test o false ≡ true → list_any test xs ≡ true
    by None e t = cc
    by (Some x) e t = any_true test xs k x e t

pub any_none : {X : Type 0} (test : X → Bool) (xs : List X) (k : ℕ) → NonePasses test xs k → length xs ≤ k → list_any test xs ≡ false
any_none test xs k none l = any_false test xs (λ j x e.
    elim (cases_lt j k) [
      | inl below ↦ sym (ap (λ o. option_map_or test o false) e) ∙ none j below
      | inr past ↦ absurd (none_past xs k j x l past e)
    ])
