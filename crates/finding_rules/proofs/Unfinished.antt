-- Searching only the incomplete requests, for a test that only those can pass.
use Rattle.finding_rules.proofs.Common.{◌≡◌, ℕ, ◌+◌, ◌<◌, ◌≤◌, Bool, false, List, refl, Option, Some, None, slice_get, option_map_or, list_any, Phase, Issued, Row, IsNextWhere, NoneWhere, is_queued, is_issued, is_unfinished, is_open, Usage, Names, Holds, inl, inr, sym, ap, ◌∙◌, arith, and_left, cases_lt, any_false, is_user}
use Rattle.entries.specs.declared.row.Phase.TheVariants.{Queued}
use Rattle.finding_rules.proofs.Looking.{NonePasses, passes}

-- No completed request passes the test.
abbrev pub PassOpen : (Row → Bool) → Type 0
PassOpen test = (row : Row) → is_open row ≡ false → test row ≡ false

-- If the next incomplete request fails the test, all requests up to it do.
pub none_on : (test : Row → Bool) (rows : List Row) (from q : ℕ) → PassOpen test → NonePasses test rows from → IsNextWhere is_open rows from q → passes test rows q ≡ false → NonePasses test rows (q + 1)
none_on test rows from q closed none next other = λ j l.
    elim (cases_lt j from) [
      | inl before ↦ none j before
      | inr above ↦ elim (cases_lt j q) [
        | inl less ↦ by j above less (slice_get rows j) refl
        | inr last ↦ let same : j ≡ q = omega (arith, l, last) in ap (passes test rows) same ∙ other
      ]
    ]
  where
    by : (j : ℕ) → from ≤ j → j < q → (o : Option Row) → slice_get rows j ≡ o → passes test rows j ≡ false
    by j above less None e = ap (λ (o : Option Row). option_map_or test o false) e
    by j above less (Some x) e = ap (λ (o : Option Row). option_map_or test o false) e ∙ closed x (next.least j x above less e)

-- If no request is incomplete from there on, none passes.
pub none_further : (test : Row → Bool) (rows : List Row) (from : ℕ) → PassOpen test → NonePasses test rows from → NoneWhere is_open rows from → list_any test rows ≡ false
none_further test rows from closed none absent = any_false test rows (λ j x e.
    elim (cases_lt j from) [
      | inl before ↦ sym (ap (λ (o : Option Row). option_map_or test o false) e) ∙ none j before
      | inr above ↦ closed x (absent j x above e)
    ])

not_queued : (p : Phase) → is_unfinished p ≡ false → is_queued p ≡ false
not_queued Queued e = cc
not_queued p e = refl

not_issued : (p : Phase) → is_unfinished p ≡ false → is_issued p ≡ false
not_issued Issued e = cc
not_issued p e = refl

-- Only an incomplete request uses a descriptor.
pub user_open : (usage : Usage) (fd : ℕ) → PassOpen (is_user usage fd)
user_open Names fd row e = and_left _ _ (not_queued row.phase e)
user_open Holds fd row e = and_left _ _ (not_issued row.phase e)
