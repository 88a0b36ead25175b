-- The indexes that wait in the submission ring, after some are skipped.
use Rattle.finding_rules.proofs.Common.{◌≡◌, ℕ, ◌+◌, Bool, false, List, drop, Some, slice_get, option_map_or, ap, ◌∙◌, arith, common_steps, gets}
use Rattle.finding_rules.proofs.Looking.{passes}

-- The element at an index of what is left.
pub drop_get : (xs : List ℕ) (n k : ℕ) → slice_get (drop n xs) k ≡ slice_get xs (n + k)
drop_get xs n k = grind (arith, common_steps, gets)

-- The test of an index read from the ring is that of the list's element.
pub looked_at : (xs : List ℕ) (test : ℕ → Bool) (passed k x : ℕ) (b : Bool) → slice_get xs (passed + k) ≡ Some x → test x ≡ b → passes test (drop passed xs) k ≡ b
looked_at xs test passed k x b there t = ap (λ o. option_map_or test o false) (drop_get xs passed k ∙ there) ∙ t
