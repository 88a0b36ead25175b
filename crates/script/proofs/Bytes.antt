-- Decoding hex bytes into a buffer.
use Rattle.std.proofs.Common.{◌≡◌, sym, ap, Result, Ok, Err, Some, None, refl}
use Rattle.std.specs.Prelude.{MatchResult}
use Rattle.std.specs.Result.{result_ok}

-- A call that returned Ok wrote the decoded bytes.
pub decoded : {A E : Type 0} → (r : Result A E) (answer : Result (Unit {0}) E) (new : A) → MatchResult r (λ x. (answer ≡ Ok tt) × (new ≡ x)) (λ e. answer ≡ Err e) → answer ≡ Ok tt → result_ok r ≡ Some new
decoded (Ok x) answer new h k = ap Some (sym h.1)
decoded (Err e) answer new h k = absurd (cc)

pub not_decoded : {A E : Type 0} → (r : Result A E) (answer : Result (Unit {0}) E) (new : A) (e : E) → MatchResult r (λ x. (answer ≡ Ok tt) × (new ≡ x)) (λ d. answer ≡ Err d) → answer ≡ Err e → result_ok r ≡ None
not_decoded (Ok x) answer new e h k = let j = h.0 in absurd (cc)
not_decoded (Err d) answer new e h k = refl
