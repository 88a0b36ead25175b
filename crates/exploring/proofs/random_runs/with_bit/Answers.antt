use Rattle.std.proofs.Common.{◌≡◌, ℕ, Bool, true, false}
use Rattle.std.specs.Prelude.{if◌then◌else◌}
use Rattle.std.specs.Int.{w64}
use Rattle.std.proofs.lemmas.Bool.{false≢true}
use Rattle.std.proofs.lemmas.Nat.Bits.{bit_at_set_same, bit_at_set_other}
use Rattle.exploring.proofs.random_runs.with_bit.Goals as goal

bit_on : (x : ℕ) (on : Bool) → on ≡ true → x ≡ 1 → x ≡ (if on then 1 else 0)
bit_on x true e h = h
bit_on x false e h = absurd (false≢true e)

pub returns-then-on-clause-bit : goal.returns-then-on-clause-bit
returns-then-on-clause-bit c = λ h. bit_on _ c.args.on c.if-on.true (bit_at_set_same w64 c.args.bits c.args.k c.requires)

pub returns-then-on-clause-others : goal.returns-then-on-clause-others
returns-then-on-clause-others c = λ i other. bit_at_set_other w64 c.args.bits c.args.k c.requires i other
