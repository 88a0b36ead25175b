use Rattle.std.proofs.Common.{w64}
use Rattle.std.proofs.lemmas.Nat.Bits.{bit_at_set_same}
use Rattle.places.proofs.Summing.{bit_added}
use Rattle.places.proofs.summary.with_bit.Goals as goal

pub returns-clause-set : goal.returns-clause-set
returns-clause-set c = bit_at_set_same w64 c.args.summary c.args.bit c.requires

pub returns-clause-kept : goal.returns-clause-kept
returns-clause-kept c = λ i h. bit_added c.args.summary c.args.bit i c.requires h
