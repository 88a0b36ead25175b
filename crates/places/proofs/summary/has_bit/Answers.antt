use Rattle.bit_sets.proofs.Bits.{tested_bit}
use Rattle.places.proofs.summary.has_bit.Goals as goal

pub returns : goal.returns
returns c = tested_bit c.args.summary c.args.bit c.requires
