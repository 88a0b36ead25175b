use Rattle.bit_sets.proofs.Bits.{bit_set}
use Rattle.bit_sets.proofs.NextBits.{bit_cleared}
use Rattle.bit_sets.proofs.sets.with_bit.Goals as goal

pub returns-then-member : goal.returns-then-member
returns-then-member c = λ b h. bit_set c.args.word c.args.bit b c.args.member c.requires c.if-member.true

pub returns-else-member : goal.returns-else-member
returns-else-member c = λ b h. bit_cleared c.args.word c.args.bit b c.args.member c.requires h c.if-member.false
