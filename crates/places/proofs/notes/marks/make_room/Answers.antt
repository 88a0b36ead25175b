use Rattle.std.proofs.Common.{ap, not, refl}
use Rattle.bit_sets.proofs.Bits.{has_grown, no_bits}
use Rattle.places.proofs.notes.marks.make_room.Goals as goal

pub returns-in_ok-lengthen-clause-kept : goal.returns-in_ok-lengthen-clause-kept
returns-in_ok-lengthen-clause-kept c = λ q. rw (c.in_ok-lengthen.ensures.ok) (ap not (has_grown c.args.gone.now.items _ q (λ w. no_bits _ 0 w refl)))
