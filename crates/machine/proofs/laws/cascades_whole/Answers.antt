use Rattle.timeouts_cancel.proofs.Whole.{whole}
use Rattle.machine.proofs.WholeCascades.{guards_formed}
use Rattle.machine.proofs.laws.cascades_whole.Goals as goal

pub returns : goal.returns
returns c = λ m direct f. whole m.table m.counted direct (guards_formed m f)
