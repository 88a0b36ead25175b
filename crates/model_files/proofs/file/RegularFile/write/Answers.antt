use Rattle.std.proofs.Common.{arith}
use Rattle.model_files.proofs.Overwriting.{written_is}
use Rattle.model_files.proofs.file.RegularFile.write.Goals as goal

pub returns-then-end-self : goal.returns-then-end-self
returns-then-end-self c =
    let formed = rw (← c.self.view_is) at c.requires.formed in
    rw (← c.self.view_is, c.overwrite.ensures.next) (written_is _ _ _ _ formed c.requires.some c.requires.within (omega arith))

pub returns-else-end-self : goal.returns-else-end-self
returns-else-end-self c =
    let formed = rw (← c.self.view_is) at c.requires.formed in
    rw (← c.self.view_is, c.overwrite.ensures.next) (written_is _ _ _ _ formed c.requires.some c.requires.within (omega arith))
