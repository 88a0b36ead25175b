use Rattle.std.proofs.Common.{refl}
use Rattle.links_drains.proofs.Finding.{findable_empty}
use Rattle.links_drains.proofs.finder.Finder.new.Goals as goal

pub returns : goal.returns
returns c = findable_empty _ _ refl
