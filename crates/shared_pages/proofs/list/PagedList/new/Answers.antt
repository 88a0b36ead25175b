use Rattle.std.proofs.Common.{refl}
use Rattle.shared_pages.specs.Lists.{elements}
use Rattle.shared_pages.proofs.list.PagedList.new.Goals as goal

pub returns : goal.returns
unfolding elements
returns g c = refl
