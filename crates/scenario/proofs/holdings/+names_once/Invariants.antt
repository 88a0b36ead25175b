use Rattle.std.proofs.Common.{length}
use Rattle.scenario.proofs.holdings.+names_once.Given as goal

abbrev pub decreases-names_once : goal.decreases-names_once
decreases-names_once l = length l.objects.now
