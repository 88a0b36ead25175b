use Rattle.std.proofs.Common.{rules, ◌≡◌, refl, arith}
use Rattle.std.specs.Prelude.{Some}
use Rattle.machine.proofs.LinkedRuns.{length_linked}
use Rattle.exploring.proofs.Openings.{opened_again, again_seen}
use Rattle.exploring.proofs.random_runs.RandomRuns.opened.Goals as goal

pub rewind-requires-clause-records : goal.rewind-requires-clause-records
rewind-requires-clause-records c =
    let same = length_linked _ _ _ _ c.requires.linked in
    omega (arith, same, c.requires.within)

pub returns-in_ok-copy-in-Some-clause-opening : goal.returns-in_ok-copy-in-Some-clause-opening
returns-in_ok-copy-in-Some-clause-opening c = opened_again c.args.self.now c.args.worker.now _ c.requires c.rewind.ensures.events refl refl c.rewind.ensures.next_row refl (c.rewind.ensures.linked _ c.requires.linked)

pub returns-in_ok-copy-in-Some-clause-seen : goal.returns-in_ok-copy-in-Some-clause-seen
returns-in_ok-copy-in-Some-clause-seen c =
    let is : c.args.worker.now.search ≡ Some c.in-Some.search = search rules in
    let e = c.in_ok-copy-in-Some.ensures in
    again_seen c.args.self.now c.args.worker.now (record c.args.worker.now { sample = c.rewind.new.sample }) c.in-Some.search c.in_ok-copy-in-Some.copy c.requires is c.rewind.ensures.events e.found e.numbers e.watches e.files
