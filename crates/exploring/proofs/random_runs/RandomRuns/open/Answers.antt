use Rattle.std.proofs.Common.{rules, ◌≡◌, [], length, refl, arith}
use Rattle.findings.proofs.Prefixes.{searched_longer}
use Rattle.exploring.proofs.Openings.{newly_opened}
use Rattle.exploring.proofs.random_runs.RandomRuns.open.Goals as goal

pub begin-requires-clause-opening : goal.begin-requires-clause-opening
begin-requires-clause-opening c = rw c.requires.runs.program c.restart.ensures.opened.whole

pub begin-requires-clause-linked : goal.begin-requires-clause-linked
begin-requires-clause-linked c = rw c.requires.runs.program c.restart.ensures.opened.ready.linked

pub begin-requires-clause-stays : goal.begin-requires-clause-stays
begin-requires-clause-stays c = λ o es more most h. searched_longer _ es more (length es) _ _ _ _ _ _ (omega arith) most h

pub begin-requires-clause-seen : goal.begin-requires-clause-seen
begin-requires-clause-seen c = rw (c.requires.runs.program, c.restart.ensures.none) (c.in_ok-search.ensures [] (omega arith))

pub returns-clause-opening : goal.returns-clause-opening
returns-clause-opening c =
    let e = c.in_ok-copy.ensures in
    let count : c.len-worker.result ≡ length c.begin.new.into.events.items = search rules in
    newly_opened c.args.self.now _ c.begin.new.observer _ c.requires.runs (rw c.requires.runs.program at c.in_ok-begin.ensures.opening) (rw c.requires.runs.program at c.begin.ensures.linked) count refl refl
    (rw c.requires.runs.program at c.in_ok-begin.ensures.seen) e.found e.numbers e.watches e.files

pub returns-clause-seen : goal.returns-clause-seen
returns-clause-seen c = rw c.requires.runs.program at c.in_ok-begin.ensures.seen
