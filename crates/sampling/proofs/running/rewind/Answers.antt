use Rattle.std.proofs.Common.{take, drop}
use Rattle.machine.specs.Runs.{run}
use Rattle.sampling.proofs.RunLemmas.{part_is, can_unwind, unwound}
use Rattle.sampling.proofs.running.rewind.Goals as goal

pub unwind-requires : goal.unwind-requires
unwind-requires c =
    let es = c.args.sample.now.events.items in
    let k = c.args.opening in
    let l = c.requires.linked in
    (run l.0 (take k es), drop k es, can_unwind l.0 c.args.state.now es c.args.sample.now.records.items _ k (part_is k _ _ c.deref.ensures.value) l.1)

pub returns-clause-linked : goal.returns-clause-linked
returns-clause-linked c = λ s l.
    let es = c.args.sample.now.events.items in
    let rs = c.args.sample.now.records.items in
    let k = c.args.opening in
    unwound s c.args.state.now c.unwind.new.self es c.truncate.new.self.items rs c.truncate-2.new.self.items k l c.truncate.ensures.items c.truncate-2.ensures.items
    (c.unwind.ensures.back (run s (take k es)) (drop k es) (can_unwind s c.args.state.now es rs _ k (part_is k _ _ c.deref.ensures.value) l))
