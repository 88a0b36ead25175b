use Rattle.std.proofs.Common.{arith}
use Rattle.sampling.proofs.Locking.{thread_count}
use Rattle.sampling.proofs.RunLemmas.{run_programs, opening_begun, accepts_from}
use Rattle.sampling.proofs.running.sample.Goals as goal

pub run-requires-clause-begun : goal.run-requires-clause-begun
run-requires-clause-begun g c =
    opening_begun c.args.program.now c.args.options c.source_of-source.result c.args.state.now c.args.into.now.events.items c.args.into.now.next_row c.args.into.now.records.items c.args.seed c.args.number c.requires.opening c.requires.linked c.source_of-source.ensures

pub returns-in_err-run-clause-accepts : goal.returns-in_err-run-clause-accepts
returns-in_err-run-clause-accepts g c = accepts_from _ c.run.new.state c.run.new.into.events.items c.run.new.into.records.items c.run.ensures.linked

pub returns-clause-accepts : goal.returns-clause-accepts
returns-clause-accepts g c = accepts_from _ c.run.new.state c.run.new.into.events.items c.run.new.into.records.items c.run.ensures.linked

pub is_over-into-requires : goal.is_over-into-requires
is_over-into-requires g c =
    let programs = run_programs c.args.program.now c.run.new.state c.run.new.into.events.items c.run.new.into.records.items c.run.ensures.linked in
    let count = thread_count c.run.new.state c.args.program.now.threads programs in
    record { few = omega (arith, count, c.thread_count.ensures.value) }
