use Rattle.std.proofs.Common.{◌≡◌, ◌-◌, false, eqb, arith}
use Rattle.std.specs.Prelude.{slice_index}
use Rattle.std.proofs.lemmas.Bool.Decides.{nat_tests}
use Rattle.traces.proofs.Trimming.{stepped, stopped}
use Rattle.traces.proofs.setup_writing.trimmed_len.Goals as goal

pub loop-len-preserved : goal.loop-len-preserved
loop-len-preserved c = stepped c.args.bytes.now c.loop-len.len (omega arith) c.loop-len.invariant.0 (omega arith) c.loop-len.invariant.1

pub returns-else-bytes-len-eq0-clause-trimmed : goal.returns-else-bytes-len-eq0-clause-trimmed
returns-else-bytes-len-eq0-clause-trimmed c =
    let some : eqb (slice_index c.args.bytes.now (c.loop-len.len - 1)) 0 ≡ false = grind (arith, nat_tests) in
    stopped c.args.bytes.now c.loop-len.len (omega arith) c.loop-len.invariant.0 some c.loop-len.invariant.1
