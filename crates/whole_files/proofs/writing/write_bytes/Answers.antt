use Rattle.std.proofs.Common.{◌+◌, ◌-◌, length, drop, arith, length-drop, length-take}
use Rattle.std.proofs.KnownBytes.{Appends-kept}
use Rattle.whole_files.proofs.Writes.{wrote_slice, wrote_front}
use Rattle.whole_files.proofs.writing.write_bytes.Goals as goal

pub returns-in-Ok-eq0-clause-err : goal.returns-in-Ok-eq0-clause-err
returns-in-Ok-eq0-clause-err g c = wrote_front _ _ c.args.bytes.now (c.loop-at.at + c.in-Ok-eq0.field-0) (wrote_slice _ _ _ c.args.bytes.now c.loop-at.at c.in-Ok-eq0.field-0 c.loop-at.invariant.0 c.in-Ok-eq0.ensures.bytes)

pub loop-at-preserved : goal.loop-at-preserved
loop-at-preserved g c = (
  wrote_slice _ _ _ c.args.bytes.now c.loop-at.at c.in-Ok.n c.loop-at.invariant.0 c.in-Ok.ensures.bytes,
  omega (arith, c.in-Ok.ensures.bound, c.loop-at.invariant.1, length-drop c.loop-at.at c.args.bytes.now, length-take (length c.args.bytes.now - c.loop-at.at) (drop c.loop-at.at c.args.bytes.now)),
)

pub returns-in-Err-clause-err : goal.returns-in-Err-clause-err
returns-in-Err-clause-err g c = wrote_front _ _ c.args.bytes.now c.loop-at.at (Appends-kept _ _ _ _ c.loop-at.invariant.0 c.in-Err.ensures.bytes)
