use Rattle.std.proofs.Common.{arith}
use Rattle.traces.proofs.Put.{put_is}
use Rattle.traces.proofs.fields.put_u64.Goals as goal

pub returns : goal.returns
returns c = put_is c.args.offset c.args.bytes.now _ _ (omega arith) c.write_u64.ensures
