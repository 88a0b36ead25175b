use Rattle.std.proofs.Common.{arith}
use Rattle.entries.proofs.Writing.{put_is}
use Rattle.entries.proofs.fields.put_u16.Goals as goal

pub returns : goal.returns
returns c = put_is c.args.offset c.args.bytes.now _ _ (omega arith) c.write_u16.ensures
