use Rattle.std.proofs.Common.{arith, w32}
use Rattle.std.proofs.lemmas.Int.{to_z-of_z}
use Rattle.entries.proofs.Writing.{put_is}
use Rattle.entries.proofs.fields.put_i32.Goals as goal

pub returns : goal.returns
returns c =
    let written = rw (to_z-of_z w32 c.args.number c.ranges.number) at c.write_i32.ensures in
    put_is c.args.offset c.args.bytes.now _ _ (omega arith) written
