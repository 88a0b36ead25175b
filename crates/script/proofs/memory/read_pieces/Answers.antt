use Rattle.std.proofs.Common.{◌<◌, length, map, arith}
use Rattle.std.proofs.lemmas.Result.{err_from_is_err_and}
use Rattle.serde_json.specs.View.{view}
use Rattle.script.specs.Lists.{folded}
use Rattle.script.specs.Memory.{piece_at, zeros}
use Rattle.script.proofs.Each.{folded_on, folded_fails}
use Rattle.script.proofs.memory.read_pieces.Goals as goal

pub returns-in_err-write_piece : goal.returns-in_err-write_piece
returns-in_err-write_piece c =
    let p = err_from_is_err_and c.from_residual.result c.from_residual.ensures.1 in
    let lt : c.loop-i.i < length c.args.items.now = omega arith in
    rw (p.1, p.2) (folded_fails piece_at c.args.items.now c.loop-i.i c.index-items-i.result _ c.loop-i.memory.items (folded piece_at (zeros 65536) 0 (map view c.args.items.now)) lt c.index-items-i.is c.loop-i.invariant.0 c.in_err-write_piece.ensures.next)

pub loop-i-preserved : goal.loop-i-preserved
loop-i-preserved c =
    let lt : c.loop-i.i < length c.args.items.now = omega arith in
    (folded_on piece_at c.args.items.now c.loop-i.i c.index-items-i.result c.loop-i.memory.items c.write_piece.new.memory.items _ lt c.index-items-i.is c.loop-i.invariant.0 c.in_ok-write_piece.ensures.next, c.write_piece.ensures.len)
