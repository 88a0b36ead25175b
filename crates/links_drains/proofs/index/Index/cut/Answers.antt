use Rattle.links_drains.proofs.Common.{refl, Some, slice_get, slice_get_read, ◌≡◌, ◌<◌, ◌-◌, length, arith}
use Rattle.links_drains.proofs.Indexing.{flags_left, indexed_left, indexed_none_left}
use Rattle.links_drains.proofs.index.Index.cut.Goals as goal

pub forget-requires-clause-room : goal.forget-requires-clause-room
forget-requires-clause-room c = rw (← c.requires.cut.2) c.requires.cut.1.room

pub change-requires-clause-but : goal.change-requires-clause-but
change-requires-clause-but c =
    let forgotten = rw c.len-left.ensures at c.forget.ensures in
    let some : 0 < length c.args.rows.now = omega (arith, c.len-left.ensures, c.if-left-gt0.true) in
    let last : slice_get c.args.rows.now (c.len-left.result - 1) ≡ Some c.index.result.now = slice_get_read c.args.rows.now (length c.args.rows.now) (c.len-left.result - 1) c.index.result.now refl (omega (arith, c.len-left.ensures, some)) c.index.ensures in
    let there = rw c.len-left.ensures at last in
    rw c.len-left.ensures (
      c.index.result.now,
      there,
      indexed_left c.requires.cut.0 c.args.rows.now c.args.self.now c.forget.new.self c.args.n (length c.args.rows.now) c.index.result.now c.requires.cut.1 c.requires.cut.2 c.requires.cut.3 c.requires.within some there forgotten
          c.write.new.self c.write.ensures.len c.write.ensures.has,
    )

pub change-requires-clause-flagged : goal.change-requires-clause-flagged
change-requires-clause-flagged c =
    flags_left c.requires.cut.0 c.args.rows.now c.args.self.now c.forget.new.self c.args.n (length c.args.rows.now) c.requires.cut.1 c.requires.cut.2 c.requires.cut.3 (rw c.len-left.ensures at c.forget.ensures)

pub returns-else-left-gt0 : goal.returns-else-left-gt0
returns-else-left-gt0 c =
    let none : c.len-left.result ≡ 0 = omega (arith, c.if-left-gt0.false) in
    indexed_none_left c.requires.cut.0 c.args.rows.now c.args.self.now c.forget.new.self c.args.n c.requires.cut.1 c.requires.cut.2 (omega (arith, none, c.len-left.ensures)) (rw none at c.forget.ensures)
