use Rattle.links_drains.proofs.Common.{◌≡◌, refl, sym, ap, length, arith, None, option_map, slice_get, slice_get_past, Requested, keeps_noted, keeps_unchanged, table_owns, table_seen, Request}
use Rattle.links_drains.proofs.{Indexing.indexed_push, RowsKept.get-pushed, RowsKept.length-push, Seen.seen_push, Tallying.room, Tallying.tallied_push}
use Rattle.links_drains.proofs.table.Table.push.Goals as goal

pub count-requires : goal.count-requires
count-requires c = room _ _ c.self.invariant.tallied

pub enter-requires : goal.enter-requires
enter-requires c =
    let on = rw (← c.self.view_is) at c.requires.continues in
    rw (c.in_ok-push.ensures.ok, c.len-r.ensures) (c.args.row, get-pushed c.self.inside.rows c.args.row, indexed_push c.self.inside.rows c.make_room.new.self c.args.row c.in_ok-make_room.ensures.indexed c.in_ok-make_room.ensures.ok c.in_ok-make_room.ensures.counted on)

pub add-requires-clause-few : goal.add-requires-clause-few
add-requires-clause-few c =
    let few = rw (← c.self.view_is) at c.requires.room in
    omega (arith, few, c.len-r.ensures)

pub add-requires-clause-room : goal.add-requires-clause-room
add-requires-clause-room c = rw c.len-r.ensures c.in_ok-make_room-2.ensures.ok

pub invariant_of-self-2 : goal.invariant_of-self-2
invariant_of-self-2 c =
    let few = rw (← c.self.view_is) at c.requires.room in
    rw c.in_ok-push.ensures.ok (record {
      tallied = tallied_push _ _ _ _ c.self.invariant.tallied few c.count.ensures;
      indexed = rw c.in_ok-push.ensures.ok at c.enter.ensures;
      findable = c.add.ensures c.self.inside.rows (sym c.len-r.ensures) c.in_ok-make_room-2.ensures.findable;
    })

pub returns-clause-keeps : goal.returns-clause-keeps
returns-clause-keeps c =
    let absent : option_map Requested (slice_get c.self.inside.rows (length c.self.inside.rows)) ≡ None = ap (option_map Requested) (slice_get_past c.self.inside.rows (length c.self.inside.rows) (omega arith)) in
    let noted = rw c.len-r.ensures at c.in_ok-note_row.ensures.ok in
    rw (← c.self.view_is, c.in_ok-push.ensures.ok) (keeps_noted _ _ _ _ _ _ _ refl (rw absent noted) (seen_push _ _))

pub returns-in_err-push-clause-keeps : goal.returns-in_err-push-clause-keeps
returns-in_err-push-clause-keeps c =
    let absent : option_map Requested (slice_get c.self.inside.rows (length c.self.inside.rows)) ≡ None = ap (option_map Requested) (slice_get_past c.self.inside.rows (length c.self.inside.rows) (omega arith)) in
    let noted = rw c.len-r.ensures at c.in_ok-note_row.ensures.ok in
    rw (← c.self.view_is, c.in_err-push.ensures.err) (keeps_unchanged table_owns (table_seen c.self.inside.rows) c.args.notes.now.made c.note_row.new.self.made (Request (length c.self.inside.rows)) refl (rw absent noted))

pub returns-clause-len : goal.returns-clause-len
returns-clause-len c = rw (← c.self.view_is, c.in_ok-push.ensures.ok) (length-push c.self.inside.rows c.args.row)
