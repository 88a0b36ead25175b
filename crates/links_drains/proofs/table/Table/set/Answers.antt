use Rattle.links_drains.proofs.Common.{refl, length, arith, slice_get_read, slice_get-set_same}
use Rattle.links_drains.proofs.{Finding.findable_set, Finding.place_at, Fixed.fixed_at, Fixed.fixed_within, Fixed.same_count, Fixed.same_drain, Fixed.same_unit, Indexing.flags_set, Indexing.indexed_set, Tallying.room_less, Tallying.counts_row, Tallying.tallied_set}
use Rattle.links_drains.proofs.table.Table.set.Goals as goal

pub index-requires : goal.index-requires
index-requires c =
    let fixed = rw (← c.self.view_is) at c.requires in
    (omega arith, fixed_within c.self.inside.rows c.args.r c.args.after fixed)

pub take_off-requires : goal.take_off-requires
take_off-requires c =
    let fixed = rw (← c.self.view_is) at c.requires in
    let within = fixed_within c.self.inside.rows c.args.r c.args.after fixed in
    counts_row c.self.inside.rows c.self.inside.held c.args.r c.index.result.now c.self.invariant.tallied (slice_get_read c.self.inside.rows (length c.self.inside.rows) c.args.r c.index.result.now refl within c.index.ensures)

pub count-requires : goal.count-requires
count-requires c = room_less c.self.inside.rows c.self.inside.held c.take_off.new.held c.index.result.now c.self.invariant.tallied c.take_off.ensures

pub change-requires-clause-but : goal.change-requires-clause-but
change-requires-clause-but c =
    let fixed = rw (← c.self.view_is) at c.requires in
    let within = fixed_within c.self.inside.rows c.args.r c.args.after fixed in
    let f = fixed_at c.self.inside.rows c.args.r c.args.after fixed in
    rw c.set.ensures (
      c.args.after,
      slice_get-set_same c.self.inside.rows c.args.r c.args.after within,
      indexed_set c.self.inside.rows c.self.inside.index c.args.r f.before c.args.after c.self.invariant.indexed f.there (same_unit c.args.after f.before f.same) (same_count c.args.after f.before f.same) (same_drain c.args.after f.before f.same),
    )

pub change-requires-clause-flagged : goal.change-requires-clause-flagged
change-requires-clause-flagged c =
    let fixed = rw (← c.self.view_is) at c.requires in
    let f = fixed_at c.self.inside.rows c.args.r c.args.after fixed in
    rw c.set.ensures (flags_set c.self.inside.rows c.self.inside.index c.args.r f.before c.args.after c.self.invariant.indexed f.there (same_drain c.args.after f.before f.same))

pub mark-requires-clause-few : goal.mark-requires-clause-few
mark-requires-clause-few c =
    let fixed = rw (← c.self.view_is) at c.requires in
    let within = fixed_within c.self.inside.rows c.args.r c.args.after fixed in
    let most = c.self.invariant.tallied.most in
    omega (arith, within, most)

pub mark-requires-clause-room : goal.mark-requires-clause-room
mark-requires-clause-room c =
    let fixed = rw (← c.self.view_is) at c.requires in
    place_at c.self.inside.rows c.args.r c.self.inside.finder (fixed_within c.self.inside.rows c.args.r c.args.after fixed) c.self.invariant.findable

pub invariant_of-self : goal.invariant_of-self
invariant_of-self c =
    let fixed = rw (← c.self.view_is) at c.requires in
    let within = fixed_within c.self.inside.rows c.args.r c.args.after fixed in
    rw c.set.ensures (record {
      tallied = tallied_set c.self.inside.rows c.self.inside.held c.take_off.new.held c.count.new.held c.args.r c.index.result.now c.args.after c.self.invariant.tallied
          (slice_get_read c.self.inside.rows (length c.self.inside.rows) c.args.r c.index.result.now refl within c.index.ensures) c.take_off.ensures c.count.ensures;
      indexed = rw c.set.ensures at c.change.ensures;
      findable = let f = fixed_at c.self.inside.rows c.args.r c.args.after fixed in findable_set c.self.inside.rows c.args.r f.before c.args.after c.self.inside.finder c.mark.new.self c.self.invariant.findable f.there f.same c.mark.ensures;
    })
