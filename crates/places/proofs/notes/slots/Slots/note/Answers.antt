use Rattle.std.proofs.Common.{rules, ◌≡◌, length}
use Rattle.places.specs.Marks.{IsMarked}
use Rattle.places.proofs.Marking.{marked_noted, noted_more, slots_reached, slots_once}
use Rattle.places.proofs.notes.slots.Slots.note.Goals as goal

pub returns-then-is_marked-clause-ok : goal.returns-then-is_marked-clause-ok
returns-then-is_marked-clause-ok g c =
    let k : IsMarked g.N.Slotted.slot c.deref.result.now c.deref-2.result.now c.slot-slot.result = c.if-is_marked.ensures in
    let h : IsMarked g.N.Slotted.slot c.self.inside.notes.items c.self.inside.marks.items (g.N.Slotted.slot c.args.note) = rw (c.deref.ensures.value, c.deref-2.ensures.value, c.slot-slot.ensures) at k in
    rw (← c.self.view_is) (marked_noted g.N.Slotted.slot g.N.Slotted.change g.met.N.Slotted.one_place g.met.N.Slotted.one_slot _ _ c.args.note h)

pub invariant_of-self : goal.invariant_of-self
invariant_of-self g c = slots_reached g.N.Slotted.slot g.N.Slotted.change g.met.N.Slotted.one_place g.met.N.Slotted.one_slot _ _ _ c.self.invariant c.reach.ensures.kept

pub invariant_of-self-in_err-grow : goal.invariant_of-self-in_err-grow
invariant_of-self-in_err-grow g c = rw (c.grow.ensures.items) (slots_reached g.N.Slotted.slot g.N.Slotted.change g.met.N.Slotted.one_place g.met.N.Slotted.one_slot _ _ _ c.self.invariant c.reach.ensures.kept)

pub invariant_of-self-2 : goal.invariant_of-self-2
invariant_of-self-2 g c =
    let k : ¬ (IsMarked g.N.Slotted.slot c.deref.result.now c.deref-2.result.now c.slot-slot.result) = c.if-is_marked.ensures in
    let h : ¬ (IsMarked g.N.Slotted.slot c.self.inside.notes.items c.self.inside.marks.items (g.N.Slotted.slot c.args.note)) = rw (c.deref.ensures.value, c.deref-2.ensures.value, c.slot-slot.ensures) at k in
    let at : c.len-at.result ≡ length c.self.inside.notes.items = search rules in
    rw (c.push_reserved.ensures.items, c.grow.ensures.items, at, c.slot-slot.ensures)
    (slots_once g.N.Slotted.slot g.N.Slotted.change g.met.N.Slotted.one_place g.met.N.Slotted.one_slot _ _ _ c.args.note c.self.invariant c.reach.ensures.kept (rw c.slot-slot.ensures at c.in_ok-reach.ensures.reached) h)

pub returns-clause-ok : goal.returns-clause-ok
returns-clause-ok g c = rw (c.push_reserved.ensures.items, c.grow.ensures.items, ← c.self.view_is) (noted_more g.N.Slotted.slot g.N.Slotted.change g.met.N.Slotted.one_place g.met.N.Slotted.one_slot _ c.args.note)
