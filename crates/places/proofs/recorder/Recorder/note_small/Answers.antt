use Rattle.std.proofs.Common.{inl}
use Rattle.places.proofs.Recording.{ready_held}
use Rattle.std.proofs.Common.{◌≡◌, ◌∙◌, ap, sym, subst, true, false}
use Rattle.std.specs.Prelude.{None, map, option_map}
use Rattle.places.specs.View.{named, Noted}
use Rattle.places.specs.Slots.{row_change, value_of}
use Rattle.std.proofs.Common.{◌<◌, arith}
use Rattle.places.specs.Slots.{slot_at, row_slot_of}
use Rattle.places.specs.SlotLaws.{other_below}
use Rattle.places.proofs.Sorts.{other_sort}
use Rattle.places.proofs.Joining.{not_some}
use Rattle.places.proofs.Sound.{odd_noted, row_noted, row_sound, row_apart}
use Rattle.places.proofs.recorder.Recorder.note_small.Goals as goal

pub returns-then-names-clause-ok : goal.returns-then-names-clause-ok
returns-then-names-clause-ok c = rw (← c.self.view_is) (odd_noted c.self.inside.numbers.notes c.self.inside.completions.notes c.self.inside.rows.notes c.self.inside.rest c.args.place (option_map value_of c.args.old) (sym c.names.ensures ∙ c.if-names.true))

pub invariant_of-self-2 : goal.invariant_of-self-2
invariant_of-self-2 c =
    let none : named c.self.inside.rest.odd c.args.place ≡ None = not_some _ (sym c.names.ensures ∙ c.if-names.false) in
    let noted : Noted (map row_change c.self.inside.rows.notes) (map row_change c.note.new.self.notes) c.args.place (option_map value_of c.args.old) = subst (λ k. Noted (map row_change c.self.inside.rows.notes) (map row_change c.note.new.self.notes) k.place k.old) c.of_other.ensures c.in_ok-note.ensures.ok in (
      row_sound c.self.inside.numbers c.self.inside.completions c.self.inside.rows c.self.inside.rest c.self.inside.room c.spend_other.new.self c.note.new.self c.self.invariant.0
          (row_apart c.self.inside.numbers c.self.inside.completions c.self.inside.rows c.self.inside.rest c.self.inside.room c.self.invariant.0 c.note.new.self c.args.place (option_map value_of c.args.old) (other_sort c.args.place c.requires) noted none)
          c.note.ensures.spare c.note.ensures.reached c.spend_other.ensures.numbers c.spend_other.ensures.completions c.spend_other.ensures.others c.spend_other.ensures.held,
      inl c.in_ok-ready.ensures.ok,
    )

pub returns-clause-ok : goal.returns-clause-ok
returns-clause-ok c =
    let none : named c.self.inside.rest.odd c.args.place ≡ None = not_some _ (sym c.names.ensures ∙ c.if-names.false) in
    let noted : Noted (map row_change c.self.inside.rows.notes) (map row_change c.note.new.self.notes) c.args.place (option_map value_of c.args.old) = subst (λ k. Noted (map row_change c.self.inside.rows.notes) (map row_change c.note.new.self.notes) k.place k.old) c.of_other.ensures c.in_ok-note.ensures.ok in
    rw (← c.self.view_is) (row_noted c.self.inside.numbers.notes c.self.inside.completions.notes c.self.inside.rows.notes c.self.inside.rest c.note.new.self.notes c.args.place (option_map value_of c.args.old) (other_sort c.args.place c.requires) noted none)

pub returns-in_err-note-clause-there : goal.returns-in_err-note-clause-there
returns-in_err-note-clause-there c h l =
    let e : c.self.inside.room.others ≡ c.args.self.now.others = ap (λ n. n.others) c.self.view_is in
    let some : 0 < c.self.inside.room.others = omega arith in
    let at : row_slot_of c.of_other.result ≡ slot_at c.args.place = ap (λ k. slot_at k.place) c.of_other.ensures in
    let below = other_below c.args.place c.requires l in
    let m = c.self.invariant.0.rows.spare in
    let k = c.self.invariant.0.rows.reached some in
    absurd (let o : false ≡ true = c.in_err-note.ensures.there (omega arith) (omega arith) in cc)

pub returns-in_err-ready-clause-there : goal.returns-in_err-ready-clause-there
returns-in_err-ready-clause-there c h l =
    let e : c.self.inside.room.others ≡ c.args.self.now.others = ap (λ n. n.others) c.self.view_is in
    let k = c.self.invariant.0.held in
    let there = ready_held c.self.inside.numbers.notes c.self.inside.completions.notes c.self.inside.rows.notes c.self.inside.room c.self.inside.spare c.self.invariant.1 (omega arith) in
    absurd (let o : false ≡ true = c.in_err-ready.ensures.there there in cc)
