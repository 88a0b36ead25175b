use Rattle.std.proofs.Common.{inl}
use Rattle.places.proofs.Recording.{ready_held}
use Rattle.std.proofs.Common.{◌≡◌, ◌∙◌, ap, sym, subst, true, false}
use Rattle.std.specs.Prelude.{None, map, option_map}
use Rattle.places.specs.View.{named, Noted}
use Rattle.places.specs.Slots.{row_change}
use Rattle.places.specs.declared.value.Value.TheVariants.{Requested}
use Rattle.places.specs.declared.place.Place.TheVariants.{Request}
use Rattle.std.proofs.Common.{◌<◌, arith}
use Rattle.places.specs.Slots.{slot_at, row_slot_of}
use Rattle.places.specs.SlotLaws.{row_below}
use Rattle.places.proofs.Sorts.{row_sort}
use Rattle.places.proofs.Joining.{not_some}
use Rattle.places.proofs.Sound.{odd_noted, row_noted, row_sound, row_apart}
use Rattle.places.proofs.recorder.Recorder.note_row.Goals as goal

pub returns-then-names-clause-ok : goal.returns-then-names-clause-ok
returns-then-names-clause-ok c = rw (← c.self.view_is) (odd_noted c.self.inside.numbers.notes c.self.inside.completions.notes c.self.inside.rows.notes c.self.inside.rest (Request c.args.row) (option_map Requested c.args.old) (sym c.names.ensures ∙ c.if-names.true))

pub invariant_of-self-2 : goal.invariant_of-self-2
invariant_of-self-2 c =
    let none : named c.self.inside.rest.odd (Request c.args.row) ≡ None = not_some _ (sym c.names.ensures ∙ c.if-names.false) in
    let noted : Noted (map row_change c.self.inside.rows.notes) (map row_change c.note.new.self.notes) (Request c.args.row) (option_map Requested c.args.old) = subst (λ k. Noted (map row_change c.self.inside.rows.notes) (map row_change c.note.new.self.notes) k.place k.old) c.new.ensures c.in_ok-note.ensures.ok in (
      row_sound c.self.inside.numbers c.self.inside.completions c.self.inside.rows c.self.inside.rest c.self.inside.room c.spend_other.new.self c.note.new.self c.self.invariant.0
          (row_apart c.self.inside.numbers c.self.inside.completions c.self.inside.rows c.self.inside.rest c.self.inside.room c.self.invariant.0 c.note.new.self (Request c.args.row) (option_map Requested c.args.old) (row_sort c.args.row) noted none)
          c.note.ensures.spare c.note.ensures.reached c.spend_other.ensures.numbers c.spend_other.ensures.completions c.spend_other.ensures.others c.spend_other.ensures.held,
      inl c.in_ok-ready.ensures.ok,
    )

pub returns-clause-ok : goal.returns-clause-ok
returns-clause-ok c =
    let none : named c.self.inside.rest.odd (Request c.args.row) ≡ None = not_some _ (sym c.names.ensures ∙ c.if-names.false) in
    let noted : Noted (map row_change c.self.inside.rows.notes) (map row_change c.note.new.self.notes) (Request c.args.row) (option_map Requested c.args.old) = subst (λ k. Noted (map row_change c.self.inside.rows.notes) (map row_change c.note.new.self.notes) k.place k.old) c.new.ensures c.in_ok-note.ensures.ok in
    rw (← c.self.view_is) (row_noted c.self.inside.numbers.notes c.self.inside.completions.notes c.self.inside.rows.notes c.self.inside.rest c.note.new.self.notes (Request c.args.row) (option_map Requested c.args.old) (row_sort c.args.row) noted none)

pub returns-in_err-note-clause-there : goal.returns-in_err-note-clause-there
returns-in_err-note-clause-there c h l =
    let e : c.self.inside.room.others ≡ c.args.self.now.others = ap (λ n. n.others) c.self.view_is in
    let some : 0 < c.self.inside.room.others = omega arith in
    let at : row_slot_of c.new.result ≡ slot_at (Request c.args.row) = ap (λ k. slot_at k.place) c.new.ensures in
    let below = row_below c.args.row l in
    let m = c.self.invariant.0.rows.spare in
    let k = c.self.invariant.0.rows.reached some in
    absurd (let o : false ≡ true = c.in_err-note.ensures.there (omega arith) (omega arith) in cc)

pub returns-in_err-ready-clause-there : goal.returns-in_err-ready-clause-there
returns-in_err-ready-clause-there c h l =
    let e : c.self.inside.room.others ≡ c.args.self.now.others = ap (λ n. n.others) c.self.view_is in
    let k = c.self.invariant.0.held in
    let there = ready_held c.self.inside.numbers.notes c.self.inside.completions.notes c.self.inside.rows.notes c.self.inside.room c.self.inside.spare c.self.invariant.1 (omega arith) in
    absurd (let o : false ≡ true = c.in_err-ready.ensures.there there in cc)
