use Rattle.std.proofs.Common.{inl}
use Rattle.places.proofs.Recording.{ready_held}
use Rattle.std.proofs.Common.{◌≡◌, ◌∙◌, ap, sym, subst, true, false}
use Rattle.std.specs.Prelude.{None, Some, map}
use Rattle.places.specs.View.{named, Noted}
use Rattle.std.proofs.Common.{◌<◌, arith}
use Rattle.places.specs.Slots.{number_change, number_slot, number_slot_of}
use Rattle.places.specs.SlotLaws.{number_below}
use Rattle.places.specs.declared.value.Value.TheVariants.{Number}
use Rattle.places.proofs.Joining.{not_some}
use Rattle.places.proofs.Sound.{odd_noted, number_noted, number_sound, number_apart}
use Rattle.places.proofs.recorder.Recorder.note_number.Goals as goal

pub returns-then-names-clause-ok : goal.returns-then-names-clause-ok
returns-then-names-clause-ok c = rw (← c.self.view_is) (odd_noted c.self.inside.numbers.notes c.self.inside.completions.notes c.self.inside.rows.notes c.self.inside.rest c.args.place (Some (Number c.args.old)) (sym c.names.ensures ∙ c.if-names.true))

pub returns-in_err-note-clause-there : goal.returns-in_err-note-clause-there
returns-in_err-note-clause-there c h l =
    let e : c.self.inside.room.numbers ≡ c.args.self.now.numbers = ap (λ n. n.numbers) c.self.view_is in
    let some : 0 < c.self.inside.room.numbers = omega arith in
    let at : number_slot_of c.new.result ≡ number_slot c.args.place = ap (λ k. number_slot k.place) c.new.ensures in
    let below = number_below c.args.place c.requires l in
    let m = c.self.invariant.0.numbers.spare in
    let k = c.self.invariant.0.numbers.reached some in
    absurd (let o : false ≡ true = c.in_err-note.ensures.there (omega arith) (omega arith) in cc)

pub invariant_of-self-2 : goal.invariant_of-self-2
invariant_of-self-2 c =
    let none : named c.self.inside.rest.odd c.args.place ≡ None = not_some _ (sym c.names.ensures ∙ c.if-names.false) in
    let noted : Noted (map number_change c.self.inside.numbers.notes) (map number_change c.note.new.self.notes) c.args.place (Some (Number c.args.old)) = subst (λ k. Noted (map number_change c.self.inside.numbers.notes) (map number_change c.note.new.self.notes) k.place k.old) c.new.ensures c.in_ok-note.ensures.ok in (
      number_sound c.self.inside.numbers c.self.inside.completions c.self.inside.rows c.self.inside.rest c.self.inside.room c.spend_number.new.self c.note.new.self c.self.invariant.0
          (number_apart c.self.inside.numbers c.self.inside.completions c.self.inside.rows c.self.inside.rest c.self.inside.room c.self.invariant.0 c.note.new.self c.args.place (Some (Number c.args.old)) c.requires noted none)
          c.note.ensures.spare c.note.ensures.reached c.spend_number.ensures.numbers c.spend_number.ensures.completions c.spend_number.ensures.others c.spend_number.ensures.held,
      inl c.in_ok-ready.ensures.ok,
    )

pub returns-clause-ok : goal.returns-clause-ok
returns-clause-ok c =
    let none : named c.self.inside.rest.odd c.args.place ≡ None = not_some _ (sym c.names.ensures ∙ c.if-names.false) in
    let noted : Noted (map number_change c.self.inside.numbers.notes) (map number_change c.note.new.self.notes) c.args.place (Some (Number c.args.old)) = subst (λ k. Noted (map number_change c.self.inside.numbers.notes) (map number_change c.note.new.self.notes) k.place k.old) c.new.ensures c.in_ok-note.ensures.ok in
    rw (← c.self.view_is) (number_noted c.self.inside.numbers.notes c.self.inside.completions.notes c.self.inside.rows.notes c.self.inside.rest c.note.new.self.notes c.args.place (Some (Number c.args.old)) c.requires noted none)

pub returns-in_err-ready-clause-there : goal.returns-in_err-ready-clause-there
returns-in_err-ready-clause-there c h l =
    let e : c.self.inside.room.numbers ≡ c.args.self.now.numbers = ap (λ n. n.numbers) c.self.view_is in
    let k = c.self.invariant.0.held in
    let there = ready_held c.self.inside.numbers.notes c.self.inside.completions.notes c.self.inside.rows.notes c.self.inside.room c.self.inside.spare c.self.invariant.1 (omega arith) in
    absurd (let o : false ≡ true = c.in_err-ready.ensures.there there in cc)
