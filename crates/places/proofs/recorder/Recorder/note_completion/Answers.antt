use Rattle.std.proofs.Common.{inl}
use Rattle.places.proofs.Recording.{ready_held}
use Rattle.std.proofs.Common.{arith}
use Rattle.std.proofs.Common.{◌≡◌, ◌∙◌, ap, sym, true, false}
use Rattle.std.specs.Prelude.{None, Some}
use Rattle.places.specs.View.{named}
use Rattle.places.specs.declared.value.Value.TheVariants.{Completed}
use Rattle.places.specs.declared.place.Place.TheVariants.{Completion}
use Rattle.places.proofs.Joining.{not_some}
use Rattle.places.proofs.Sound.{odd_noted, completion_noted, completion_sound, completion_apart}
use Rattle.places.proofs.recorder.Recorder.note_completion.Goals as goal

pub returns-then-names-clause-ok : goal.returns-then-names-clause-ok
returns-then-names-clause-ok c = rw (← c.self.view_is) (odd_noted c.self.inside.numbers.notes c.self.inside.completions.notes c.self.inside.rows.notes c.self.inside.rest (Completion c.args.slot) (Some (Completed c.args.old)) (sym c.names.ensures ∙ c.if-names.true))

pub invariant_of-self-2 : goal.invariant_of-self-2
invariant_of-self-2 c =
    let none : named c.self.inside.rest.odd (Completion c.args.slot) ≡ None = not_some _ (sym c.names.ensures ∙ c.if-names.false) in (
      completion_sound c.self.inside.numbers c.self.inside.completions c.self.inside.rows c.self.inside.rest c.self.inside.room c.spend_completion.new.self c.note.new.self c.self.invariant.0
          (completion_apart c.self.inside.numbers c.self.inside.completions c.self.inside.rows c.self.inside.rest c.self.inside.room c.self.invariant.0 c.note.new.self c.args.slot (Some (Completed c.args.old)) c.in_ok-note.ensures.ok none)
          c.note.ensures.spare c.note.ensures.reached c.spend_completion.ensures.numbers c.spend_completion.ensures.completions c.spend_completion.ensures.others c.spend_completion.ensures.held,
      inl c.in_ok-ready.ensures.ok,
    )

pub returns-clause-ok : goal.returns-clause-ok
returns-clause-ok c =
    let none : named c.self.inside.rest.odd (Completion c.args.slot) ≡ None = not_some _ (sym c.names.ensures ∙ c.if-names.false) in
    rw (← c.self.view_is) (completion_noted c.self.inside.numbers.notes c.self.inside.completions.notes c.self.inside.rows.notes c.self.inside.rest c.note.new.self.notes c.args.slot (Some (Completed c.args.old)) c.in_ok-note.ensures.ok none)

pub returns-in_err-ready-clause-there : goal.returns-in_err-ready-clause-there
returns-in_err-ready-clause-there c h l =
    let e : c.self.inside.room.completions ≡ c.args.self.now.completions = ap (λ n. n.completions) c.self.view_is in
    let k = c.self.invariant.0.held in
    let there = ready_held c.self.inside.numbers.notes c.self.inside.completions.notes c.self.inside.rows.notes c.self.inside.room c.self.inside.spare c.self.invariant.1 (omega arith) in
    absurd (let o : false ≡ true = c.in_err-ready.ensures.there there in cc)
