use Rattle.places.proofs.Recording.{ready_less}
use Rattle.std.proofs.Common.{◌≡◌, ◌∙◌, ap, sym}
use Rattle.std.specs.Prelude.{None}
use Rattle.places.specs.View.{named}
use Rattle.std.proofs.Common.{arith, ◌++◌, ◌∷◌, []}
use Rattle.places.specs.All.{all_changes}
use Rattle.places.proofs.Marking.{noted_again}
use Rattle.places.proofs.Joining.{not_some}
use Rattle.places.proofs.Sound.{fresh_other, other_sound, other_noted}
use Rattle.places.proofs.recorder.Recorder.note_other.Goals as goal

pub returns-then-is_noted-clause-ok : goal.returns-then-is_noted-clause-ok
returns-then-is_noted-clause-ok c = noted_again _ _ _ (sym c.is_noted.ensures ∙ c.if-is_noted.true)

pub push-requires-clause-fresh : goal.push-requires-clause-fresh
push-requires-clause-fresh c =
    let none : named (all_changes c.self.inside.numbers.notes c.self.inside.completions.notes c.self.inside.rows.notes c.self.inside.rest) c.args.place ≡ None = rw (← c.self.view_is) at (not_some _ (sym c.is_noted.ensures ∙ c.if-is_noted.false)) in
    rw (c.room.ensures.odd) (fresh_other c.self.inside.numbers.notes c.self.inside.completions.notes c.self.inside.rows.notes c.self.inside.rest c.args.place none)

pub invariant_of-self-2 : goal.invariant_of-self-2
invariant_of-self-2 c =
    let none : named (all_changes c.self.inside.numbers.notes c.self.inside.completions.notes c.self.inside.rows.notes c.self.inside.rest) c.args.place ≡ None = rw (← c.self.view_is) at (not_some _ (sym c.is_noted.ensures ∙ c.if-is_noted.false)) in (
      other_sound c.self.inside.numbers c.self.inside.completions c.self.inside.rows c.self.inside.rest c.self.inside.room c.self.invariant.0 c.push.new.self c.spend.new.self c.args.place c.args.old none
          (c.push.ensures.odd ∙ ap (λ l. l ++ record { place = c.args.place; old = c.args.old } ∷ []) c.room.ensures.odd) (c.push.ensures.runs ∙ c.room.ensures.runs) (c.push.ensures.olds ∙ c.room.ensures.olds)
          c.spend.ensures.fewer_numbers c.spend.ensures.fewer_completions c.spend.ensures.fewer_others c.spend.ensures.held
          (omega (arith, c.in-Some.ensures, c.in_ok-room.ensures.room, c.push.ensures.spare)),
      ready_less c.self.inside.numbers.notes c.self.inside.completions.notes c.self.inside.rows.notes c.self.inside.room c.spend.new.self c.self.inside.spare c.self.invariant.1 (omega (arith, c.self.invariant.0.held, c.spend.ensures.held, c.spend.ensures.fewer_numbers, c.spend.ensures.fewer_completions, c.spend.ensures.fewer_others)),
    )

pub returns-clause-ok : goal.returns-clause-ok
returns-clause-ok c =
    rw (← c.self.view_is)
    (other_noted c.self.inside.numbers.notes c.self.inside.completions.notes c.self.inside.rows.notes c.self.inside.rest c.push.new.self c.args.place c.args.old (c.push.ensures.odd ∙ ap (λ l. l ++ record { place = c.args.place; old = c.args.old } ∷ []) c.room.ensures.odd) (c.push.ensures.runs ∙ c.room.ensures.runs) (c.push.ensures.olds ∙ c.room.ensures.olds))
