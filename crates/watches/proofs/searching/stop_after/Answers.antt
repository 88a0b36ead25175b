use Rattle.std.proofs.Common.{◌≡◌, ◌∙◌, ◌+◌, true, false, refl, ap, sym, subst, List}
use Rattle.std.specs.List.{list_any}
use Rattle.std.proofs.lemmas.Bool.Decides.{when_true, when_false}
use Rattle.watches.specs.declared.watched.Break.{Break}
use Rattle.watches.specs.Stops.{names, seen, Unmet}
use Rattle.watches.proofs.Naming.{any_named, none_named}
use Rattle.watches.proofs.searching.stop_after.Goals as goal

pub returns-then-names_any-clause-stop : goal.returns-then-names_any-clause-stop
returns-then-names_any-clause-stop c =
    let w = c.args.walker.now in
    let r = c.record_of.result.now in
    let named : list_any (names r) c.args.watches.now.watchpoints ≡ true = ap (list_any (names r)) (sym c.places.ensures.value) ∙ sym c.names_any.ensures ∙ c.if-names_any.true in
    (refl, any_named (seen w c.args.moment) (seen w (c.args.moment + 1)) r c.args.watches.now.watchpoints c.record_of.ensures.exact named)

pub returns-then-is_met-clause-stop : goal.returns-then-is_met-clause-stop
returns-then-is_met-clause-stop c =
    let w = c.args.walker.now in
    let r = c.record_of.result.now in
    let named : list_any (names r) c.args.watches.now.watchpoints ≡ false = ap (list_any (names r)) (sym c.places.ensures.value) ∙ sym c.names_any.ensures ∙ c.if-names_any.false in
    let met = when_true (Unmet w c.breaks.result.now c.args.moment → ⊥) (Unmet w c.breaks.result.now c.args.moment) c.if-is_met.true c.in_ok-is_met.ensures.met in (
      refl,
      none_named (seen w c.args.moment) (seen w (c.args.moment + 1)) r c.args.watches.now.watchpoints c.record_of.ensures.exact named,
      subst (λ (bs : List Break). Unmet w bs c.args.moment → ⊥) c.breaks.ensures.value met,
    )

pub returns-clause-stop : goal.returns-clause-stop
returns-clause-stop c =
    let w = c.args.walker.now in
    let r = c.record_of.result.now in
    let named : list_any (names r) c.args.watches.now.watchpoints ≡ false = ap (list_any (names r)) (sym c.places.ensures.value) ∙ sym c.names_any.ensures ∙ c.if-names_any.false in
    let unmet = when_false (Unmet w c.breaks.result.now c.args.moment → ⊥) (Unmet w c.breaks.result.now c.args.moment) c.if-is_met.false c.in_ok-is_met.ensures.met in (
      none_named (seen w c.args.moment) (seen w (c.args.moment + 1)) r c.args.watches.now.watchpoints c.record_of.ensures.exact named,
      subst (λ (bs : List Break). Unmet w bs c.args.moment) c.breaks.ensures.value unmet,
    )
