use Rattle.std.proofs.Common.{◌≡◌, ◌∙◌, ◌/◌, ◌≤◌, arith, length, ap, sym, rules}
use Rattle.checkpoints.specs.Checkpoints.{nearest}
use Rattle.machine.specs.Runs.{moment}
use Rattle.inverse_log.specs.Tracks.{Track, tallied}
use Rattle.inverse_log.specs.Walks.{Walk, steps_to}
use Rattle.inverse_log.proofs.Copying.{copy_of, copy_there}
use Rattle.inverse_log.proofs.Jumping.{steps_from_copy, on_ok}
use Rattle.inverse_log.proofs.walker.Walker.jump_on.Goals.{else-nearest-at-via-then-nearest-at+else-at-moment, else-nearest-at-via-else-nearest-at}
use Rattle.inverse_log.proofs.walker.Walker.jump_on.Goals as goal

pub on_from-requires-clause-state : goal.on_from-requires-clause-state
on_from-requires-clause-state c =
    let within : c.args.moment ≤ length c.self.inside.trail.events = search rules in
    let below = copy_there c.self.inside.trail.setup c.self.inside.trail.events c.self.inside.kept.every c.self.inside.kept.states c.args.moment c.self.invariant within in
    copy_of c.self.inside.trail.setup c.self.inside.trail.events c.self.inside.kept.every c.self.inside.kept.states (c.args.moment / c.self.inside.kept.every) c.state-copy.result.now c.self.invariant below c.state-copy.ensures ∙ ap (moment c.self.inside.trail.setup c.self.inside.trail.events) (sym c.nearest-nearest.ensures.value)

pub returns-else-nearest-at-clause-ok : goal.returns-else-nearest-at-clause-ok
returns-else-nearest-at-clause-ok c =
    let at : c.at-at.result ≡ c.args.self.now.at = c.at-at.ensures.value in
    let later : c.nearest-nearest.result ≤ c.args.self.now.at → c.args.self.now.at ≤ c.args.moment → ⊥ = elim c.else-nearest-at.branch [ else-nearest-at-via-then-nearest-at+else-at-moment w ↦ λ a b. omega (arith, at, w.if-at-moment.false) | else-nearest-at-via-else-nearest-at w ↦ λ a b. omega (arith, at, w.if-nearest-at.false) ] in
    let steps = steps_from_copy c.args.self.now c.args.moment c.nearest-nearest.result (c.nearest-nearest.ensures.value ∙ ap (λ (w : Walk). nearest w.every c.args.moment) c.self.view_is) c.requires.far later in
    on_ok c.on_from.result (λ e.
    ap (λ (t : Track). record { setup = t.setup; events = t.events; at = t.at; walked = t.walked; every = c.self.inside.kept.every; window = c.self.inside.kept.window }) e
    ∙ ap (λ n. record { setup = c.self.inside.trail.setup; events = c.self.inside.trail.events; at = c.args.moment; walked = tallied c.args.tally c.self.inside.trail.walked n; every = c.self.inside.kept.every; window = c.self.inside.kept.window }) (sym steps)
    ∙ ap (λ (w : Walk). record w { at = c.args.moment; walked = tallied c.args.tally w.walked (steps_to c.args.self.now c.args.moment) }) c.self.view_is)
    c.on_from.ensures.ok

pub returns-else-nearest-at-clause-short : goal.returns-else-nearest-at-clause-short
returns-else-nearest-at-clause-short c =
    let at : c.at-at.result ≡ c.args.self.now.at = c.at-at.ensures.value in
    let later : c.nearest-nearest.result ≤ c.args.self.now.at → c.args.self.now.at ≤ c.args.moment → ⊥ = elim c.else-nearest-at.branch [ else-nearest-at-via-then-nearest-at+else-at-moment w ↦ λ a b. omega (arith, at, w.if-at-moment.false) | else-nearest-at-via-else-nearest-at w ↦ λ a b. omega (arith, at, w.if-nearest-at.false) ] in
    let steps = steps_from_copy c.args.self.now c.args.moment c.nearest-nearest.result (c.nearest-nearest.ensures.value ∙ ap (λ (w : Walk). nearest w.every c.args.moment) c.self.view_is) c.requires.far later in
    let every = ap (λ (w : Walk). w.every) c.self.view_is in
    let above = c.nearest-nearest.ensures.greatest.next_above in
    let below = c.nearest-nearest.ensures.greatest.not_above in
    omega (arith, steps, every, above, below)
