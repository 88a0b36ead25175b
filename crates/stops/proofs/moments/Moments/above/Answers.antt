use Rattle.std.proofs.Common.{◌∙◌, sym, ap, subst, arith}
use Rattle.std.specs.Prelude.{slice_get}
use Rattle.std.specs.List.Sorted.{IsNonDecreasing}
use Rattle.stops.specs.Nearest.{least_above}
use Rattle.stops.proofs.Extremes.{first_above, means_above}
use Rattle.stops.proofs.Sorting.{rises}
use Rattle.stops.proofs.moments.Moments.above.Goals as goal

pub count_to-index-requires : goal.count_to-index-requires
count_to-index-requires c = subst IsNonDecreasing (sym c.deref.ensures.value) c.self.invariant

is_least : goal.returns-clause-least
is_least c =
    let p = c.count_to-index.ensures.point in
    let r = rises c.deref.result.now (subst IsNonDecreasing (sym c.deref.ensures.value) c.self.invariant) in
    c.element.ensures
    ∙ ap (λ ms. slice_get ms c.count_to-index.result) (c.deref-2.ensures.value ∙ sym c.deref.ensures.value)
    ∙ first_above c.deref.result.now c.args.at c.count_to-index.result r (λ k d x. p.0 k d (omega arith) x) (λ k d x y. p.1 k d x y)
    ∙ ap (λ ms. least_above ms c.args.at) (c.deref.ensures.value ∙ c.self.view_is)

pub returns-clause-least : goal.returns-clause-least
returns-clause-least c = is_least c

pub returns-clause-meaning : goal.returns-clause-meaning
returns-clause-meaning c = means_above c.args.self.now c.args.at _ (is_least c)
