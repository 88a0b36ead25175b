use Rattle.std.proofs.Common.{◌∙◌, ◌-◌, sym, ap, subst, arith}
use Rattle.std.specs.Prelude.{slice_get}
use Rattle.std.specs.List.Sorted.{IsNonDecreasing}
use Rattle.stops.specs.Nearest.{greatest_below}
use Rattle.stops.proofs.Extremes.{last_below, none_lower, means_below}
use Rattle.stops.proofs.Sorting.{rises}
use Rattle.stops.proofs.moments.Moments.below.Goals as goal

pub count_below-index-requires : goal.count_below-index-requires
count_below-index-requires c = subst IsNonDecreasing (sym c.deref.ensures.value) c.self.invariant

none_below : goal.returns-then-index-eq0-clause-greatest
none_below c =
    let p = c.count_below-index.ensures.point in
    none_lower c.deref.result.now c.args.at (λ k d x. p.1 k d (omega arith) x)
    ∙ ap (λ ms. greatest_below ms c.args.at) (c.deref.ensures.value ∙ c.self.view_is)

pub returns-then-index-eq0-clause-greatest : goal.returns-then-index-eq0-clause-greatest
returns-then-index-eq0-clause-greatest c = none_below c

pub returns-then-index-eq0-clause-meaning : goal.returns-then-index-eq0-clause-meaning
returns-then-index-eq0-clause-meaning c = means_below c.args.self.now c.args.at _ (none_below c)

is_greatest : goal.returns-clause-greatest
is_greatest c =
    let p = c.count_below-index.ensures.point in
    let b = c.count_below-index.ensures.bound in
    let r = rises c.deref.result.now (subst IsNonDecreasing (sym c.deref.ensures.value) c.self.invariant) in
    c.element.ensures
    ∙ ap (λ ms. slice_get ms (c.count_below-index.result - 1)) (c.deref-2.ensures.value ∙ sym c.deref.ensures.value)
    ∙ last_below c.deref.result.now c.args.at (c.count_below-index.result - 1) r (omega arith) (λ k d x. p.0 k d (omega arith) (omega arith)) (λ k d x y. p.1 k d (omega arith) y)
    ∙ ap (λ ms. greatest_below ms c.args.at) (c.deref.ensures.value ∙ c.self.view_is)

pub returns-clause-greatest : goal.returns-clause-greatest
returns-clause-greatest c = is_greatest c

pub returns-clause-meaning : goal.returns-clause-meaning
returns-clause-meaning c = means_below c.args.self.now c.args.at _ (is_greatest c)
