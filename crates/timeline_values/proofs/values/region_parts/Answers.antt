use Rattle.std.proofs.Common.{subst, sym, get_or, take, ◌++◌, ◌∷◌, []}
use Rattle.std.proofs.lemmas.List.{take_more}
use Rattle.places.specs.declared.notes.runs.Region.TheVariants.{Memory}
use Rattle.machine.specs.Whole.{view}
use Rattle.timeline_values.specs.Values.{AreRegions}
use Rattle.timeline_values.proofs.Valued.{regions_more}
use Rattle.timeline_values.proofs.values.region_parts.Goals as goal

pub loop-region-preserved : goal.loop-region-preserved
loop-region-preserved c =
    let s = c.args.setup.now in
    let v = view c.args.state.now in
    let n = c.args.count in
    let gs = c.args.regions.now in
    let i = c.loop-region.region-index in
    let (parts, same, shown) = c.in_ok-add_region.ensures in
    let more = regions_more s v n (take i gs) (get_or gs i Memory) c.loop-region.out.items parts c.loop-region.invariant shown in
    let next = subst (λ xs. AreRegions s v n (take i gs ++ get_or gs i Memory ∷ []) xs) (sym same) more in
    subst (λ hs. AreRegions s v n hs c.add_region.new.out.items) (sym (take_more gs i Memory c.loop-region-test.true)) next
