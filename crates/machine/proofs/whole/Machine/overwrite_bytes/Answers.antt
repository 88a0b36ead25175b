use Rattle.std.proofs.Common.{subst}
use Rattle.places.specs.Stretched.{kept_of}
use Rattle.machine.proofs.Restored.{Restored, restored_from, restored_over, restored_all, stretch_present, world_put_back}
use Rattle.machine.proofs.whole.Machine.overwrite_bytes.Goals as goal

pub loop-stretch-init : goal.loop-stretch-init
loop-stretch-init c = restored_from _ _ c.requires.once

pub put_back-requires-clause-present : goal.put_back-requires-clause-present
put_back-requires-clause-present c =
    let at = subst (Restored c.args.self.now c.args.rest.now.left c.loop-stretch.self) c.in-Some.ensures.yields c.loop-stretch.invariant in
    stretch_present c.requires.origin.0 _ _ _ _ _ _ _ c.requires.origin.1 at

pub loop-stretch-preserved : goal.loop-stretch-preserved
loop-stretch-preserved c =
    let at = subst (Restored c.args.self.now c.args.rest.now.left c.loop-stretch.self) c.in-Some.ensures.yields c.loop-stretch.invariant in
    restored_over _ _ _ _ _ _ (world_put_back _ _ c.in-Some.stretch.region c.in-Some.stretch.start (kept_of c.in-Some.stretch) c.put_back.ensures.setup c.put_back.ensures.put) at

pub returns : goal.returns
returns c = restored_all _ _ _ _ c.in_default.ensures.yields c.loop-stretch.invariant
