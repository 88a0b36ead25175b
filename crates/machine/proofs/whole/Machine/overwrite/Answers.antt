use Rattle.std.proofs.Common.{refl, sym, subst, ◌∙◌, rules}
use Rattle.machine.proofs.Restored.{Restored, restored_from, next_can_put, restored_on, restored_skip, restored_all, some_of, none_of}
use Rattle.machine.proofs.whole.Machine.overwrite.Goals as goal

pub loop-place-init : goal.loop-place-init
loop-place-init c = restored_from _ _ c.requires.once

pub put_number-requires : goal.put_number-requires
put_number-requires c =
    let at = subst (Restored c.args.self.now c.args.rest.now c.loop-place.self) c.in-Some.ensures c.loop-place.invariant in
    next_can_put c.requires.origin.0 _ _ _ _ _ _ refl c.requires.origin.1 at

pub loop-place-preserved : goal.loop-place-preserved
loop-place-preserved c =
    let at = subst (Restored c.args.self.now c.args.rest.now c.loop-place.self) c.in-Some.ensures c.loop-place.invariant in
    restored_on _ _ _ _ _ _ c.put_number.ensures.setup (sym c.put_number.ensures.rows) (sym c.put_number.ensures.backlog) c.put_number.ensures.put at

pub loop-change-init : goal.loop-change-init
loop-change-init c = subst (Restored c.args.self.now c.args.rest.now c.loop-place.self) (sym c.in_default.ensures) c.loop-place.invariant

pub put-requires : goal.put-requires
put-requires c =
    let at = subst (Restored c.args.self.now c.args.rest.now c.loop-change.self) c.in-Some-next.ensures.yields c.loop-change.invariant in
    let k = some_of _ (sym c.is_some.ensures ∙ c.if-is_some.true) in
    next_can_put c.requires.origin.0 _ _ _ _ _ k.0 k.1 c.requires.origin.1 at

pub loop-change-preserved-then-is_some : goal.loop-change-preserved-then-is_some
loop-change-preserved-then-is_some c =
    let at = subst (Restored c.args.self.now c.args.rest.now c.loop-change.self) c.in-Some-next.ensures.yields c.loop-change.invariant in
    let k = some_of _ (sym c.is_some.ensures ∙ c.if-is_some.true) in
    let rows = rw k.1 at c.put.ensures.rows in
    let items = rw k.1 at c.put.ensures.backlog in
    restored_on _ _ _ _ _ _ c.put.ensures.setup (sym rows) (sym items) c.put.ensures.put at

pub loop-change-preserved : goal.loop-change-preserved
loop-change-preserved c =
    let at = subst (Restored c.args.self.now c.args.rest.now c.loop-change.self) c.in-Some-next.ensures.yields c.loop-change.invariant in
    restored_skip c.requires.origin.0 _ _ _ _ _ (none_of _ (sym c.is_some.ensures ∙ c.if-is_some.false)) c.requires.origin.1 at

pub returns : goal.returns
returns c = restored_all _ _ _ _ (search rules) c.loop-change.invariant
