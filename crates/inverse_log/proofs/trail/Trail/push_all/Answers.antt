use Rattle.std.proofs.Common.{◌+◌, ◌<◌, length, arith, refl, ◌∙◌, inr}
use Rattle.scenario.specs.declared.event.Refusal.TheVariants.{Memory}
use Rattle.inverse_log.proofs.Pushing.{grown_last, pushed_all, pushed_last, pushed_more, pushed_room, pushed_stops}
use Rattle.inverse_log.proofs.Copying.{copied_more}
use Rattle.inverse_log.proofs.trail.Trail.push_all.Goals as goal

pub push-requires-clause-last : goal.push-requires-clause-last
push-requires-clause-last c = pushed_last c.args.self.now c.loop-i.self c.args.events.now c.loop-i.i c.requires.last (omega arith) c.loop-i.invariant.pushed

pub push-requires-clause-room : goal.push-requires-clause-room
push-requires-clause-room c = pushed_room c.args.self.now c.loop-i.self c.args.events.now c.loop-i.i _ c.requires.last (omega arith) c.requires.room c.loop-i.invariant.pushed

pub copy_at-requires-clause-last : goal.copy_at-requires-clause-last
copy_at-requires-clause-last c =
    let last = pushed_last c.args.self.now c.loop-i.self c.args.events.now c.loop-i.i c.requires.last (omega arith) c.loop-i.invariant.pushed in
    grown_last c.loop-i.self c.push.new.self _ last c.in_default.ensures.ok

pub returns-in-Err-clause-refused : goal.returns-in-Err-clause-refused
returns-in-Err-clause-refused c =
    let below : c.loop-i.i < length c.args.events.now = omega arith in
    (c.loop-i.i, c.in-Err.refusal, refl, pushed_stops c.args.self.now c.loop-i.self c.args.events.now c.loop-i.i _ _ c.in-Err.refusal c.requires.last below c.loop-i.invariant.pushed c.in-Err.ensures.refuses refl)

pub returns-in-Err-copy_at-clause-refused : goal.returns-in-Err-copy_at-clause-refused
returns-in-Err-copy_at-clause-refused c =
    let below : c.loop-i.i < length c.args.events.now = omega arith in
    (c.loop-i.i, Memory, refl, pushed_stops c.args.self.now c.loop-i.self c.args.events.now c.loop-i.i _ _ Memory c.requires.last below c.loop-i.invariant.pushed (inr (refl, c.in_default.ensures.accepts)) refl)

pub returns-in-Err-copy_at-clause-err : goal.returns-in-Err-copy_at-clause-err
returns-in-Err-copy_at-clause-err c =
    let below : c.loop-i.i < length c.args.events.now = omega arith in
    let pushed = pushed_more c.args.self.now c.loop-i.self c.push.new.self c.args.events.now c.loop-i.i _ _ c.requires.last below c.loop-i.invariant.pushed c.in_default.ensures.accepts c.in_default.ensures.ok refl in
    (c.loop-i.i + 1, c.copy_at.ensures.same ∙ pushed.walk)

pub returns-clause-ok : goal.returns-clause-ok
returns-clause-ok c = (pushed_all c.args.self.now c.loop-i.self c.args.events.now c.loop-i.i (omega arith) c.loop-i.invariant.pushed).0

pub returns-clause-accepts : goal.returns-clause-accepts
returns-clause-accepts c = (pushed_all c.args.self.now c.loop-i.self c.args.events.now c.loop-i.i (omega arith) c.loop-i.invariant.pushed).1

pub loop-i-preserved : goal.loop-i-preserved
loop-i-preserved c =
    let below : c.loop-i.i < length c.args.events.now = omega arith in
    rw c.in_default-copy_at.ensures.same (record {
      pushed = pushed_more c.args.self.now c.loop-i.self c.push.new.self c.args.events.now c.loop-i.i _ _ c.requires.last below c.loop-i.invariant.pushed c.in_default.ensures.accepts c.in_default.ensures.ok refl;
      copied = copied_more c.args.self.now c.loop-i.self c.push.new.self _ _ c.args.every c.loop-i.copies.items c.copy_at.new.copies.items c.loop-i.invariant.copied c.in_default.ensures.ok c.in_default-copy_at.ensures.covers;
    })
