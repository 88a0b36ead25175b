use Rattle.std.proofs.Common.{refl}
use Rattle.std.proofs.lemmas.Result.{err_from_is_err_and}
use Rattle.eager_runs.proofs.EagerRuns.{follows_yet, follows_on, followed, stops}
use Rattle.eager_runs.proofs.eager.Eager.follow_all.Goals as goal

pub loop-i-init : goal.loop-i-init
loop-i-init c = record { few = c.requires.few; following = follows_yet c.args.self.now.plain c.args.self.now.state c.args.self.now.events.items c.args.schedule.now }

pub loop-i-preserved : goal.loop-i-preserved
loop-i-preserved c = record {
  few = c.in_ok-follow.ensures.few;
  following =
      follows_on c.args.self.now.plain c.args.self.now.state c.args.self.now.events.items c.args.schedule.now c.loop-i.i _ _ c.loop-i.self.plain c.loop-i.self.state c.follow.new.self.plain c.follow.new.self.state c.loop-i.self.events.items c.follow.new.self.events.items
      c.loop-i-test.true c.loop-i.invariant.following c.in_ok-follow.ensures.plain c.in_ok-follow.ensures.follows refl;
}

pub returns-in_err-follow-clause-refused : goal.returns-in_err-follow-clause-refused
returns-in_err-follow-clause-refused c =
    let p = err_from_is_err_and c.from_residual.result c.from_residual.ensures.1 in
    rw (p.1, p.2) (λ k n e. stops c.args.self.now.plain c.args.self.now.state c.args.self.now.events.items c.args.schedule.now c.loop-i.i _ _ c.loop-i.self.plain c.loop-i.self.state c.loop-i.self.events.items k n
    c.loop-i-test.true c.loop-i.invariant.following (c.in_err-follow.ensures.refused k n e) refl)

pub returns-clause-follows : goal.returns-clause-follows
returns-clause-follows c = followed c.args.self.now.plain c.args.self.now.state c.loop-i.self.plain c.loop-i.self.state c.args.self.now.events.items c.args.schedule.now c.loop-i.self.events.items c.loop-i.i c.loop-i-test.false c.loop-i.invariant.following
