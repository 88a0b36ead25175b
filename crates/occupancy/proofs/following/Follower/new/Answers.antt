use Rattle.occupancy.proofs.FollowingLemmas.{has_started}
use Rattle.occupancy.proofs.following.Follower.new.Goals as goal

pub returns-clause-seen : goal.returns-clause-seen
returns-clause-seen g c = λ es most.
    let new = c.in_ok-new.ensures in
    has_started c.args.setup.now es c.args.state.now g.K.StagesMoment.at c.in_ok-new.field-0 c.in_ok-new-2.field-0 c.requires.setup most c.requires.starts new.fillings new.stamps new.overflowed c.in_ok-new-2.ensures
