use Rattle.occupancy.proofs.Common.{◌≡◌, ◌+◌, length, min, arith}
use Rattle.occupancy.proofs.FollowingLemmas.{few_after, follows_more, overflows_recorded, rows_recorded, stages_kept, stages_read}
use Rattle.occupancy.proofs.following.FollowerObserver.after.Goals as goal

pub note-requires-clause-rows : goal.note-requires-clause-rows
note-requires-clause-rows g c =
    let at = c.args.at in
    rows_recorded at.setup.now at.events.now at.index at.event c.args.past.now at.state.now c.args.self.now.occupancy c.requires.seen.1.follows c.requires.at

pub note-requires-clause-kept : goal.note-requires-clause-kept
note-requires-clause-kept g c =
    let at = c.args.at in
    overflows_recorded at.setup.now at.events.now at.index at.event c.args.past.now at.state.now c.args.self.now.occupancy c.requires.seen.1.follows c.requires.at

pub new-requires : goal.new-requires
new-requires g c =
    let at = c.args.at in
    record { few = few_after at.setup.now at.events.now at.index at.event c.args.past.now at.state.now c.args.self.now.occupancy c.requires.seen.1.follows c.requires.at }

pub returns-in_ok-self-clause-ok : goal.returns-in_ok-self-clause-ok
returns-in_ok-self-clause-ok g c =
    let at = c.args.at in
    let noted = c.in_ok-note.ensures in
    let t = c.if-moment-min.true in
    let m = c.min.ensures in
    let a = c.requires.seen.0 in
    let here : at.index + 1 ≡ min g.K.StagesMoment.at (length at.events.now) = omega (arith, t, m, a) in (
      a,
      record {
        follows = follows_more at.setup.now at.events.now at.index at.event c.args.past.now at.state.now c.args.self.now.occupancy c.note.new.self c.requires.seen.1.follows c.requires.at noted.fillings noted.stamps noted.overflowed;
        thread_stages = stages_read at.setup.now at.events.now at.index g.K.StagesMoment.at at.state.now c.in_ok-self.field-0 c.requires.at.at here c.in_ok-self.ensures;
      },
    )

pub returns-else-moment-min-clause-ok : goal.returns-else-moment-min-clause-ok
returns-else-moment-min-clause-ok g c =
    let at = c.args.at in
    let noted = c.in_ok-note.ensures in
    let t = c.if-moment-min.false in
    let m = c.min.ensures in
    let a = c.requires.seen.0 in
    let apart : at.index + 1 ≡ min g.K.StagesMoment.at (length at.events.now) → ⊥ = λ (q : at.index + 1 ≡ min g.K.StagesMoment.at (length at.events.now)). omega (arith, q, t, m, a) in (
      a,
      record {
        follows = follows_more at.setup.now at.events.now at.index at.event c.args.past.now at.state.now c.args.self.now.occupancy c.note.new.self c.requires.seen.1.follows c.requires.at noted.fillings noted.stamps noted.overflowed;
        thread_stages = stages_kept at.setup.now at.events.now at.index g.K.StagesMoment.at c.args.self.now.occupancy c.args.self.now.thread_stages c.requires.seen.1 apart;
      },
    )
