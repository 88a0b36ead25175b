use Rattle.std.proofs.Common.{◌≡◌, length, arith, ap, subst}
use Rattle.live_states.specs.History.{ClosingState, Replays}
use Rattle.live_states.proofs.AppendingLemmas.{own_pairs, wholes}
use Rattle.live_states.proofs.closing.end.Goals as goal

pub returns-clause-count : goal.returns-clause-count
returns-clause-count g c =
    let fields = c.closing.inside in
    let actors : fields.actors ≡ c.args.closing.run.actors = ap (λ (s : ClosingState). s.run.actors) c.closing.view_is in
    let lists : length fields.lists.items ≡ length c.args.closing.lists = ap (λ (s : ClosingState). length s.lists) c.closing.view_is in
    let all : fields.share.parts ≡ g.L.Ledger.parts = omega (arith, fields.lists.ok.0, c.closing.invariant.1, c.closing.invariant.3, c.requires, actors, lists) in
    let whole = c.audit.ensures.whole all in
    let events = ap (λ (s : ClosingState). length s.run.events) c.closing.view_is in
    let amount = ap (λ (s : ClosingState). s.amount) c.closing.view_is in
    omega (arith, whole, c.closing.invariant.0.counted, events, amount)

pub returns-clause-pairs : goal.returns-clause-pairs
returns-clause-pairs g c =
    let run = c.args.closing.run in
    let replays = subst (λ (s : ClosingState). Replays s.run c.closing.inside.records.items) c.closing.view_is c.closing.invariant.0 in
    own_pairs run.setup run.actors run.owners run.events replays.own

pub returns-clause-whole : goal.returns-clause-whole
returns-clause-whole g c = λ received.
    let replays = subst (λ (s : ClosingState). Replays s.run c.closing.inside.records.items) c.closing.view_is c.closing.invariant.0 in
    wholes c.args.closing.run c.closing.inside.records.items c.args.closing.lists replays c.requires received
