use Rattle.std.proofs.Common.{rules, ◌≡◌, true, false}
use Rattle.sampling.specs.Choosing.{beats}
use Rattle.sampling.specs.Offers.{offer_of, rank_of}
use Rattle.sampling.proofs.Ranking.{kept, outranked}
use Rattle.sampling.proofs.choosing.with_clock.Goals as goal

pub returns-then-not-beats : goal.returns-then-not-beats
returns-then-not-beats c h =
    let ranked : c.rank_at-rank.result ≡ rank_of c.args.source.now c.args.state.now 65553 = search rules in
    let under : beats c.rank_at-rank.result c.args.best ≡ false = search rules in
    kept c.args.source.now c.args.state.now 65553 c.rank_at-rank.result c.args.best ranked under h

pub returns : goal.returns
returns c h =
    let ranked : c.rank_at-rank.result ≡ rank_of c.args.source.now c.args.state.now 65553 = search rules in
    let above : beats c.rank_at-rank.result c.args.best ≡ true = search rules in
    let offered : offer_of c.args.source.now c.args.state.now 65553 ≡ c.clock_offer.result = search rules in
    rw c.challenged.ensures (outranked c.args.source.now c.args.state.now 65553 c.rank_at-rank.result c.clock_offer.result c.args.best ranked offered above h)
