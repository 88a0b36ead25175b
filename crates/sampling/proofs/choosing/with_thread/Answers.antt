use Rattle.std.proofs.Common.{rules, ◌≡◌, ◌∙◌, sym, ap, true, false}
use Rattle.sampling.specs.Choosing.{beats}
use Rattle.sampling.specs.Offers.{offer_of, rank_of, rank_at, thread_position}
use Rattle.sampling.proofs.Ranking.{kept, outranked}
use Rattle.sampling.proofs.Offering.{offer_free, rank_thread}
use Rattle.sampling.proofs.choosing.with_thread.Goals as goal

pub returns-then-not-beats : goal.returns-then-not-beats
returns-then-not-beats c h =
    let t = c.args.thread in
    let ranked : c.rank_at-rank.result ≡ rank_of c.args.source.now c.args.state.now t = c.rank_at-rank.ensures ∙ ap (λ p. rank_at c.args.source.now.key t p) (c.thread_position.ensures ∙ ap (λ o. thread_position o) c.spot_of-spot.ensures.value) ∙ sym (rank_thread c.args.source.now c.args.state.now t c.requires.few) in
    let under : beats c.rank_at-rank.result c.args.best ≡ false = search rules in
    kept c.args.source.now c.args.state.now t c.rank_at-rank.result c.args.best ranked under h

pub returns : goal.returns
returns c h =
    let t = c.args.thread in
    let ranked : c.rank_at-rank.result ≡ rank_of c.args.source.now c.args.state.now t = c.rank_at-rank.ensures ∙ ap (λ p. rank_at c.args.source.now.key t p) (c.thread_position.ensures ∙ ap (λ o. thread_position o) c.spot_of-spot.ensures.value) ∙ sym (rank_thread c.args.source.now c.args.state.now t c.requires.few) in
    let above : beats c.rank_at-rank.result c.args.best ≡ true = search rules in
    let offered : offer_of c.args.source.now c.args.state.now t ≡ c.step_offer-offer.result = sym (c.step_offer-offer.ensures ∙ offer_free c.args.source.now c.args.state.now t c.args.is_free c.requires.free c.requires.few) in
    rw c.challenged.ensures (outranked c.args.source.now c.args.state.now t c.rank_at-rank.result c.step_offer-offer.result c.args.best ranked offered above h)
