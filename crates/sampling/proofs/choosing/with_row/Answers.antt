use Rattle.std.proofs.Common.{rules, ◌≡◌, ◌+◌, ◌∙◌, sym, ap, true, false}
use Rattle.sampling.specs.Choosing.{beats}
use Rattle.sampling.specs.Offers.{offer_of, rank_of, rank_at}
use Rattle.sampling.proofs.Ranking.{kept, outranked}
use Rattle.sampling.proofs.Offering.{offer_row, rank_row}
use Rattle.sampling.proofs.choosing.with_row.Goals as goal

pub returns-then-not-beats : goal.returns-then-not-beats
returns-then-not-beats c h =
    let n = 17 + c.args.r in
    let ranked : c.rank_at-rank.result ≡ rank_of c.args.source.now c.args.state.now n = c.rank_at-rank.ensures ∙ ap (λ p. rank_at c.args.source.now.key n p) c.row_position.ensures ∙ sym (rank_row c.args.source.now c.args.state.now c.args.r c.requires.small) in
    let under : beats c.rank_at-rank.result c.args.best ≡ false = search rules in
    kept c.args.source.now c.args.state.now n c.rank_at-rank.result c.args.best ranked under h

pub returns : goal.returns
returns c h =
    let n = 17 + c.args.r in
    let ranked : c.rank_at-rank.result ≡ rank_of c.args.source.now c.args.state.now n = c.rank_at-rank.ensures ∙ ap (λ p. rank_at c.args.source.now.key n p) c.row_position.ensures ∙ sym (rank_row c.args.source.now c.args.state.now c.args.r c.requires.small) in
    let above : beats c.rank_at-rank.result c.args.best ≡ true = search rules in
    let offered : offer_of c.args.source.now c.args.state.now n ≡ c.row_offer.result = offer_row c.args.source.now c.args.state.now c.args.r c.requires.small ∙ sym c.row_offer.ensures in
    rw c.challenged.ensures (outranked c.args.source.now c.args.state.now n c.rank_at-rank.result c.row_offer.result c.args.best ranked offered above h)
