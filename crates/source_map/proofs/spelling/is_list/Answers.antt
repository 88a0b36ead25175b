use Rattle.std.proofs.Common.{false, sym, ap, ◌∙◌}
use Rattle.serde_json.specs.Read.{read}
use Rattle.source_map.specs.ListTexts.{HasTokens, list_tokens}
use Rattle.source_map.proofs.ListTexts.{fit_each, list_spelled, list_reads}
use Rattle.source_map.proofs.spelling.is_list.Goals as goal

pub returns-clause-reads : goal.returns-clause-reads
returns-clause-reads c ended word w =
    let range = c.in-Some.range.now in
    let ns = c.args.numbers.now in
    let spelled : HasTokens false range (list_tokens word ns) = list_spelled range c.in-Some-after.rest.now c.after_gap.result.now c.in-Some-after-2.rest.now c.args.in_quotes.now word ns c.in-Some-after.ensures c.after_gap.ensures c.in-Some-after-2.ensures w (c.is_rest.ensures ended) in
    record {
      ordered = c.in-Some.ensures.ordered;
      within = c.in-Some.ensures.within;
      reads = ap read (sym c.in-Some.ensures.range) ∙ list_reads range word ns (fit_each ns (λ i. (c.type_inv.numbers i).fits)) spelled;
    }

pub returns-clause-fit : goal.returns-clause-fit
returns-clause-fit c ended = fit_each c.args.numbers.now (λ i. (c.type_inv.numbers i).fits)
