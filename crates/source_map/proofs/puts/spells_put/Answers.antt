use Rattle.std.proofs.Common.{◌<◌, ◌^◌, arith, sym, ap, ◌∙◌, rules}
use Rattle.serde_json.specs.Read.{read}
use Rattle.source_map.proofs.PutTexts.{put_item, put_reads, put_value}
use Rattle.source_map.proofs.puts.spells_put.Goals as goal

pub returns : goal.returns
returns c ended thread index =
    let rest = c.ends_put.ensures ended in
    let ns = c.in-Some.numbers in
    let below : c.args.slot < c.args.size = omega arith in
    let small : c.args.slot < 2 ^ 64 = search rules in
    let spelled = c.in-Some-after_start.ensures _ rest.tokens in
    record {
      value = put_value c.args.slot ns rest.members;
      there = record {
        ordered = c.in-Some-range_of.ensures.ordered;
        within = c.in-Some-range_of.ensures.within;
        reads = ap read (sym c.in-Some-range_of.ensures.range) ∙ put_reads c.in-Some-range_of.range.now ns rest.members c.args.slot small rest.fit spelled;
      };
      item = put_item c.args.size thread index c.args.slot ns rest.members c.args.entry.now below rest.fit c.in-Some.ensures rest.cover;
    }
