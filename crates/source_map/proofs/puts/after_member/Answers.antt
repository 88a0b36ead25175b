use Rattle.source_map.specs.PutTexts.{entry_key}
use Rattle.source_map.proofs.PutTexts.{member_spelled}
use Rattle.source_map.proofs.puts.after_member.Goals as goal

pub returns-clause-tokens : goal.returns-clause-tokens
returns-clause-tokens c ts has =
    let word = entry_key c.in_ok-index.index in
    member_spelled c.args.after_value word c.args.text.now c.in_ok-rest.rest.now c.after_gap.result.now c.in_ok-index.rest.now c.after_gap-2.result.now c.in_ok-rest-2.rest.now _ (c.in_ok-rest.ensures word) c.after_gap.ensures c.in_ok-index.ensures.rest c.after_gap-2.ensures c.in_ok-rest-2.ensures ts has
