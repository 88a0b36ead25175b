use Rattle.std.proofs.Common.{◌++◌, decimal, ap, ◌∙◌}
use Rattle.json.specs.Print.{escape_byte}
use Rattle.std.proofs.lemmas.Option.{IfSome_then}
use Rattle.source_map.proofs.PutTexts.{put_spelled}
use Rattle.source_map.proofs.puts.after_start.Goals as goal

pub returns : goal.returns
unfolding escape_byte
returns c =
    IfSome_then c.after-5.result c.after-5.ensures (λ rest same.
    put_spelled c.args.slot c.args.text.now c.in_ok-rest.rest.now c.after_gap.result.now c.in_ok-rest-2.rest.now c.in_ok-rest-3.rest.now c.after_gap-2.result.now c.in_ok-rest-4.rest.now c.in_ok-rest-5.rest.now c.after_gap-3.result.now rest.now c.in_ok-rest.ensures c.after_gap.ensures c.in_ok-rest-2.ensures c.in_ok-rest-3.ensures c.after_gap-2.ensures (c.in_ok-rest-4.ensures ∙ ap (λ n. decimal n ++ c.in_ok-rest-4.rest.now) c.from.ensures) c.in_ok-rest-5.ensures c.after_gap-3.ensures same)
