use Rattle.std.proofs.Common.{◌≡◌, ◌++◌, length, take, sym, ap₂, ◌∙◌}
use Rattle.std.proofs.lemmas.List.{take-append-drop}
use Rattle.std.specs.Cmp.Lexicographic.{same_text}
use Rattle.source_map.proofs.spelling.after.Goals as goal

pub returns : goal.returns
returns c =
    let text = c.args.text.now in
    let prefix = c.args.prefix.now in
    let cases = c.in-Some.ensures.cases in
    let same : take (length prefix) text ≡ prefix = same_text (take (length prefix) text) prefix (sym cases.0) in
    sym (take-append-drop (length prefix) text) ∙ ap₂ (λ a b. a ++ b) same (sym cases.1)
