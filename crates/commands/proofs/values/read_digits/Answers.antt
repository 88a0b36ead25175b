use Rattle.std.proofs.Common.{List, ℕ, ◌∙◌, subst}
use Rattle.std.specs.Str.Parse.{ParsesUnsigned}
use Rattle.scenario.proofs.Numbers.{numeral_is_text}
use Rattle.commands.proofs.Numerals.{wide_parsed}
use Rattle.commands.proofs.values.read_digits.Goals as goal

pub returns-in-Ok : goal.returns-in-Ok
returns-in-Ok c =
    let P : List ℕ → Type 0 = λ text. ParsesUnsigned 64 10 text c.parse.result in
    c.ok.ensures.value ∙ wide_parsed c.args.word.now c.parse.result c.requires (subst P c.in-Ok.ensures.cases.0 c.parse.ensures.value.0)

pub returns-in-Err : goal.returns-in-Err
returns-in-Err c = absurd (c.in-Err.ensures.cases.0 (numeral_is_text c.args.word.now c.requires))
