use Rattle.std.proofs.Common.{◌≡◌, sym, ap, arith}
use Rattle.json.specs.Token.{key}
use Rattle.json.specs.Print.{escape_byte, token_text}
use Rattle.source_map.specs.PutTexts.{entry_key}
use Rattle.source_map.proofs.puts.key_text.Goals as goal

pub returns-in-0 : goal.returns-in-0
unfolding escape_byte
returns-in-0 c = ap (λ i. token_text (key (entry_key i))) (sym c.in-0.is)

pub returns-in-1 : goal.returns-in-1
unfolding escape_byte
returns-in-1 c = ap (λ i. token_text (key (entry_key i))) (sym c.in-1.is)

pub returns-in-2 : goal.returns-in-2
unfolding escape_byte
returns-in-2 c = ap (λ i. token_text (key (entry_key i))) (sym c.in-2.is)

pub returns-in-3 : goal.returns-in-3
unfolding escape_byte
returns-in-3 c = ap (λ i. token_text (key (entry_key i))) (sym c.in-3.is)

pub returns-in-4 : goal.returns-in-4
unfolding escape_byte
returns-in-4 c = ap (λ i. token_text (key (entry_key i))) (sym c.in-4.is)

pub returns-in-5 : goal.returns-in-5
unfolding escape_byte
returns-in-5 c = ap (λ i. token_text (key (entry_key i))) (sym c.in-5.is)

pub returns-in-6 : goal.returns-in-6
unfolding escape_byte
returns-in-6 c = ap (λ i. token_text (key (entry_key i))) (sym c.in-6.is)

pub returns-in-7 : goal.returns-in-7
unfolding escape_byte
returns-in-7 c = ap (λ i. token_text (key (entry_key i))) (sym c.in-7.is)

pub returns-in_default : goal.returns-in_default
unfolding escape_byte
returns-in_default c =
    let is : c.args.index ≡ 8 = omega arith in
    ap (λ i. token_text (key (entry_key i))) (sym is)
