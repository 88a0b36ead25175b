use Rattle.findings.proofs.Common.{◌||◌, has, sym, ap, ◌∙◌, on_ok_weaker}
use Rattle.findings.proofs.Marks.{marks_same}
use Rattle.finding_rules.proofs.Durability.{few_bytes, is_file, volatile_no_durable, volatile_none, volatile_seen}
use Rattle.findings.proofs.marking.mark_volatile.Goals as goal

pub mark_below-requires : goal.mark_below-requires
mark_below-requires c =
    few_bytes c.args.state.now c.args.object _ _ c.number_at.ensures.formed (is_file c.args.state.now c.args.object _ _ c.in-Some.ensures.value c.in-Some-number_at.ensures.value)

pub returns-in_default : goal.returns-in_default
returns-in_default c = λ k.
    marks_same (has c.args.bytes.now k) ∙ ap (λ b. has c.args.bytes.now k || b) (sym (volatile_none c.args.state.now c.args.object k c.in_default.ensures.value))

pub returns-in_default-number_at : goal.returns-in_default-number_at
returns-in_default-number_at c = λ k.
    marks_same (has c.args.bytes.now k) ∙ ap (λ b. has c.args.bytes.now k || b) (sym (volatile_no_durable c.args.state.now c.args.object k c.in_default-number_at.ensures.value))

pub returns : goal.returns
returns c =
    let file = is_file c.args.state.now c.args.object c.in-Some.len c.in-Some-number_at.durable c.in-Some.ensures.value c.in-Some-number_at.ensures.value in
    on_ok_weaker c.mark_below.result (λ h k. h k ∙ ap (λ b. has c.args.bytes.now k || b) (sym (volatile_seen c.args.state.now c.args.object c.in-Some.len c.in-Some-number_at.durable k file))) c.mark_below.ensures
