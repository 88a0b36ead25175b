use Rattle.finding_rules.proofs.Common.{sym}
use Rattle.finding_rules.proofs.Durability.{bytes_decide, few_bytes, is_file, lengths_differ, no_durable_length, no_length}
use Rattle.finding_rules.proofs.unsynced.has_unsynced.Goals as goal

pub returns-in_default : goal.returns-in_default
returns-in_default c = sym (no_length c.args.state.now c.args.object c.in_default.ensures.value)

pub returns-in_default-number_at : goal.returns-in_default-number_at
returns-in_default-number_at c = sym (no_durable_length c.args.state.now c.args.object c.in_default-number_at.ensures.value)

pub returns-then-len-durable : goal.returns-then-len-durable
returns-then-len-durable c =
    sym (lengths_differ c.args.state.now c.args.object _ _ c.number_at.ensures.formed (is_file c.args.state.now c.args.object _ _ c.in-Some.ensures.value c.in-Some-number_at.ensures.value) c.if-len-durable.true)

pub differs_below-requires : goal.differs_below-requires
differs_below-requires c =
    few_bytes c.args.state.now c.args.object _ _ c.number_at.ensures.formed (is_file c.args.state.now c.args.object _ _ c.in-Some.ensures.value c.in-Some-number_at.ensures.value)

pub returns : goal.returns
returns c =
    sym (bytes_decide c.args.state.now c.args.object _ _ c.differs_below.result c.number_at.ensures.formed (is_file c.args.state.now c.args.object _ _ c.in-Some.ensures.value c.in-Some-number_at.ensures.value) c.if-len-durable.false c.differs_below.ensures)
