use Rattle.std.proofs.Common.{◌≡◌, ◌<◌, ◌^◌, codes, refl, ap, ◌∙◌, rules}
use Rattle.entries.specs.declared.choice.Choice.TheVariants.{Full}
use Rattle.scenario.specs.declared.event.Event.TheVariants.{Finish}
use Rattle.json.specs.Print.{escape_byte}
use Rattle.source_map.proofs.WordItems.{step_item, take_item, sleep_item, issue_item, finish_item, expire_item, tick_item}
use Rattle.source_map.proofs.words.spells_event.Goals as goal

pub returns-in-Step : goal.returns-in-Step
unfolding escape_byte
returns-in-Step c is index =
    let small : c.in-Step.thread < 2 ^ 32 = search rules in
    record { value = _; there = c.is_list.ensures.reads is (codes "step") refl; item = step_item index _ c.in-Step.thread _ c.in-Step.is c.from.ensures small }

pub returns-in-Take : goal.returns-in-Take
unfolding escape_byte
returns-in-Take c is index =
    let small : c.in-Take.entries < 2 ^ 32 = search rules in
    record { value = _; there = c.is_list-in-Take.ensures.reads is (codes "take") refl; item = take_item index _ c.in-Take.entries _ c.in-Take.is c.from-in-Take.ensures small }

pub returns-in-Issue : goal.returns-in-Issue
unfolding escape_byte
returns-in-Issue c is index =
    let small : c.in-Issue.row < 2 ^ 32 = search rules in
    record { value = _; there = c.is_list-in-Issue.ensures.reads is (codes "issue") refl; item = issue_item index _ c.in-Issue.row _ c.in-Issue.is c.from-in-Issue.ensures small }

pub returns-in-Full : goal.returns-in-Full
unfolding escape_byte
returns-in-Full c is index =
    let small : c.in-Finish.row < 2 ^ 32 = search rules in
    let full : c.args.event.now ≡ Finish c.in-Finish.row Full = c.in-Finish.is ∙ ap (Finish c.in-Finish.row) c.in-Full.is in
    record { value = _; there = c.is_list-in-Full.ensures.reads is (codes "finish") refl; item = finish_item index _ c.in-Finish.row _ full c.from-in-Full.ensures small }

pub returns-in-Expire : goal.returns-in-Expire
unfolding escape_byte
returns-in-Expire c is index =
    let small : c.in-Expire.row < 2 ^ 32 = search rules in
    record { value = _; there = c.is_list-in-Expire.ensures.reads is (codes "expire") refl; item = expire_item index _ c.in-Expire.row _ c.in-Expire.is c.from-in-Expire.ensures small }

pub returns-in-Sleep : goal.returns-in-Sleep
unfolding escape_byte
returns-in-Sleep c is index =
    record { value = _; there = c.is_list-in-Sleep.ensures.reads is (codes "sleep") refl; item = sleep_item index _ c.in-Sleep.is }

pub returns-in-Tick : goal.returns-in-Tick
unfolding escape_byte
returns-in-Tick c is index =
    record { value = _; there = c.is_list-in-Tick.ensures.reads is (codes "tick") refl; item = tick_item index c.in-Tick.nanoseconds _ c.in-Tick.is (c.is_list-in-Tick.ensures.fit is).0 }
