use Rattle.std.proofs.Common.{◌<◌, ◌^◌, codes, refl, rules}
use Rattle.json.specs.Print.{escape_byte}
use Rattle.source_map.proofs.WordItems.{push_item, enter_item, reap_item}
use Rattle.source_map.proofs.words.spells_instruction.Goals as goal

pub returns-in-Push : goal.returns-in-Push
unfolding escape_byte
returns-in-Push c is size thread index =
    let small : c.in-Push.index < 2 ^ 32 = search rules in
    record { value = _; there = c.is_list.ensures.reads is (codes "push") refl; item = push_item size thread index _ c.in-Push.index _ c.in-Push.is c.from.ensures small }

pub returns-in-Enter : goal.returns-in-Enter
unfolding escape_byte
returns-in-Enter c is size thread index =
    let a : c.in-Enter.to_submit < 2 ^ 32 = search rules in
    let b : c.in-Enter.min_complete < 2 ^ 32 = search rules in
    let d : c.in-Enter.flags < 2 ^ 32 = search rules in
    record { value = _; there = c.is_list-in-Enter.ensures.reads is (codes "enter") refl; item = enter_item size thread index _ _ _ c.in-Enter.to_submit c.in-Enter.min_complete c.in-Enter.flags _ c.in-Enter.is c.from-in-Enter.ensures c.from-in-Enter-2.ensures c.from-in-Enter-3.ensures a b d }

pub returns-in-Reap : goal.returns-in-Reap
unfolding escape_byte
returns-in-Reap c is size thread index =
    record { value = _; there = c.is_list-in-Reap.ensures.reads is (codes "reap") refl; item = reap_item size thread index _ c.in-Reap.is }
