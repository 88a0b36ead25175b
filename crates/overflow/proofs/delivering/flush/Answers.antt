use Rattle.overflow.proofs.Common.{◌≡◌, sym, subst, ◌++◌, length, ◌≤◌, ◌+◌, min, rules, not, CqOverflow, com_list, has_flag, waiting, kept, is_clear, delivery_of, Delivery, DeliveryFormed, flushed}
use Rattle.overflow.proofs.KeptInOrder.{flushed_in_row, flushed_into_ring, flushed_flag, flushed_formed, flushed_size}
use Rattle.overflow.proofs.delivering.flush.Goals as goal

pub returns-clause-in_order : goal.returns-clause-in_order
returns-clause-in_order c =
    let old = delivery_of c.args.submissions.now c.args.completions.now c.args.backlog.now in
    let formed : DeliveryFormed old = record { completions = c.free_slots.ensures.formed; waits = c.requires.waits; front = c.requires.front } in
    let done : delivery_of c.flag.new.submissions c.post_in_order.new.completions c.pass.new.self ≡ flushed old = search rules in
    subst (λ (d : Delivery). com_list d.completions ++ kept d.backlog ≡ com_list old.completions ++ kept old.backlog) (sym done) (flushed_in_row old formed)

pub returns-clause-into_ring : goal.returns-clause-into_ring
returns-clause-into_ring c =
    let old = delivery_of c.args.submissions.now c.args.completions.now c.args.backlog.now in
    let formed : DeliveryFormed old = record { completions = c.free_slots.ensures.formed; waits = c.requires.waits; front = c.requires.front } in
    let done : delivery_of c.flag.new.submissions c.post_in_order.new.completions c.pass.new.self ≡ flushed old = search rules in
    subst (λ (d : Delivery). length (com_list d.completions) ≡ min (length (com_list old.completions) + length (kept old.backlog)) (length old.completions.slots)) (sym done) (flushed_into_ring old formed)

pub returns-clause-flag : goal.returns-clause-flag
returns-clause-flag c =
    let old = delivery_of c.args.submissions.now c.args.completions.now c.args.backlog.now in
    let formed : DeliveryFormed old = record { completions = c.free_slots.ensures.formed; waits = c.requires.waits; front = c.requires.front } in
    let done : delivery_of c.flag.new.submissions c.post_in_order.new.completions c.pass.new.self ≡ flushed old = search rules in
    subst (λ (d : Delivery). has_flag d.submissions.flags CqOverflow ≡ not (is_clear d.backlog)) (sym done) (flushed_flag old)

pub returns-clause-slots : goal.returns-clause-slots
returns-clause-slots c =
    let old = delivery_of c.args.submissions.now c.args.completions.now c.args.backlog.now in
    let formed : DeliveryFormed old = record { completions = c.free_slots.ensures.formed; waits = c.requires.waits; front = c.requires.front } in
    let done : delivery_of c.flag.new.submissions c.post_in_order.new.completions c.pass.new.self ≡ flushed old = search rules in
    subst (λ (d : Delivery). length d.completions.slots ≡ length old.completions.slots) (sym done) (flushed_size old)

pub returns-clause-still_waits : goal.returns-clause-still_waits
returns-clause-still_waits c =
    let old = delivery_of c.args.submissions.now c.args.completions.now c.args.backlog.now in
    let formed : DeliveryFormed old = record { completions = c.free_slots.ensures.formed; waits = c.requires.waits; front = c.requires.front } in
    let done : delivery_of c.flag.new.submissions c.post_in_order.new.completions c.pass.new.self ≡ flushed old = search rules in
    subst (λ (d : Delivery). waiting d.completions.head d.completions.tail ≤ length d.completions.slots) (sym done) ((flushed_formed old formed).waits)
