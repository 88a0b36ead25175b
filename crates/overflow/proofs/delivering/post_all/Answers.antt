use Rattle.overflow.proofs.Common.{◌≡◌, ℕ, List, sym, ap, ◌∙◌, subst, take, drop, ◌++◌, length, ◌≤◌, ◌+◌, min, true, arith, not, length-append, length-drop, length-take-le, CqOverflow, Cqe, com_list, has_flag, waiting, kept, is_clear, delivery_of, BacklogState, Delivery, DeliveryFormed, backlog_with, fits, posted_in_order, all_posted, ComWords}
use Rattle.std.specs.Prelude.{◌-◌}
use Rattle.std.proofs.lemmas.List.{take_all}
use Rattle.overflow.specs.Backlogs.{flagged}
use Rattle.ring_words.specs.Rings.{SubWords}
use Rattle.overflow.proofs.KeptInOrder.{posted_in_row, posted_into_ring, posted_flag, posted_formed, posted_size}
use Rattle.overflow.proofs.delivering.post_all.Goals as goal

-- The three parts after the body's steps.
posted_now : (d : Delivery) (list : List Cqe) (now : ℕ) (s : SubWords) (w : ComWords) (b : BacklogState) → now ≡ fits d.completions d.backlog (length list) → b ≡ backlog_with d.backlog (take (length list - now) (drop now list))
    → w ≡ posted_in_order d.completions (take now list) → s ≡ flagged d.submissions b → delivery_of s w b ≡ all_posted d list
posted_now d list now s w b first added posted set =
    let rest = take_all (length list - now) (drop now list) (omega (arith, length-drop now list)) in
    let all : b ≡ backlog_with d.backlog (drop now list) = added ∙ ap (backlog_with d.backlog) rest in
    cc

-- A list was added to the backlog, of which some are its items' last.
added_items : (old new : BacklogState) (list : List Cqe) (now : ℕ) → new ≡ backlog_with old (take (length list - now) (drop now list)) → (length new.items ≡ length old.items + (length list - now)) × (new.front ≡ old.front)
added_items old new list now added =
    let count = length-take-le (length list - now) (drop now list) (omega (arith, length-drop now list)) in
    let all = ap (λ b. length b.items) added ∙ length-append old.items (take (length list - now) (drop now list)) in
    (omega (arith, all, count), ap (λ b. b.front) added)

pub returns-clause-ok : goal.returns-clause-ok
returns-clause-ok c =
    posted_now (delivery_of c.args.submissions.now c.args.completions.now c.args.backlog.now) c.args.list.now c.fits-now.result c.flag.new.submissions c.post_in_order.new.completions c.add.new.self c.fits-now.ensures.value c.in_ok-add.ensures.ok c.post_in_order.ensures.next c.flag.ensures.next

pub returns-clause-in_order : goal.returns-clause-in_order
returns-clause-in_order c =
    let old = delivery_of c.args.submissions.now c.args.completions.now c.args.backlog.now in
    let formed : DeliveryFormed old = record { completions = c.fits-now.ensures.formed; waits = c.requires.waits; front = c.requires.front } in
    let done = posted_now old c.args.list.now c.fits-now.result c.flag.new.submissions c.post_in_order.new.completions c.add.new.self c.fits-now.ensures.value c.in_ok-add.ensures.ok c.post_in_order.ensures.next c.flag.ensures.next in
    subst (λ (d : Delivery). com_list d.completions ++ kept d.backlog ≡ (com_list old.completions ++ kept old.backlog) ++ c.args.list.now) (sym done) (posted_in_row old c.args.list.now formed)

pub returns-clause-into_ring : goal.returns-clause-into_ring
returns-clause-into_ring c =
    let old = delivery_of c.args.submissions.now c.args.completions.now c.args.backlog.now in
    let formed : DeliveryFormed old = record { completions = c.fits-now.ensures.formed; waits = c.requires.waits; front = c.requires.front } in
    let done = posted_now old c.args.list.now c.fits-now.result c.flag.new.submissions c.post_in_order.new.completions c.add.new.self c.fits-now.ensures.value c.in_ok-add.ensures.ok c.post_in_order.ensures.next c.flag.ensures.next in
    subst (λ (d : Delivery). is_clear old.backlog ≡ true → length (com_list d.completions) ≡ min (length (com_list old.completions) + length c.args.list.now) (length old.completions.slots)) (sym done) (posted_into_ring old c.args.list.now formed)

pub returns-clause-flag : goal.returns-clause-flag
returns-clause-flag c =
    let old = delivery_of c.args.submissions.now c.args.completions.now c.args.backlog.now in
    let formed : DeliveryFormed old = record { completions = c.fits-now.ensures.formed; waits = c.requires.waits; front = c.requires.front } in
    let done = posted_now old c.args.list.now c.fits-now.result c.flag.new.submissions c.post_in_order.new.completions c.add.new.self c.fits-now.ensures.value c.in_ok-add.ensures.ok c.post_in_order.ensures.next c.flag.ensures.next in
    subst (λ (d : Delivery). has_flag d.submissions.flags CqOverflow ≡ not (is_clear d.backlog)) (sym done) (posted_flag old c.args.list.now)

pub returns-clause-slots : goal.returns-clause-slots
returns-clause-slots c =
    let old = delivery_of c.args.submissions.now c.args.completions.now c.args.backlog.now in
    let formed : DeliveryFormed old = record { completions = c.fits-now.ensures.formed; waits = c.requires.waits; front = c.requires.front } in
    let done = posted_now old c.args.list.now c.fits-now.result c.flag.new.submissions c.post_in_order.new.completions c.add.new.self c.fits-now.ensures.value c.in_ok-add.ensures.ok c.post_in_order.ensures.next c.flag.ensures.next in
    subst (λ (d : Delivery). length d.completions.slots ≡ length old.completions.slots) (sym done) (posted_size old c.args.list.now)

pub returns-clause-still_waits : goal.returns-clause-still_waits
returns-clause-still_waits c =
    let old = delivery_of c.args.submissions.now c.args.completions.now c.args.backlog.now in
    let formed : DeliveryFormed old = record { completions = c.fits-now.ensures.formed; waits = c.requires.waits; front = c.requires.front } in
    let done = posted_now old c.args.list.now c.fits-now.result c.flag.new.submissions c.post_in_order.new.completions c.add.new.self c.fits-now.ensures.value c.in_ok-add.ensures.ok c.post_in_order.ensures.next c.flag.ensures.next in
    subst (λ (d : Delivery). waiting d.completions.head d.completions.tail ≤ length d.completions.slots) (sym done) ((posted_formed old c.args.list.now formed).waits)

pub returns-clause-still_front : goal.returns-clause-still_front
returns-clause-still_front c =
    let front = c.requires.front in
    let added = added_items c.args.backlog.now c.add.new.self c.args.list.now c.fits-now.result c.in_ok-add.ensures.ok in
    omega (arith, front, added)

pub returns-clause-items : goal.returns-clause-items
returns-clause-items c = omega (arith, added_items c.args.backlog.now c.add.new.self c.args.list.now c.fits-now.result c.in_ok-add.ensures.ok)

pub returns-clause-at_most : goal.returns-clause-at_most
returns-clause-at_most c = omega (arith, added_items c.args.backlog.now c.add.new.self c.args.list.now c.fits-now.result c.in_ok-add.ensures.ok)
