use Rattle.std.proofs.Common.{rules, ◌+◌, sym, subst, ℕ}
use Rattle.scenario.specs.declared.event.Event.TheVariants.{Tick}
use Rattle.live_states.proofs.ReceiptLemmas.{Agrees, agrees_more, agrees_skip, receipts_next}
use Rattle.live_states.proofs.closing.are_receipts_of.Goals.{then-owners-moment+else-not-is_receipt_at, else-owners-moment}
use Rattle.live_states.proofs.closing.are_receipts_of.Goals as goal

pub loop-moment-preserved : goal.loop-moment-preserved
loop-moment-preserved c =
    let a = c.args.actor in let os = c.args.owners.now in let es = c.args.events.now in let rs = c.args.receipts.now in
    let i = c.loop-moment.moment in let next = c.loop-moment.next in
    let P : ℕ → Type 0 = λ n. Agrees a os es rs n (i + 1) in
    elim c.if-owners-moment.branch [
      | then-owners-moment+else-not-is_receipt_at w ↦
          subst P (sym w.next-is) (agrees_more a os es rs next i 0 (Tick 0) c.loop-moment.invariant (search rules) (search rules) (search rules) (search rules))
      | else-owners-moment w ↦ subst P (sym w.next-is) (agrees_skip a os es rs next i 0 (Tick 0) c.loop-moment.invariant (search rules) (search rules) (search rules))
    ]

pub returns-then-not-is_receipt_at : goal.returns-then-not-is_receipt_at
returns-then-not-is_receipt_at c =
    let i = c.loop-moment.moment in let next = c.loop-moment.next in (
      λ h. absurd (cc),
      λ all. let there = receipts_next c.args.actor c.args.owners.now c.args.events.now c.args.receipts.now next i 0 (Tick 0) c.loop-moment.invariant (search rules) (search rules) (search rules) all in
          let b = c.is_receipt_at.ensures.1 there in search rules,
    )
