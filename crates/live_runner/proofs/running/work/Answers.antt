use Rattle.std.proofs.Common.{rules, arith, ◌≡◌, ◌≢◌, ℕ, ◌≤◌, ◌+◌, ◌∙◌, sym, ap, subst, length}
use Rattle.std.proofs.lemmas.Bool.{true≢false}
use Rattle.live_states.specs.History.{Held}
use Rattle.live_runner.specs.Turns.{seat_after}
use Rattle.live_runner.specs.declared.worker.Turn.TheVariants.{Stuck}
use Rattle.live_runner.proofs.Passing.{one_more, passed_next}
use Rattle.live_runner.proofs.running.work.Goals as goal

pub loop-turn-preserved : goal.loop-turn-preserved
loop-turn-preserved g c =
    let was = c.loop-turn.invariant in
    let turn = c.turn.ensures in
    let before = c.loop-turn.worker in
    let next = c.turn.new.self in
    let here : (P : g.row.G.Denot → ℕ → ℕ → Type 0) → (k : ℕ) → P before.gate before.seat.actor k → P c.args.gate.now c.args.seat.actor k = λ P k h. subst (λ x. P x c.args.seat.actor k) was.1 (subst (λ x. P before.gate x k) was.0 h) in (
      search rules,
      turn.gate ∙ was.1,
      passed_next g.G.Gate.opens g.G.Gate.shuts _ _ _ _ _ _ _ _ _ was.2
          (λ b. let same = turn.stays b in (ap (λ x. x.turns) same, ap (λ x. length x.seat.receipts) same, ap (λ x. x.is_stuck) same ∙ b))
          (λ b e.
          let stuck : c.turn.result ≡ Stuck = turn.stuck.1 e in
          let taken = (was.2.whole b).1 in
          let some : before.turns ≢ 4294967295 = λ all. absurd (omega arith) in
          let shut = turn.shuts stuck b some in (
            here g.G.Gate.shuts next.turns shut.0,
            shut.1,
            ap (λ (x : Held). length x.receipts) (turn.seat ∙ ap (seat_after before.seat) stuck),
          ))
          (λ e.
          let opens = turn.opens (λ stuck. true≢false (sym (turn.stuck.0 stuck) ∙ e)) in (
            here g.G.Gate.opens next.turns opens.0,
            opens.1,
            subst (λ (x : Held). length x.receipts ≤ length before.seat.receipts + 1) (sym turn.seat) (one_more before.seat c.turn.result),
          )),
    )
