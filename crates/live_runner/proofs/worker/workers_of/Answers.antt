use Rattle.std.proofs.Common.{rules, ◌≡◌, ◌+◌, length}
use Rattle.live_runner.proofs.Numbering.{numbered_push}
use Rattle.live_runner.proofs.Working.{made_next}
use Rattle.live_runner.proofs.worker.workers_of.Goals as goal

pub loop-seat-preserved : goal.loop-seat-preserved
loop-seat-preserved g c =
    let was = c.loop-seat.invariant in
    let actor : c.new.result.seat.actor ≡ length c.loop-seat.workers.items = let h = was.0 0 c.in-Some.seat in grind rules in (
      (λ k d h. let t = was.0 (k + 1) d in grind rules),
      numbered_push (λ x. x.seat.actor) c.loop-seat.workers.items c.push_reserved.new.self.items c.new.result c.push_reserved.ensures.items was.1 actor,
      made_next c.args.gate.now c.loop-seat.workers.items c.push_reserved.new.self.items _ c.new.result c.in-Some.seat _ _ was.2 (search rules) c.new.ensures c.push_reserved.ensures.items,
      search rules,
      search rules,
    )
