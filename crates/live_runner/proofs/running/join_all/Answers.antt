use Rattle.std.proofs.Common.{rules, ◌≡◌, ◌+◌, ◌++◌, ◌∷◌, [], length, vec_len}
use Rattle.live_runner.specs.Turns.{HasWorked}
use Rattle.live_runner.proofs.Numbering.{numbered_push}
use Rattle.live_runner.proofs.Passing.{passed_same}
use Rattle.live_runner.proofs.Working.{worked_next}
use Rattle.live_runner.proofs.running.join_all.Goals as goal

pub loop-handle-preserved : goal.loop-handle-preserved
loop-handle-preserved g c =
    let was = c.loop-handle.invariant in
    let promise : c.in-Some.handle.promise.actor ≡ vec_len c.loop-handle.workers = let h = was.0 0 c.in-Some.handle in grind rules in
    let actor : c.back.result.seat.actor ≡ length c.loop-handle.workers.items = search rules in
    let items : c.push.new.self.items ≡ c.loop-handle.workers.items ++ c.back.result ∷ [] = search rules in (
      (λ k d h. let t = was.0 (k + 1) d in grind rules),
      numbered_push (λ x. x.seat.actor) c.loop-handle.workers.items c.push.new.self.items c.back.result items was.1 actor,
      λ n h. worked_next c.args.gate.now (HasWorked g.G.Gate.opens g.G.Gate.shuts c.args.gate.now n) n c.loop-handle.workers.items c.push.new.self.items c.back.result c.in-Some.handle _ _ (was.2 n h) (search rules)
          (λ e. passed_same _ _ _ _ _ _ _ _ _ _ _ _ _ _ e.gate (search rules) e.turns c.back.ensures.turns (search rules) c.back.ensures.stuck c.join.ensures.1) items,
    )
