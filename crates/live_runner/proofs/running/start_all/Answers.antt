use Rattle.std.proofs.Common.{rules, ◌≡◌, ◌+◌, [], length, vec_len}
use Rattle.std.proofs.lemmas.List.Elements.{All-push, All-rest}
use Rattle.live_states.specs.History.{Held}
use Rattle.live_runner.specs.Running.{IsOfTurns}
use Rattle.live_runner.proofs.Numbering.{numbered_push}
use Rattle.live_runner.proofs.running.start_all.Goals as goal

pub loop-seat-preserved : goal.loop-seat-preserved
loop-seat-preserved g c =
    let was = c.loop-seat.invariant in
    let actor : c.in-Some.seat.actor ≡ vec_len c.loop-seat.handles = let h = was.0 0 c.in-Some.seat in grind rules in
    let promise : c.in-Ok.handle.promise.actor ≡ length c.loop-seat.handles.items = search rules in
    let turns : IsOfTurns c.args.gate.now c.args.turns c.in-Ok.handle = record { turns = search rules; gate = search rules } in (
      (λ k d h. let t = was.0 (k + 1) d in grind rules),
      All-rest (λ (s : Held). s.receipts ≡ []) c.in-Some.seat _ _ (search rules) was.1,
      numbered_push (λ x. x.promise.actor) c.loop-seat.handles.items c.push_reserved.new.self.items c.in-Ok.handle c.push_reserved.ensures.items was.2 promise,
      rw c.push_reserved.ensures.items (All-push (IsOfTurns c.args.gate.now c.args.turns) c.loop-seat.handles.items c.in-Ok.handle was.3 turns),
      search rules,
    )
