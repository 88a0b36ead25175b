use Rattle.std.proofs.Common.{◌≡◌, ◌∙◌, length, ap, sym}
use Rattle.machine.specs.Runs.{run}
use Rattle.inverse_log.specs.Walks.{Walk}
use Rattle.inverse_log.proofs.Copying.{from_copy}
use Rattle.inverse_log.proofs.Runs.{sliced}
use Rattle.inverse_log.proofs.Jumping.{ok_at}
use Rattle.inverse_log.proofs.walker.Walker.last_state.Goals as goal

pub returns : goal.returns
returns c =
    let t = c.self.inside.trail in
    let k = c.self.inside.kept in
    let whole : c.len-len.result ≡ length t.events = c.len-len.ensures.value ∙ ap (λ (w : Walk). length w.events) (sym c.self.view_is) in
    let events : c.events.result.now ≡ t.events = c.events.ensures ∙ ap (λ (w : Walk). w.events) (sym c.self.view_is) in
    let end = from_copy t.setup t.events c.events.result.now k.every k.states c.len-len.result c.nearest-nearest.result c.state.result.now c.in_ok-state.state c.self.invariant whole c.state.ensures c.nearest-nearest.ensures.value c.in_ok-state.ensures events in
    let rest = ap (run c.in_ok-state.state) (sliced c.events.result.now c.nearest-nearest.result) in
    rw (← c.self.view_is) (ok_at c.state_after.result _ _ (rest ∙ end) c.state_after.ensures)
