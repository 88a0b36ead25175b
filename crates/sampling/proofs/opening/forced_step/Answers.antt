use Rattle.std.proofs.Common.{◌≡◌, ℕ, false, sym, ◌∙◌}
use Rattle.std.specs.Prelude.{Option, Some, None, IfNone, is_some}
use Rattle.links_drains.specs.Numbered.{NoneWhere}
use Rattle.links_drains.specs.Units.{is_open}
use Rattle.sampling.proofs.Forcing.{step_forced}
use Rattle.sampling.proofs.opening.forced_step.Goals as goal

if_none : (o : Option ℕ) (P : Type 0) → is_some o ≡ false → IfNone o P → P
if_none None P e h = h
if_none (Some x) P e h = absurd cc

pub returns-in-Some : goal.returns-in-Some
returns-in-Some c =
    let m = c.args.state.now in
    let none : NoneWhere is_open m.table 0 = if_none c.next_unfinished.result _ (sym c.is_some.ensures ∙ c.if-is_some.false) c.next_unfinished.ensures.none in
    step_forced m c.in-Some.thread c.in-Some.ensures.few none (c.has_poller_awake.ensures c.if-has_poller_awake.false) c.in-Some.ensures.only
