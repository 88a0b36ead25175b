use Rattle.machine.proofs.Common.{sym, ◌∙◌, subst, is_held_by, WorldState, world_after, stays_after, Mostly, Grows, rules}
use Rattle.machine.proofs.{CascadedRows.direct_one, FormedMachines.mostly, FormedMachines.mostly_world, Growing.grows_then, Growing.grows_world, PipeCounts.puts_fit, GuardLemmas.guards_linked}
use Rattle.machine.proofs.whole.Machine.complete.Goals as goal

pub carry_out-requires-clause-can : goal.carry_out-requires-clause-can
carry_out-requires-clause-can c = let (o, choice, outcome, does) = c.requires.can in does.can

pub cascade-requires-clause-guards : goal.cascade-requires-clause-guards
cascade-requires-clause-guards c = guards_linked c.args.self.now.table c.requires.formed.guards

pub cascade-requires-clause-direct : goal.cascade-requires-clause-direct
cascade-requires-clause-direct c = let (o, choice, outcome, does) = c.requires.can in direct_one c.args.self.now.table c.args.r _ o.row o.there o.unfinished

pub cascade-requires-clause-mostly : goal.cascade-requires-clause-mostly
cascade-requires-clause-mostly c =
    let m = c.args.self.now in
    let (o, choice, outcome, does) = c.requires.can in
    let s = stays_after (is_held_by m.table) m.world o.row c.args.res choice c.requires.formed.mostly.world (puts_fit m c.requires.formed) outcome in
    let moved = c.in_ok-carry_out.ensures.ok ∙ does.same in
    subst (λ (w : WorldState). Mostly (record m { world = w })) (sym moved) (mostly_world m (world_after o.row c.args.res m.world) (mostly m c.requires.formed) s.formed)

pub returns-clause-grows : goal.returns-clause-grows
returns-clause-grows c =
    let m = c.args.self.now in
    let (o, choice, outcome, does) = c.requires.can in
    let s = stays_after (is_held_by m.table) m.world o.row c.args.res choice c.requires.formed.mostly.world (puts_fit m c.requires.formed) outcome in
    let carried = subst (λ (w : WorldState). Grows m (record m { world = w })) (sym (c.in_ok-carry_out.ensures.ok ∙ does.same)) (grows_world m (world_after o.row c.args.res m.world) s.setup) in
    grows_then m (record m { world = c.carry_out.new.world }) c.cascade.new.self carried c.cascade.ensures.grows

pub returns-clause-ok : goal.returns-clause-ok
returns-clause-ok c = search rules
