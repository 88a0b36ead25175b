use Rattle.std.proofs.Common.{rules, ◌≡◌, ◌++◌, ◌∷◌, []}
use Rattle.machine.specs.Runs.{start}
use Rattle.sampling.proofs.RunLemmas.{link_more}
use Rattle.sampling.proofs.running.advance.Goals as goal

pub returns-then-stepped-clause-linked : goal.returns-then-stepped-clause-linked
returns-then-stepped-clause-linked g c =
    let events : c.push.new.self.items ≡ c.args.into.now.events.items ++ c.args.event ∷ [] = search rules in
    let records : c.push-in-Ok.new.self.items ≡ c.args.into.now.records.items ++ c.in-Ok.stepped.past ∷ [] = search rules in
    link_more (start c.args.setup.now) c.args.state.now c.step.new.state c.args.into.now.events.items c.push.new.self.items c.args.into.now.records.items c.push-in-Ok.new.self.items c.args.event c.in-Ok.stepped.past c.in-Ok.ensures.link events records c.requires.linked

pub returns-else-stepped-clause-linked : goal.returns-else-stepped-clause-linked
returns-else-stepped-clause-linked g c =
    let events : c.push.new.self.items ≡ c.args.into.now.events.items ++ c.args.event ∷ [] = search rules in
    let records : c.push-in-Ok.new.self.items ≡ c.args.into.now.records.items ++ c.in-Ok.stepped.past ∷ [] = search rules in
    link_more (start c.args.setup.now) c.args.state.now c.step.new.state c.args.into.now.events.items c.push.new.self.items c.args.into.now.records.items c.push-in-Ok.new.self.items c.args.event c.in-Ok.stepped.past c.in-Ok.ensures.link events records c.requires.linked
