use Rattle.std.proofs.Common.{◌∙◌, refl, arith, length, ap, [], ◌∷◌, length-append}
use Rattle.eager_runs.proofs.EagerRuns.{works_yet, works_on, worked}
use Rattle.eager_runs.proofs.eager.Eager.work.Goals as goal

pub work-init : goal.work-init
work-init c = record {
  few = c.requires.few;
  plain = refl;
  working = works_yet c.args.self.now.state c.args.self.now.next_row c.args.self.now.events.items;
}

pub work-preserved : goal.work-preserved
work-preserved c =
    record {
      few = c.in-Ok.ensures.few;
      plain = c.add.ensures.plain ∙ c.work.invariant.plain;
      working =
          rw c.in-Ok.ensures.next_row
          (works_on c.args.self.now.state c.args.self.now.next_row c.work.self.state c.add.new.self.state c.work.self.next_row c.in-Some.work.row c.args.self.now.events.items c.work.self.events.items c.add.new.self.events.items c.in-Some.work.event
          c.work.invariant.working c.in-Some.ensures.some c.in-Ok.ensures.added);
    }

pub work-smaller : goal.work-smaller
work-smaller c = omega (arith, c.in-Ok.ensures.few, ap length c.in-Ok.ensures.added.there, length-append c.work.self.events.items (c.in-Some.work.event ∷ []))

pub returns-clause-work : goal.returns-clause-work
returns-clause-work c = worked c.args.self.now.state c.args.self.now.next_row c.work.self.state c.work.self.next_row c.args.self.now.events.items c.work.self.events.items c.work.invariant.working c.in_default.ensures.none
