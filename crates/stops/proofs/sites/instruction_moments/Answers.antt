use Rattle.std.proofs.Common.{◌≡◌, ◌∙◌, ◌+◌, ◌-◌, length, sym, ap, arith}
use Rattle.std.specs.Prelude.{reverse}
use Rattle.places.specs.declared.place.Place.TheVariants.{ProgramCounter}
use Rattle.machine.specs.Whole.{view}
use Rattle.machine.specs.Runs.{moment}
use Rattle.stops.specs.declared.sites.Site.TheVariants.{Instruction}
use Rattle.stops.specs.SiteMoments.{is_next}
use Rattle.stops.proofs.Visits.{value_before, found_more, found_no_more}
use Rattle.stops.proofs.sites.instruction_moments.Goals as goal

pub loop-moment-preserved-in-Continue-1 : goal.loop-moment-preserved-in-Continue-1
loop-moment-preserved-in-Continue-1 c =
    let w = c.args.walker.now in
    let m = c.loop-moment.moment in
    let e : m - 1 + 1 ≡ m = omega arith in
    record {
      within = omega arith;
      counter = c.value_before-counter.ensures ∙ value_before (view (moment w.setup w.events (m - 1))) (view (moment w.setup w.events (m - 1 + 1))) c.record_of.result.now (ProgramCounter c.args.thread) c.loop-moment.counter c.record_of.ensures (c.loop-moment.invariant.counter ∙ ap (λ k. view (moment w.setup w.events k) (ProgramCounter c.args.thread)) (sym e));
      found = ap reverse c.in_ok-push.ensures.items ∙ found_more (is_next w (Instruction c.args.thread c.args.index)) c.loop-moment.moments.items m (length w.events) c.loop-moment-test.true c.loop-moment.invariant.within c.loop-moment.invariant.found (sym c.carries_out.ensures ∙ c.if-carries_out.true);
    }

pub loop-moment-preserved : goal.loop-moment-preserved
loop-moment-preserved c =
    let w = c.args.walker.now in
    let m = c.loop-moment.moment in
    let e : m - 1 + 1 ≡ m = omega arith in
    record {
      within = omega arith;
      counter = c.value_before-counter.ensures ∙ value_before (view (moment w.setup w.events (m - 1))) (view (moment w.setup w.events (m - 1 + 1))) c.record_of.result.now (ProgramCounter c.args.thread) c.loop-moment.counter c.record_of.ensures (c.loop-moment.invariant.counter ∙ ap (λ k. view (moment w.setup w.events k) (ProgramCounter c.args.thread)) (sym e));
      found = found_no_more (is_next w (Instruction c.args.thread c.args.index)) c.loop-moment.moments.items m (length w.events) c.loop-moment-test.true c.loop-moment.invariant.within c.loop-moment.invariant.found (sym c.carries_out.ensures ∙ c.if-carries_out.false);
    }
