use Rattle.std.proofs.Common.{◌≡◌, ℕ, ◌+◌, ◌*◌, ◌<◌, List, None, drop, length, ap, sym, ◌∙◌, inr, arith}
use Rattle.std.proofs.lemmas.Grind.{common_steps}
use Rattle.std.proofs.lemmas.List.{length_push, drop-drop}
use Rattle.std.proofs.lemmas.Result.{err_from_is_err_and}
use borrow.Author.Count.{below_more}
use Rattle.traces.specs.Faults.{event_fault}
use Rattle.traces.proofs.Faults.{of_event, place_below}
use Rattle.traces.proofs.Traces.{fits_push, read_more}
use Rattle.traces.proofs.reading.read_events.Goals as goal

pub loop-preserved : goal.loop-preserved
loop-preserved c =
    let bytes = c.args.bytes.now in
    let i = c.loop.counter in
    let es = c.loop.events.items in
    let e = c.in_ok-event.event in
    let more : 16 * i + 16 ≡ 16 * (i + 1) = omega arith in
    record {
      place = c.in_ok-event.ensures.rest ∙ ap (λ (xs : List ℕ). drop 16 xs) c.loop.invariant.place ∙ drop-drop 16 (16 * i) bytes ∙ ap (λ (n : ℕ). drop n bytes) more;
      read = rw (c.in_ok-push.ensures.items, c.in_ok-event.ensures.rest) (read_more bytes c.loop.rest.now es e c.loop.invariant.read c.in_ok-event.ensures.spelled);
      count = rw c.in_ok-push.ensures.items (length_push es e ∙ ap (λ (n : ℕ). n + 1) c.loop.invariant.count);
      fits = rw c.in_ok-push.ensures.items (fits_push es e c.loop.invariant.fits c.in_ok-event.ensures.fits);
      clean = below_more (λ (k : ℕ). event_fault (drop (16 * k) bytes) ≡ None) i c.loop.invariant.clean (ap event_fault (sym c.loop.invariant.place) ∙ c.in_ok-event.ensures.clean);
    }

pub returns-in_err-event-clause-fault : goal.returns-in_err-event-clause-fault
returns-in_err-event-clause-fault c =
    let p = err_from_is_err_and c.from_residual-in_err-event.result c.from_residual-in_err-event.ensures.1 in
    rw (p.1, p.2) (inr (of_event c.args.count c.loop.counter c.args.bytes.now c.loop.rest.now c.in_err-event.field-0.0 c.loop-test.true c.loop.invariant.clean c.loop.invariant.place c.in_err-event.ensures.fault))

pub returns-else-is_empty-clause-fault : goal.returns-else-is_empty-clause-fault
returns-else-is_empty-clause-fault c =
    let some : 0 < length c.loop.rest.now = grind (arith, common_steps) in
    let below : 16 * c.loop.counter < length c.args.bytes.now = place_below (16 * c.loop.counter) c.args.bytes.now c.loop.rest.now c.loop.invariant.place some in
    inr (λ k lt. c.loop.invariant.clean k (omega (arith, lt)), omega arith)
