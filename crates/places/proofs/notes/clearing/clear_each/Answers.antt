use Rattle.std.proofs.Common.{◌<◌, ◌+◌, ◌∙◌, length, arith, sym, false}
use Rattle.std.specs.Prelude.{slice_index_or}
use Rattle.std.proofs.lemmas.Option.{slice_get_within, slice_get-get_or}
use Rattle.places.specs.Closed.{LeftOf}
use Rattle.places.specs.Masked.{kept_byte}
use Rattle.places.specs.Runs.{place_in}
use Rattle.places.proofs.MarkLemmas.{outside_more, outside_one, settled, settled_same}
use Rattle.places.proofs.MaskedLemmas.{each_left, left_gone, left_kept}
use Rattle.places.proofs.notes.clearing.clear_each.Goals.{then-is_byte, else-is_byte}
use Rattle.places.proofs.notes.clearing.clear_each.Goals as goal

pub loop-i-preserved : goal.loop-i-preserved
loop-i-preserved g c = elim c.if-is_byte.branch [
  | then-is_byte w ↦ rw (w.gone-is) (record {
    len = w.drop_mark.ensures.len ∙ c.loop-i.invariant.len;
    others = outside_one c.args.gone.now c.loop-i.gone w.drop_mark.new.gone c.args.mark c.loop-i.i false c.loop-i.invariant.others w.drop_mark.ensures.kept;
    done = settled (λ j b k m. LeftOf (g.A.At.seen c.args.whole.now (place_in c.args.region (c.args.start + j))) (kept_byte k b) (kept_byte m b)) c.args.olds.now c.args.gone.now c.loop-i.gone w.drop_mark.new.gone c.args.mark c.loop-i.i (slice_index_or c.args.olds.now c.loop-i.i 0) false
        (slice_get-get_or c.args.olds.now c.loop-i.i 0 c.loop-i-test.true) w.drop_mark.ensures.kept (left_gone _ _ _ (sym (rw (c.place.ensures) at c.at.ensures) ∙ (rw (w.if-is_byte.true) at c.is_byte.ensures))) c.loop-i.invariant.done;
  })
  | else-is_byte w ↦ rw (w.gone-is) (record {
    len = c.loop-i.invariant.len;
    others = outside_more c.args.gone.now c.loop-i.gone c.args.mark c.loop-i.i (c.loop-i.i + 1) (omega arith) c.loop-i.invariant.others;
    done = settled_same (λ j b k m. LeftOf (g.A.At.seen c.args.whole.now (place_in c.args.region (c.args.start + j))) (kept_byte k b) (kept_byte m b)) c.args.olds.now c.args.gone.now c.loop-i.gone c.args.mark c.loop-i.i (slice_index_or c.args.olds.now c.loop-i.i 0)
        c.loop-i.invariant.others (slice_get-get_or c.args.olds.now c.loop-i.i 0 c.loop-i-test.true) (left_kept _ _ _ (λ e. (rw (w.if-is_byte.false) at c.is_byte.ensures) ((rw (c.place.ensures) at c.at.ensures) ∙ e))) c.loop-i.invariant.done;
  })
]

pub returns-clause-kept : goal.returns-clause-kept
returns-clause-kept g c =
    each_left _ _ _ _ _ _ _
    (λ j b e. c.loop-i.invariant.done j b (let w : j < length c.args.olds.now = slice_get_within _ _ _ e in let t = c.loop-i-test.false in omega arith) e)
