use Rattle.std.proofs.Common.{◌≡◌, ◌<◌, ◌≤◌, ◌+◌, ◌-◌, min, ℕ, length, arith, sym, subst}
use Rattle.std.specs.Prelude.{slice_index_or, slice_set}
use Rattle.std.proofs.lemmas.Option.{slice_get-get_or}
use Rattle.places.specs.Stretched.{kept_of}
use Rattle.places.proofs.MaskedLemmas.{length_kept}
use Rattle.model_files.proofs.PuttingOver.{PuttingOver, putting_from, putting_on, putting_all, far_enough}
use Rattle.model_files.proofs.bytes.put_kept_over.Goals as goal

pub loop-i-init : goal.loop-i-init
loop-i-init c = putting_from _ _ _ _ (omega (arith, c.min-from.ensures))

pub loop-i-preserved : goal.loop-i-preserved
loop-i-preserved c =
    let e : c.min-from.result ≡ c.args.stretch.now.start = omega (arith, c.min-from.ensures, c.min-n.ensures) in
    let w : c.min-from.result + c.loop-i.i < length c.loop-i.bytes = let a = c.loop-i.invariant.len in omega (arith, c.min-from.ensures, c.min-n.ensures) in
    rw c.set.ensures (
    subst (λ (v : ℕ). PuttingOver c.args.bytes.now (slice_set c.loop-i.bytes (c.min-from.result + c.loop-i.i) v) c.args.stretch.now.start (kept_of c.args.stretch.now) (c.min-from.result + (c.loop-i.i + 1))) (sym (rw c.as_slice.ensures at c.unwrap_or.ensures))
    (putting_on c.args.bytes.now c.loop-i.bytes (kept_of c.args.stretch.now) c.args.stretch.now.start c.min-from.result c.loop-i.i (slice_index_or c.loop-i.bytes (c.min-from.result + c.loop-i.i) 0) c.kept.result
    c.loop-i.invariant e w c.kept.ensures (slice_get-get_or c.loop-i.bytes (c.min-from.result + c.loop-i.i) 0 w)))

pub returns-clause-over : goal.returns-clause-over
returns-clause-over c =
    let m = length_kept c.args.stretch.now.olds.now c.args.stretch.now.gone.now c.args.stretch.now.mark in
    let e : c.min-from.result ≡ min c.args.stretch.now.start (length c.args.bytes.now) = omega (arith, c.min-from.ensures) in
    let f : c.min-n.result ≡ min (length (kept_of c.args.stretch.now)) (length c.args.bytes.now - c.min-from.result) = omega (arith, c.min-n.ensures, m) in
    let l : c.min-n.result ≤ c.loop-i.i = c.loop-i-test.false in
    putting_all _ _ _ _ _ c.loop-i.invariant (far_enough _ _ _ _ _ _ e f l)
