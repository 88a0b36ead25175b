use Rattle.std.proofs.Common.{◌≡◌, refl, sym, ◌∙◌, ap, subst, inr, false}
use Rattle.places.specs.View.{undo, NamesOnce}
use Rattle.places.specs.All.{all_changes, record_changes, NothingNoted}
use Rattle.places.specs.Summaries.{Summed}
use Rattle.places.specs.Slots.{number_change, completion_change, row_change}
use Rattle.places.proofs.Kept.{kept_leaves, kept_exact}
use Rattle.places.proofs.Sorts.{all_kept}
use Rattle.places.proofs.Sound.{all_once, sound_empty}
use Rattle.places.proofs.Recording.{kept_nothing, nothing_there, packed_changes, wide_changes}
use Rattle.places.proofs.recorder.Recorder.finish.Goals as goal

pub from_parts-requires-in-Ok-clause-once : goal.from_parts-requires-in-Ok-clause-once
from_parts-requires-in-Ok-clause-once g c =
    let e : record_changes c.in-Ok.packed c.new.result c.close-rest.result ≡ all_changes c.close-numbers.result.items c.close-completions.result.items c.close-rows.result.items c.close-rest.result =
    packed_changes c.close-numbers.result.items c.close-completions.result.items c.close-rows.result.items c.close-rest.result c.in-Ok.packed c.new.result (rw (c.deref-4.ensures.value, c.deref-5.ensures.value, c.deref-6.ensures.value) at c.in-Ok.ensures) c.new.ensures.numbers c.new.ensures.completions c.new.ensures.rows in
    subst NamesOnce (sym e)
    (kept_leaves (g.A.At.seen c.args.whole.now) (all_changes c.self.inside.numbers.notes c.self.inside.completions.notes c.self.inside.rows.notes c.self.inside.rest) (all_changes c.close-numbers.result.items c.close-completions.result.items c.close-rows.result.items c.close-rest.result)
    (all_once c.self.inside.numbers c.self.inside.completions c.self.inside.rows c.self.inside.rest c.self.inside.room c.self.invariant.0 c.close-numbers.ensures.once c.close-completions.ensures.once c.close-rows.ensures.once c.close-rest.ensures.bytes_once c.close-rest.ensures.odd_once)
    (all_kept (g.A.At.seen c.args.whole.now) c.self.inside.numbers.notes c.close-numbers.result.items c.self.inside.completions.notes c.close-completions.result.items c.self.inside.rows.notes c.close-rows.result.items c.self.inside.rest c.close-rest.result c.close-numbers.ensures.kept c.close-completions.ensures.kept c.close-rows.ensures.kept c.close-rest.ensures.bytes c.close-rest.ensures.odd)).1

pub from_parts-requires-in-Err-clause-once : goal.from_parts-requires-in-Err-clause-once
from_parts-requires-in-Err-clause-once g c =
    let gone : c.replace-spare.result.is_ready ≡ false → NothingNoted c.self.inside.numbers.notes c.self.inside.completions.notes c.self.inside.rows.notes c.self.inside.room =
    λ f. nothing_there c.self.inside.numbers.notes c.self.inside.completions.notes c.self.inside.rows.notes c.self.inside.room c.self.inside.spare c.self.invariant.1 (sym (ap (λ w. w.is_ready) c.replace-spare.ensures.value) ∙ f) in
    let e : record_changes c.new-in-Err-2.result c.with-wide.result c.close-rest.result ≡ all_changes c.close-numbers.result.items c.close-completions.result.items c.close-rows.result.items c.close-rest.result =
    wide_changes c.close-numbers.result.items c.close-completions.result.items c.close-rows.result.items c.close-rest.result c.new-in-Err-2.result c.with-wide.result c.new-in-Err-2.ensures
    (c.with-wide.ensures.numbers (λ f. kept_nothing number_change (g.A.At.seen c.args.whole.now) _ _ (gone f).numbers c.close-numbers.ensures.kept))
    (c.with-wide.ensures.completions (λ f. kept_nothing completion_change (g.A.At.seen c.args.whole.now) _ _ (gone f).completions c.close-completions.ensures.kept))
    (c.with-wide.ensures.rows (λ f. kept_nothing row_change (g.A.At.seen c.args.whole.now) _ _ (gone f).rows c.close-rows.ensures.kept)) in
    subst NamesOnce (sym e)
    (kept_leaves (g.A.At.seen c.args.whole.now) (all_changes c.self.inside.numbers.notes c.self.inside.completions.notes c.self.inside.rows.notes c.self.inside.rest) (all_changes c.close-numbers.result.items c.close-completions.result.items c.close-rows.result.items c.close-rest.result)
    (all_once c.self.inside.numbers c.self.inside.completions c.self.inside.rows c.self.inside.rest c.self.inside.room c.self.invariant.0 c.close-numbers.ensures.once c.close-completions.ensures.once c.close-rows.ensures.once c.close-rest.ensures.bytes_once c.close-rest.ensures.odd_once)
    (all_kept (g.A.At.seen c.args.whole.now) c.self.inside.numbers.notes c.close-numbers.result.items c.self.inside.completions.notes c.close-completions.result.items c.self.inside.rows.notes c.close-rows.result.items c.self.inside.rest c.close-rest.result c.close-numbers.ensures.kept c.close-completions.ensures.kept c.close-rows.ensures.kept c.close-rest.ensures.bytes c.close-rest.ensures.odd)).1

pub from_parts-requires-in-Ok-clause-summed : goal.from_parts-requires-in-Ok-clause-summed
from_parts-requires-in-Ok-clause-summed g c =
    let e : record_changes c.in-Ok.packed c.new.result c.close-rest.result ≡ all_changes c.close-numbers.result.items c.close-completions.result.items c.close-rows.result.items c.close-rest.result =
    packed_changes c.close-numbers.result.items c.close-completions.result.items c.close-rows.result.items c.close-rest.result c.in-Ok.packed c.new.result (rw (c.deref-4.ensures.value, c.deref-5.ensures.value, c.deref-6.ensures.value) at c.in-Ok.ensures) c.new.ensures.numbers c.new.ensures.completions c.new.ensures.rows in
    subst (Summed c.summary_of-summary.result) (sym e) (rw (c.deref.ensures.value, c.deref-2.ensures.value, c.deref-3.ensures.value) at c.summary_of-summary.ensures)

pub from_parts-requires-in-Err-clause-summed : goal.from_parts-requires-in-Err-clause-summed
from_parts-requires-in-Err-clause-summed g c =
    let gone : c.replace-spare.result.is_ready ≡ false → NothingNoted c.self.inside.numbers.notes c.self.inside.completions.notes c.self.inside.rows.notes c.self.inside.room =
    λ f. nothing_there c.self.inside.numbers.notes c.self.inside.completions.notes c.self.inside.rows.notes c.self.inside.room c.self.inside.spare c.self.invariant.1 (sym (ap (λ w. w.is_ready) c.replace-spare.ensures.value) ∙ f) in
    let e : record_changes c.new-in-Err-2.result c.with-wide.result c.close-rest.result ≡ all_changes c.close-numbers.result.items c.close-completions.result.items c.close-rows.result.items c.close-rest.result =
    wide_changes c.close-numbers.result.items c.close-completions.result.items c.close-rows.result.items c.close-rest.result c.new-in-Err-2.result c.with-wide.result c.new-in-Err-2.ensures
    (c.with-wide.ensures.numbers (λ f. kept_nothing number_change (g.A.At.seen c.args.whole.now) _ _ (gone f).numbers c.close-numbers.ensures.kept))
    (c.with-wide.ensures.completions (λ f. kept_nothing completion_change (g.A.At.seen c.args.whole.now) _ _ (gone f).completions c.close-completions.ensures.kept))
    (c.with-wide.ensures.rows (λ f. kept_nothing row_change (g.A.At.seen c.args.whole.now) _ _ (gone f).rows c.close-rows.ensures.kept)) in
    subst (Summed c.summary_of-summary.result) (sym e) (rw (c.deref.ensures.value, c.deref-2.ensures.value, c.deref-3.ensures.value) at c.summary_of-summary.ensures)

pub returns-in-Ok-clause-exact : goal.returns-in-Ok-clause-exact
returns-in-Ok-clause-exact g c =
    let e : record_changes c.in-Ok.packed c.new.result c.close-rest.result ≡ all_changes c.close-numbers.result.items c.close-completions.result.items c.close-rows.result.items c.close-rest.result =
    packed_changes c.close-numbers.result.items c.close-completions.result.items c.close-rows.result.items c.close-rest.result c.in-Ok.packed c.new.result (rw (c.deref-4.ensures.value, c.deref-5.ensures.value, c.deref-6.ensures.value) at c.in-Ok.ensures) c.new.ensures.numbers c.new.ensures.completions c.new.ensures.rows in
    rw (c.from_parts-in-Ok.ensures, e, ← c.self.view_is)
    (kept_exact (undo (g.A.At.seen c.args.whole.now) (all_changes c.self.inside.numbers.notes c.self.inside.completions.notes c.self.inside.rows.notes c.self.inside.rest)) (g.A.At.seen c.args.whole.now) (all_changes c.self.inside.numbers.notes c.self.inside.completions.notes c.self.inside.rows.notes c.self.inside.rest) (all_changes c.close-numbers.result.items c.close-completions.result.items c.close-rows.result.items c.close-rest.result)
    (all_once c.self.inside.numbers c.self.inside.completions c.self.inside.rows c.self.inside.rest c.self.inside.room c.self.invariant.0 c.close-numbers.ensures.once c.close-completions.ensures.once c.close-rows.ensures.once c.close-rest.ensures.bytes_once c.close-rest.ensures.odd_once)
    (all_kept (g.A.At.seen c.args.whole.now) c.self.inside.numbers.notes c.close-numbers.result.items c.self.inside.completions.notes c.close-completions.result.items c.self.inside.rows.notes c.close-rows.result.items c.self.inside.rest c.close-rest.result c.close-numbers.ensures.kept c.close-completions.ensures.kept c.close-rows.ensures.kept c.close-rest.ensures.bytes c.close-rest.ensures.odd) (λ p. refl))

pub returns-in-Err-clause-exact : goal.returns-in-Err-clause-exact
returns-in-Err-clause-exact g c =
    let gone : c.replace-spare.result.is_ready ≡ false → NothingNoted c.self.inside.numbers.notes c.self.inside.completions.notes c.self.inside.rows.notes c.self.inside.room =
    λ f. nothing_there c.self.inside.numbers.notes c.self.inside.completions.notes c.self.inside.rows.notes c.self.inside.room c.self.inside.spare c.self.invariant.1 (sym (ap (λ w. w.is_ready) c.replace-spare.ensures.value) ∙ f) in
    let e : record_changes c.new-in-Err-2.result c.with-wide.result c.close-rest.result ≡ all_changes c.close-numbers.result.items c.close-completions.result.items c.close-rows.result.items c.close-rest.result =
    wide_changes c.close-numbers.result.items c.close-completions.result.items c.close-rows.result.items c.close-rest.result c.new-in-Err-2.result c.with-wide.result c.new-in-Err-2.ensures
    (c.with-wide.ensures.numbers (λ f. kept_nothing number_change (g.A.At.seen c.args.whole.now) _ _ (gone f).numbers c.close-numbers.ensures.kept))
    (c.with-wide.ensures.completions (λ f. kept_nothing completion_change (g.A.At.seen c.args.whole.now) _ _ (gone f).completions c.close-completions.ensures.kept))
    (c.with-wide.ensures.rows (λ f. kept_nothing row_change (g.A.At.seen c.args.whole.now) _ _ (gone f).rows c.close-rows.ensures.kept)) in
    rw (c.from_parts-in-Err.ensures, e, ← c.self.view_is)
    (kept_exact (undo (g.A.At.seen c.args.whole.now) (all_changes c.self.inside.numbers.notes c.self.inside.completions.notes c.self.inside.rows.notes c.self.inside.rest)) (g.A.At.seen c.args.whole.now) (all_changes c.self.inside.numbers.notes c.self.inside.completions.notes c.self.inside.rows.notes c.self.inside.rest) (all_changes c.close-numbers.result.items c.close-completions.result.items c.close-rows.result.items c.close-rest.result)
    (all_once c.self.inside.numbers c.self.inside.completions c.self.inside.rows c.self.inside.rest c.self.inside.room c.self.invariant.0 c.close-numbers.ensures.once c.close-completions.ensures.once c.close-rows.ensures.once c.close-rest.ensures.bytes_once c.close-rest.ensures.odd_once)
    (all_kept (g.A.At.seen c.args.whole.now) c.self.inside.numbers.notes c.close-numbers.result.items c.self.inside.completions.notes c.close-completions.result.items c.self.inside.rows.notes c.close-rows.result.items c.self.inside.rest c.close-rest.result c.close-numbers.ensures.kept c.close-completions.ensures.kept c.close-rows.ensures.kept c.close-rest.ensures.bytes c.close-rest.ensures.odd) (λ p. refl))

pub invariant_of-self : goal.invariant_of-self
invariant_of-self g c = (
  sound_empty c.reuse.new.self c.reuse-in-Ok.new.self c.reuse-in-Ok-2.new.self c.close-rest.new.self c.new-self-inside.result c.close-rest.ensures.no_olds c.close-rest.ensures.no_odd c.new-self-inside.ensures,
  inr (record { numbers = c.reuse.ensures; completions = c.reuse-in-Ok.ensures; rows = c.reuse-in-Ok-2.ensures; held = ap (λ r. r.held) c.new-self-inside.ensures }),
)

pub invariant_of-self-in-Err : goal.invariant_of-self-in-Err
invariant_of-self-in-Err g c = (
  sound_empty c.close-numbers.new.self c.close-completions.new.self c.close-rows.new.self c.close-rest.new.self c.new-self-inside.result c.close-rest.ensures.no_olds c.close-rest.ensures.no_odd c.new-self-inside.ensures,
  inr (record { numbers = c.close-numbers.ensures.none; completions = c.close-completions.ensures.none; rows = c.close-rows.ensures.none; held = ap (λ r. r.held) c.new-self-inside.ensures }),
)
