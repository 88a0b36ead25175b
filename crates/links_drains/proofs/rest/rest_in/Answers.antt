use Rattle.links_drains.proofs.Common.{◌∙◌, ◌++◌, ◌∷◌, [], refl, sym, ap, length, arith, true, false, append-nil, slice_get_read}
use Rattle.links_drains.proofs.{RestOfUnit.rest_start, RestOfUnit.rest_on, RestOfUnit.rest_past, RestOfUnit.rest_left, RestOfUnit.rest_none, rest.rest_in.Goals.then-is_unfinished+in_ok-push, rest.rest_in.Goals.else-is_unfinished}
use Rattle.links_drains.proofs.rest.rest_in.Goals as goal

pub returns-then-r-len : goal.returns-then-r-len
returns-then-r-len c = c.new-rest.ensures.items ∙ rest_none c.args.rows.now c.args.r (omega arith)

pub loop-k-init : goal.loop-k-init
loop-k-init c = c.new-rest.ensures.items ∙ rest_start c.args.rows.now c.args.r

pub returns-then-other-unit : goal.returns-then-other-unit
returns-then-other-unit c =
    c.loop-k.invariant ∙ rest_left c.args.rows.now c.args.r c.loop-k.k _ _ c.requires.chained (slice_get_read c.args.rows.now (length c.args.rows.now) c.args.r c.index.result.now refl (omega arith) c.index.ensures)
    (slice_get_read c.args.rows.now (length c.args.rows.now) c.loop-k.k c.index-other.result.now refl (omega arith) c.index-other.ensures) c.loop-k.auto.k c.if-other-unit.true

pub loop-k-preserved : goal.loop-k-preserved
loop-k-preserved c = elim c.if-is_unfinished.branch [
  | then-is_unfinished+in_ok-push w ↦ ap (λ v. v.items) w.rest-is ∙ w.in_ok-push.ensures.items ∙ ap (λ ks. ks ++ c.loop-k.k ∷ []) c.loop-k.invariant
      ∙ sym (rest_on c.args.rows.now c.args.r c.loop-k.k _ _ true (slice_get_read c.args.rows.now (length c.args.rows.now) c.args.r c.index.result.now refl (omega arith) c.index.ensures) (slice_get_read c.args.rows.now (length c.args.rows.now) c.loop-k.k c.index-other.result.now refl (omega arith) c.index-other.ensures) c.loop-k.auto.k c.if-other-unit.false (sym c.is_unfinished.ensures ∙ w.if-is_unfinished.true))
  | else-is_unfinished w ↦ ap (λ v. v.items) w.rest-is ∙ c.loop-k.invariant ∙ sym (append-nil _)
      ∙ sym (rest_on c.args.rows.now c.args.r c.loop-k.k _ _ false (slice_get_read c.args.rows.now (length c.args.rows.now) c.args.r c.index.result.now refl (omega arith) c.index.ensures) (slice_get_read c.args.rows.now (length c.args.rows.now) c.loop-k.k c.index-other.result.now refl (omega arith) c.index-other.ensures) c.loop-k.auto.k c.if-other-unit.false (sym c.is_unfinished.ensures ∙ w.if-is_unfinished.false))
]

pub returns : goal.returns
returns c = c.loop-k.invariant ∙ rest_past c.args.rows.now c.args.r c.loop-k.k (omega arith)
