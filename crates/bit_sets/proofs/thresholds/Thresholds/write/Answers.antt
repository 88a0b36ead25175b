use Rattle.std.proofs.Common.{◌+◌, ◌*◌, ◌/◌, ◌<◌, ◌∙◌, sym, ap, subst, min, length, arith}
use Rattle.std.proofs.lemmas.List.{length-set}
use Rattle.bit_sets.proofs.Reaching.{bounded_written, block_bound, whole_bound}
use Rattle.bit_sets.proofs.thresholds.Thresholds.write.Goals as goal

pub invariant_of-self : goal.invariant_of-self
invariant_of-self c =
    let kept = c.self.inside.each.ok.0 in
    let within : c.args.k < length c.self.inside.each.items = omega (arith, kept, c.len.ensures, c.if-k-len.false) in
    let count = c.len-2.ensures ∙ c.self.inside.each.ok.0 ∙ sym (length-set c.self.inside.each.items c.args.k c.args.threshold) in
    let end = c.min-end.ensures ∙ ap (λ n. min n (c.args.k / 256 * 256 + 256)) count in
    let block = rw c.deref.ensures.value at c.bound_after-minimum.ensures in
    let all = rw c.deref-2.ensures.value at c.bound_after-self-inside.ensures in
    let many = c.len-3.ensures ∙ c.self.inside.minima.ok.0 ∙ sym (length-set c.self.inside.minima.items (c.args.k / 256) c.bound_after-minimum.result) in
    bounded_written c.self.inside.each.items c.self.inside.minima.items c.self.inside.least _ c.args.k c.args.threshold _ c.self.invariant within
    (λ i same. block_bound _ c.args.k i c.min-end.result _ same end c.bound_after-minimum.type_inv block)
    (λ w. whole_bound _ w _ c.bound_after-self-inside.type_inv (λ i low high. all i low (subst (λ n. i < n) (sym many) high)))
