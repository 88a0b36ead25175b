use Rattle.ring_words.proofs.Common.{◌≡◌, ◌∙◌, ap, length, subst, sym, ℕ, arith, IsSize, length-replicate}
use Rattle.ring_words.proofs.Sizes.{grown, next_size}
use Rattle.ring_words.proofs.com_ring.ComRing.new.Goals as goal

pub invariant_of-result : goal.invariant_of-result
invariant_of-result c =
    let size = next_size c.args.entries c.size_for.result 13 (omega arith) (omega arith) (omega arith) c.size_for.ensures.power in
    let same : length c.grow.new.self ≡ c.size_for.result = ap length (grown c.new-slots.result c.grow.new.self c.size_for.result _ c.new-slots.ensures c.in-Ok.ensures) ∙ length-replicate c.size_for.result _ in
    record {
      size = subst (λ (n : ℕ). IsSize 8192 n) (sym same) size;
      head = omega arith;
      tail = omega arith;
    }
