use Rattle.std.proofs.Common.{◌≡◌, ◌+◌, ◌-◌, sym, ◌∙◌, ap, subst, [], ◌∷◌, length, length-append, arith}
use Rattle.std.specs.Prelude.{slice_set}
use Rattle.compact_size.specs.Frames.{Frames}
use Rattle.compact_size.proofs.FrameLemmas.{puts_longer, frame_put}
use Rattle.compact_size.proofs.put_frame.Goals as goal

pub set_size-requires-clause-within : goal.set_size-requires-clause-within
set_size-requires-clause-within c = let h = puts_longer _ _ _ c.in_ok-put_numbers.ensures in omega arith

pub returns : goal.returns
returns c =
    let old = c.args.out.now.items in
    let mid = c.put_numbers.new.out.items in
    let start = c.len-start.result in
    let e : start ≡ length old + 1 = omega (arith, ap length c.in_ok-push.ensures.items, length-append old (0 ∷ [])) in
    let i : start - 1 ≡ length old = omega arith in
    let size : length mid - start ≡ length mid - (length old + 1) = omega arith in
    let g = rw (c.in_ok-push.ensures.items) at c.in_ok-put_numbers.ensures in
    subst (Frames old c.args.numbers.now) (sym (c.in_ok-set_size.ensures.items ∙ ap (λ j. slice_set mid j (length mid - start)) i))
    (frame_put old mid c.args.numbers.now c.used_len-used.result (length mid - start) c.used_len-used.ensures.zeros g size c.in_ok-set_size.ensures.size)
