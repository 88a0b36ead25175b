use Rattle.std.proofs.Common.{◌≡◌, ◌∙◌, ap, ℕ, ℤ, List, [], ◌∷◌, ◌++◌, length, pos, nat_lt, append_assoc, w32, to_z, arith}
use Rattle.machine.proofs.Common.{to_z_pos, Ending, canceled}
use Rattle.machine.proofs.cancelling.ending_with.Goals as goal

pub returns : goal.returns
returns c =
    let rs : List ℕ = c.args.rows.now in
    let few = c.requires in
    let number : to_z w32 (length rs) ≡ pos (length rs) = to_z_pos w32 (length rs) (omega (arith, few)) in
    let me : Ending = (c.args.me, pos (length rs)) in
    c.in_ok-append.ensures.items
    ∙ ap (λ (es : List Ending). es ++ c.in_ok-later.later.items) c.in_ok-push.ensures.items
    ∙ ap (λ (z : ℤ). (c.in_ok-direct.direct.items ++ (c.args.me, z) ∷ []) ++ c.in_ok-later.later.items) number
    ∙ ap (λ (es : List Ending). (es ++ me ∷ []) ++ c.in_ok-later.later.items) c.in_ok-direct.ensures
    ∙ ap (λ (es : List Ending). (canceled (λ r. nat_lt r c.args.me) rs ++ me ∷ []) ++ es) c.in_ok-later.ensures
    ∙ append_assoc (canceled (λ r. nat_lt r c.args.me) rs) (me ∷ []) (canceled (λ r. nat_lt c.args.me r) rs)
