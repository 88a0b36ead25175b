use Rattle.std.proofs.Common.{◌≡◌, ◌∙◌, ap, sym, subst, List, ℕ, ℤ, ◌∷◌, [], length, pos, slice_index_or, w32, FitsSigned, rules, arith, OnOk, Some}
use Rattle.machine.proofs.Common.{slice_get, to_z-of_z, slice_get-get_or, slice_get_within, Cqe, completion_of, completions_of, posted}
use Rattle.machine.proofs.FormedMachines.{completions_more, completions_most, only_ending, room_for_endings}
use Rattle.machine.proofs.whole.Machine.post_each.Goals as goal

pub row_ref-requires : goal.row_ref-requires
row_ref-requires c =
    let es = c.args.endings.now in
    let p : ℕ × ℤ = slice_index_or es 0 (0, pos 0) in
    let l = c.if-endings-eq1.true in
    let e = c.requires.direct.each 0 p (slice_get-get_or es 0 (0, pos 0) (omega (arith, l))) in
    slice_get_within c.args.self.now.table p.0 e.0 e.1

pub post-requires-clause-room : goal.post-requires-clause-room
post-requires-clause-room c =
    let k = room_for_endings c.args.self.now c.args.endings.now c.requires.mostly c.requires.direct in
    let l = c.if-endings-eq1.true in
    omega (arith, k, l)

pub returns-then-endings-eq1-clause-ok : goal.returns-then-endings-eq1-clause-ok
returns-then-endings-eq1-clause-ok c =
    let m = c.args.self.now in
    let es = c.args.endings.now in
    let p : ℕ × ℤ = slice_index_or es 0 (0, pos 0) in
    let fits : FitsSigned w32 p.1 = search rules in
    let l = c.if-endings-eq1.true in
    let there : slice_get es 0 ≡ Some p = slice_get-get_or es 0 (0, pos 0) (omega (arith, l)) in
    let one : c.completion_of-completion.result ∷ [] ≡ completions_of m.table es =
    completions_more m.table [] p c.row_ref.result.now c.completion_of-completion.result c.row_ref.ensures (c.completion_of-completion.ensures ∙ ap (λ z. completion_of z c.row_ref.result.now) (to_z-of_z w32 p.1 fits))
    ∙ sym (ap (completions_of m.table) (only_ending es p l there)) in
    subst (λ (cs : List Cqe). OnOk c.post.result (c.post.new.self ≡ posted m cs)) one c.post.ensures.ok

pub post-requires-2-clause-room : goal.post-requires-2-clause-room
post-requires-2-clause-room c =
    let k = room_for_endings c.args.self.now c.args.endings.now c.requires.mostly c.requires.direct in
    let a = completions_most c.args.self.now.table c.args.endings.now in
    let l = ap length (c.deref.ensures.value ∙ c.in_ok-completions.ensures) in
    omega (arith, k, a, l)
