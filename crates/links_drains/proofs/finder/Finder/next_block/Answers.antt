use Rattle.links_drains.proofs.Common.{ℕ, ◌∙◌, ◌/◌, ap, sym, subst, arith, IsNext, NoneFrom}
use Rattle.links_drains.proofs.Finding.{mark_is, marked_later, no_marks, unmarked}
use Rattle.links_drains.proofs.finder.Finder.next_block.Goals as goal

pub returns-in_err-next-clause-none : goal.returns-in_err-next-clause-none
returns-in_err-next-clause-none c =
    let m = mark_is c.args.fd c.args.at c.in-Some.mark c.in-Some.ensures in
    let P : ℕ → Type 0 = λ k. NoneFrom c.args.self.now.holding k in
    rw c.from_residual.ensures (no_marks c.args.rows.now c.args.self.now c.args.fd c.args.at c.requires.findable m.0 (subst P m.1 c.in_err-next.ensures.none))

pub returns-then-next-mark-clause-none : goal.returns-then-next-mark-clause-none
returns-then-next-mark-clause-none c =
    let m = mark_is c.args.fd c.args.at c.in-Some.mark c.in-Some.ensures in
    let P : ℕ → Type 0 = λ k. IsNext c.args.self.now.holding k c.in_ok-next.next in
    unmarked c.args.rows.now c.args.self.now c.args.fd c.args.at c.in_ok-next.next c.requires.findable c.requires.few (omega arith) m.0 (subst P m.1 c.in_ok-next.ensures.some) (λ e. c.if-next-mark.true (e ∙ ap (λ k. k / 1024) (sym m.1)))

pub returns-clause-some : goal.returns-clause-some
returns-clause-some c =
    let m = mark_is c.args.fd c.args.at c.in-Some.mark c.in-Some.ensures in
    let P : ℕ → Type 0 = λ k. IsNext c.args.self.now.holding k c.in_ok-next.next in (
      omega arith,
      marked_later c.args.rows.now c.args.self.now c.args.fd c.args.at c.in_ok-next.next c.requires.findable c.requires.few (omega arith) m.0 (subst P m.1 c.in_ok-next.ensures.some) (c.if-next-mark.false ∙ ap (λ k. k / 1024) m.1) c.max.result c.max.ensures,
    )
