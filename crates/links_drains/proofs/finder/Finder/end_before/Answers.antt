use Rattle.links_drains.proofs.Common.{◌≡◌, ◌∙◌, refl, sym, get_or, length, arith, get_or_read, slice_get_read}
use Rattle.links_drains.proofs.Finding.{no_user_before}
use Rattle.links_drains.proofs.finder.Finder.end_before.Goals as goal

pub returns-then-other-hash-clause-none : goal.returns-then-other-hash-clause-none
returns-then-other-hash-clause-none c = λ r row low less there. absurd (omega (arith, low, less))

pub returns-then-r-len-clause-none : goal.returns-then-r-len-clause-none
returns-then-r-len-clause-none c = λ r row low less there. absurd (omega (arith, low, less))

pub returns-clause-none : goal.returns-clause-none
returns-clause-none c =
    let read : c.index-2.result.now ≡ get_or c.args.self.now.previous c.args.r 0 = get_or_read c.args.self.now.previous c.args.r c.index-2.result.now (omega arith) c.index-2.ensures 0 in
    no_user_before c.args.rows.now c.args.self.now c.args.user_data c.args.r _ _ c.requires.findable (slice_get_read c.args.rows.now (length c.args.rows.now) c.args.r c.index.result.now refl c.requires.within c.index.ensures) (sym c.hash_of-other.ensures ∙ c.if-other-hash.false ∙ c.hash_of-hash.ensures) (λ q low less. omega (arith, read, low, less))
