use Rattle.links_drains.proofs.Common.{◌≡◌, ◌∙◌, ap, get_or, set, arith, get_or_read}
use Rattle.links_drains.proofs.finder.Finder.unlink.Goals as goal

pub index-requires : goal.index-requires
index-requires c = let a = c.requires.previous in (omega arith, omega (arith, a))

pub set-requires : goal.set-requires
set-requires c = let a = c.requires.last in omega (arith, a, c.hash_of-hash.ensures)

pub returns-clause-last : goal.returns-clause-last
returns-clause-last c =
    let a = c.requires.previous in
    let read : c.index.result.now ≡ get_or c.args.self.now.previous c.args.r 0 = get_or_read c.args.self.now.previous c.args.r c.index.result.now (omega (arith, a)) c.index.ensures 0 in
    c.set.ensures ∙ ap (set c.args.self.now.last c.hash_of-hash.result) read ∙ ap (λ i. set c.args.self.now.last i (get_or c.args.self.now.previous c.args.r 0)) c.hash_of-hash.ensures
