use Rattle.links_drains.proofs.Common.{◌≡◌, ◌∙◌, ap, get_or, set, length, ◌+◌, arith, get_or_read, length-set}
use Rattle.links_drains.proofs.finder.Finder.link.Goals as goal

pub index-requires : goal.index-requires
index-requires c = let a = c.requires.room.last in (omega arith, omega (arith, a, c.hash_of-hash.ensures))

pub set-requires : goal.set-requires
set-requires c = let a = c.requires.room.previous in omega (arith, a)

pub set-requires-2 : goal.set-requires-2
set-requires-2 c = let a = c.requires.room.last in omega (arith, a, c.hash_of-hash.ensures)

pub returns-clause-previous : goal.returns-clause-previous
returns-clause-previous c =
    let a = c.requires.room.last in
    let read : c.index.result.now ≡ get_or c.args.self.now.last c.hash_of-hash.result 0 = get_or_read c.args.self.now.last c.hash_of-hash.result c.index.result.now (omega (arith, a, c.hash_of-hash.ensures)) c.index.ensures 0 in
    c.set.ensures ∙ ap (set c.args.self.now.previous c.args.r) (read ∙ ap (λ i. get_or c.args.self.now.last i 0) c.hash_of-hash.ensures)

pub returns-clause-room : goal.returns-clause-room
returns-clause-room c =
    let p = c.requires.room in
    record {
      last = let a = p.last in let b = ap length c.set-2.ensures ∙ length-set c.args.self.now.last c.hash_of-hash.result (c.args.r + 1) in omega (arith, a, b);
      previous = let a = p.previous in let b = ap length c.set.ensures ∙ length-set c.args.self.now.previous c.args.r c.index.result.now in omega (arith, a, b);
      holding = p.holding;
    }
