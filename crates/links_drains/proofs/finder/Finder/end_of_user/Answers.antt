use Rattle.links_drains.proofs.Common.{◌≡◌, ap, get_or, arith, get_or_read}
use Rattle.links_drains.proofs.Finding.{no_user}
use Rattle.links_drains.proofs.finder.Finder.end_of_user.Goals as goal

pub returns-then-hash-len-clause-none : goal.returns-then-hash-len-clause-none
returns-then-hash-len-clause-none c = λ r row low less there. absurd (omega (arith, low, less))

pub returns-clause-none : goal.returns-clause-none
returns-clause-none c =
    let read : c.index.result.now ≡ get_or c.args.self.now.last c.hash_of-hash.result 0 = get_or_read c.args.self.now.last c.hash_of-hash.result c.index.result.now (omega arith) c.index.ensures 0 in
    let same = ap (λ i. get_or c.args.self.now.last i 0) c.hash_of-hash.ensures in
    no_user c.args.rows.now c.args.self.now c.args.user_data _ _ c.requires (λ r low less. omega (arith, read, same, low, less))
