use Rattle.machine.proofs.Common.{◌≡◌, ap, arith, Machine}
use Rattle.machine.proofs.FormedMachines.{counts_of_endings}
use Rattle.machine.proofs.whole.Machine.end_all.Goals as goal

pub count-requires : goal.count-requires
count-requires c =
    let k = counts_of_endings c.args.self.now c.args.endings.now c.requires.mostly c.requires.direct in
    let same : c.post_each.new.self.counted ≡ c.args.self.now.counted = ap (λ (m : Machine). m.counted) c.in_ok-post_each.ensures.ok in
    let n = c.requires.counted in
    omega (arith, k, same, n)
