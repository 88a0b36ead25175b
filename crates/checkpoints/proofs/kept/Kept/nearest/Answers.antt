use Rattle.std.proofs.Common.{ℕ, ◌-◌, ◌/◌, ◌%◌, ◌<◌, arith}
use Rattle.std.proofs.Math.Nat.{mod-add-div', lt-div-mul-add}
use Rattle.checkpoints.specs.Checkpoints.{IsNearest}
use Rattle.checkpoints.proofs.kept.Kept.nearest.Goals as goal

greatest : (c m : ℕ) → 0 < c → IsNearest c m (m - m % c)
greatest c m some =
    let e = mod-add-div' m c in
    let above = lt-div-mul-add {a = m} {b = c} some in
    record {
      times = m / c;
      multiple = omega (arith, e);
      not_above = omega arith;
      next_above = omega (arith, e, above);
    }

pub returns-clause-greatest : goal.returns-clause-greatest
returns-clause-greatest c =
    rw (← c.self.view_is) (greatest c.self.inside.every c.args.moment c.self.invariant.some)
