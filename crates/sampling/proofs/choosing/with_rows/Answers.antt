use Rattle.std.proofs.Common.{◌≡◌, ℕ, ◌+◌, subst, arith}
use Rattle.sampling.specs.Choosing.{SaysBest}
use Rattle.prompt_order.proofs.Dues.{row_there}
use Rattle.sampling.proofs.Offering.{rows_before, rows_after}
use Rattle.sampling.proofs.choosing.with_rows.Goals as goal

pub rows-preserved : goal.rows-preserved
rows-preserved c =
    let few = c.in-Some.ensures.few in
    let same : 17 + c.in-Some.r + 1 ≡ 17 + (c.in-Some.r + 1) = omega arith in
    record {
      few = omega (arith, few);
      best = λ h. subst (λ (n : ℕ). SaysBest c.args.source.now c.args.state.now n c.with_row-best.result) same
          (c.with_row-best.ensures (rows_before c.args.source.now c.args.state.now c.rows.from c.in-Some.r c.rows.best few c.in-Some.ensures.some (c.rows.invariant.best h)));
    }

pub rows-smaller : goal.rows-smaller
rows-smaller c =
    let within = row_there c.args.state.now c.rows.from c.in-Some.r c.in-Some.ensures.some in
    let after = c.in-Some.ensures.some.after in
    omega (arith, within, after)

pub returns : goal.returns
returns c h = rows_after c.args.source.now c.args.state.now c.rows.from c.rows.best c.rows.invariant.few c.in_default.ensures.none (c.rows.invariant.best h)
