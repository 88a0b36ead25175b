use Rattle.findings.proofs.Common.{sym, subst, kept_of, OfNoRow}
use Rattle.findings.proofs.Passing.{bytes_no_row}
use Rattle.findings.proofs.changes.pass_over.Goals as goal

pub loop-run-preserved : goal.loop-run-preserved
loop-run-preserved c = λ h.
    c.loop-run.invariant (subst OfNoRow (sym c.in-Some.ensures.yields) (bytes_no_row c.in-Some._run.region c.in-Some._run.start (kept_of c.in-Some._run) _ h))

pub returns : goal.returns
returns c = c.loop-run.invariant (subst OfNoRow (sym c.in_default.ensures.yields) tt)
