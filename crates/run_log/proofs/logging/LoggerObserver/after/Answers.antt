use Rattle.run_log.proofs.Common.{◌≡◌, ◌∙◌, true, false, ap, sym, rules, has}
use Rattle.run_log.proofs.Following.{seen_ok, stopped_err, written_silent}
use Rattle.run_log.proofs.logging.LoggerObserver.after.Goals as goal

pub returns-then-not-has-clause-ok : goal.returns-then-not-has-clause-ok
returns-then-not-has-clause-ok g c =
    let off : has c.args.self.now.range c.args.at.index ≡ false = search rules in
    let in_range = ap (λ r. has r c.args.at.index) (sym c.requires.seen.1) ∙ off in
    (written_silent _ _ _ _ _ _ _ _ _ c.requires.at in_range c.requires.seen.0, c.requires.seen.1, c.requires.seen.2)

pub returns-clause-ok : goal.returns-clause-ok
returns-clause-ok g c =
    let on : has c.args.self.now.range c.args.at.index ≡ true = search rules in
    let in_range = ap (λ r. has r c.args.at.index) (sym c.requires.seen.1) ∙ on in
    seen_ok c.write_report.result _ _ _ _ _ _ _ _ _ _ c.requires.at in_range c.requires.seen.0 c.requires.seen.1 c.requires.seen.2 c.write_report.ensures.ok

pub returns-clause-err : goal.returns-clause-err
returns-clause-err g c =
    let on : has c.args.self.now.range c.args.at.index ≡ true = search rules in
    let in_range = ap (λ r. has r c.args.at.index) (sym c.requires.seen.1) ∙ on in
    stopped_err c.write_report.result _ _ _ _ _ _ _ _ _ _ c.requires.at in_range c.requires.seen.0 c.requires.seen.2 c.write_report.ensures.err
