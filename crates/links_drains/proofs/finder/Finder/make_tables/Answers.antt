use Rattle.std.proofs.Common.{◌∙◌, sym}
use Rattle.links_drains.proofs.Finding.{no_rows, some_rows}
use Rattle.links_drains.proofs.finder.Finder.make_tables.Goals as goal

pub returns-then-not-is_empty-clause-ok : goal.returns-then-not-is_empty-clause-ok
returns-then-not-is_empty-clause-ok c = c.requires.room (some_rows c.args.rows.now (sym c.is_empty.ensures ∙ c.if-not-is_empty.true))

pub returns-in_err-make_hashes-clause-findable :
    goal.returns-in_err-make_hashes-clause-findable
returns-in_err-make_hashes-clause-findable c = no_rows c.args.rows.now _ (sym c.is_empty.ensures ∙ c.if-not-is_empty.false)

pub returns-in_err-make_marks-clause-findable :
    goal.returns-in_err-make_marks-clause-findable
returns-in_err-make_marks-clause-findable c = no_rows c.args.rows.now _ (sym c.is_empty.ensures ∙ c.if-not-is_empty.false)

pub returns-clause-findable : goal.returns-clause-findable
returns-clause-findable c = no_rows c.args.rows.now _ (sym c.is_empty.ensures ∙ c.if-not-is_empty.false)
