use Rattle.std.proofs.Common.{◌∙◌, sym}
use Rattle.places.proofs.Left.{left_everywhere}
use Rattle.places.proofs.record.left_unpacked.Goals as goal

pub returns : goal.returns
returns c =
    c.left_by.ensures ∙ rw (c.odd.ensures, c.left_of.ensures, c.rows.ensures) (sym (left_everywhere c.args.list c.args.more.now.wide.numbers c.args.more.now.wide.completions c.args.more.now.wide.rows c.args.more.now.rest c.args.n))
