use Rattle.places.specs.All.{all_changes}
use Rattle.places.proofs.Sound.{is_named_all}
use Rattle.places.proofs.Undoing.{named_either}
use Rattle.places.proofs.record.Record.names.Goals as goal

pub returns : goal.returns
returns c =
    let e = is_named_all c.self.inside.more.wide.numbers c.self.inside.more.wide.completions c.self.inside.more.wide.rows c.self.inside.more.rest c.args.place in
    let f = named_either c.self.inside.packed (all_changes c.self.inside.more.wide.numbers c.self.inside.more.wide.completions c.self.inside.more.wide.rows c.self.inside.more.rest) c.args.place in
    rw (← c.self.view_is) (cc)
