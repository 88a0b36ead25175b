use Rattle.places.proofs.Sound.{is_named_all}
use Rattle.places.proofs.recorder.Recorder.is_noted.Goals as goal

pub returns : goal.returns
returns c =
    let e = is_named_all c.self.inside.numbers.notes c.self.inside.completions.notes c.self.inside.rows.notes c.self.inside.rest c.args.place in
    let f = c.covers.ensures c.self.invariant.0.kept in
    rw (← c.self.view_is) (cc)
