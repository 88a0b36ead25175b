use Rattle.std.proofs.Common.{◌∙◌}
use Rattle.places.specs.All.{record_changes}
use Rattle.places.proofs.Summing.{summed_bits}
use Rattle.places.proofs.record.Record.may_name.Goals as goal

pub returns : goal.returns
returns c =
    rw (← c.self.view_is)
    (λ named. c.has_place.ensures ∙ summed_bits c.self.inside.summary (record_changes c.self.inside.packed c.self.inside.more.wide c.self.inside.more.rest) c.args.place c.self.invariant.1 named)
