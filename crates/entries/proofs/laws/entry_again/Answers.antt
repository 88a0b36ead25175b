use Rattle.std.proofs.Common.{rules}
use Rattle.entries.specs.Layout.{EntryFits}
use Rattle.entries.proofs.OneToOne.{same_entry}
use Rattle.entries.proofs.laws.entry_again.Goals as goal

pub returns : goal.returns
returns c =
    let f : EntryFits c.read.result = search rules in
    let g : EntryFits c.args.entry = search rules in
    same_entry c.read.result c.args.entry c.write.result f g c.read.ensures c.write.ensures
