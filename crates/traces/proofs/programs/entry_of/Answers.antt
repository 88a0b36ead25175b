use Rattle.std.proofs.Common.{rules, ap, ◌∙◌}
use Rattle.entries.specs.Layout.{EntryFits, entry_of_bytes}
use Rattle.entries.proofs.OneToOne.{entry_here}
use Rattle.traces.proofs.programs.entry_of.Goals as goal

pub returns : goal.returns
returns c =
    let f : EntryFits c.read.result = search rules in
    entry_here c.read.result c.copy_from_slice.new.self f c.read.ensures ∙ ap entry_of_bytes c.copy_from_slice.ensures.after
