use Rattle.std.proofs.Common.{◌∙◌, length}
use Rattle.places.specs.Masked.{marks_from}
use Rattle.places.proofs.KeptAt.{named_marked}
use Rattle.places.proofs.MarkLemmas.{length_marks}
use Rattle.places.proofs.notes.byte_changes.Stretch.names.Goals as goal

pub returns : goal.returns
returns c = c.has_mark.ensures ∙ named_marked c.args.self.now.region c.args.self.now.start c.args.self.now.olds.now (marks_from c.args.self.now.gone.now c.args.self.now.mark (length c.args.self.now.olds.now)) c.args.place (length_marks c.args.self.now.gone.now c.args.self.now.mark (length c.args.self.now.olds.now))
