use Rattle.std.proofs.Common.{◌≡◌, [], rules}
use Rattle.std.proofs.lemmas.List.{nil_from_length}
use Rattle.places.proofs.MaskedLemmas.{masked_whole}
use Rattle.model_files.proofs.bytes.put_over.Goals as goal

pub returns-then-is_empty-clause-over : goal.returns-then-is_empty-clause-over
returns-then-is_empty-clause-over c =
    let none : c.args.stretch.now.gone.now ≡ [] = nil_from_length c.args.stretch.now.gone.now (search rules) in
    rw (none, masked_whole c.args.stretch.now.olds.now c.args.stretch.now.mark) c.put_all_over.ensures.over
