use Rattle.std.proofs.Common.{◌∙◌, sym, ap, rules}
use Rattle.std.specs.Prelude.{option_map, Some}
use Rattle.hex.specs.Hex.{decode_sized}
use Rattle.entries.specs.Layout.{EntryFits, entry_of_bytes}
use Rattle.entries.proofs.OneToOne.{entry_here}
use Rattle.script.proofs.Bytes.{decoded, not_decoded}
use Rattle.script.proofs.entry.entry_of_text.Goals as goal

pub returns-in-Ok : goal.returns-in-Ok
returns-in-Ok c =
    let fits : EntryFits c.read.result = search rules in
    let out = c.decode_to_slice.new.out in
    ap Some (entry_here c.read.result out fits c.read.ensures)
    ∙ ap (option_map entry_of_bytes) (sym (decoded (decode_sized c.args.text.now 64) c.decode_to_slice.result out c.decode_to_slice.ensures.value c.in-Ok.is))

pub returns-in-Err : goal.returns-in-Err
returns-in-Err c = ap (option_map entry_of_bytes) (sym (not_decoded (decode_sized c.args.text.now 64) c.decode_to_slice.result c.decode_to_slice.new.out c.in-Err.field-0 c.decode_to_slice.ensures.value c.in-Err.is))
