use Rattle.std.proofs.Common.{◌≡◌, IfOk, string_bytes, ℕ, List, subst}
use Rattle.hex.specs.Hex.{encode_lower}
use Rattle.entries.proofs.OneToOne.{entry_is}
use Rattle.places.proofs.text.entry_of.Goals as goal

pub returns : goal.returns
returns c =
    subst (λ (bytes : List ℕ). IfOk c.encode.result (λ text. string_bytes text ≡ encode_lower bytes)) (entry_is c.args.entry.now c.write.result c.write.ensures) c.encode.ensures
