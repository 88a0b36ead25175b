use Rattle.std.proofs.Common.{◌≡◌, IfOk, string_bytes, ℕ, List, subst}
use Rattle.hex.specs.Hex.{encode_lower}
use Rattle.entries.proofs.OneToOne.{completion_is}
use Rattle.places.proofs.text.completion_of.Goals as goal

pub returns : goal.returns
returns c =
    subst (λ (bytes : List ℕ). IfOk c.encode.result (λ text. string_bytes text ≡ encode_lower bytes)) (completion_is c.args.completion.now c.write.result c.write.ensures) c.encode.ensures
