use Rattle.std.proofs.Common.{◌≡◌, ◌⊎◌, ◌<◌, inl, inr, ◌∷◌, [], length, take, get_or, sym, subst, arith}
use Rattle.std.proofs.lemmas.List.{take_more}
use Rattle.json.specs.Spaced.{IsGap}
use Rattle.json.proofs.Printed.Tokens.{IsGap-append}
use Rattle.source_map.proofs.spelling.gap_length.Goals as goal
use Rattle.source_map.proofs.spelling.gap_length.Goals.{else-byte-ne32-via-then-byte-ne32+else-byte-ne10, else-byte-ne32-via-else-byte-ne32}

pub loop-i-preserved : goal.loop-i-preserved
loop-i-preserved c =
    let text = c.args.text.now in
    let i = c.loop-i.i in
    let lt : i < length text = omega arith in
    let byte : (get_or text i 0 ≡ 32) ⊎ (get_or text i 0 ≡ 10) = elim c.else-byte-ne32.branch [ else-byte-ne32-via-then-byte-ne32+else-byte-ne10 w ↦ inr w.if-byte-ne10.false | else-byte-ne32-via-else-byte-ne32 w ↦ inl w.if-byte-ne32.false ] in
    subst IsGap (sym (take_more text i 0 lt)) (IsGap-append (take i text) (get_or text i 0 ∷ []) c.loop-i.invariant (byte, tt))
