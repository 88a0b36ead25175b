-- The text before a `:r` or `:w` mark.
use Rattle.std.proofs.Common.{◌≡◌, ℕ, ◌-◌, cond, List, length, take, true, false, Option, Some, None, ap, ◌∙◌, arith}
use Rattle.std.specs.Prelude.{option_map, MatchOption}
use Rattle.std.specs.Str.Pattern.{FindsTextSuffix, StripsSuffix}
use Rattle.std.proofs.lemmas.Str.Pattern.{ends_text}
use Rattle.script.specs.Objects.{before_mark}
use denote.Ref.{Bor}

-- Stripping a suffix leaves the text before it.
pub stripped : (mark text : List ℕ) (r : Option (Bor (List ℕ))) → MatchOption r (FindsTextSuffix mark text None) (λ x. StripsSuffix (FindsTextSuffix mark) text x.now) → option_map (λ x. x.now) r ≡ before_mark mark text
stripped mark text None h = ap (λ b. cond b (Some (take (length text - length mark) text)) None) (ends_text false mark text h)
stripped mark text (Some x) h =
    let front : x.now ≡ take (length text - length mark) text = h.2 ∙ ap (λ k. take (length text - k) text) h.1.0 in
    let ends = ends_text true mark text (h.0, h.1, omega (arith, h.3), rw h.1.0 h.1.2) in
    ap Some front ∙ ap (λ b. cond b (Some (take (length text - length mark) text)) None) ends
