-- Lists of located items, one more at a time.
use Rattle.std.proofs.Common.{◌≡◌, ℕ, ◌+◌, ◌<◌, ◌≤◌, List, [], ◌∷◌, ◌++◌, length, take, get_or, Result, refl, sym, ap, ◌∙◌, subst, arith}
use Rattle.std.proofs.lemmas.List.{length-take-le, take_more}
use Rattle.serde_json.specs.Data.{Data}
use Rattle.scenario.specs.declared.setup.Instruction.{Instruction}
use Rattle.script.specs.Instructions.{instruction_at}
use Rattle.script.specs.declared.fault.ScriptFault.{ScriptFault}
use Rattle.source_map.specs.declared.map.Item.{Item}
use Rattle.source_map.specs.Maps.{AreItems, AreThreads, IsItem, IsRange}
use Rattle.source_map.specs.Positions.{position_at}
use Rattle.source_map.specs.declared.span.Span.{Span}

-- The offset after the last item.
abbrev pub end_of : ℕ → List Item → ℕ
end_of after [] = after
end_of after (l ∷ ls) = end_of l.span.end ls

pub end_of_more : (after : ℕ) (ls : List Item) (l : Item) → end_of after (ls ++ l ∷ []) ≡ l.span.end
end_of_more after [] l = refl
end_of_more after (m ∷ ls) l = end_of_more m.span.end ls l

pub are_more : {A : Type 0} → (item_at : ℕ → Data → Result A ScriptFault) (text : List ℕ) (after i j : ℕ) (ls : List Item) (xs : List A) (l : Item) (x : A) → AreItems item_at text after i ls xs → j ≡ i + length xs → IsItem item_at text (end_of after ls) l j x → AreItems item_at text after i (ls ++ l ∷ []) (xs ++ x ∷ [])
are_more item_at text after i j [] [] l x g e h = let same : j ≡ i = omega arith in (subst (λ k. IsItem item_at text after l k x) same h, tt)
are_more item_at text after i j (m ∷ ls) (y ∷ ys) l x g e h = (g.0, are_more item_at text m.span.end (i + 1) j ls ys l x g.1 (omega arith) h)
are_more item_at text after i j [] (y ∷ ys) l x g e h = absurd g
are_more item_at text after i j (m ∷ ls) [] l x g e h = absurd g

pub threads_more : (size : ℕ) (text : List ℕ) (t j : ℕ) (lss : List (List Item)) (ps : List (List Instruction)) (ls : List Item) (p : List Instruction) → AreThreads size text t lss ps → j ≡ t + length ps → AreItems (instruction_at size j) text 0 0 ls p → AreThreads size text t (lss ++ ls ∷ []) (ps ++ p ∷ [])
threads_more size text t j [] [] ls p g e h = let same : j ≡ t = omega arith in (subst (λ k. AreItems (instruction_at size k) text 0 0 ls p) same h, tt)
threads_more size text t j (m ∷ lss) (q ∷ ps) ls p g e h = (g.0, threads_more size text (t + 1) j lss ps ls p g.1 (omega arith) h)
threads_more size text t j [] (q ∷ ps) ls p g e h = absurd g
threads_more size text t j (m ∷ lss) [] ls p g e h = absurd g

-- The items so far, and one more that was certified and located.
pub located_more : {A : Type 0} → (item_at : ℕ → Data → Result A ScriptFault) (text : List ℕ) (items items' : List Item) (xs : List A) (i : ℕ) (x : A) (span : Span) (item : Item) (offset : ℕ) → i < length xs → x ≡ get_or xs i x → AreItems item_at text 0 0 items (take i xs) → end_of 0 items ≤ offset → IsRange item_at text span i x → offset ≤ span.start → item.span ≡ span → item.start ≡ position_at text span.start → item.end ≡ position_at text span.end → items' ≡ items ++ item ∷ [] → AreItems item_at text 0 0 items' (take (i + 1) xs) × (span.end ≡ end_of 0 items')
located_more item_at text items items' xs i x span item offset lt at g off range after es start end more =
    let e : take (i + 1) xs ≡ take i xs ++ x ∷ [] = take_more xs i x lt ∙ ap (λ y. take i xs ++ y ∷ []) (sym at) in
    let count : length (take i xs) ≡ i = length-take-le i xs (omega arith) in
    let j : i ≡ 0 + length (take i xs) = omega arith in
    let one : IsItem item_at text (end_of 0 items) item i x = record {
      after = omega (arith, off, after, ap (λ (s : Span). s.start) es);
      range = subst (λ s. IsRange item_at text s i x) (sym es) range;
      start = start ∙ ap (λ (s : Span). position_at text s.start) (sym es);
      end = end ∙ ap (λ (s : Span). position_at text s.end) (sym es);
    } in (
      subst (λ ls. AreItems item_at text 0 0 ls (take (i + 1) xs)) (sym more) (subst (AreItems item_at text 0 0 (items ++ item ∷ [])) (sym e) (are_more item_at text 0 0 i items (take i xs) item x g j one)),
      ap (λ (s : Span). s.end) (sym es) ∙ sym (end_of_more 0 items item) ∙ ap (end_of 0) (sym more),
    )
