-- Where the items of a script are in its text.
use Rattle.std.specs.Prelude.{◌≡◌, ℕ, ◌+◌, ◌≤◌, List, [], ◌∷◌, length, Some, Result, Ok}
use Rattle.serde_json.specs.Data.{Data}
use Rattle.serde_json.specs.Read.{read}
use Rattle.ring_words.specs.Rings.{rounded}
use Rattle.scenario.specs.declared.setup.Instruction.{Instruction}
use Rattle.script.specs.declared.fault.ScriptFault.{ScriptFault}
use Rattle.script.specs.Events.{event_at}
use Rattle.script.specs.Instructions.{instruction_at}
use Rattle.script.specs.Scripts.{Scenario}
use Rattle.source_map.specs.declared.map.Item.{Item}
use Rattle.source_map.specs.declared.map.SourceMap.{SourceMap}
use Rattle.source_map.specs.declared.span.Span.{Span}
use Rattle.source_map.specs.Positions.{between, position_at}

-- A range of the text reads as a JSON value.
pub record ReadsAt (text : List ℕ) (s : Span) (d : Data) : Type 0 where
  pub ordered : s.start ≤ s.end
  pub within : s.end ≤ length text
  pub reads : read (between text s.start s.end) ≡ Some d

-- A range of the text reads as item i.
pub record IsRange {A : Type 0} (item_at : ℕ → Data → Result A ScriptFault) (text : List ℕ) (s : Span) (i : ℕ) (x : A) : Type 0 where
  pub value : Data
  pub there : ReadsAt text s value
  pub item : item_at i value ≡ Ok x

-- The range of item i, with its positions, from an offset on.
pub record IsItem {A : Type 0} (item_at : ℕ → Data → Result A ScriptFault) (text : List ℕ) (before : ℕ) (l : Item) (i : ℕ) (x : A) : Type 0 where
  pub after : before ≤ l.span.start
  pub range : IsRange item_at text l.span i x
  pub start : l.start ≡ position_at text l.span.start
  pub end : l.end ≡ position_at text l.span.end

-- The ranges of the items from item i on: one of each, in order.
abbrev pub AreItems : {A : Type 0} → (ℕ → Data → Result A ScriptFault) → List ℕ → ℕ → ℕ → List Item → List A → Type 0
AreItems item_at text after i [] [] = Unit {0}
AreItems item_at text after i (l ∷ ls) (x ∷ xs) = IsItem item_at text after l i x × AreItems item_at text l.span.end (i + 1) ls xs
AreItems item_at text after i [] (x ∷ xs) = ⊥
AreItems item_at text after i (l ∷ ls) [] = ⊥

-- The ranges of the instructions of the threads from thread t on. The submission ring has `size`
-- slots.
abbrev pub AreThreads : ℕ → List ℕ → ℕ → List (List Item) → List (List Instruction) → Type 0
AreThreads size text t [] [] = Unit {0}
AreThreads size text t (ls ∷ lss) (p ∷ ps) = AreItems (instruction_at size t) text 0 0 ls p × AreThreads size text (t + 1) lss ps
AreThreads size text t [] (p ∷ ps) = ⊥
AreThreads size text t (ls ∷ lss) [] = ⊥

-- The ranges of the items of a script.
pub record Maps (text : List ℕ) (p : Scenario) (m : SourceMap) : Type 0 where
  pub threads : AreThreads (rounded p.setup.entries) text 0 m.threads p.setup.threads
  pub schedule : AreItems event_at text 0 0 m.schedule p.schedule
