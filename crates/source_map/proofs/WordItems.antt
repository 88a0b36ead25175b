-- Events and instructions that are a word and numbers.
use Rattle.std.proofs.Common.{◌≡◌, ℕ, ◌<◌, ◌^◌, [], ◌∷◌, codes, Ok, sym, ap, arith}
use Rattle.std.proofs.lemmas.Bool.{le-leb}
use Rattle.std.proofs.Math.Dec.{leb-zero}
use Rattle.entries.specs.declared.choice.Choice.TheVariants.{Full}
use Rattle.scenario.specs.declared.event.Event.{Event}
use Rattle.scenario.specs.declared.event.Event.TheVariants.{Step, Take, Sleep, Issue, Finish, Expire, Tick}
use Rattle.scenario.specs.declared.setup.Instruction.{Instruction}
use Rattle.scenario.specs.declared.setup.Instruction.TheVariants.{Push, Enter, Reap}
use Rattle.script.specs.Events.{event_at}
use Rattle.script.specs.Instructions.{instruction_at}
use Rattle.source_map.specs.ListTexts.{list_value}

pub step_item : (i n t : ℕ) (e : Event) → e ≡ Step t → n ≡ t → t < 2 ^ 32 → event_at i (list_value (codes "step") (n ∷ [])) ≡ Ok e
step_item i n t e is same h = rw (same, leb-zero t, le-leb t 4294967295 (omega arith)) (ap Ok (sym is))

pub take_item : (i n t : ℕ) (e : Event) → e ≡ Take t → n ≡ t → t < 2 ^ 32 → event_at i (list_value (codes "take") (n ∷ [])) ≡ Ok e
take_item i n t e is same h = rw (same, leb-zero t, le-leb t 4294967295 (omega arith)) (ap Ok (sym is))

pub sleep_item : (i : ℕ) (e : Event) → e ≡ Sleep → event_at i (list_value (codes "sleep") []) ≡ Ok e
sleep_item i e is = ap Ok (sym is)

pub issue_item : (i n t : ℕ) (e : Event) → e ≡ Issue t → n ≡ t → t < 2 ^ 32 → event_at i (list_value (codes "issue") (n ∷ [])) ≡ Ok e
issue_item i n t e is same h = rw (same, leb-zero t, le-leb t 4294967295 (omega arith)) (ap Ok (sym is))

pub finish_item : (i n t : ℕ) (e : Event) → e ≡ Finish t Full → n ≡ t → t < 2 ^ 32 → event_at i (list_value (codes "finish") (n ∷ [])) ≡ Ok e
finish_item i n t e is same h = rw (same, leb-zero t, le-leb t 4294967295 (omega arith)) (ap Ok (sym is))

pub expire_item : (i n t : ℕ) (e : Event) → e ≡ Expire t → n ≡ t → t < 2 ^ 32 → event_at i (list_value (codes "expire") (n ∷ [])) ≡ Ok e
expire_item i n t e is same h = rw (same, leb-zero t, le-leb t 4294967295 (omega arith)) (ap Ok (sym is))

pub tick_item : (i t : ℕ) (e : Event) → e ≡ Tick t → t < 2 ^ 64 → event_at i (list_value (codes "tick") (t ∷ [])) ≡ Ok e
tick_item i t e is h = rw (leb-zero t, le-leb t 18446744073709551615 (omega arith)) (ap Ok (sym is))

pub push_item : (size thread i n t : ℕ) (x : Instruction) → x ≡ Push t → n ≡ t → t < 2 ^ 32 → instruction_at size thread i (list_value (codes "push") (n ∷ [])) ≡ Ok x
push_item size thread i n t x is same h = rw (same, leb-zero t, le-leb t 4294967295 (omega arith)) (ap Ok (sym is))

pub enter_item : (size thread i l m n a b d : ℕ) (x : Instruction) → x ≡ Enter a b d → l ≡ a → m ≡ b → n ≡ d → a < 2 ^ 32 → b < 2 ^ 32 → d < 2 ^ 32 → instruction_at size thread i (list_value (codes "enter") (l ∷ m ∷ n ∷ [])) ≡ Ok x
enter_item size thread i l m n a b d x is p q r h j k =
    rw (p, q, r, leb-zero a, le-leb a 4294967295 (omega arith), leb-zero b, le-leb b 4294967295 (omega arith), leb-zero d, le-leb d 4294967295 (omega arith)) (ap Ok (sym is))

pub reap_item : (size thread i : ℕ) (x : Instruction) → x ≡ Reap → instruction_at size thread i (list_value (codes "reap") []) ≡ Ok x
reap_item size thread i x is = ap Ok (sym is)
