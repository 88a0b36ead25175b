-- The instructions of a thread.
use Rattle.std.specs.Prelude.{ℕ, nat_le, List, [], ◌∷◌, length, codes, Bool, true, if◌then◌else◌, Option, Some, None, option_map, Result}
use Rattle.std.specs.Str.{bytes_eq}
use Rattle.serde_json.specs.Data.{Data, string}
use Rattle.scenario.specs.declared.setup.Instruction.{Instruction}
use Rattle.scenario.specs.declared.setup.Instruction.TheVariants.{Put, Push, Store, Enter, Reap, Close}
use Rattle.script.specs.declared.fault.Key.TheVariants as key
use Rattle.script.specs.declared.fault.ScriptFault.{ScriptFault}
use Rattle.script.specs.declared.instruction.InstructionForm.{InstructionForm}
use Rattle.script.specs.declared.instruction.InstructionForm.TheVariants as form
use Rattle.script.specs.Faults.{at_item, at_inner, form_limits_ranges}
use Rattle.script.specs.Faults as faults
use Rattle.script.specs.Lists.{listed, of_list, at_most}
use Rattle.script.specs.Numbers.{whole_of, between, below, signed_word}
use Rattle.script.specs.Entries.{◌>>=◌, entry_form, entry_in_range}
use Rattle.script.specs.Memory.{bytes_of, placed}

-- An instruction by its word and the items after it.
abbrev pub instruction_by : List ℕ → List Data → Option InstructionForm
instruction_by w [] = if bytes_eq w (codes "reap") then Some form.Reap else None
instruction_by w (d ∷ []) = if bytes_eq w (codes "push") then option_map form.Push (whole_of d) else if bytes_eq w (codes "close") then option_map form.Close (whole_of d) else None
instruction_by w (d ∷ e ∷ []) = if bytes_eq w (codes "put") then (whole_of d >>= λ slot. option_map (form.Put slot) (entry_form e)) else None
instruction_by w (d ∷ e ∷ f ∷ []) = if bytes_eq w (codes "enter") then (whole_of d >>= λ to_submit. (whole_of e >>= λ min_complete. option_map (form.Enter to_submit min_complete) (whole_of f))) else None
instruction_by w (d ∷ e ∷ f ∷ g ∷ ds) = None

-- A store by the items after its word.
abbrev pub store_by : List Data → Option InstructionForm
store_by (a ∷ x ∷ []) = whole_of a >>= λ address. option_map (form.Store address) (bytes_of x)
store_by _ = None

-- An instruction by its list of words and values.
abbrev pub instruction_words : List Data → Option InstructionForm
instruction_words (string w ∷ ds) = if bytes_eq w (codes "store") then store_by ds else instruction_by w ds
instruction_words _ = None

-- An instruction in a JSON value, without range checks.
abbrev pub instruction_form : Data → Option InstructionForm
instruction_form d = of_list instruction_words d

-- Whether a store has at most 4,096 bytes.
abbrev pub keeps_limits : InstructionForm → Bool
keeps_limits (form.Store address bytes) = nat_le (length bytes) 4096
keeps_limits _ = true

-- The instruction, if its numbers are in their ranges. The submission ring has `size` slots.
abbrev pub instruction_in_range : ℕ → InstructionForm → Option Instruction
instruction_in_range size (form.Put slot e) = below size slot >>= λ n. option_map (Put n) (entry_in_range e)
instruction_in_range size (form.Push n) = option_map Push (between 0 4294967295 n)
instruction_in_range size (form.Enter a b c) = between 0 4294967295 a >>= λ to_submit. (between 0 4294967295 b >>= λ min_complete. option_map (Enter to_submit min_complete) (between 0 4294967295 c))
instruction_in_range size (form.Store a bytes) = option_map (λ address. Store address bytes) (placed bytes a)
instruction_in_range size form.Reap = Some Reap
instruction_in_range size (form.Close fd) = option_map Close (signed_word fd)

-- Instruction i of thread t.
abbrev pub instruction_at : ℕ → ℕ → ℕ → Data → Result Instruction ScriptFault
instruction_at size t i d = form_limits_ranges (at_inner key.Threads t i) (instruction_form d) keeps_limits (instruction_in_range size)

-- The program of a thread: a list, whose length is checked before its items.
abbrev pub thread_at : ℕ → ℕ → Data → Result (List Instruction) ScriptFault
thread_at size t d = faults.◌>>=◌ (listed (at_item key.Threads t) d) (at_most 4096 (at_item key.Threads t) (instruction_at size t))
