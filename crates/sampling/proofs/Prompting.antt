-- Samples are prompt.
use Rattle.std.proofs.Common.{◌≡◌, ℕ, false, true, sym, ◌∙◌, inl, inr, List, [], ◌∷◌}
use Rattle.scenario.specs.declared.event.Event.{Event}
use Rattle.scenario.specs.declared.setup.Setup.{Setup}
use Rattle.machine.specs.declared.whole.Machine.{Machine}
use Rattle.machine.specs.Steps.{after}
use Rattle.machine.specs.Runs.{start}
use Rattle.prompt_order.specs.Prompt.{NothingDue, IsPromptNext, IsPromptFrom, IsPrompt}
use Rattle.sampling.specs.declared.draws.Source.{Source}
use Rattle.sampling.specs.declared.draws.SampleOptions.{SampleOptions}
use Rattle.sampling.specs.Draws.{source_of}
use Rattle.sampling.specs.Samples.{IsFree, IsNext, AllNext, IsSample}

ended : (s : Source) (m : Machine) (from : ℕ) → s.late ≡ false → IsFree s m from → NothingDue m from
ended s m from prompt (inl late) = let no : true ≡ false = sym late ∙ prompt in absurd cc
ended s m from prompt (inr none) = none

prompt_next : (s : Source) (m : Machine) (from : ℕ) (e : Event) (next : ℕ) → s.late ≡ false → IsNext s m from e next → IsPromptNext m from e next
prompt_next s m from e next prompt (inl h) = inl (h.request, h.due, h.stays)
prompt_next s m from e next prompt (inr h) = inr (ended s m from prompt h.free, h.begun)

all_prompt : (s : Source) (m : Machine) (from : ℕ) (es : List Event) (next : ℕ) → s.late ≡ false → AllNext s m from es next → IsPromptFrom m from es next
all_prompt s m from [] next prompt h = h
all_prompt s m from (e ∷ es) next prompt h = (h.0, prompt_next s m from e h.0 prompt h.1, all_prompt s (after m e) h.0 es next prompt h.2)

pub is_prompt : (setup : Setup) (options : SampleOptions) (seed number : ℕ) (es : List Event) → options.late ≡ false → IsSample setup options seed number es → IsPrompt setup es
is_prompt setup options seed number es prompt h = (h.next, all_prompt (source_of options seed number) (start setup) 0 es h.next prompt h.all)
