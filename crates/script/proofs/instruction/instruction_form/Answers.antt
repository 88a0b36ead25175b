use Rattle.std.proofs.Common.{◌≡◌, Option, ◌∙◌, sym, ap, map, subst}
use Rattle.serde_json.specs.View.{view}
use Rattle.script.specs.declared.instruction.InstructionForm.{InstructionForm}
use Rattle.script.specs.Faults.{Gives, shaped}
use Rattle.script.specs.Instructions.{instruction_words, instruction_form}
use Rattle.script.proofs.Each.{of_list_some}
use Rattle.script.proofs.instruction.instruction_form.Goals as goal

pub returns-in-Some : goal.returns-in-Some
returns-in-Some c =
    let same : instruction_words (map view c.deref.result.now) ≡ instruction_form (view c.args.value.now) =
    ap (λ vs. instruction_words (map view vs)) c.deref.ensures.value
    ∙ sym (of_list_some instruction_words (view c.args.value.now) c.in-Some.items.now.items c.in-Some.ensures) in
    let P : Option InstructionForm → Type 0 = λ form. Gives (λ w. w) c.instruction_words.result (shaped c.args.path form) in
    subst P same c.instruction_words.ensures
