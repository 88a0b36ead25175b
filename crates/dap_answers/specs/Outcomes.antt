-- The outcome of a request.
use Rattle.std.specs.Prelude.{Option, Result, Ok, Err}
use Rattle.dap_answers.specs.declared.answer.Reply.{Reply}
use Rattle.dap_answers.specs.declared.refusal.Refusal.{Refusal}
use Rattle.serde_json.specs.declared.value.Value.{Value}

-- The body of a reply, or the refusal.
abbrev pub outcome_of : Result Reply Refusal → Result (Option Value) Refusal
outcome_of (Ok reply) = Ok reply.body
outcome_of (Err refusal) = Err refusal
