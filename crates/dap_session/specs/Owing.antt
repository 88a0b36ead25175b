-- Which requests are answered, and which of them still are to be.
use Rattle.std.specs.Prelude.{◌≡◌, ◌⊎◌, List, [], ◌∷◌, ◌++◌, Option, Some, None, Result, Ok, Err}
use Rattle.dap_answers.specs.declared.answer.Answer.{Answer}
use Rattle.dap_answers.specs.declared.answer.Asked.{Asked}
use Rattle.dap_answers.specs.declared.answer.Response.{Response}
use Rattle.dap_answers.specs.declared.refusal.Refusal.{Refusal}
use Rattle.serde_json.specs.declared.value.Value.{Value}

abbrev pub asked_in : Option Response → List Asked
asked_in None = []
asked_in (Some r) = r.asked ∷ []

-- The requests to which an answer has responses, in order.
abbrev pub answered : Answer → List Asked
answered a = asked_in a.first ++ asked_in a.second

-- The launch that is not answered yet, if there is one.
abbrev pub owed_by : Option Asked → List Asked
owed_by None = []
owed_by (Some a) = a ∷ []

-- Each request is answered once: a new one and those owed before are those that are answered now
-- and those owed from now on.
abbrev pub Settles : Option Asked → Asked → List Asked → Option Asked → Type 0
Settles owed asked now owed' =
    (now ++ owed_by owed' ≡ asked ∷ owed_by owed) ⊎ (now ++ owed_by owed' ≡ owed_by owed ++ asked ∷ [])

-- The outcome of the first response. A launch that is answered later has none yet.
abbrev pub outcome_in : Option Response → Result (Option Value) Refusal
outcome_in None = Ok None
outcome_in (Some r) = r.outcome
