-- How a message of the editor is answered.
use Rattle.std.specs.Prelude.{◌≡◌, ◌⊎◌, ℕ, List, [], ◌∷◌, true, false, Some, None, unwrap_or, Ok, Err, IsErr, MatchResult, IsUtf8}
use Rattle.serde_json.specs.Data.{Data}
use Rattle.serde_json.specs.Read.{read}
use Rattle.dap_messages.specs.Requests.{request_of, seq_in, text_in}
use Rattle.dap_messages.specs.Values.{member_of}
use Rattle.dap_messages.specs.declared.fault.RequestFault.TheVariants.{NotARequest}
use Rattle.dap_messages.specs.declared.field.Field.TheVariants as field
use Rattle.dap_messages.specs.declared.request.LaunchArguments.{LaunchArguments}
use Rattle.dap_messages.specs.declared.request.Request.{Request}
use Rattle.dap_messages.specs.declared.request.Request.TheVariants as request
use Rattle.dap_session.specs.Adapters.{AdapterState, Handles}
use Rattle.dap_session.specs.Owing.{Settles, answered, outcome_in}
use Rattle.dap_session.specs.declared.adapter.Phase.TheVariants as phase
use Rattle.dap_answers.specs.declared.answer.Answer.{Answer}
use Rattle.dap_answers.specs.declared.answer.Asked.{Asked}

-- The number and the command of a message: 0 and nothing if it has none.
abbrev pub asked_of : Data → Asked
asked_of d = record { seq = seq_in d; command = unwrap_or (text_in (member_of field.Command (Some d))) [] }

abbrev pub nobody : Asked
nobody = record { seq = 0; command = [] }

-- A message is refused, and changes nothing.
pub record IsRefused (s : AdapterState) (asked : Asked) (a : Answer) (s' : AdapterState) : Type 0 where
  pub answered : answered a ≡ asked ∷ []
  pub refused : IsErr (outcome_in a.first)
  pub goes_on : a.ends ≡ false
  pub same : s' ≡ s

-- A message is ignored.
pub record IsIgnored (s : AdapterState) (d : Data) (a : Answer) (s' : AdapterState) : Type 0 where
  pub kind : request_of d ≡ Err NotARequest
  pub answered : answered a ≡ []
  pub goes_on : a.ends ≡ false
  pub same : s' ≡ s

-- Only a `disconnect` ends the session.
abbrev pub EndsOnlyBy : Request → Answer → Type 0
EndsOnlyBy req a = a.ends ≡ true → req ≡ request.Disconnect

-- A `disconnect` ends it, unless nothing was requested before.
abbrev pub EndsAt : AdapterState → Request → Answer → Type 0
EndsAt s req a = req ≡ request.Disconnect → a.ends ≡ false → s.phase ≡ phase.New

-- A launch is followed by the event `initialized` exactly if it succeeded.
abbrev pub Announces : Request → Answer → Type 0
Announces req a = (arguments : LaunchArguments) → req ≡ request.Launch arguments
    → MatchResult (outcome_in a.first) (λ _. a.events.initialized ≡ true)
    (λ _. a.events.initialized ≡ false)

-- A request is handled.
pub record IsHandled (s : AdapterState) (d : Data) (a : Answer) (s' : AdapterState) : Type 0 where
  pub request : Request
  pub is_request : request_of d ≡ Ok request
  pub settled : Settles s.owed (asked_of d) (answered a) s'.owed
  pub handled : Handles s (asked_of d) request (outcome_in a.first) s'
  pub only : EndsOnlyBy request a
  pub ends : EndsAt s request a
  pub announced : Announces request a

-- The answer to a JSON value.
abbrev pub AnswersValue : AdapterState → Data → Answer → AdapterState → Type 0
AnswersValue s d a s' = IsHandled s d a s' ⊎ (IsIgnored s d a s' ⊎ IsRefused s (asked_of d) a s')

-- The answer to the body of a message.
pub record AnswersRead (s : AdapterState) (body : List ℕ) (a : Answer) (s' : AdapterState) : Type 0 where
  pub value : Data
  pub is_read : read body ≡ Some value
  pub is_answered : AnswersValue s value a s'

-- A body that is no JSON is refused.
pub record IsUnread (s : AdapterState) (body : List ℕ) (a : Answer) (s' : AdapterState) : Type 0 where
  pub no_json : IsUtf8 body → read body ≡ None
  pub refused : IsRefused s nobody a s'

abbrev pub Answers : AdapterState → List ℕ → Answer → AdapterState → Type 0
Answers s body a s' = AnswersRead s body a s' ⊎ IsUnread s body a s'
