-- Messages that are sent: their numbers, and their frames.
use Rattle.std.specs.Prelude.{◌≡◌, ◌⊎◌, ℕ, ◌+◌, ◌<◌, List, ◌++◌, length, codes, Bool, true, false, Option, Some, None, option_map, Result, Ok, Err}
use Rattle.serde_json.specs.Data.{Data}
use Rattle.serde_json.specs.View.{view}
use Rattle.serde_json.specs.Written.{has_float, compact_text}
use Rattle.serde_json.specs.declared.value.Value.{Value}
use Rattle.dap_frames.specs.Decoding.{frame}
use Rattle.dap_frames.specs.Frames.{most_written}
use Rattle.dap_messages.specs.Messages.{response_value, error_value, event_value}
use Rattle.dap_answers.specs.declared.answer.Answer.{Answer}
use Rattle.dap_answers.specs.declared.answer.Asked.{Asked}
use Rattle.dap_answers.specs.declared.answer.Events.{Events}
use Rattle.dap_answers.specs.declared.answer.Response.{Response}
use Rattle.dap_answers.specs.declared.refusal.Refusal.{Refusal}

-- The number of the next message, and the frames of the messages before it.
pub record Posted : Type 0 where
  pub next : ℕ
  pub bytes : List ℕ

-- A message follows: its number is the next one, and its frame is added.
pub record Sends (before after : Posted) (message : Data) : Type 0 where
  pub text : List ℕ
  pub is_text : has_float message ≡ false → text ≡ compact_text message
  pub bytes : after.bytes ≡ before.bytes ++ frame text
  pub next : after.next ≡ before.next + 1

-- A message is too long to be sent.
pub record IsTooLong (message : Data) : Type 0 where
  pub text : List ℕ
  pub is_text : has_float message ≡ false → text ≡ compact_text message
  pub long : most_written < length text

-- The response to a request that succeeded.
abbrev pub success : Posted → Asked → Option Value → Data
success before asked body = response_value before.next asked.seq asked.command (option_map view body)

-- The response to a request that is refused, of some kind and with some sentence.
pub record Refuses (before : Posted) (asked : Asked) (after : Posted) : Type 0 where
  pub kind : ℕ
  pub sentence : List ℕ
  pub sent : Sends before after (error_value before.next asked.seq asked.command kind sentence)

-- The response to a request. A refusal takes the place of one that is too long.
abbrev pub RespondsBy : Posted → Asked → Result (Option Value) Refusal → Posted → Type 0
RespondsBy before asked (Ok body) after =
    Sends before after (success before asked body)
    ⊎ (IsTooLong (success before asked body) × Refuses before asked after)
RespondsBy before asked (Err refusal) after = Refuses before asked after

abbrev pub Responds : Posted → Response → Posted → Type 0
Responds before r after = RespondsBy before r.asked r.outcome after

-- The response, if there is one.
abbrev pub RespondsIfAny : Posted → Option Response → Posted → Type 0
RespondsIfAny before None after = after ≡ before
RespondsIfAny before (Some r) after = Responds before r after

abbrev pub event : Posted → List ℕ → Option Value → Data
event before name body = event_value before.next name (option_map view body)

-- An event. One that is too long is left out.
abbrev pub Emits : Posted → List ℕ → Option Value → Posted → Type 0
Emits before name body after =
    Sends before after (event before name body)
    ⊎ (IsTooLong (event before name body) × (after ≡ before))

abbrev pub EmitsIfAny : Posted → List ℕ → Option Value → Posted → Type 0
EmitsIfAny before name None after = after ≡ before
EmitsIfAny before name (Some body) after = Emits before name (Some body) after

abbrev pub EmitsIf : Bool → Posted → List ℕ → Posted → Type 0
EmitsIf false before name after = after ≡ before
EmitsIf true before name after = Emits before name None after

-- The events, in order.
pub record EmitsAll (before : Posted) (events : Events) (after : Posted) : Type 0 where
  pub initialized : Posted
  pub is_initialized : EmitsIf events.initialized before (codes "initialized") initialized
  pub continued : Posted
  pub is_continued : EmitsIfAny initialized (codes "continued") events.continued continued
  pub output : Posted
  pub is_output : EmitsIfAny continued (codes "output") events.output output
  pub is_stopped : EmitsIfAny output (codes "stopped") events.stopped after

-- An answer: its responses, and the events after them.
pub record Posts (before : Posted) (answer : Answer) (after : Posted) : Type 0 where
  pub first : Posted
  pub is_first : RespondsIfAny before answer.first first
  pub second : Posted
  pub is_second : RespondsIfAny first answer.second second
  pub events : EmitsAll second answer.events after
