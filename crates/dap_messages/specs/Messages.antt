-- Responses and events as JSON: "Response", "ErrorResponse", "Message" and "Event" of the Debug
-- Adapter Protocol's specification.
use Rattle.std.specs.Prelude.{ℕ, List, codes, Bool, true, false, Option, Some, None}
use Rattle.serde_json.specs.Data.{Data, Members, number, unsigned, string, boolean, object, member, no_members, put}

-- The members of a message, with its body if it has one.
abbrev pub with_body : Option Data → Members → Members
with_body None ms = ms
with_body (Some body) ms = put (codes "body") body ms

abbrev pub number_value : ℕ → Data
number_value n = number (unsigned n)

-- The members of a message of a kind. JSON objects are ordered by name.
abbrev pub message_members : ℕ → List ℕ → Members
message_members seq kind =
    member (codes "seq") (number_value seq)
    (member (codes "type") (string kind) no_members)

abbrev pub response_members : ℕ → ℕ → List ℕ → Bool → Members
response_members seq request_seq command success =
    member (codes "command") (string command)
    (member (codes "request_seq") (number_value request_seq)
    (member (codes "seq") (number_value seq)
    (member (codes "success") (boolean success)
    (member (codes "type") (string (codes "response")) no_members))))

-- The successful response to a request with a number and a command.
abbrev pub response_value : ℕ → ℕ → List ℕ → Option Data → Data
response_value seq request_seq command body = object (with_body body (response_members seq request_seq command true))

-- A message for the user, with the number of its kind.
abbrev pub message_value : ℕ → List ℕ → Data
message_value kind text = object
    (member (codes "format") (string text)
    (member (codes "id") (number_value kind)
    (member (codes "showUser") (boolean true) no_members)))

-- The response to a request that is refused.
abbrev pub error_value : ℕ → ℕ → List ℕ → ℕ → List ℕ → Data
error_value seq request_seq command kind text = object
    (member (codes "body") (object (member (codes "error") (message_value kind text) no_members))
    (member (codes "command") (string command)
    (member (codes "message") (string text)
    (member (codes "request_seq") (number_value request_seq)
    (member (codes "seq") (number_value seq)
    (member (codes "success") (boolean false)
    (member (codes "type") (string (codes "response")) no_members)))))))

abbrev pub event_value : ℕ → List ℕ → Option Data → Data
event_value seq event body = object (with_body body
    (member (codes "event") (string event)
    (member (codes "seq") (number_value seq)
    (member (codes "type") (string (codes "event")) no_members))))
