-- The messages of a session, and what is written for them.
use Rattle.std.specs.Prelude.{◌≡◌, ◌⊎◌, ℕ, List, [], ◌∷◌, ◌++◌, Bool, true, false, Option, None}
use Rattle.std.specs.Io.KnownBytes.{Appends, Consumes, IsAtEnd}
use Rattle.dap_frames.specs.Decoding.{Partial, decode, start}
use Rattle.dap_session.specs.Adapters.{AdapterState}
use Rattle.dap_session.specs.Messages.{Answers}
use Rattle.dap_answers.specs.Posting.{Posted, Posts}
use Rattle.dap_session.specs.declared.adapter.Phase.TheVariants as phase
use Rattle.dap_answers.specs.declared.answer.Answer.{Answer}

-- A session: the adapter, the input that is partly read, and what is to be written.
pub record ServingState : Type 0 where
  pub adapter : AdapterState
  pub decoder : Partial
  pub outbox : Posted

-- The adapter before the first message.
abbrev pub fresh_adapter : AdapterState
fresh_adapter = record { phase = phase.New; owed = None; run = None; stops_on_entry = false }

-- A message is answered. The messages that are sent for it are numbered from n on.
pub record Step (s : AdapterState) (n : ℕ) (body : List ℕ) : Type 0 where
  pub answer : Answer
  pub adapter : AdapterState
  pub posted : Posted
  pub answers : Answers s body answer adapter
  pub posts : Posts (record { next = n; bytes = [] }) answer posted

-- A step after which the session is at s', and writes what it has to.
pub record StepsTo (s : AdapterState) (n : ℕ) (body written : List ℕ) (s' : AdapterState) (n' : ℕ) (ends : Bool) : Type 0 where
  pub step : Step s n body
  pub ended : step.answer.ends ≡ ends
  pub adapter : s' ≡ step.adapter
  pub next : n' ≡ step.posted.next
  pub bytes : written ≡ step.posted.bytes

-- A step, and later ones.
pub record StepsOn (s : AdapterState) (n : ℕ) (body written : List ℕ) (later : AdapterState → ℕ → List ℕ → Type 0) : Type 0 where
  pub mid : AdapterState
  pub next : ℕ
  pub now : List ℕ
  pub rest : List ℕ
  pub step : StepsTo s n body now mid next false
  pub bytes : written ≡ now ++ rest
  pub follows : later mid next rest

-- Messages are answered in order, up to one that ends the session. Nothing else is written.
abbrev pub Converses : AdapterState → ℕ → List (List ℕ) → List ℕ → AdapterState → ℕ → Bool → Type 0
Converses s n [] written s' n' ends = (written ≡ []) × (s' ≡ s) × (n' ≡ n) × (ends ≡ false)
Converses s n (body ∷ bodies) written s' n' ends =
    (StepsTo s n body written s' n' true × (ends ≡ true))
    ⊎ StepsOn s n body written (λ mid next rest. Converses mid next bodies rest s' n' ends)

-- A session answered what it read: bytes were read, and the answers to their messages were written.
-- Either a message ended the session, or the input ended.
pub record Served (unread unread' held held' : Option (List ℕ)) : Type 0 where
  pub taken : List ℕ
  pub read : Consumes unread unread' taken
  pub bodies : List (List ℕ)
  pub later : List (List ℕ)
  pub cut : (decode start taken).bodies ≡ bodies ++ later
  pub written : List ℕ
  pub appended : Appends held held' written
  pub adapter : AdapterState
  pub next : ℕ
  pub ends : Bool
  pub answered : Converses fresh_adapter 1 bodies written adapter next ends
  pub over : (ends ≡ true) ⊎ ((later ≡ []) × IsAtEnd unread')

-- A piece of the input was read, and messages that end in it were answered.
pub record Takes (before : ServingState) (piece : List ℕ) (after : ServingState) (held held' : Option (List ℕ)) (ends : Bool) : Type 0 where
  pub bodies : List (List ℕ)
  pub later : List (List ℕ)
  pub cut : (decode before.decoder piece).bodies ≡ bodies ++ later
  pub written : List ℕ
  pub appended : Appends held held' written
  pub answered : Converses before.adapter before.outbox.next bodies written after.adapter after.outbox.next ends
  pub whole : (ends ≡ true) ⊎ ((later ≡ []) × ((decode before.decoder piece).rest ≡ after.decoder))

-- Whole pieces of the input were read, and their messages answered.
pub record Took (unread unread' held held' : Option (List ℕ)) (after : ServingState) : Type 0 where
  pub taken : List ℕ
  pub read : Consumes unread unread' taken
  pub rest : (decode start taken).rest ≡ after.decoder
  pub written : List ℕ
  pub appended : Appends held held' written
  pub answered : Converses fresh_adapter 1 (decode start taken).bodies written after.adapter after.outbox.next false
  pub empty : after.outbox.bytes ≡ []
