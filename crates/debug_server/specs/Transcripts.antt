-- The replies of a session to a sequence of lines.
use Rattle.std.specs.Prelude.{◌≡◌, ◌⊎◌, ℕ, List, [], ◌∷◌, ◌++◌, map, codes, Bool, true, false, if◌then◌else◌, Option, Some, None}
use Rattle.std.specs.Str.{bytes_eq}
use Rattle.std.specs.Io.KnownBytes.{Appends, Consumes, IsAtEnd}
use Rattle.debug_server.specs.SessionStates.{SessionState}
use Rattle.debug_server.specs.Replies.{Answer, Reply, reply}
use Rattle.debug_server.specs.Lines.{lines_of, ended_lines}
use Rattle.debug_server.specs.declared.faults.ServeFault.{ServeFault}
use Rattle.debug_server.specs.declared.faults.ServeFault.TheVariants.{Read, Memory}

-- Whether the line queries the source.
unfoldable pub asks : List ℕ → Bool
asks line = bytes_eq line (codes "sync")

-- The answer for one line, and the answers left for later lines.
pub record Given : Type 0 where
  pub answer : Answer
  pub left : List Answer

-- A line that queries the source takes the next answer, if there is one. Any other line takes none.
abbrev pub given_to : Bool → List Answer → Option Given
given_to false answers = Some (record { answer = None; left = answers })
given_to true [] = None
given_to true (answer ∷ answers) = Some (record { answer = answer; left = answers })

-- A transcript: the concatenated replies, the final state, whether a line ended the session, and
-- the unused answers. The latter are `None` if a line queried the source when no answer was left.
pub record Transcript : Type 0 where
  pub text : List ℕ
  pub next : SessionState
  pub quits : Bool
  pub left : Option (List Answer)

-- The transcript with a reply before it.
abbrev pub prepended : List ℕ → Transcript → Transcript
prepended text t = record { text = text ++ t.text; next = t.next; quits = t.quits; left = t.left }

-- The empty transcript.
abbrev pub ended : SessionState → Bool → Option (List Answer) → Transcript
ended state quits left = record { text = []; next = state; quits = quits; left = left }

-- The transcript from one line on: its reply, and then the later lines, unless it ends the session.
-- It stops without a reply if the line needs an answer and none is left.
abbrev pub line_on : SessionState → List ℕ → Option Given → (SessionState → List Answer → Transcript) → Transcript
line_on state line None later = ended state false None
line_on state line (Some given) later =
    let r : Reply = reply state line given.answer in
    prepended r.text (if r.quits then ended r.next true (Some given.left) else later r.next given.left)

-- The transcript of some lines, up to `quit` or to a line that needs an answer when none is left.
abbrev pub transcript : SessionState → List (List ℕ) → List Answer → Transcript
transcript state [] answers = ended state false (Some answers)
transcript state (line ∷ lines) answers = line_on state line (given_to (asks line) answers) (λ next left. transcript next lines left)

-- The concatenated replies.
abbrev pub output : SessionState → List (List ℕ) → List Answer → List ℕ
output state lines answers = (transcript state lines answers).text

-- The source gave exactly these answers, in order.
abbrev pub Asked : {S : Type 0} → (S → Answer → S → Type 0) → S → List Answer → S → Type 0
Asked gives before [] after = after ≡ before
Asked {S} gives before (answer ∷ answers) after = (next : S) × gives before answer next × Asked gives next answers after

-- Each answer says that there is no source.
abbrev pub Unanswered : List Answer → Type 0
Unanswered [] = Unit {0}
Unanswered (answer ∷ answers) = (answer ≡ None) × Unanswered answers

-- As many answers without a source as there are lines.
abbrev pub unanswered : List (List ℕ) → List Answer
unanswered lines = map (λ line. None) lines

-- The state of a session's reader and writer, where known: the bytes left to read, and the bytes
-- written.
pub record Streams : Type 0 where
  pub unread : Option (List ℕ)
  pub held : Option (List ℕ)

abbrev pub streams : Option (List ℕ) → Option (List ℕ) → Streams
streams unread held = record { unread = unread; held = held }

-- A session replied to what it read: bytes were read, and exactly the replies to their lines were
-- written. Either a complete line ended the session, or the input ended, and bytes after its last
-- newline are a line too.
pub record Served (start : SessionState) (before after : Streams) (answers : List Answer) (state : SessionState) (quits : Bool) : Type 0 where
  pub taken : List ℕ
  pub read : Consumes before.unread after.unread taken
  pub lines : List (List ℕ)
  pub cut : ((lines ≡ ended_lines taken) × (quits ≡ true)) ⊎ ((lines ≡ lines_of taken) × IsAtEnd after.unread)
  pub written : Appends before.held after.held (output start lines answers)
  pub next : state ≡ (transcript start lines answers).next
  pub quit : quits ≡ (transcript start lines answers).quits
  -- The source gave an answer for each line that queries it, and no more.
  pub asked : (transcript start lines answers).left ≡ Some []

-- Exactly the replies to the complete lines were written, none of which ended the session.
pub record Whole (start : SessionState) (taken : List ℕ) (answers : List Answer) (written : List ℕ) : Type 0 where
  pub text : written ≡ output start (ended_lines taken) answers
  pub open_yet : (transcript start (ended_lines taken) answers).quits ≡ false
  pub asked : (transcript start (ended_lines taken) answers).left ≡ Some []

-- A fault interrupted the replies: bytes were read, and a prefix of the replies to their lines was
-- written. An incomplete last line counts only if the input ended. If a read failed, every complete
-- line was answered.
pub record Broke (start : SessionState) (before after : Streams) (answers : List Answer) (fault : ServeFault) : Type 0 where
  pub taken : List ℕ
  pub read : Consumes before.unread after.unread taken
  pub lines : List (List ℕ)
  pub cut : (lines ≡ ended_lines taken) ⊎ ((lines ≡ lines_of taken) × IsAtEnd after.unread)
  pub front : List ℕ
  pub rest : List ℕ
  pub begins : output start lines answers ≡ front ++ rest
  pub written : Appends before.held after.held front
  -- No answer is left over: a line queried the source for each.
  pub asked : (others : List Answer) → (transcript start lines answers).left ≡ Some others → others ≡ []
  pub whole : fault ≡ Read → Whole start taken answers front

-- The source gave exactly these answers, in order. If an allocation failed, it may have been
-- queried once more, for a line that got no answer.
pub record SourceGave {S : Type 0} (gives : S → Answer → S → Type 0) (fails : S → S → Type 0) (before after : S) (answers : List Answer) (left : Option (List Answer)) (fault : ServeFault) : Type 0 where
  pub last : S
  pub asked : Asked gives before answers last
  pub no_more : (last ≡ after) ⊎ ((fault ≡ Memory) × (left ≡ None) × fails last after)

-- A fault interrupted the replies, and a source gave the answers.
pub record BrokeBy {S : Type 0} (gives : S → Answer → S → Type 0) (fails : S → S → Type 0) (source source' : S) (fault : ServeFault) (start : SessionState) (before after : Streams) : Type 0 where
  pub answers : List Answer
  pub broke : Broke start before after answers fault
  pub gave : SourceGave gives fails source source' answers (transcript start broke.lines answers).left fault
