-- An incomplete line. Bytes past the limit of a command don't matter, so the first 257 represent
-- all.
use Rattle.std.specs.Prelude.{◌≡◌, ◌⊎◌, ◌≤◌, ℕ, ◌==◌, not, List, [], ◌∷◌, ◌++◌, length, take, Bool, true, false, if◌then◌else◌, Option, Some, None}
use Rattle.std.specs.List.{list_all}
use Rattle.std.specs.Io.KnownBytes.{Appends, Consumes}
use Rattle.whole_files.specs.Writes.{WritesFront}
use Rattle.debug_server.specs.SessionStates.{SessionState}
use Rattle.debug_server.specs.Replies.{Answer}
use Rattle.debug_server.specs.Lines.{lines_by, lines_of, ended_lines}
use Rattle.debug_server.specs.Transcripts.{asks, given_to, Transcript, transcript, prepended, ended, output, Asked, SourceGave}
use Rattle.debug_server.specs.declared.faults.ServeFault.{ServeFault}
use Rattle.debug_server.specs.declared.faults.ServeFault.TheVariants.{Read, Write, Memory, Closed}

-- The line has no newline, and no byte past index 256.
pub record IsPending (line : List ℕ) : Type 0 where
  pub plain : list_all (λ b. not (b == 10)) line ≡ true
  pub short : length line ≤ 257

-- The line after one more byte.
abbrev pub grown : List ℕ → ℕ → List ℕ
grown line b = take 257 (line ++ b ∷ [])

-- The transcript that is still to be written, which is empty after `quit`. `last` says whether an
-- incomplete last line counts.
abbrev pub rest_of : Bool → Bool → SessionState → List ℕ → List Answer → Transcript
rest_of last q v bytes answers = if q then ended v true (Some answers) else transcript v (lines_by last bytes) answers

-- Whatever follows, the transcript is what was written and then the rest from state v' on.
pub record Fed (v : SessionState) (bytes : List ℕ) (answers : List Answer) (written : List ℕ) (q : Bool) (v' : SessionState) (line : List ℕ) : Type 0 where
  pub law : (last : Bool) (more : List ℕ) (others : List Answer) → transcript v (lines_by last (bytes ++ more)) (answers ++ others) ≡ prepended written (rest_of last q v' (line ++ more) others)

-- Bytes were processed, and their replies were written.
pub record Fills (v : SessionState) (bytes : List ℕ) (answers : List Answer) (held held' : Option (List ℕ)) (q : Bool) (v' : SessionState) (line : List ℕ) : Type 0 where
  pub written : List ℕ
  pub appended : Appends held held' written
  pub fed : Fed v bytes answers written q v' line

-- A prefix of the replies was written, whatever bytes follow.
pub record Breaks (v : SessionState) (bytes : List ℕ) (answers : List Answer) (held held' : Option (List ℕ)) : Type 0 where
  pub front : List ℕ
  pub appended : Appends held held' front
  pub begins : (more : List ℕ) (others : List Answer) → (rest : List ℕ) × (output v (ended_lines (bytes ++ more)) (answers ++ others) ≡ front ++ rest)
  pub asked : (more : List ℕ) (ts : List Answer) → (transcript v (ended_lines (bytes ++ more)) answers).left ≡ Some ts → ts ≡ []

-- A fault of writing or of allocation.
abbrev pub IsOfReplying : ServeFault → Type 0
IsOfReplying Write = Unit {0}
IsOfReplying Memory = Unit {0}
IsOfReplying Read = ⊥
IsOfReplying Closed = ⊥

-- The input ends with this line, which was answered unless it is empty.
pub record Ends (v : SessionState) (line : List ℕ) (answers : List Answer) (held held' : Option (List ℕ)) (q : Bool) (v' : SessionState) : Type 0 where
  pub text : List ℕ
  pub written : Appends held held' text
  pub whole : transcript v (lines_of line) answers ≡ record { text = text; next = v'; quits = q; left = Some [] }

-- Bytes were read, and the complete lines among them were answered.
pub record Reads (v : SessionState) (unread unread' held held' : Option (List ℕ)) (answers : List Answer) (v' : SessionState) (line : List ℕ) : Type 0 where
  pub taken : List ℕ
  pub read : Consumes unread unread' taken
  pub fills : Fills v taken answers held held' false v' line

-- ---- The same with a source and its answers

-- The source was queried exactly if the line is `sync`, and gave this answer.
pub record Gave {S : Type 0} (gives : S → Answer → S → Type 0) (line : List ℕ) (before : S) (answer : Answer) (after : S) : Type 0 where
  pub answers : List Answer
  pub asked : Asked gives before answers after
  pub given : given_to (asks line) answers ≡ Some (record { answer = answer; left = [] })

-- `Fills`, with the answers that the source gave.
pub record FillsBy {S : Type 0} (gives : S → Answer → S → Type 0) (before after : S) (v : SessionState) (bytes : List ℕ) (held held' : Option (List ℕ)) (q : Bool) (v' : SessionState) (line : List ℕ) : Type 0 where
  pub answers : List Answer
  pub asked : Asked gives before answers after
  pub fills : Fills v bytes answers held held' q v' line

-- `Breaks`, with the answers that the source gave, and a query that may have failed.
pub record BreaksBy {S : Type 0} (gives : S → Answer → S → Type 0) (fails : S → S → Type 0) (before after : S) (fault : ServeFault) (v : SessionState) (bytes : List ℕ) (held held' : Option (List ℕ)) : Type 0 where
  pub answers : List Answer
  pub mid : S
  pub asked : Asked gives before answers mid
  pub no_more : (mid ≡ after) ⊎ ((fault ≡ Memory) × ((more : List ℕ) → (transcript v (ended_lines (bytes ++ more)) answers).left ≡ None) × fails mid after)
  pub breaks : Breaks v bytes answers held held'

-- `Ends`, with the answers that the source gave.
pub record EndsBy {S : Type 0} (gives : S → Answer → S → Type 0) (before after : S) (v : SessionState) (line : List ℕ) (held held' : Option (List ℕ)) (q : Bool) (v' : SessionState) : Type 0 where
  pub answers : List Answer
  pub asked : Asked gives before answers after
  pub ends : Ends v line answers held held' q v'

-- A prefix of the reply to the input's last line was written.
pub record FrontBy {S : Type 0} (gives : S → Answer → S → Type 0) (fails : S → S → Type 0) (before after : S) (fault : ServeFault) (v : SessionState) (line : List ℕ) (held held' : Option (List ℕ)) : Type 0 where
  pub answers : List Answer
  pub gave : SourceGave gives fails before after answers (transcript v (lines_of line) answers).left fault
  pub used : (ts : List Answer) → (transcript v (lines_of line) answers).left ≡ Some ts → ts ≡ []
  pub front : WritesFront held held' (output v (lines_of line) answers)

-- `Reads`, with the answers that the source gave.
pub record ReadsBy {S : Type 0} (gives : S → Answer → S → Type 0) (before after : S) (v : SessionState) (unread unread' held held' : Option (List ℕ)) (v' : SessionState) (line : List ℕ) : Type 0 where
  pub answers : List Answer
  pub asked : Asked gives before answers after
  pub reads : Reads v unread unread' held held' answers v' line
