-- What a stream of bytes decodes to: bodies, each after a header that has its length.
use Rattle.std.specs.Prelude.{◌≡◌, ℕ, ◌+◌, ◌*◌, ◌-◌, ◌==◌, ◌&&◌, if◌then◌else◌, Bool, List, [], ◌∷◌, ◌++◌, length, take, drop, codes, decimal, Option, Some, None, nat_le}
use Rattle.std.specs.Char.{is_ascii_digit}
use Rattle.std.specs.Str.{str_eq_ignore_ascii_case}
use Rattle.dap_frames.specs.declared.fault.FrameFault.{FrameFault}
use Rattle.dap_frames.specs.declared.fault.FrameFault.TheVariants.{HeaderTooLong, BareLineEnd, LengthMissing, LengthRepeated, LengthInvalid}

-- The number that digits write after those of n, if it is at most 1,048,576.
abbrev pub number_after : ℕ → List ℕ → Option ℕ
number_after n [] = Some n
number_after n (c ∷ cs) = if is_ascii_digit c && nat_le (10 * n + (c - 48)) 1048576 then number_after (10 * n + (c - 48)) cs else None

abbrev pub number : List ℕ → Option ℕ
number [] = None
number (c ∷ cs) = number_after 0 (c ∷ cs)

abbrev pub length_name : List ℕ
length_name = codes "Content-Length: "

-- Whether a header line is the field that has the length. The case of its name doesn't matter.
unfoldable pub has_length_name : List ℕ → Bool
has_length_name line = nat_le 16 (length line) && str_eq_ignore_ascii_case (take 16 line) length_name

-- A header that is partly read: the number of its bytes, those of the current line, and the length
-- if an earlier line has it.
pub record Heading : Type 0 where
  pub seen : ℕ
  pub line : List ℕ
  pub length : Option ℕ

-- A frame that is partly read.
pub data Partial : Type 0 where
  -- within a header line, or after its carriage return
  InLine : Heading → Partial
  InReturn : Heading → Partial
  -- within the body: the number of bytes that are missing, and those that were read
  InBody : ℕ → List ℕ → Partial
  -- The stream is no sequence of frames.
  Failed : FrameFault → Partial

abbrev pub start : Partial
start = InLine (record { seen = 0; line = []; length = None })

-- What follows a byte, and the body that ends with it.
pub record Step : Type 0 where
  pub next : Partial
  pub body : Option (List ℕ)

abbrev pub without_body : Partial → Step
without_body p = record { next = p; body = None }

abbrev pub with_body : List ℕ → Step
with_body body = record { next = start; body = Some body }

-- The empty line ends the header.
abbrev pub after_header : Option ℕ → Step
after_header None = without_body (Failed LengthMissing)
after_header (Some n) = if n == 0 then with_body [] else without_body (InBody n [])

-- A line has the length, possibly after another one that has it.
abbrev pub after_length : ℕ → Option ℕ → Option ℕ → Step
after_length seen (Some m) n = without_body (Failed LengthRepeated)
after_length seen None None = without_body (Failed LengthInvalid)
after_length seen None (Some n) = without_body (InLine (record { seen = seen; line = []; length = Some n }))

abbrev pub after_line : ℕ → List ℕ → Option ℕ → Step
after_line seen [] length = after_header length
after_line seen (b ∷ bs) length =
    if has_length_name (b ∷ bs) then after_length seen length (number (drop 16 (b ∷ bs)))
    else without_body (InLine (record { seen = seen; line = []; length = length }))

abbrev pub in_line : Heading → ℕ → Step
in_line h b =
    if b == 13 then without_body (InReturn (record { seen = h.seen + 1; line = h.line; length = h.length }))
    else if b == 10 then without_body (Failed BareLineEnd)
    else without_body (InLine (record { seen = h.seen + 1; line = h.line ++ b ∷ []; length = h.length }))

abbrev pub step : Partial → ℕ → Step
step (InLine h) b = if nat_le 1024 h.seen then without_body (Failed HeaderTooLong) else in_line h b
step (InReturn h) b =
    if nat_le 1024 h.seen then without_body (Failed HeaderTooLong)
    else if b == 10 then after_line (h.seen + 1) h.line h.length
    else without_body (Failed BareLineEnd)
step (InBody left body) b = if nat_le left 1 then with_body (body ++ b ∷ []) else without_body (InBody (left - 1) (body ++ b ∷ []))
step (Failed fault) b = without_body (Failed fault)

-- The bodies of a stream, and the frame that is partly read at its end.
pub record Decoded : Type 0 where
  pub bodies : List (List ℕ)
  pub rest : Partial

-- Another body, or other bodies, before those that were decoded.
abbrev pub body_before : Option (List ℕ) → Decoded → Decoded
body_before None d = d
body_before (Some body) d = record { bodies = body ∷ d.bodies; rest = d.rest }

abbrev pub bodies_before : List (List ℕ) → Decoded → Decoded
bodies_before front d = record { bodies = front ++ d.bodies; rest = d.rest }

abbrev pub decode : Partial → List ℕ → Decoded
decode p [] = record { bodies = []; rest = p }
decode p (b ∷ bs) = body_before (step p b).body (decode (step p b).next bs)

-- The frame of a body.
abbrev pub frame : List ℕ → List ℕ
frame body = length_name ++ (decimal (length body) ++ (codes "\r\n\r\n" ++ body))

abbrev pub fault_of : Partial → Option FrameFault
fault_of (Failed fault) = Some fault
fault_of _ = None

-- A prefix of the bodies was appended.
pub record AddsPrefix (old new bodies : List (List ℕ)) : Type 0 where
  pub front : List (List ℕ)
  pub rest : List (List ℕ)
  pub added : new ≡ old ++ front
  pub whole : bodies ≡ front ++ rest

-- The bytes of a piece before `left` were read, and their bodies appended.
pub record Feeds (p : Partial) (piece : List ℕ) (old new : List (List ℕ)) (p' : Partial) (left : List ℕ) : Type 0 where
  pub front : List (List ℕ)
  pub added : new ≡ old ++ front
  pub law : decode p piece ≡ bodies_before front (decode p' left)
