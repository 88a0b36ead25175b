-- One line of a transcript.
use Rattle.std.proofs.Common.{◌≡◌, ◌⊎◌, inl, inr, ℕ, ◌==◌, ◌<◌, ◌≤◌, List, [], ◌∷◌, ◌++◌, length, nat_lt, Bool, true, false, cond, Option, Some, None, refl, sym, ap, ◌∙◌, arith, codes, rules, append_assoc, length-append}
use Rattle.std.proofs.lemmas.Bool.Decides.{nat_tests}
use Rattle.std.specs.Cmp.Lexicographic.{bytes_decides}
use Rattle.std.specs.Str.{bytes_eq}
use Rattle.debug_server.specs.SessionStates.{SessionState}
use Rattle.commands.specs.Commands.{command_of}
use Rattle.debug_server.specs.Replies.{Answer, Reply, reply}
use Rattle.debug_server.specs.Lines.{onto_line, lines_by}
use Rattle.debug_server.specs.Transcripts.{asks, Given, given_to, line_on, Transcript, transcript, prepended, ended}
use Rattle.debug_server.specs.Pending.{IsPending, grown, rest_of}
use Rattle.debug_server.proofs.Bytes.{onto_lines, onto_lines-cons, onto_lines-nil, lines_by-plain, grown_room, grown_full}

-- Only a short line queries the source.
pub asks_short : (line : List ℕ) → 256 < length line → asks line ≡ false
unfolding asks
asks_short line h = by (bytes_eq line (codes "sync")) refl
  where
    by : (q : Bool) → bytes_eq line (codes "sync") ≡ q → bytes_eq line (codes "sync") ≡ false
    by true e = absurd (let n : length line ≡ 4 = ap length ((bytes_decides line (codes "sync")).0 e) in omega arith)
    by false e = e

-- A line takes exactly these answers, and gets this one.
abbrev pub Takes : Bool → List Answer → Answer → Type 0
Takes q ts answer = given_to q ts ≡ Some (record { answer = answer; left = [] })

-- Any further answers are left.
given_rest : (q : Bool) (ts others : List Answer) (g : Given) → given_to q ts ≡ Some g → given_to q (ts ++ others) ≡ Some (record { answer = g.answer; left = g.left ++ others })
given_rest false ts others g h =
    let was : Given = record { answer = None; left = ts } in
    let same : was ≡ g = cc in
    ap (λ (x : Given). let y : Given = record { answer = x.answer; left = x.left ++ others } in Some y) same
given_rest true [] others g h = absurd (cc)
given_rest true (a ∷ ts) others g h =
    let was : Given = record { answer = a; left = ts } in
    let same : was ≡ g = cc in
    ap (λ (x : Given). let y : Given = record { answer = x.answer; left = x.left ++ others } in Some y) same

-- The transcript from a reply on.
abbrev pub then_prepended : Reply → List (List ℕ) → List Answer → Transcript
then_prepended r ls ts = prepended r.text (cond r.quits (ended r.next true (Some ts)) (transcript r.next ls ts))

pub transcript_line : (w : SessionState) (l : List ℕ) (ls : List (List ℕ)) (given others : List Answer) (answer : Answer) → Takes (asks l) given answer → transcript w (l ∷ ls) (given ++ others) ≡ then_prepended (reply w l answer) ls others
transcript_line w l ls given others answer h =
    ap (λ (o : Option Given). line_on w l o (λ v us. transcript v ls us)) (given_rest (asks l) given others (record { answer = answer; left = [] }) h)

-- No answer is left over.
abbrev pub NoneOver : Option (List Answer) → Type 0
NoneOver left = (ts : List Answer) → left ≡ Some ts → ts ≡ []

pub over_none : NoneOver None
over_none ts e = absurd (cc)

pub over_nil : NoneOver (Some [])
over_nil ts e = cc

-- If the transcript of the later lines leaves no answer, neither does the one with a reply before
-- it.
abbrev AskedLater : List (List ℕ) → Type 0
AskedLater ls = (v : SessionState) → NoneOver (transcript v ls []).left

asked_rest : (ls : List (List ℕ)) (r : Reply) (q : Bool) → AskedLater ls → NoneOver (prepended r.text (cond q (ended r.next true (Some [])) (transcript r.next ls []))).left
asked_rest ls r true f = over_nil
asked_rest ls r false f = f r.next

asked_line : (q : Bool) (v : SessionState) (l : List ℕ) (ls : List (List ℕ)) → AskedLater ls → NoneOver (line_on v l (given_to q []) (λ w us. transcript w ls us)).left
asked_line true v l ls f = over_none
asked_line false v l ls f = asked_rest ls (reply v l None) (reply v l None).quits f

-- Without answers, a transcript stops at the first line that queries the source.
pub alone_asked : (ls : List (List ℕ)) (v : SessionState) → NoneOver (transcript v ls []).left
alone_asked [] v = over_nil
alone_asked (l ∷ ls) v = asked_line (asks l) v l ls (λ w. alone_asked ls w)

-- The rest of a transcript without answers leaves none.
pub rest_asked : (last q : Bool) (v : SessionState) (line : List ℕ) → NoneOver (rest_of last q v line []).left
rest_asked last true v line = over_nil
rest_asked last false v line = alone_asked (lines_by last line) v

-- A line that queries the source when there is no answer.
pub lacking : (v : SessionState) (l : List ℕ) (ls : List (List ℕ)) → asks l ≡ true → (transcript v (l ∷ ls) []).left ≡ None
lacking v l ls h = rw h refl

pub prepended_prepended : (a b : List ℕ) (t : Transcript) → prepended a (prepended b t) ≡ prepended (a ++ b) t
prepended_prepended a b t = ap (λ (x : List ℕ). let u : Transcript = record { text = x; next = t.next; quits = t.quits; left = t.left } in u) (sym (append_assoc a b t.text))

-- All lines past the limit have the same reply.
reply_long : (w : SessionState) (a b : List ℕ) (t : Answer) → 256 < length a → 256 < length b → reply w a t ≡ reply w b t
unfolding reply command_of
reply_long w a b t p q =
    let x : nat_lt 256 (length a) ≡ true = search (rules, nat_tests) in
    let y : nat_lt 256 (length b) ≡ true = search (rules, nat_tests) in
    rw (x, y)

takes_short : (line : List ℕ) → 256 < length line → Takes (asks line) [] None
takes_short line h = ap (λ q. given_to q []) (asks_short line h)

-- So the transcripts from such lines on are equal.
transcript_first : (w : SessionState) (a b : List ℕ) (ls : List (List ℕ)) (ts : List Answer) → 256 < length a → 256 < length b → transcript w (a ∷ ls) ts ≡ transcript w (b ∷ ls) ts
transcript_first w a b ls ts p q =
    transcript_line w a ls [] ts None (takes_short a p)
    ∙ ap (λ r. then_prepended r ls ts) (reply_long w a b None p q)
    ∙ sym (transcript_line w b ls [] ts None (takes_short b q))

-- One more byte in a line past the limit changes nothing.
long_byte : (last : Bool) (w : SessionState) (line : List ℕ) (b : ℕ) (ls : List (List ℕ)) (ts : List Answer) → length line ≡ 257 → transcript w (onto_lines last line (onto_line last b ls)) ts ≡ transcript w (onto_lines last line ls) ts
long_byte true w line b [] ts h =
    ap (λ x. transcript w x ts) (onto_lines-cons true line (b ∷ []) [])
    ∙ transcript_first w (line ++ b ∷ []) line [] ts (omega (arith, length-append line (b ∷ []))) (omega arith)
    ∙ ap (λ x. transcript w x ts) (sym (onto_lines-nil line (omega arith)))
long_byte false w line b [] ts h = refl
long_byte last w line b (l ∷ ls) ts h =
    ap (λ x. transcript w x ts) (onto_lines-cons last line (b ∷ l) ls)
    ∙ transcript_first w (line ++ b ∷ l) (line ++ l) ls ts (omega (arith, length-append line (b ∷ l))) (omega (arith, length-append line l))
    ∙ ap (λ x. transcript w x ts) (sym (onto_lines-cons last line l ls))

cases_room : (n : ℕ) → n ≤ 257 → (n ≤ 256) ⊎ (n ≡ 257)
cases_room n h = grind arith

-- A byte appended to a line, whether it is stored or not.
pub grown_alike : (last : Bool) (w : SessionState) (line : List ℕ) (b : ℕ) (more : List ℕ) (ts : List Answer) → IsPending line → (b == 10) ≡ false → transcript w (lines_by last (line ++ b ∷ more)) ts ≡ transcript w (lines_by last (grown line b ++ more)) ts
grown_alike last w line b more ts p e =
    elim (cases_room (length line) p.short) as (λ _. transcript w (lines_by last (line ++ b ∷ more)) ts ≡ transcript w (lines_by last (grown line b ++ more)) ts) [
      | inl room ↦ ap (λ x. transcript w (lines_by last x) ts) (sym (append_assoc line (b ∷ []) more) ∙ ap (λ l. l ++ more) (sym (grown_room line b room)))
      | inr full ↦
          let there : lines_by last (line ++ b ∷ more) ≡ onto_lines last line (onto_line last b (lines_by last more)) = lines_by-plain last line (b ∷ more) p.plain ∙ ap (onto_lines last line) (rw e) in
          let here : lines_by last (grown line b ++ more) ≡ onto_lines last line (lines_by last more) = ap (λ l. lines_by last (l ++ more)) (grown_full line b full) ∙ lines_by-plain last line more p.plain in
          ap (λ x. transcript w x ts) there ∙ long_byte last w line b (lines_by last more) ts full ∙ ap (λ x. transcript w x ts) (sym here)
    ]

-- ---- Lines after one that ends the session

-- If one of these lines ends the session, the lines after them change nothing.
abbrev QuitLater : List (List ℕ) → List (List ℕ) → Type 0
QuitLater ls more = (w : SessionState) (us : List Answer) → (transcript w ls us).quits ≡ true → transcript w (ls ++ more) us ≡ transcript w ls us

quit_reply : (quit : Bool) (next : SessionState) (text : List ℕ) (ts : List Answer) (ls more : List (List ℕ)) → QuitLater ls more → (prepended text (cond quit (ended next true (Some ts)) (transcript next ls ts))).quits ≡ true
    → prepended text (cond quit (ended next true (Some ts)) (transcript next (ls ++ more) ts)) ≡ prepended text (cond quit (ended next true (Some ts)) (transcript next ls ts))
quit_reply true next text ts ls more f h = refl
quit_reply false next text ts ls more f h = ap (prepended text) (f next ts h)

quit_rest : (v : SessionState) (l : List ℕ) (o : Option Given) (ls more : List (List ℕ)) → QuitLater ls more → (line_on v l o (λ w us. transcript w ls us)).quits ≡ true
    → line_on v l o (λ w us. transcript w (ls ++ more) us) ≡ line_on v l o (λ w us. transcript w ls us)
quit_rest v l None ls more f h = absurd (cc)
quit_rest v l (Some g) ls more f h = quit_reply (reply v l g.answer).quits (reply v l g.answer).next (reply v l g.answer).text g.left ls more f h

pub transcript_quit : (ls more : List (List ℕ)) (v : SessionState) (ts : List Answer) → (transcript v ls ts).quits ≡ true → transcript v (ls ++ more) ts ≡ transcript v ls ts
transcript_quit [] more v ts h = absurd (cc)
transcript_quit (l ∷ ls) more v ts h = quit_rest v l (given_to (asks l) ts) ls more (λ w us k. transcript_quit ls more w us k) h
