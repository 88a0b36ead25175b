-- Transcripts without a source: every answer is `None`, and their number doesn't matter.
use Rattle.std.proofs.Common.{◌≡◌, ◌⊎◌, inl, inr, ℕ, suc, ◌≤◌, List, [], ◌∷◌, ◌++◌, length, Bool, true, false, cond, Some, None, refl, sym, ap, ◌∙◌, subst, arith, append-nil}
use Rattle.std.specs.Io.KnownBytes.{IsAtEnd}
use Rattle.debug_server.specs.SessionStates.{SessionState}
use Rattle.debug_server.specs.Replies.{Answer, Reply, reply}
use Rattle.debug_server.specs.Lines.{lines_of, ended_lines}
use Rattle.debug_server.specs.Transcripts.{asks, given_to, line_on, Transcript, transcript, prepended, ended, output, Asked, Unanswered, unanswered, Streams, streams, Served, Broke}
use Rattle.debug_server.specs.SessionStates.{SessionValue}
use Rattle.debug_server.specs.declared.faults.ServeFault.{ServeFault}
use Rattle.debug_server.specs.declared.faults.RunFault.TheVariants.{Serve}
use Rattle.debug_server.proofs.Bytes.{ended_stay}
use Rattle.debug_server.proofs.Turns.{transcript_quit}

-- Without a source, every query gets `None`.
pub none_asked : {S : Type 0} (a c : S) (ts : List Answer) → Asked (λ _ answer _. answer ≡ None) a ts c → Unanswered ts
none_asked a c [] h = tt
none_asked a c (t ∷ ts) h = (h.1, none_asked h.0 c ts h.2)

pub unanswered_all : (ls : List (List ℕ)) → Unanswered (unanswered ls)
unanswered_all [] = tt
unanswered_all (l ∷ ls) = (refl, unanswered_all ls)

length_unanswered : (ls : List (List ℕ)) → length (unanswered ls) ≡ length ls
length_unanswered [] = refl
length_unanswered (l ∷ ls) = ap suc (length_unanswered ls)

-- Two transcripts have the same text, and both or neither end the session.
pub record Alike (t u : Transcript) : Type 0 where
  pub text : t.text ≡ u.text
  pub quits : t.quits ≡ u.quits

-- The transcript from one line on, given whether the line queries the source.
abbrev first : Bool → SessionState → List ℕ → List (List ℕ) → List Answer → Transcript
first q v l ls ts = line_on v l (given_to q ts) (λ w us. transcript w ls us)

-- The claim for these lines, if the first list of answers is used up.
abbrev Same : List (List ℕ) → Type 0
Same ls = (v : SessionState) (ts us : List Answer) → Unanswered ts → Unanswered us → length ls ≤ length us → (transcript v ls ts).left ≡ Some [] → Alike (transcript v ls us) (transcript v ls ts)

-- The step after a reply.
rest_alike : (r : Reply) (ls : List (List ℕ)) (ts us : List Answer) → Same ls → Unanswered ts → Unanswered us → length ls ≤ length us → (q : Bool) → (cond q (ended r.next true (Some ts)) (transcript r.next ls ts)).left ≡ Some [] → Alike (prepended r.text (cond q (ended r.next true (Some us)) (transcript r.next ls us))) (prepended r.text (cond q (ended r.next true (Some ts)) (transcript r.next ls ts)))
rest_alike r ls ts us f a b n true h = record { text = refl; quits = refl }
rest_alike r ls ts us f a b n false h = let k = f r.next ts us a b n h in record { text = ap (λ x. r.text ++ x) k.text; quits = k.quits }

first_alike : (q : Bool) (v : SessionState) (l : List ℕ) (ls : List (List ℕ)) (ts us : List Answer) → Same ls → Unanswered ts → Unanswered us → length (l ∷ ls) ≤ length us → (first q v l ls ts).left ≡ Some [] → Alike (first q v l ls us) (first q v l ls ts)
first_alike false v l ls ts us f a b n h = rest_alike (reply v l None) ls ts us f a b (omega arith) (reply v l None).quits h
first_alike true v l ls [] us f a b n h = absurd (cc)
first_alike true v l ls (t ∷ ts) [] f a b n h = absurd (omega arith)
first_alike true v l ls (t ∷ ts) (u ∷ us) f a b n h =
    let P : Answer → Type 0 = λ x. (first true v l ls (x ∷ ts)).left ≡ Some [] in
    let Q : Answer → Type 0 = λ x. Alike (first true v l ls (u ∷ us)) (first true v l ls (x ∷ ts)) in
    let R : Answer → Type 0 = λ x. Alike (first true v l ls (x ∷ us)) (first true v l ls (None ∷ ts)) in
    subst Q (sym a.0) (subst R (sym b.0) (rest_alike (reply v l None) ls ts us f a.1 b.1 (omega arith) (reply v l None).quits (subst P a.0 h)))

alike : (ls : List (List ℕ)) → Same ls
alike [] v ts us a b n h = record { text = refl; quits = refl }
alike (l ∷ ls) v ts us a b n h = first_alike (asks l) v l ls ts us (λ w xs ys c d m k. alike ls w xs ys c d m k) a b n h

-- If input and output are in memory, the replies to the whole input were written.
served_input : (v v' : SessionState) (input rest before out : List ℕ) (ts : List Answer) (q : Bool) (s : Served v (streams (Some input) (Some before)) (streams (Some rest) (Some out)) ts v' q) → transcript v (lines_of input) ts ≡ transcript v s.lines ts
served_input v v' input rest before out ts q s = ap (λ l. transcript v (lines_of l) ts) s.read ∙ by s.cut
  where
    by : ((s.lines ≡ ended_lines s.taken) × (q ≡ true)) ⊎ ((s.lines ≡ lines_of s.taken) × IsAtEnd (Some rest)) → transcript v (lines_of (s.taken ++ rest)) ts ≡ transcript v s.lines ts
    by (inl c) =
        let more = ended_stay s.taken rest in
        ap (λ ls. transcript v ls ts) (more.1 ∙ ap (λ ls. ls ++ more.0) (sym c.0))
        ∙ transcript_quit s.lines more.0 v ts (sym s.quit ∙ c.1)
    by (inr c) = ap (λ l. transcript v (lines_of (s.taken ++ l)) ts) c.1 ∙ ap (λ l. transcript v (lines_of l) ts) (append-nil s.taken) ∙ ap (λ ls. transcript v ls ts) (sym c.0)

pub replied : (v v' : SessionState) (input rest before out : List ℕ) (ts : List Answer) (q : Bool) → before ≡ [] → Unanswered ts → Served v (streams (Some input) (Some before)) (streams (Some rest) (Some out)) ts v' q → out ≡ output v (lines_of input) (unanswered (lines_of input))
replied v v' input rest before out ts q e a s =
    let ls = lines_of input in
    let whole = served_input v v' input rest before out ts q s in
    let k : Alike (transcript v ls (unanswered ls)) (transcript v ls ts) = alike ls v ts (unanswered ls) a (unanswered_all ls) (let n = length_unanswered ls in omega (arith, n)) (ap (λ (x : Transcript). x.left) whole ∙ s.asked) in
    s.written ∙ ap (λ l. l ++ output v s.lines ts) e ∙ ap (λ (x : Transcript). x.text) (sym whole) ∙ sym k.text

-- The same for a session whose value is known.
pub served_at : (t : SessionValue) (v v' : SessionState) (before after : Streams) (ts : List Answer) (q : Bool) → t ≡ record { state = v; is_closed = false } → Served t.state before after ts v' q → Served v before after ts v' q
served_at t v v' before after ts q e s = let P : SessionValue → Type 0 = λ x. Served x.state before after ts v' q in subst P e s

pub broke_at : (t : SessionValue) (v : SessionState) (before after : Streams) (ts : List Answer) (fault f : ServeFault) → t ≡ record { state = v; is_closed = false } → Serve fault ≡ Serve f → Broke t.state before after ts fault → Broke v before after ts f
broke_at t v before after ts fault f e k s =
    let same : fault ≡ f = cc in
    let P : SessionValue → Type 0 = λ x. Broke x.state before after ts fault in
    let Q : ServeFault → Type 0 = λ x. Broke v before after ts x in
    subst Q same (subst P e s)

pub open_at : (t : SessionValue) (v : SessionState) → t ≡ record { state = v; is_closed = false } → t.is_closed ≡ false
open_at t v e = ap (λ (x : SessionValue). x.is_closed) e
