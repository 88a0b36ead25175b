-- Reads, and the end of the input.
use Rattle.std.proofs.Common.{◌≡◌, ◌⊎◌, inl, inr, ℕ, take, ◌<◌, List, [], ◌∷◌, ◌++◌, length, Bool, true, false, cond, Option, Some, None, refl, sym, ap, ◌∙◌, subst, append_assoc, append-nil}
use Rattle.std.proofs.KnownBytes.{Appends-nil, Appends-trans, Consumes-nil, Consumes-trans, Consumes-kept}
use Rattle.std.specs.Io.KnownBytes.{Appends, Consumes, Keeps, IsAtEnd}
use Rattle.whole_files.specs.Writes.{WritesFront}
use Rattle.debug_server.specs.SessionStates.{SessionState}
use Rattle.debug_server.specs.Replies.{Answer, Reply, reply}
use Rattle.debug_server.specs.Lines.{lines_of, ended_lines}
use Rattle.debug_server.specs.Transcripts.{asks, Transcript, transcript, prepended, ended, output, streams, Served, Broke}
use Rattle.debug_server.specs.declared.faults.ServeFault.{ServeFault}
use Rattle.debug_server.specs.declared.faults.ServeFault.TheVariants.{Read}
use Rattle.debug_server.specs.Pending.{IsPending, Fills, Breaks, IsOfReplying, Ends, Reads}
use Rattle.debug_server.proofs.Bytes.{lines_of-last, ended_lines-plain}
use Rattle.debug_server.proofs.Turns.{Takes, NoneOver, over_nil, transcript_line, lacking}
use Rattle.debug_server.proofs.Feeding.{fills_start, fills_trans, breaks_later, transcript_later, fed_whole}

after_quit : (q : Bool) (r : Reply) → prepended r.text (cond q (ended r.next true (Some [])) (ended r.next false (Some []))) ≡ record { text = r.text; next = r.next; quits = q; left = Some [] }
after_quit true r = ap (λ (x : List ℕ). let u : Transcript = record { text = x; next = r.next; quits = true; left = Some [] } in u) (append-nil r.text)
after_quit false r = ap (λ (x : List ℕ). let u : Transcript = record { text = x; next = r.next; quits = false; left = Some [] } in u) (append-nil r.text)

-- The transcript of a last line alone.
pub last_line : (w : SessionState) (line : List ℕ) (given : List Answer) (answer : Answer) → IsPending line → 0 < length line → Takes (asks line) given answer → transcript w (lines_of line) given ≡ record { text = (reply w line answer).text; next = (reply w line answer).next; quits = (reply w line answer).quits; left = Some [] }
last_line w line given answer p some fits =
    ap (λ ls. transcript w ls given) (lines_of-last line p.plain some)
    ∙ ap (transcript w (line ∷ [])) (sym (append-nil given))
    ∙ transcript_line w line [] given [] answer fits
    ∙ after_quit (reply w line answer).quits (reply w line answer)

pub ends_line : (w w' : SessionState) (line : List ℕ) (given : List Answer) (answer : Answer) (h h' : Option (List ℕ)) (q : Bool) → IsPending line → 0 < length line → Takes (asks line) given answer → Appends h h' (reply w line answer).text → w' ≡ (reply w line answer).next → q ≡ (reply w line answer).quits → Ends w line given h h' q w'
ends_line w w' line given answer h h' q p some fits a n s = record {
  text = (reply w line answer).text;
  written = a;
  whole = last_line w line given answer p some fits
      ∙ ap (λ (v : SessionState). let u : Transcript = record { text = (reply w line answer).text; next = v; quits = (reply w line answer).quits; left = Some [] } in u) (sym n)
      ∙ ap (λ (z : Bool). let u : Transcript = record { text = (reply w line answer).text; next = w'; quits = z; left = Some [] } in u) (sym s);
}

-- An empty last line has no reply.
pub ends_empty : (w : SessionState) (line : List ℕ) (h : Option (List ℕ)) → line ≡ [] → Ends w line [] h h false w
ends_empty w line h e = record { text = []; written = Appends-nil h; whole = ap (λ l. transcript w (lines_of l) []) e }

pub front_line : (w : SessionState) (line : List ℕ) (given : List Answer) (answer : Answer) (h h' : Option (List ℕ)) → IsPending line → 0 < length line → Takes (asks line) given answer → WritesFront h h' (reply w line answer).text → WritesFront h h' (output w (lines_of line) given)
front_line w line given answer h h' p some fits f =
    let P : List ℕ → Type 0 = λ t. WritesFront h h' t in
    subst P (sym (ap (λ (x : Transcript). x.text) (last_line w line given answer p some fits))) f

-- ---- Reads

pub reads_start : (w : SessionState) (r h : Option (List ℕ)) → Reads w r r h h [] w []
reads_start w r h = record { taken = []; read = Consumes-nil r; fills = fills_start w [] h }

pub reads_on : (w v u : SessionState) (r r' r'' h h' h'' : Option (List ℕ)) (ts ts' : List Answer) (line bytes line' : List ℕ) → Reads w r r' h h' ts v line → Consumes r' r'' bytes → Fills v (line ++ bytes) ts' h' h'' false u line' → Reads w r r'' h h'' (ts ++ ts') u line'
reads_on w v u r r' r'' h h' h'' ts ts' line bytes line' f c g = record {
  taken = f.taken ++ bytes;
  read = Consumes-trans r r' r'' f.taken bytes f.read c;
  fills = fills_trans w v u f.taken line bytes line' ts ts' h h' h'' false f.fills g;
}

-- The bytes read have a known transcript.
served_by : (w u : SessionState) (r r' h h' : Option (List ℕ)) (ts : List Answer) (taken text : List ℕ) (lines : List (List ℕ)) (q : Bool) → Consumes r r' taken → Appends h h' text → transcript w lines ts ≡ record { text = text; next = u; quits = q; left = Some [] } → ((lines ≡ ended_lines taken) × (q ≡ true)) ⊎ ((lines ≡ lines_of taken) × IsAtEnd r') → Served w (streams r h) (streams r' h') ts u q
served_by w u r r' h h' ts taken text lines q c a e cut = record {
  taken = taken;
  read = c;
  lines = lines;
  cut = cut;
  written = subst (Appends h h') (sym (ap (λ (x : Transcript). x.text) e)) a;
  next = sym (ap (λ (x : Transcript). x.next) e);
  quit = sym (ap (λ (x : Transcript). x.quits) e);
  asked = ap (λ (x : Transcript). x.left) e;
}

-- A line ended the session.
pub served_quit : (w v u : SessionState) (r r' r'' h h' h'' : Option (List ℕ)) (ts ts' : List Answer) (line bytes line' : List ℕ) → Reads w r r' h h' ts v line → Consumes r' r'' bytes → Fills v (line ++ bytes) ts' h' h'' true u line' → Served w (streams r h) (streams r'' h'') (ts ++ ts') u true
served_quit w v u r r' r'' h h' h'' ts ts' line bytes line' f c g =
    let all = fills_trans w v u f.taken line bytes line' ts ts' h h' h'' true f.fills g in
    served_by w u r r'' h h'' (ts ++ ts') (f.taken ++ bytes) all.written (ended_lines (f.taken ++ bytes)) true
    (Consumes-trans r r' r'' f.taken bytes f.read c) all.appended
    (fed_whole false w u (f.taken ++ bytes) (ts ++ ts') all.written true line' all.fed ∙ ap (λ (x : List ℕ). let t : Transcript = record { text = x; next = u; quits = true; left = Some [] } in t) (append-nil all.written))
    (inl (refl, refl))

-- The input ended.
pub served_end : (w v u : SessionState) (r r' r'' h h' h'' : Option (List ℕ)) (ts ts' : List Answer) (line : List ℕ) (q : Bool) → Reads w r r' h h' ts v line → Consumes r' r'' [] → IsAtEnd r'' → Ends v line ts' h' h'' q u → Served w (streams r h) (streams r'' h'') (ts ++ ts') u q
served_end w v u r r' r'' h h' h'' ts ts' line q f c e g =
    served_by w u r r'' h h'' (ts ++ ts') (f.taken ++ []) (f.fills.written ++ g.text) (lines_of (f.taken ++ [])) q
    (Consumes-trans r r' r'' f.taken [] f.read c)
    (Appends-trans h h' h'' f.fills.written g.text f.fills.appended g.written)
    (f.fills.fed.law true [] ts' ∙ ap (λ l. prepended f.fills.written (transcript v (lines_of l) ts')) (append-nil line) ∙ ap (prepended f.fills.written) g.whole)
    (inr (refl, e))

-- Every complete line was answered.
reads_whole : (w v : SessionState) (r r' h h' : Option (List ℕ)) (ts : List Answer) (line : List ℕ) (f : Reads w r r' h h' ts v line) → IsPending line → transcript w (ended_lines f.taken) ts ≡ record { text = f.fills.written; next = v; quits = false; left = Some [] }
reads_whole w v r r' h h' ts line f p =
    fed_whole false w v f.taken ts f.fills.written false line f.fills.fed
    ∙ ap (λ ls. prepended f.fills.written (transcript v ls [])) (ended_lines-plain line p.plain)
    ∙ ap (λ (x : List ℕ). let t : Transcript = record { text = x; next = v; quits = false; left = Some [] } in t) (append-nil f.fills.written)

-- A read failed.
pub broke_read : (w v : SessionState) (r r' r'' h h' : Option (List ℕ)) (ts : List Answer) (line : List ℕ) (fault : ServeFault) → Reads w r r' h h' ts v line → Keeps r' r'' → IsPending line → Broke w (streams r h) (streams r'' h') ts fault
broke_read w v r r' r'' h h' ts line fault f k p =
    let all = reads_whole w v r r' h h' ts line f p in
    let text : output w (ended_lines f.taken) ts ≡ f.fills.written = ap (λ (x : Transcript). x.text) all in
    record {
      taken = f.taken;
      read = Consumes-kept r r' r'' f.taken f.read k;
      lines = ended_lines f.taken;
      cut = inl refl;
      front = f.fills.written;
      rest = [];
      begins = text ∙ sym (append-nil f.fills.written);
      written = f.fills.appended;
      asked = let P : Transcript → Type 0 = λ x. NoneOver x.left in subst P (sym all) over_nil;
      whole = λ _. record { text = sym text; open_yet = ap (λ (x : Transcript). x.quits) all; asked = ap (λ (x : Transcript). x.left) all };
    }

-- The rest of the transcript of everything that was read.
pub ended_later : (w v : SessionState) (r r' h h' : Option (List ℕ)) (ts ts' : List Answer) (line : List ℕ) (f : Reads w r r' h h' ts v line) → transcript w (lines_of (f.taken ++ [])) (ts ++ ts') ≡ prepended f.fills.written (transcript v (lines_of line) ts')
ended_later w v r r' h h' ts ts' line f = f.fills.fed.law true [] ts' ∙ ap (λ l. prepended f.fills.written (transcript v (lines_of l) ts')) (append-nil line)

pub fed_later : (w v : SessionState) (r r' h h' : Option (List ℕ)) (ts ts' : List Answer) (line bytes : List ℕ) (f : Reads w r r' h h' ts v line) → transcript w (ended_lines (f.taken ++ bytes)) (ts ++ ts') ≡ prepended f.fills.written (transcript v (ended_lines ((line ++ bytes) ++ [])) ts')
fed_later w v r r' h h' ts ts' line bytes f = ap (λ l. transcript w (ended_lines l) (ts ++ ts')) (sym (append-nil (f.taken ++ bytes))) ∙ transcript_later w v f.taken line bytes ts ts' h h' f.fills []

-- The last line queries the source, and gets no answer.
pub last_lacking : (v : SessionState) (line : List ℕ) → IsPending line → 0 < length line → asks line ≡ true → (transcript v (lines_of line) []).left ≡ None
last_lacking v line p some h = ap (λ ls. (transcript v ls []).left) (lines_of-last line p.plain some) ∙ lacking v line [] h

-- No answer is left over after the last line.
pub last_used : (v : SessionState) (line : List ℕ) (given : List Answer) (answer : Answer) → IsPending line → 0 < length line → Takes (asks line) given answer → NoneOver (transcript v (lines_of line) given).left
last_used v line given answer p some fits = let P : Transcript → Type 0 = λ x. NoneOver x.left in subst P (sym (last_line v line given answer p some fits)) over_nil

-- A fault of replying isn't a fault of reading.
pub not_reading : {X : Type 0} → (fault : ServeFault) → IsOfReplying fault → fault ≡ Read → X
not_reading fault h e = absurd (let P : ServeFault → Type 0 = λ x. IsOfReplying x in subst P e h)

-- The reply to the last line was truncated.
abbrev pub broke_end : (w v : SessionState) (r r' r'' h h' h'' : Option (List ℕ)) (ts ts' : List Answer) (line : List ℕ) (fault : ServeFault) (f : Reads w r r' h h' ts v line) → Consumes r' r'' [] → IsAtEnd r'' → IsOfReplying fault → WritesFront h' h'' (output v (lines_of line) ts') → NoneOver (transcript v (lines_of line) ts').left → Broke w (streams r h) (streams r'' h'') (ts ++ ts') fault
broke_end w v r r' r'' h h' h'' ts ts' line fault f c e k g u = record {
  taken = f.taken ++ [];
  read = Consumes-trans r r' r'' f.taken [] f.read c;
  lines = lines_of (f.taken ++ []);
  cut = inr (refl, e);
  front = f.fills.written ++ g.front;
  rest = g.rest;
  begins = ap (λ (x : Transcript). x.text) (ended_later w v r r' h h' ts ts' line f) ∙ ap (λ l. f.fills.written ++ l) g.whole ∙ sym (append_assoc f.fills.written g.front g.rest);
  written = Appends-trans h h' h'' f.fills.written g.front f.fills.appended g.appended;
  asked = let P : Transcript → Type 0 = λ x. NoneOver x.left in subst P (sym (ended_later w v r r' h h' ts ts' line f)) u;
  whole = not_reading fault k;
}

-- The reply to some line was truncated.
abbrev pub broke_feed : (w v : SessionState) (r r' r'' h h' h'' : Option (List ℕ)) (ts ts' : List Answer) (line bytes : List ℕ) (fault : ServeFault) → Reads w r r' h h' ts v line → Consumes r' r'' bytes → IsOfReplying fault → Breaks v (line ++ bytes) ts' h' h'' → Broke w (streams r h) (streams r'' h'') (ts ++ ts') fault
broke_feed w v r r' r'' h h' h'' ts ts' line bytes fault f c k g =
    let all = breaks_later w v f.taken line bytes ts ts' h h' h'' f.fills g in
    record {
      taken = f.taken ++ bytes;
      read = Consumes-trans r r' r'' f.taken bytes f.read c;
      lines = ended_lines (f.taken ++ bytes);
      cut = inl refl;
      front = all.front;
      rest = (all.begins [] []).0;
      begins = ap (λ l. output w (ended_lines l) (ts ++ ts')) (sym (append-nil (f.taken ++ bytes))) ∙ ap (output w (ended_lines ((f.taken ++ bytes) ++ []))) (sym (append-nil (ts ++ ts'))) ∙ (all.begins [] []).1;
      written = all.appended;
      asked = let P : Transcript → Type 0 = λ x. NoneOver x.left in subst P (sym (fed_later w v r r' h h' ts ts' line bytes f)) (g.asked []);
      whole = not_reading fault k;
    }

-- A read of no bytes into a buffer that has room.
pub record AtEnd (r r' : Option (List ℕ)) : Type 0 where
  pub none : Consumes r r' []
  pub over : IsAtEnd r'

pub at_end : (r r' : Option (List ℕ)) (buffer : List ℕ) (n : ℕ) → n ≡ 0 → 0 < length buffer → Consumes r r' (take n buffer) × (n ≡ 0 → 0 < length buffer → IsAtEnd r') → AtEnd r r'
at_end r r' buffer n e room h = record { none = subst (Consumes r r') (ap (λ m. take m buffer) e) h.0; over = h.1 e room }

pub ends_at : (v u : SessionState) (line text : List ℕ) (ts : List Answer) (h h' : Option (List ℕ)) (q : Bool) → text ≡ line → Ends v text ts h h' q u → Ends v line ts h h' q u
ends_at v u line text ts h h' q e f = let P : List ℕ → Type 0 = λ l. Ends v l ts h h' q u in subst P e f
