-- How each byte changes what was written and what is still to be written.
use Rattle.std.proofs.lemmas.List.{take_more}
use Rattle.std.proofs.Common.{◌≡◌, ℕ, ◌+◌, take, drop, get_or, take-append-drop, ◌==◌, ◌<◌, List, [], ◌∷◌, ◌++◌, length, Bool, true, false, Option, None, refl, sym, ap, ◌∙◌, subst, append_assoc, append-nil}
use Rattle.std.proofs.KnownBytes.{Appends-nil, Appends-trans}
use Rattle.std.specs.Io.KnownBytes.{Appends}
use Rattle.whole_files.specs.Writes.{WritesFront}
use Rattle.debug_server.specs.SessionStates.{SessionState}
use Rattle.debug_server.specs.Replies.{Answer, reply}
use Rattle.debug_server.specs.Lines.{lines_by, ended_lines}
use Rattle.debug_server.specs.Transcripts.{asks, Transcript, transcript, prepended, output}
use Rattle.debug_server.specs.Pending.{IsPending, grown, rest_of, Fed, Fills, Breaks}
use Rattle.debug_server.proofs.Bytes.{lines_by-ended}
use Rattle.debug_server.proofs.Turns.{Takes, NoneOver, transcript_line, prepended_prepended, grown_alike, rest_asked}

pub fed_start : (w : SessionState) (line : List ℕ) → Fed w line [] [] false w line
fed_start w line = record { law = λ last more others. refl }

-- A byte that isn't a newline.
pub fed_byte : (w w' : SessionState) (bytes : List ℕ) (ts : List Answer) (written line : List ℕ) (b : ℕ) → Fed w bytes ts written false w' line → IsPending line → (b == 10) ≡ false → Fed w (bytes ++ b ∷ []) ts written false w' (grown line b)
fed_byte w w' bytes ts written line b f p e = record {
  law = λ last more others. ap (λ l. transcript w (lines_by last l) (ts ++ others)) (append_assoc bytes (b ∷ []) more) ∙ f.law last (b ∷ more) others ∙ ap (prepended written) (grown_alike last w' line b more others p e);
}

-- A newline.
pub fed_ended : (w w' : SessionState) (bytes : List ℕ) (ts given : List Answer) (answer : Answer) (written line : List ℕ) → Fed w bytes ts written false w' line → IsPending line → Takes (asks line) given answer → Fed w (bytes ++ 10 ∷ []) (ts ++ given) (written ++ (reply w' line answer).text) (reply w' line answer).quits (reply w' line answer).next []
fed_ended w w' bytes ts given answer written line f p fits = record {
  law = λ last more others.
      ap (λ l. transcript w (lines_by last l) ((ts ++ given) ++ others)) (append_assoc bytes (10 ∷ []) more)
      ∙ ap (λ l. transcript w (lines_by last (bytes ++ 10 ∷ more)) l) (append_assoc ts given others)
      ∙ f.law last (10 ∷ more) (given ++ others)
      ∙ ap (λ ls. prepended written (transcript w' ls (given ++ others))) (lines_by-ended last line more p.plain)
      ∙ ap (prepended written) (transcript_line w' line (lines_by last more) given others answer fits)
      ∙ prepended_prepended written (reply w' line answer).text (rest_of last (reply w' line answer).quits (reply w' line answer).next more others);
}

-- Bytes after a line that ended the session.
pub fed_past : (w w' : SessionState) (bytes rest : List ℕ) (ts : List Answer) (written line line' : List ℕ) → Fed w bytes ts written true w' line → Fed w (bytes ++ rest) ts written true w' line'
fed_past w w' bytes rest ts written line line' f = record {
  law = λ last more others. ap (λ l. transcript w (lines_by last l) (ts ++ others)) (append_assoc bytes rest more) ∙ f.law last (rest ++ more) others;
}

-- Two sequences of bytes, one after the other.
pub fed_trans : (w v u : SessionState) (bytes line bytes' line' : List ℕ) (ts ts' : List Answer) (written written' : List ℕ) (q : Bool) → Fed w bytes ts written false v line → Fed v (line ++ bytes') ts' written' q u line' → Fed w (bytes ++ bytes') (ts ++ ts') (written ++ written') q u line'
fed_trans w v u bytes line bytes' line' ts ts' written written' q f g = record {
  law = λ last more others.
      ap (λ l. transcript w (lines_by last l) ((ts ++ ts') ++ others)) (append_assoc bytes bytes' more)
      ∙ ap (λ l. transcript w (lines_by last (bytes ++ (bytes' ++ more))) l) (append_assoc ts ts' others)
      ∙ f.law last (bytes' ++ more) (ts' ++ others)
      ∙ ap (λ l. prepended written (transcript v (lines_by last l) (ts' ++ others))) (sym (append_assoc line bytes' more))
      ∙ ap (prepended written) (g.law last more others)
      ∙ prepended_prepended written written' (rest_of last q u (line' ++ more) others);
}

-- The bytes alone, with nothing after them.
pub fed_whole : (last : Bool) (w w' : SessionState) (bytes : List ℕ) (ts : List Answer) (written : List ℕ) (q : Bool) (line : List ℕ) → Fed w bytes ts written q w' line → transcript w (lines_by last bytes) ts ≡ prepended written (rest_of last q w' line [])
fed_whole last w w' bytes ts written q line f =
    ap (λ l. transcript w (lines_by last l) ts) (sym (append-nil bytes))
    ∙ ap (transcript w (lines_by last (bytes ++ []))) (sym (append-nil ts))
    ∙ f.law last [] []
    ∙ ap (λ l. prepended written (rest_of last q w' l [])) (append-nil line)

-- ---- The same with the writer's contents

pub fills_start : (w : SessionState) (line : List ℕ) (h : Option (List ℕ)) → Fills w line [] h h false w line
fills_start w line h = record { written = []; appended = Appends-nil h; fed = fed_start w line }

pub fills_byte : (w : SessionState) (line : List ℕ) (b : ℕ) (h : Option (List ℕ)) → IsPending line → (b == 10) ≡ false → Fills w (line ++ b ∷ []) [] h h false w (grown line b)
fills_byte w line b h p e = record { written = []; appended = Appends-nil h; fed = fed_byte w w line [] [] line b (fed_start w line) p e }

pub fills_ended : (w : SessionState) (line : List ℕ) (given : List Answer) (answer : Answer) (h h' : Option (List ℕ)) → IsPending line → Takes (asks line) given answer → Appends h h' (reply w line answer).text → Fills w (line ++ 10 ∷ []) given h h' (reply w line answer).quits (reply w line answer).next []
fills_ended w line given answer h h' p fits a = record { written = (reply w line answer).text; appended = a; fed = fed_ended w w line [] given answer [] line (fed_start w line) p fits }

pub fills_trans : (w v u : SessionState) (bytes line bytes' line' : List ℕ) (ts ts' : List Answer) (h h' h'' : Option (List ℕ)) (q : Bool) → Fills w bytes ts h h' false v line → Fills v (line ++ bytes') ts' h' h'' q u line' → Fills w (bytes ++ bytes') (ts ++ ts') h h'' q u line'
fills_trans w v u bytes line bytes' line' ts ts' h h' h'' q f g = record {
  written = f.written ++ g.written;
  appended = Appends-trans h h' h'' f.written g.written f.appended g.appended;
  fed = fed_trans w v u bytes line bytes' line' ts ts' f.written g.written q f.fed g.fed;
}

pub fills_past : (w w' : SessionState) (bytes rest : List ℕ) (ts : List Answer) (line line' : List ℕ) (h h' : Option (List ℕ)) → Fills w bytes ts h h' true w' line → Fills w (bytes ++ rest) ts h h' true w' line'
fills_past w w' bytes rest ts line line' h h' f = record { written = f.written; appended = f.appended; fed = fed_past w w' bytes rest ts f.written line line' f.fed }

-- The reply to the line was truncated.
pub breaks_ended : (w : SessionState) (line : List ℕ) (given : List Answer) (answer : Answer) (h h' : Option (List ℕ)) → IsPending line → Takes (asks line) given answer → WritesFront h h' (reply w line answer).text → Breaks w (line ++ 10 ∷ []) given h h'
breaks_ended w line given answer h h' p fits f = record {
  front = f.front;
  appended = f.appended;
  begins = λ more others. let t = (fed_ended w w line [] given answer [] line (fed_start w line) p fits).law false more others in (
    f.rest ++ (rest_of false (reply w line answer).quits (reply w line answer).next more others).text,
    ap (λ (x : Transcript). x.text) t ∙ ap (λ l. l ++ (rest_of false (reply w line answer).quits (reply w line answer).next more others).text) f.whole ∙ append_assoc f.front f.rest (rest_of false (reply w line answer).quits (reply w line answer).next more others).text,
  );
  asked = λ more.
      let t = ap (transcript w (ended_lines ((line ++ 10 ∷ []) ++ more))) (sym (append-nil given)) ∙ (fed_ended w w line [] given answer [] line (fed_start w line) p fits).law false more [] in
      let P : Transcript → Type 0 = λ x. NoneOver x.left in
      subst P (sym t) (rest_asked false (reply w line answer).quits (reply w line answer).next more);
}

pub breaks_more : (w : SessionState) (bytes rest : List ℕ) (ts : List Answer) (h h' : Option (List ℕ)) → Breaks w bytes ts h h' → Breaks w (bytes ++ rest) ts h h'
breaks_more w bytes rest ts h h' b = record {
  front = b.front;
  appended = b.appended;
  begins = λ more others. ((b.begins (rest ++ more) others).0, ap (λ l. output w (ended_lines l) (ts ++ others)) (append_assoc bytes rest more) ∙ (b.begins (rest ++ more) others).1);
  asked = λ more. let P : List ℕ → Type 0 = λ l. NoneOver (transcript w (ended_lines l) ts).left in subst P (sym (append_assoc bytes rest more)) (b.asked (rest ++ more));
}

-- The transcript continues from the state after the processed bytes.
pub transcript_later : (w v : SessionState) (bytes line bytes' : List ℕ) (ts ts' : List Answer) (h h' : Option (List ℕ)) (f : Fills w bytes ts h h' false v line) (more : List ℕ) → transcript w (ended_lines ((bytes ++ bytes') ++ more)) (ts ++ ts') ≡ prepended f.written (transcript v (ended_lines ((line ++ bytes') ++ more)) ts')
transcript_later w v bytes line bytes' ts ts' h h' f more =
    ap (λ l. transcript w (ended_lines l) (ts ++ ts')) (append_assoc bytes bytes' more)
    ∙ f.fed.law false (bytes' ++ more) ts'
    ∙ ap (λ l. prepended f.written (transcript v (ended_lines l) ts')) (sym (append_assoc line bytes' more))

pub breaks_later : (w v : SessionState) (bytes line bytes' : List ℕ) (ts ts' : List Answer) (h h' h'' : Option (List ℕ)) → Fills w bytes ts h h' false v line → Breaks v (line ++ bytes') ts' h' h'' → Breaks w (bytes ++ bytes') (ts ++ ts') h h''
breaks_later w v bytes line bytes' ts ts' h h' h'' f b = record {
  front = f.written ++ b.front;
  appended = Appends-trans h h' h'' f.written b.front f.appended b.appended;
  begins = λ more others. (
    (b.begins more others).0,
    ap (λ l. output w (ended_lines l) ((ts ++ ts') ++ others)) (append_assoc bytes bytes' more)
        ∙ ap (λ l. output w (ended_lines (bytes ++ (bytes' ++ more))) l) (append_assoc ts ts' others)
        ∙ ap (λ (x : Transcript). x.text) (f.fed.law false (bytes' ++ more) (ts' ++ others))
        ∙ ap (λ l. f.written ++ output v (ended_lines l) (ts' ++ others)) (sym (append_assoc line bytes' more))
        ∙ ap (λ l. f.written ++ l) (b.begins more others).1
        ∙ sym (append_assoc f.written b.front (b.begins more others).0),
  );
  asked = λ more. let P : Transcript → Type 0 = λ x. NoneOver x.left in subst P (sym (transcript_later w v bytes line bytes' ts ts' h h' f more)) (b.asked more);
}

-- ---- In the form that the code needs

pub byte_at : (w : SessionState) (line line' : List ℕ) (b : ℕ) (h : Option (List ℕ)) → IsPending line → (b == 10) ≡ false → line' ≡ grown line b → Fills w (line ++ b ∷ []) [] h h false w line'
byte_at w line line' b h p e g = let P : List ℕ → Type 0 = λ l. Fills w (line ++ b ∷ []) [] h h false w l in subst P (sym g) (fills_byte w line b h p e)

pub ended_at : (w w' : SessionState) (line text line' : List ℕ) (given : List Answer) (answer : Answer) (b : ℕ) (q : Bool) (h h' : Option (List ℕ)) → IsPending line → Takes (asks text) given answer → b ≡ 10 → text ≡ line → Appends h h' (reply w text answer).text → w' ≡ (reply w text answer).next → q ≡ (reply w text answer).quits → line' ≡ [] → Fills w (line ++ b ∷ []) given h h' q w' line'
ended_at w w' line text line' given answer b q h h' p fits e t a n s l =
    let here : Fills w (text ++ 10 ∷ []) given h h' (reply w text answer).quits (reply w text answer).next [] =
    let P : List ℕ → Type 0 = λ x. IsPending x in fills_ended w text given answer h h' (subst P (sym t) p) fits a in
    let P1 : List ℕ → Type 0 = λ x. Fills w (x ++ 10 ∷ []) given h h' (reply w text answer).quits (reply w text answer).next [] in
    let P2 : ℕ → Type 0 = λ x. Fills w (line ++ x ∷ []) given h h' (reply w text answer).quits (reply w text answer).next [] in
    let P3 : Bool → Type 0 = λ x. Fills w (line ++ b ∷ []) given h h' x (reply w text answer).next [] in
    let P4 : SessionState → Type 0 = λ x. Fills w (line ++ b ∷ []) given h h' q x [] in
    let P5 : List ℕ → Type 0 = λ x. Fills w (line ++ b ∷ []) given h h' q w' x in
    subst P5 (sym l) (subst P4 (sym n) (subst P3 (sym s) (subst P2 (sym e) (subst P1 t here))))

pub cut_at : (w : SessionState) (line text : List ℕ) (given : List Answer) (answer : Answer) (b : ℕ) (h h' : Option (List ℕ)) → IsPending line → Takes (asks text) given answer → b ≡ 10 → text ≡ line → WritesFront h h' (reply w text answer).text → Breaks w (line ++ b ∷ []) given h h'
cut_at w line text given answer b h h' p fits e t f =
    let P : ℕ → Type 0 = λ x. Breaks w (line ++ x ∷ []) given h h' in
    let Q : List ℕ → Type 0 = λ x. WritesFront h h' (reply w x answer).text in
    let F : List ℕ → Type 0 = λ x. Takes (asks x) given answer in
    subst P (sym e) (breaks_ended w line given answer h h' p (subst F t fits) (subst Q t f))

-- One more byte of a slice, and the bytes after it.
seam : (line bytes : List ℕ) (i : ℕ) → i < length bytes → (line ++ take i bytes) ++ get_or bytes i 0 ∷ [] ≡ line ++ take (i + 1) bytes
seam line bytes i h = append_assoc line (take i bytes) (get_or bytes i 0 ∷ []) ∙ ap (λ l. line ++ l) (sym (take_more bytes i 0 h))

joined : (line bytes : List ℕ) (i : ℕ) → (line ++ take (i + 1) bytes) ++ drop (i + 1) bytes ≡ line ++ bytes
joined line bytes i = append_assoc line (take (i + 1) bytes) (drop (i + 1) bytes) ∙ ap (λ l. line ++ l) (take-append-drop (i + 1) bytes)

pub fed_on : (w v u : SessionState) (line bytes now line' : List ℕ) (ts ts' : List Answer) (i : ℕ) (h h' h'' : Option (List ℕ)) (q : Bool) → i < length bytes → Fills w (line ++ take i bytes) ts h h' false v now → Fills v (now ++ get_or bytes i 0 ∷ []) ts' h' h'' q u line' → Fills w (line ++ take (i + 1) bytes) (ts ++ ts') h h'' q u line'
fed_on w v u line bytes now line' ts ts' i h h' h'' q lt f g =
    let P : List ℕ → Type 0 = λ l. Fills w l (ts ++ ts') h h'' q u line' in
    subst P (seam line bytes i lt) (fills_trans w v u (line ++ take i bytes) now (get_or bytes i 0 ∷ []) line' ts ts' h h' h'' q f g)

pub fed_quit : (w v u : SessionState) (line bytes now line' : List ℕ) (ts ts' : List Answer) (i : ℕ) (h h' h'' : Option (List ℕ)) → i < length bytes → Fills w (line ++ take i bytes) ts h h' false v now → Fills v (now ++ get_or bytes i 0 ∷ []) ts' h' h'' true u line' → Fills w (line ++ bytes) (ts ++ ts') h h'' true u line'
fed_quit w v u line bytes now line' ts ts' i h h' h'' lt f g =
    let P : List ℕ → Type 0 = λ l. Fills w l (ts ++ ts') h h'' true u line' in
    subst P (joined line bytes i) (fills_past w u (line ++ take (i + 1) bytes) (drop (i + 1) bytes) (ts ++ ts') line' line' h h'' (fed_on w v u line bytes now line' ts ts' i h h' h'' true lt f g))

pub cut_on : (w v : SessionState) (line bytes now : List ℕ) (ts ts' : List Answer) (i : ℕ) (h h' h'' : Option (List ℕ)) → i < length bytes → Fills w (line ++ take i bytes) ts h h' false v now → Breaks v (now ++ get_or bytes i 0 ∷ []) ts' h' h'' → Breaks w (line ++ bytes) (ts ++ ts') h h''
cut_on w v line bytes now ts ts' i h h' h'' lt f b =
    let P : List ℕ → Type 0 = λ l. Breaks w l (ts ++ ts') h h'' in
    subst P (joined line bytes i) (breaks_more w (line ++ take (i + 1) bytes) (drop (i + 1) bytes) (ts ++ ts') h h''
    (subst P (seam line bytes i lt) (breaks_later w v (line ++ take i bytes) now (get_or bytes i 0 ∷ []) ts ts' h h' h'' f b)))

-- The remaining bytes need an answer that isn't there.
pub lacks_on : (w v : SessionState) (line bytes now : List ℕ) (ts ts' : List Answer) (i : ℕ) (h h' : Option (List ℕ)) → i < length bytes → Fills w (line ++ take i bytes) ts h h' false v now → ((more : List ℕ) → (transcript v (ended_lines ((now ++ get_or bytes i 0 ∷ []) ++ more)) ts').left ≡ None) → (more : List ℕ) → (transcript w (ended_lines ((line ++ bytes) ++ more)) (ts ++ ts')).left ≡ None
lacks_on w v line bytes now ts ts' i h h' lt f k more =
    let all : line ++ bytes ≡ ((line ++ take i bytes) ++ get_or bytes i 0 ∷ []) ++ drop (i + 1) bytes = sym (ap (λ l. l ++ drop (i + 1) bytes) (seam line bytes i lt) ∙ joined line bytes i) in
    ap (λ l. (transcript w (ended_lines (l ++ more)) (ts ++ ts')).left) all
    ∙ ap (λ l. (transcript w (ended_lines l) (ts ++ ts')).left) (append_assoc ((line ++ take i bytes) ++ get_or bytes i 0 ∷ []) (drop (i + 1) bytes) more)
    ∙ ap (λ (x : Transcript). x.left) (transcript_later w v (line ++ take i bytes) now (get_or bytes i 0 ∷ []) ts ts' h h' f (drop (i + 1) bytes ++ more))
    ∙ k (drop (i + 1) bytes ++ more)
