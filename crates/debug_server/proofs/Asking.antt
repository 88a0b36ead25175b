-- The effect of input bytes, with the answers that the source has given so far.
use Rattle.std.specs.Prelude.{◌≢◌, IfErr}
use Rattle.std.proofs.Common.{◌≡◌, inl, inr, ℕ, ◌+◌, ◌==◌, ◌<◌, List, [], ◌∷◌, ◌++◌, length, take, get_or, not, codes, Bool, true, false, Option, None, Result, Ok, Err, refl, sym, ap, ◌∙◌, subst, append_assoc}
use Rattle.std.proofs.KnownBytes.{Appends-nil}
use Rattle.std.specs.Str.{bytes_eq}
use Rattle.std.specs.Io.KnownBytes.{Appends, Consumes, Keeps, IsAtEnd}
use Rattle.whole_files.specs.Writes.{WritesFront}
use Rattle.debug_server.specs.SessionStates.{SessionState}
use Rattle.debug_server.specs.Replies.{Answer, reply}
use Rattle.debug_server.specs.Lines.{lines_of, ended_lines}
use Rattle.debug_server.specs.Transcripts.{asks, given_to, Transcript, transcript, output, streams, Asked, Served, BrokeBy}
use Rattle.debug_server.specs.declared.faults.ServeFault.{ServeFault}
use Rattle.debug_server.specs.declared.faults.ServeFault.TheVariants.{Memory, Closed}
use Rattle.debug_server.specs.Pending.{IsPending, grown, IsOfReplying, Gave, FillsBy, BreaksBy, EndsBy, FrontBy, ReadsBy}
use Rattle.debug_server.proofs.Bytes.{lines_by-ended}
use Rattle.debug_server.proofs.Turns.{alone_asked, lacking}
use Rattle.debug_server.proofs.Feeding.{byte_at, ended_at, cut_at, fed_on, fed_quit, cut_on, lacks_on, fills_start}
use Rattle.debug_server.proofs.Reading.{reads_start, reads_on, served_quit, served_end, broke_read, broke_end, broke_feed, ended_later, fed_later, last_lacking, last_used, ends_empty, ends_line, front_line, ends_at}

-- A line that differs from `sync` doesn't query the source.
pub silent_line : (line text : List ℕ) (r : Bool) → r ≡ not (bytes_eq line text) → text ≡ codes "sync" → r ≡ true → asks line ≡ false
unfolding asks
silent_line line text r e t h = ap (bytes_eq line) (sym t) ∙ no (bytes_eq line text) (sym e ∙ h)
  where
    no : (q : Bool) → not q ≡ true → q ≡ false
    no true k = absurd (cc)
    no false k = refl

pub asking_line : (line text : List ℕ) (r : Bool) → r ≡ not (bytes_eq line text) → text ≡ codes "sync" → r ≡ false → asks line ≡ true
unfolding asks
asking_line line text r e t h = ap (bytes_eq line) (sym t) ∙ yes (bytes_eq line text) (sym e ∙ h)
  where
    yes : (q : Bool) → not q ≡ false → q ≡ true
    yes true k = refl
    yes false k = absurd (cc)

-- A line that queries the source and gets no answer, with more bytes after it.
line_lacks : (v : SessionState) (line text : List ℕ) (b : ℕ) → IsPending line → b ≡ 10 → text ≡ line → asks text ≡ true → (more : List ℕ) → (transcript v (ended_lines ((line ++ b ∷ []) ++ more)) []).left ≡ None
line_lacks v line text b p e t h more =
    ap (λ x. (transcript v (ended_lines ((line ++ x ∷ []) ++ more)) []).left) e
    ∙ ap (λ l. (transcript v (ended_lines l) []).left) (append_assoc line (10 ∷ []) more)
    ∙ ap (λ ls. (transcript v ls []).left) (lines_by-ended false line more p.plain)
    ∙ lacking v line (ended_lines more) (ap asks (sym t) ∙ h)

module _ {S : Type 0} (gives : S → Answer → S → Type 0) where
  -- Two sequences of answers, one after the other.
  pub asked_trans : (a b c : S) (ts us : List Answer) → Asked gives a ts b → Asked gives b us c → Asked gives a (ts ++ us) c
  asked_trans a b c [] us h k = subst (λ (x : S). Asked gives x us c) h k
  asked_trans a b c (t ∷ ts) us h k = (h.0, h.1, asked_trans h.0 b c ts us h.2 k)

  -- ---- One line

  pub asked_none : (line : List ℕ) (s : S) → asks line ≡ false → Gave gives line s None s
  asked_none line s h = record {
    answers = [];
    asked = refl;
    given = ap (λ q. given_to q []) h;
  }

  pub asked_once : (line : List ℕ) (s s' : S) (answer : Answer) → asks line ≡ true → gives s answer s' → Gave gives line s answer s'
  asked_once line s s' answer h g = record {
    answers = answer ∷ [];
    asked = (s', g, refl);
    given = ap (λ q. given_to q (answer ∷ [])) h;
  }

  -- The same answer, borrowed.
  pub lent_gave : (line : List ℕ) (s s' : S) (t answer : Answer) → t ≡ answer → Gave gives line s answer s' → Gave gives line s t s'
  lent_gave line s s' t answer e g = let P : Answer → Type 0 = λ x. Gave gives line s x s' in subst P (sym e) g

  pub byte_by : (s : S) (v : SessionState) (line line' : List ℕ) (b : ℕ) (h : Option (List ℕ)) → IsPending line → (b == 10) ≡ false → line' ≡ grown line b → FillsBy gives s s v (line ++ b ∷ []) h h false v line'
  byte_by s v line line' b h p e g = record { answers = []; asked = refl; fills = byte_at v line line' b h p e g }

  pub ended_by : (s s' : S) (v v' : SessionState) (line text line' : List ℕ) (b : ℕ) (q : Bool) (answer : Answer) (h h' : Option (List ℕ)) → IsPending line → b ≡ 10 → text ≡ line → Gave gives text s answer s' → Appends h h' (reply v text answer).text → v' ≡ (reply v text answer).next → q ≡ (reply v text answer).quits → line' ≡ [] → FillsBy gives s s' v (line ++ b ∷ []) h h' q v' line'
  ended_by s s' v v' line text line' b q answer h h' p e t g a n k l = record {
    answers = g.answers;
    asked = g.asked;
    fills = ended_at v v' line text line' g.answers answer b q h h' p g.given e t a n k l;
  }

  pub cut_by : (fails : S → S → Type 0) (s s' : S) (fault : ServeFault) (v : SessionState) (line text : List ℕ) (b : ℕ) (answer : Answer) (h h' : Option (List ℕ)) → IsPending line → b ≡ 10 → text ≡ line → Gave gives text s answer s' → WritesFront h h' (reply v text answer).text → BreaksBy gives fails s s' fault v (line ++ b ∷ []) h h'
  cut_by fails s s' fault v line text b answer h h' p e t g f = record {
    answers = g.answers;
    mid = s';
    asked = g.asked;
    no_more = inl refl;
    breaks = cut_at v line text g.answers answer b h h' p g.given e t f;
  }

  -- The source gave no answer, so nothing was written.
  pub unasked_by : (fails : S → S → Type 0) (s s' : S) (fault : ServeFault) (v : SessionState) (line text : List ℕ) (b : ℕ) (h : Option (List ℕ)) → IsPending line → b ≡ 10 → text ≡ line → fault ≡ Memory → asks text ≡ true → fails s s' → BreaksBy gives fails s s' fault v (line ++ b ∷ []) h h
  unasked_by fails s s' fault v line text b h p e t m a k = record {
    answers = [];
    mid = s;
    asked = refl;
    no_more = inr (m, line_lacks v line text b p e t a, k);
    breaks = record {
      front = [];
      appended = Appends-nil h;
      begins = λ more others. (output v (ended_lines ((line ++ b ∷ []) ++ more)) others, refl);
      asked = λ more. alone_asked (ended_lines ((line ++ b ∷ []) ++ more)) v;
    };
  }

  -- ---- Several bytes

  pub fed_none : (s : S) (v : SessionState) (line : List ℕ) (h : Option (List ℕ)) → FillsBy gives s s v line h h false v line
  fed_none s v line h = record { answers = []; asked = refl; fills = fills_start v line h }

  pub fed_more : (s m s' : S) (w v u : SessionState) (line bytes now line' : List ℕ) (i : ℕ) (h h' h'' : Option (List ℕ)) (q : Bool) → i < length bytes → FillsBy gives s m w (line ++ take i bytes) h h' false v now → FillsBy gives m s' v (now ++ get_or bytes i 0 ∷ []) h' h'' q u line' → FillsBy gives s s' w (line ++ take (i + 1) bytes) h h'' q u line'
  fed_more s m s' w v u line bytes now line' i h h' h'' q lt f g = record {
    answers = f.answers ++ g.answers;
    asked = asked_trans s m s' f.answers g.answers f.asked g.asked;
    fills = fed_on w v u line bytes now line' f.answers g.answers i h h' h'' q lt f.fills g.fills;
  }

  pub fed_past : (s m s' : S) (w v u : SessionState) (line bytes now line' : List ℕ) (i : ℕ) (h h' h'' : Option (List ℕ)) → i < length bytes → FillsBy gives s m w (line ++ take i bytes) h h' false v now → FillsBy gives m s' v (now ++ get_or bytes i 0 ∷ []) h' h'' true u line' → FillsBy gives s s' w (line ++ bytes) h h'' true u line'
  fed_past s m s' w v u line bytes now line' i h h' h'' lt f g = record {
    answers = f.answers ++ g.answers;
    asked = asked_trans s m s' f.answers g.answers f.asked g.asked;
    fills = fed_quit w v u line bytes now line' f.answers g.answers i h h' h'' lt f.fills g.fills;
  }

  pub cut_more : (fails : S → S → Type 0) (s m s' : S) (fault : ServeFault) (w v : SessionState) (line bytes now : List ℕ) (i : ℕ) (h h' h'' : Option (List ℕ)) → i < length bytes → FillsBy gives s m w (line ++ take i bytes) h h' false v now → BreaksBy gives fails m s' fault v (now ++ get_or bytes i 0 ∷ []) h' h'' → BreaksBy gives fails s s' fault w (line ++ bytes) h h''
  cut_more fails s m s' fault w v line bytes now i h h' h'' lt f b = record {
    answers = f.answers ++ b.answers;
    mid = b.mid;
    asked = asked_trans s m b.mid f.answers b.answers f.asked b.asked;
    no_more = elim b.no_more [ inl e ↦ inl e | inr k ↦ inr (k.0, lacks_on w v line bytes now f.answers b.answers i h h' lt f.fills k.1, k.2) ];
    breaks = cut_on w v line bytes now f.answers b.answers i h h' h'' lt f.fills b.breaks;
  }

  -- ---- The last line

  pub ends_none : (s : S) (v : SessionState) (line : List ℕ) (h : Option (List ℕ)) → line ≡ [] → EndsBy gives s s v line h h false v
  ends_none s v line h e = record { answers = []; asked = refl; ends = ends_empty v line h e }

  pub ends_by : (s s' : S) (v v' : SessionState) (line : List ℕ) (q : Bool) (answer : Answer) (h h' : Option (List ℕ)) → IsPending line → 0 < length line → Gave gives line s answer s' → Appends h h' (reply v line answer).text → v' ≡ (reply v line answer).next → q ≡ (reply v line answer).quits → EndsBy gives s s' v line h h' q v'
  ends_by s s' v v' line q answer h h' p some g a n k = record {
    answers = g.answers;
    asked = g.asked;
    ends = ends_line v v' line g.answers answer h h' q p some g.given a n k;
  }

  pub front_by : (fails : S → S → Type 0) (s s' : S) (fault : ServeFault) (v : SessionState) (line : List ℕ) (answer : Answer) (h h' : Option (List ℕ)) → IsPending line → 0 < length line → Gave gives line s answer s' → WritesFront h h' (reply v line answer).text → FrontBy gives fails s s' fault v line h h'
  front_by fails s s' fault v line answer h h' p some g f = record {
    answers = g.answers;
    gave = record { last = s'; asked = g.asked; no_more = inl refl };
    used = last_used v line g.answers answer p some g.given;
    front = front_line v line g.answers answer h h' p some g.given f;
  }

  pub front_none : (fails : S → S → Type 0) (s s' : S) (fault : ServeFault) (v : SessionState) (line : List ℕ) (h : Option (List ℕ)) → IsPending line → 0 < length line → fault ≡ Memory → asks line ≡ true → fails s s' → FrontBy gives fails s s' fault v line h h
  front_none fails s s' fault v line h p some m a k = record {
    answers = [];
    gave = record { last = s; asked = refl; no_more = inr (m, last_lacking v line p some a, k) };
    used = alone_asked (lines_of line) v;
    front = record { front = []; rest = output v (lines_of line) []; whole = refl; appended = Appends-nil h };
  }

  pub front_at : (fails : S → S → Type 0) (s s' : S) (fault : ServeFault) (v : SessionState) (line text : List ℕ) (h h' : Option (List ℕ)) → text ≡ line → FrontBy gives fails s s' fault v text h h' → FrontBy gives fails s s' fault v line h h'
  front_at fails s s' fault v line text h h' e f = let P : List ℕ → Type 0 = λ l. FrontBy gives fails s s' fault v l h h' in subst P e f

  -- ---- Reads

  pub read_none : (s : S) (v : SessionState) (r h : Option (List ℕ)) → ReadsBy gives s s v r r h h v []
  read_none s v r h = record { answers = []; asked = refl; reads = reads_start v r h }

  pub read_more : (s m s' : S) (w v u : SessionState) (r r' r'' h h' h'' : Option (List ℕ)) (line bytes line' : List ℕ) → ReadsBy gives s m w r r' h h' v line → Consumes r' r'' bytes → FillsBy gives m s' v (line ++ bytes) h' h'' false u line' → ReadsBy gives s s' w r r'' h h'' u line'
  read_more s m s' w v u r r' r'' h h' h'' line bytes line' f c g = record {
    answers = f.answers ++ g.answers;
    asked = asked_trans s m s' f.answers g.answers f.asked g.asked;
    reads = reads_on w v u r r' r'' h h' h'' f.answers g.answers line bytes line' f.reads c g.fills;
  }

  -- What `converse` ensures if it succeeds.
  abbrev pub Ok_by : S → S → SessionState → Option (List ℕ) → Option (List ℕ) → Option (List ℕ) → Option (List ℕ) → SessionState → Bool → Type 0
  Ok_by s s' w r r' h h' u q = (answers : List Answer) × Asked gives s answers s' × Served w (streams r h) (streams r' h') answers u q

  pub quit_by : (s m s' : S) (w v u : SessionState) (r r' r'' h h' h'' : Option (List ℕ)) (line bytes line' : List ℕ) → ReadsBy gives s m w r r' h h' v line → Consumes r' r'' bytes → FillsBy gives m s' v (line ++ bytes) h' h'' true u line' → Ok_by s s' w r r'' h h'' u true
  quit_by s m s' w v u r r' r'' h h' h'' line bytes line' f c g = (
    f.answers ++ g.answers,
    asked_trans s m s' f.answers g.answers f.asked g.asked,
    served_quit w v u r r' r'' h h' h'' f.answers g.answers line bytes line' f.reads c g.fills,
  )

  pub end_by : (s m s' : S) (w v u : SessionState) (r r' r'' h h' h'' : Option (List ℕ)) (line text : List ℕ) (q : Bool) → ReadsBy gives s m w r r' h h' v line → Consumes r' r'' [] → IsAtEnd r'' → text ≡ line → EndsBy gives m s' v text h' h'' q u → Ok_by s s' w r r'' h h'' u q
  end_by s m s' w v u r r' r'' h h' h'' line text q f c e t g = (
    f.answers ++ g.answers,
    asked_trans s m s' f.answers g.answers f.asked g.asked,
    served_end w v u r r' r'' h h' h'' f.answers g.answers line q f.reads c e (ends_at v u line text g.answers h' h'' q t g.ends),
  )

  -- ---- Faults

  pub broke_by : (fails : S → S → Type 0) (s m : S) (fault : ServeFault) (w v : SessionState) (r r' r'' h h' : Option (List ℕ)) (line : List ℕ) → ReadsBy gives s m w r r' h h' v line → Keeps r' r'' → IsPending line → BrokeBy gives fails s m fault w (streams r h) (streams r'' h')
  broke_by fails s m fault w v r r' r'' h h' line f k p = record {
    answers = f.answers;
    broke = broke_read w v r r' r'' h h' f.answers line fault f.reads k p;
    gave = record { last = m; asked = f.asked; no_more = inl refl };
  }

  pub broke_end_by : (fails : S → S → Type 0) (s m s' : S) (fault : ServeFault) (w v : SessionState) (r r' r'' h h' h'' : Option (List ℕ)) (line text : List ℕ) → ReadsBy gives s m w r r' h h' v line → Consumes r' r'' [] → IsAtEnd r'' → text ≡ line → IsOfReplying fault → FrontBy gives fails m s' fault v text h' h'' → BrokeBy gives fails s s' fault w (streams r h) (streams r'' h'')
  broke_end_by fails s m s' fault w v r r' r'' h h' h'' line text f c e t o k =
      let g = front_at fails m s' fault v line text h' h'' t k in
      record {
        answers = f.answers ++ g.answers;
        broke = broke_end w v r r' r'' h h' h'' f.answers g.answers line fault f.reads c e o g.front g.used;
        gave = record {
          last = g.gave.last;
          asked = asked_trans s m g.gave.last f.answers g.answers f.asked g.gave.asked;
          no_more = elim g.gave.no_more [ inl e ↦ inl e | inr n ↦ inr (n.0, ap (λ (x : Transcript). x.left) (ended_later w v r r' h h' f.answers g.answers line f.reads) ∙ n.1, n.2) ];
        };
      }

  pub broke_feed_by : (fails : S → S → Type 0) (s m s' : S) (fault : ServeFault) (w v : SessionState) (r r' r'' h h' h'' : Option (List ℕ)) (line bytes : List ℕ) → ReadsBy gives s m w r r' h h' v line → Consumes r' r'' bytes → IsOfReplying fault → BreaksBy gives fails m s' fault v (line ++ bytes) h' h'' → BrokeBy gives fails s s' fault w (streams r h) (streams r'' h'')
  broke_feed_by fails s m s' fault w v r r' r'' h h' h'' line bytes f c o g = record {
    answers = f.answers ++ g.answers;
    broke = broke_feed w v r r' r'' h h' h'' f.answers g.answers line bytes fault f.reads c o g.breaks;
    gave = record {
      last = g.mid;
      asked = asked_trans s m g.mid f.answers g.answers f.asked g.asked;
      no_more = elim g.no_more [ inl e ↦ inl e | inr n ↦ inr (n.0, ap (λ (x : Transcript). x.left) (fed_later w v r r' h h' f.answers g.answers line bytes f.reads) ∙ n.1 [], n.2) ];
    };
  }

pub with_replying : {X : Type 0} (P : ServeFault → Type 0) (r : Result X ServeFault) → IfErr r P → IfErr r IsOfReplying → IfErr r (λ e. P e × IsOfReplying e)
with_replying P (Ok x) h k = tt
with_replying P (Err e) h k = (h, k)

-- A fault of replying is not `Closed`.
pub not_closed : {X : Type 0} → (r : Result X ServeFault) → IfErr r IsOfReplying → r ≢ Err Closed
not_closed (Ok x) h = λ e. cc
not_closed (Err f) h = λ e. let same : f ≡ Closed = cc in absurd (let P : ServeFault → Type 0 = λ x. IsOfReplying x in subst P same h)
