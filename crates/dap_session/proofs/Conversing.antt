-- Answers to messages, one after the other.
use Rattle.std.proofs.Common.{◌≡◌, inl, inr, ℕ, List, [], ◌∷◌, ◌++◌, append_assoc, append-nil, refl, ap, sym, ◌∙◌, subst, Bool, true, false, Option, Result, Ok, Err, IfOk, Vec, take, drop, length, get_or, ◌-◌, ◌<◌, ◌≤◌, arith}
use Rattle.std.proofs.KnownBytes.{Consumes-nil, Consumes-trans, Appends-nil, Appends-trans}
use Rattle.std.proofs.lemmas.List.{take_rest}
use Rattle.std.specs.Io.KnownBytes.{Appends, Consumes, IsAtEnd}
use Rattle.dap_frames.proofs.Pieces.{decode_pieces}
use Rattle.dap_frames.specs.Decoding.{Decoded, Partial, decode, start}
use Rattle.dap_frames.specs.Views.{contents}
use Rattle.dap_session.specs.Adapters.{AdapterState}
use Rattle.dap_session.specs.Messages.{Answers}
use Rattle.dap_answers.specs.Posting.{Posted, Posts}
use Rattle.dap_answers.specs.declared.answer.Answer.{Answer}
use Rattle.dap_session.specs.Serving.{Converses, ServingState, Served, Step, StepsTo, Takes, Took, fresh_adapter}

-- Messages after others.
pub Converses-append : (bs cs : List (List ℕ)) (s s1 s2 : AdapterState) (n n1 n2 : ℕ) (w v : List ℕ) (e : Bool) → Converses s n bs w s1 n1 false → Converses s1 n1 cs v s2 n2 e → Converses s n (bs ++ cs) (w ++ v) s2 n2 e
Converses-append [] cs s s1 s2 n n1 n2 w v e p q =
    let at : Converses s n1 cs v s2 n2 e = subst (λ (x : AdapterState). Converses x n1 cs v s2 n2 e) p.1 q in
    let numbered : Converses s n cs v s2 n2 e = subst (λ (x : ℕ). Converses s x cs v s2 n2 e) p.2 at in
    let bytes : w ++ v ≡ v = ap (λ (l : List ℕ). l ++ v) p.0 in
    subst (λ (l : List ℕ). Converses s n cs l s2 n2 e) (sym bytes) numbered
Converses-append (b ∷ bs) cs s s1 s2 n n1 n2 w v e (inl p) q =
    let ended : false ≡ true = p.1 in
    absurd (let impossible : ⊥ = cc in impossible)
Converses-append (b ∷ bs) cs s s1 s2 n n1 n2 w v e (inr p) q = inr (record {
  mid = p.mid;
  next = p.next;
  now = p.now;
  rest = p.rest ++ v;
  step = p.step;
  bytes = ap (λ (l : List ℕ). l ++ v) p.bytes ∙ append_assoc p.now p.rest v;
  follows = Converses-append bs cs p.mid s1 s2 p.next n1 n2 p.rest v e p.follows q;
})

-- ---- Pieces of the input

more_bodies : (taken piece : List ℕ) (bodies later : List (List ℕ)) (p : Partial) → (decode start taken).rest ≡ p → (decode p piece).bodies ≡ bodies ++ later → (decode start (taken ++ piece)).bodies ≡ ((decode start taken).bodies ++ bodies) ++ later
more_bodies taken piece bodies later p e cut =
    ap (λ (d : Decoded). d.bodies) (decode_pieces start taken piece)
    ∙ ap (λ (q : Partial). (decode start taken).bodies ++ (decode q piece).bodies) e
    ∙ ap (λ (l : List (List ℕ)). (decode start taken).bodies ++ l) cut
    ∙ sym (append_assoc (decode start taken).bodies bodies later)

more_rest : (taken piece : List ℕ) (p q : Partial) → (decode start taken).rest ≡ p → (decode p piece).rest ≡ q → (decode start (taken ++ piece)).rest ≡ q
more_rest taken piece p q e f =
    ap (λ (d : Decoded). d.rest) (decode_pieces start taken piece)
    ∙ ap (λ (r : Partial). (decode r piece).rest) e
    ∙ f

without_later : (front bodies later : List (List ℕ)) → later ≡ [] → (front ++ bodies) ++ later ≡ front ++ bodies
without_later front bodies later e = ap (λ (l : List (List ℕ)). (front ++ bodies) ++ l) e ∙ append-nil (front ++ bodies)

pub took_none : (r w : Option (List ℕ)) (s : ServingState) → s ≡ record { adapter = fresh_adapter; decoder = start; outbox = record { next = 1; bytes = [] } } → Took r r w w s
took_none r w s e = record {
  taken = [];
  read = Consumes-nil r;
  rest = sym (ap (λ (x : ServingState). x.decoder) e);
  written = [];
  appended = Appends-nil w;
  answered = (refl, ap (λ (x : ServingState). x.adapter) e, ap (λ (x : ServingState). x.outbox.next) e, refl);
  empty = ap (λ (x : ServingState). x.outbox.bytes) e;
}

-- What a whole piece leaves.
whole_piece : (s s' : ServingState) (piece : List ℕ) (h h' : Option (List ℕ)) (t : Takes s piece s' h h' false) → (t.later ≡ []) × ((decode s.decoder piece).rest ≡ s'.decoder)
whole_piece s s' piece h h' t = elim t.whole [ inl e ↦ absurd (let impossible : ⊥ = cc in impossible) | inr w ↦ w ]

pub took_more : (r r1 r2 h h1 h2 : Option (List ℕ)) (s s' : ServingState) (piece : List ℕ) → Took r r1 h h1 s → Consumes r1 r2 piece → Takes s piece s' h1 h2 false → s'.outbox.bytes ≡ [] → Took r r2 h h2 s'
took_more r r1 r2 h h1 h2 s s' piece t read k empty =
    let whole = whole_piece s s' piece h1 h2 k in
    let front : List (List ℕ) = (decode start t.taken).bodies in
    let bodies : (decode start (t.taken ++ piece)).bodies ≡ front ++ k.bodies =
    more_bodies t.taken piece k.bodies k.later s.decoder t.rest k.cut ∙ without_later front k.bodies k.later whole.0 in
    record {
      taken = t.taken ++ piece;
      read = Consumes-trans r r1 r2 t.taken piece t.read read;
      rest = more_rest t.taken piece s.decoder s'.decoder t.rest whole.1;
      written = t.written ++ k.written;
      appended = Appends-trans h h1 h2 t.written k.written t.appended k.appended;
      answered = subst (λ (l : List (List ℕ)). Converses fresh_adapter 1 l (t.written ++ k.written) s'.adapter s'.outbox.next false) (sym bodies) (Converses-append front k.bodies fresh_adapter s.adapter s'.adapter 1 s.outbox.next s'.outbox.next t.written k.written false t.answered k.answered);
      empty = empty;
    }

-- The input ended: a read into a buffer that has room gave no bytes.
pub served_to_end : (r r1 r2 h h1 : Option (List ℕ)) (s : ServingState) (buffer : List ℕ) (n : ℕ) → n ≡ 0 → 0 < length buffer → Took r r1 h h1 s → Consumes r1 r2 (take n buffer) × (n ≡ 0 → 0 < length buffer → IsAtEnd r2) → Served r r2 h h1
served_to_end r r1 r2 h h1 s buffer n e room t k =
    let none : Consumes r1 r2 [] = subst (Consumes r1 r2) (ap (λ m. take m buffer) e) k.0 in
    record {
      taken = t.taken;
      read = subst (λ (l : List ℕ). Consumes r r2 l) (append-nil t.taken) (Consumes-trans r r1 r2 t.taken [] t.read none);
      bodies = (decode start t.taken).bodies;
      later = [];
      cut = sym (append-nil (decode start t.taken).bodies);
      written = t.written;
      appended = t.appended;
      adapter = s.adapter;
      next = s.outbox.next;
      ends = false;
      answered = t.answered;
      over = inr (refl, k.1 e room);
    }

-- A message ended the session.
pub served_to_message : (r r1 r2 h h1 h2 : Option (List ℕ)) (s s' : ServingState) (piece : List ℕ) → Took r r1 h h1 s → Consumes r1 r2 piece → Takes s piece s' h1 h2 true → Served r r2 h h2
served_to_message r r1 r2 h h1 h2 s s' piece t read k = record {
  taken = t.taken ++ piece;
  read = Consumes-trans r r1 r2 t.taken piece t.read read;
  bodies = (decode start t.taken).bodies ++ k.bodies;
  later = k.later;
  cut = more_bodies t.taken piece k.bodies k.later s.decoder t.rest k.cut;
  written = t.written ++ k.written;
  appended = Appends-trans h h1 h2 t.written k.written t.appended k.appended;
  adapter = s'.adapter;
  next = s'.outbox.next;
  ends = true;
  answered = Converses-append (decode start t.taken).bodies k.bodies fresh_adapter s.adapter s'.adapter 1 s.outbox.next s'.outbox.next t.written k.written true t.answered k.answered;
  over = inl refl;
}

-- ---- One message

-- A message was answered, and its answer was written.
pub step_of : (s s' : AdapterState) (before posted after : Posted) (body : List ℕ) (a : Answer) (ends : Bool) (h h' : Option (List ℕ)) → before.bytes ≡ [] → Answers s body a s' → Posts before a posted → ends ≡ a.ends → after ≡ record { next = posted.next; bytes = [] } → Appends h h' posted.bytes → (written : List ℕ) × StepsTo s before.next body written s' after.next ends × Appends h h' written
step_of s s' before posted after body a ends h h' empty answers posts e cleared appended =
    let at : before ≡ record { next = before.next; bytes = [] } = ap (λ (l : List ℕ). let p : Posted = record { next = before.next; bytes = l } in p) empty in
    let step : Step s before.next body = record {
      answer = a;
      adapter = s';
      posted = posted;
      answers = answers;
      posts = subst (λ (p : Posted). Posts p a posted) at posts;
    } in (
      posted.bytes,
      record {
        step = step;
        ended = sym e;
        adapter = refl;
        next = ap (λ (p : Posted). p.next) cleared;
        bytes = refl;
      },
      appended,
    )

-- ---- Several messages

converse_on : (s s1 s2 : AdapterState) (n n1 n2 : ℕ) (body : List ℕ) (bodies all : List (List ℕ)) (h h1 h2 : Option (List ℕ)) (ends : Bool) → all ≡ body ∷ bodies → (now : List ℕ) × StepsTo s n body now s1 n1 false × Appends h h1 now → (rest : List ℕ) × Converses s1 n1 bodies rest s2 n2 ends × Appends h1 h2 rest → (written : List ℕ) × Converses s n all written s2 n2 ends × Appends h h2 written
converse_on s s1 s2 n n1 n2 body bodies all h h1 h2 ends e p q =
    let on : Converses s n (body ∷ bodies) (p.0 ++ q.0) s2 n2 ends = inr (record {
      mid = s1;
      next = n1;
      now = p.0;
      rest = q.0;
      step = p.1;
      bytes = refl;
      follows = q.1;
    }) in
    (p.0 ++ q.0, subst (λ (l : List (List ℕ)). Converses s n l (p.0 ++ q.0) s2 n2 ends) (sym e) on, Appends-trans h h1 h2 p.0 q.0 p.2 q.2)

pub converse_rest : {E : Type 0} → (r : Result Bool E) (s s1 s2 : AdapterState) (n n1 n2 : ℕ) (body : List ℕ) (bodies all : List (List ℕ)) (h h1 h2 : Option (List ℕ)) → all ≡ body ∷ bodies → (now : List ℕ) × StepsTo s n body now s1 n1 false × Appends h h1 now → IfOk r (λ ends. (rest : List ℕ) × Converses s1 n1 bodies rest s2 n2 ends × Appends h1 h2 rest) → IfOk r (λ ends. (written : List ℕ) × Converses s n all written s2 n2 ends × Appends h h2 written)
converse_rest (Ok ends) s s1 s2 n n1 n2 body bodies all h h1 h2 e p q = converse_on s s1 s2 n n1 n2 body bodies all h h1 h2 ends e p q
converse_rest (Err x) s s1 s2 n n1 n2 body bodies all h h1 h2 e p q = tt

-- The first body, and the others.
pub contents_first : {A : Type 0} → (bodies : List (Vec ℕ A)) (v : Vec ℕ A) (body : List ℕ) → 1 ≤ length bodies → v ≡ get_or bodies 0 v → body ≡ v.items → contents bodies ≡ body ∷ contents (take (length bodies - 1) (drop 1 bodies))
contents_first [] v body some e f = absurd (let none : ⊥ = omega arith in none)
contents_first (x ∷ xs) v body some e f =
    ap (λ l. x.items ∷ contents l) (sym (take_rest (x ∷ xs) 1))
    ∙ ap (λ l. l ∷ contents (take (length (x ∷ xs) - 1) (drop 1 (x ∷ xs)))) (ap (λ u. u.items) (sym e) ∙ sym f)
