-- What decodes to bodies is frames of them.
use Rattle.std.proofs.Common.{◌≡◌, ◌≢◌, ℕ, ◌+◌, ◌-◌, ◌<◌, ◌≤◌, ◌==◌, Bool, true, false, List, [], ◌∷◌, ◌++◌, length, drop, append_assoc, append-nil, arith, length-append, Option, Some, None, refl, ap, sym, ◌∙◌, subst, if◌then◌else◌, nat_le}
use Rattle.std.proofs.lemmas.Bool.Decides.{nat_tests}
use Rattle.std.specs.List.{flat_map}
use Rattle.dap_frames.specs.Decoding.{Heading, Partial, Step, InLine, InReturn, InBody, Failed, start, step, without_body, with_body, after_length, after_line, decode, body_before, number, has_length_name}
use Rattle.dap_frames.specs.Frames.{IsPlain, AreLines, with_end, lengths, header, IsFrame, Begins}
use Rattle.dap_frames.specs.declared.fault.FrameFault.TheVariants.{HeaderTooLong, BareLineEnd}
use Rattle.dap_frames.proofs.Reading.{noted, plain_append}

-- The lines before, and the line so far.
record Headed (h : Heading) (bytes : List ℕ) : Type 0 where
  lines : List (List ℕ)
  spelled : bytes ≡ flat_map with_end lines ++ h.line
  plain : AreLines lines
  line : IsPlain h.line
  known : lengths lines ≡ noted h.length
  seen : h.seen ≡ length bytes
  short : length bytes ≤ 1024

record Returned (h : Heading) (bytes : List ℕ) : Type 0 where
  front : List ℕ
  spelled : bytes ≡ front ++ 13 ∷ []
  headed : Headed (record { seen = length front; line = h.line; length = h.length }) front
  seen : h.seen ≡ length front + 1

record Bodied (left : ℕ) (body bytes : List ℕ) : Type 0 where
  lines : List (List ℕ)
  spelled : bytes ≡ header lines ++ body
  plain : AreLines lines
  one : lengths lines ≡ Some (left + length body) ∷ []
  short : length (header lines) ≤ 1024
  more : 0 < left

-- The bytes that were read of a partial frame.
abbrev Read : Partial → List ℕ → Type 0
Read (InLine h) bytes = Headed h bytes
Read (InReturn h) bytes = Returned h bytes
Read (InBody left body) bytes = Bodied left body bytes
Read (Failed fault) bytes = Unit {0}

abbrev FollowsBy : Option (List ℕ) → Partial → List ℕ → Type 0
FollowsBy None next bytes = Read next bytes
FollowsBy (Some body) next bytes = Read next [] × IsFrame bytes body

abbrev Follows : Step → List ℕ → Type 0
Follows s bytes = FollowsBy s.body s.next bytes

read_start : Read start []
read_start = record { lines = []; spelled = refl; plain = tt; line = tt; known = refl; seen = refl; short = omega arith }

lines_append : (xs ys : List (List ℕ)) → AreLines xs → AreLines ys → AreLines (xs ++ ys)
lines_append [] ys p q = q
lines_append (x ∷ xs) ys p q = (p.0, p.1, lines_append xs ys p.2 q)

ended_append : (xs : List (List ℕ)) (l : List ℕ) → flat_map with_end (xs ++ l ∷ []) ≡ flat_map with_end xs ++ with_end l
ended_append [] l = append-nil (with_end l)
ended_append (x ∷ xs) l = ap (λ t. with_end x ++ t) (ended_append xs l) ∙ sym (append_assoc (with_end x) (flat_map with_end xs) (with_end l))

lengths_by : (t : Bool) (k : Option ℕ) (ks js is : List (Option ℕ)) → is ≡ ks ++ js → (if t then k ∷ is else is) ≡ (if t then k ∷ ks else ks) ++ js
lengths_by true k ks js is e = ap (λ l. k ∷ l) e
lengths_by false k ks js is e = e

lengths_append : (xs ys : List (List ℕ)) → lengths (xs ++ ys) ≡ lengths xs ++ lengths ys
lengths_append [] ys = refl
lengths_append (x ∷ xs) ys = lengths_by (has_length_name x) (number (drop 16 x)) (lengths xs) (lengths ys) (lengths (xs ++ ys)) (lengths_append xs ys)

-- A byte of a line.
line_grows : (h : Heading) (b : ℕ) (bytes : List ℕ) → Headed h bytes → h.seen < 1024 → b ≢ 13 → b ≢ 10 → Headed (record { seen = h.seen + 1; line = h.line ++ b ∷ []; length = h.length }) (bytes ++ b ∷ [])
line_grows h b bytes f lt p q =
    let size : length (bytes ++ b ∷ []) ≡ length bytes + 1 = simp length-append (omega arith) in
    record {
      lines = f.lines;
      spelled = ap (λ l. l ++ b ∷ []) f.spelled ∙ append_assoc (flat_map with_end f.lines) h.line (b ∷ []);
      plain = f.plain;
      line = plain_append h.line (b ∷ []) f.line (p, q, tt);
      known = f.known;
      seen = omega (arith, f.seen);
      short = omega (arith, f.seen);
    }

line_returns : (h : Heading) (bytes : List ℕ) → Headed h bytes → Returned (record { seen = h.seen + 1; line = h.line; length = h.length }) (bytes ++ 13 ∷ [])
line_returns h bytes f = record {
  front = bytes;
  spelled = refl;
  headed = record { lines = f.lines; spelled = f.spelled; plain = f.plain; line = f.line; known = f.known; seen = refl; short = f.short };
  seen = omega (arith, f.seen);
}

in_line : (t r n : Bool) (h : Heading) (b : ℕ) (bytes : List ℕ) → Headed h bytes → nat_le 1024 h.seen ≡ t → (b == 13) ≡ r → (b == 10) ≡ n →
    Follows (if t then without_body (Failed HeaderTooLong) else if r then without_body (InReturn (record { seen = h.seen + 1; line = h.line; length = h.length }))
    else if n then without_body (Failed BareLineEnd) else without_body (InLine (record { seen = h.seen + 1; line = h.line ++ b ∷ []; length = h.length }))) (bytes ++ b ∷ [])
in_line true r n h b bytes f e1 e2 e3 = tt
in_line false true n h b bytes f e1 e2 e3 = let e : b ≡ 13 = grind (arith, nat_tests) in subst (λ c. Returned (record { seen = h.seen + 1; line = h.line; length = h.length }) (bytes ++ c ∷ [])) (sym e) (line_returns h bytes f)
in_line false false true h b bytes f e1 e2 e3 = tt
in_line false false false h b bytes f e1 e2 e3 = line_grows h b bytes f (grind (arith, nat_tests)) (grind (arith, nat_tests)) (grind (arith, nat_tests))

-- After a line that isn't empty.
line_ends : (h : Heading) (n : Option ℕ) (front : List ℕ) → Headed h front → 0 < length h.line → length front + 2 ≤ 1024 → noted h.length ++ lengths (h.line ∷ []) ≡ noted n → Headed (record { seen = length front + 1 + 1; line = []; length = n }) (front ++ 13 ∷ 10 ∷ [])
line_ends h n front f some lt e =
    let size : length (front ++ 13 ∷ 10 ∷ []) ≡ length front + 2 = simp length-append (omega arith) in
    record {
      lines = f.lines ++ h.line ∷ [];
      spelled = ap (λ l. l ++ 13 ∷ 10 ∷ []) f.spelled ∙ append_assoc (flat_map with_end f.lines) h.line (13 ∷ 10 ∷ []) ∙ sym (ended_append f.lines h.line) ∙ sym (append-nil (flat_map with_end (f.lines ++ h.line ∷ [])));
      plain = lines_append f.lines (h.line ∷ []) f.plain (some, f.line, tt);
      line = tt;
      known = lengths_append f.lines (h.line ∷ []) ∙ ap (λ l. l ++ lengths (h.line ∷ [])) f.known ∙ e;
      seen = omega arith;
      short = omega arith;
    }

empty_by : (t : Bool) (n : ℕ) (lines : List (List ℕ)) (bytes : List ℕ) → bytes ≡ header lines ++ [] → AreLines lines → lengths lines ≡ Some n ∷ [] → length (header lines) ≤ 1024 → (n == 0) ≡ t → Follows (if t then with_body [] else without_body (InBody n [])) bytes
empty_by true n lines bytes s p o h z = let e : n ≡ 0 = grind (arith, nat_tests) in (read_start, record { lines = lines; spelled = s; plain = p; one = o ∙ ap (λ k. Some k ∷ []) e; short = h })
empty_by false n lines bytes s p o h z = let e : n ≡ n + 0 = omega arith in record { lines = lines; spelled = s; plain = p; one = o ∙ ap (λ k. Some k ∷ []) e; short = h; more = grind (arith, nat_tests) }

-- After the empty line.
empty_line : (t : Bool) (n : ℕ) (h : Heading) (front : List ℕ) → Headed h front → h.line ≡ [] → h.length ≡ Some n → length front + 2 ≤ 1024 → (n == 0) ≡ t → Follows (if t then with_body [] else without_body (InBody n [])) (front ++ 13 ∷ 10 ∷ [])
empty_line t n h front f e m lt z =
    let same : front ≡ flat_map with_end f.lines = f.spelled ∙ ap (λ l. flat_map with_end f.lines ++ l) e ∙ append-nil (flat_map with_end f.lines) in
    let spelled : front ++ 13 ∷ 10 ∷ [] ≡ header f.lines ++ [] = ap (λ l. l ++ 13 ∷ 10 ∷ []) same ∙ sym (append-nil (header f.lines)) in
    let size : length (header f.lines) ≡ length front + 2 = simp length-append (omega (arith, ap (λ (l : List ℕ). length l) same)) in
    let one : lengths f.lines ≡ Some n ∷ [] = f.known ∙ ap noted m in
    empty_by t n f.lines (front ++ 13 ∷ 10 ∷ []) spelled f.plain one (omega arith) z

-- A line that has the length, or doesn't.
length_ends : (t : Bool) (n k : Option ℕ) (line front : List ℕ) → Headed (record { seen = length front; line = line; length = n }) front → 0 < length line → length front + 2 ≤ 1024 → lengths (line ∷ []) ≡ (if t then k ∷ [] else []) →
    Follows (if t then after_length (length front + 1 + 1) n k else without_body (InLine (record { seen = length front + 1 + 1; line = []; length = n }))) (front ++ 13 ∷ 10 ∷ [])
length_ends true (Some m) k line front f some lt e = tt
length_ends true None None line front f some lt e = tt
length_ends true None (Some n) line front f some lt e = line_ends (record { seen = length front; line = line; length = None }) (Some n) front f some lt e
length_ends false n k line front f some lt e = line_ends (record { seen = length front; line = line; length = n }) n front f some lt (ap (λ l. noted n ++ l) e ∙ append-nil (noted n))

ends : (n : Option ℕ) (line front : List ℕ) → Headed (record { seen = length front; line = line; length = n }) front → length front + 2 ≤ 1024 → Follows (after_line (length front + 1 + 1) line n) (front ++ 13 ∷ 10 ∷ [])
ends None [] front f lt = tt
ends (Some n) [] front f lt = empty_line _ n (record { seen = length front; line = []; length = Some n }) front f refl refl lt refl
ends n (c ∷ cs) front f lt = length_ends _ n (number (drop 16 (c ∷ cs))) (c ∷ cs) front f (omega arith) lt refl

in_return : (t n : Bool) (h : Heading) (b : ℕ) (bytes : List ℕ) → Returned h bytes → nat_le 1024 h.seen ≡ t → (b == 10) ≡ n →
    Follows (if t then without_body (Failed HeaderTooLong) else if n then after_line (h.seen + 1) h.line h.length else without_body (Failed BareLineEnd)) (bytes ++ b ∷ [])
in_return true n h b bytes f e1 e2 = tt
in_return false true h b bytes f e1 e2 =
    let e : b ≡ 10 = grind (arith, nat_tests) in
    let lt : h.seen < 1024 = grind (arith, nat_tests) in
    let w : bytes ++ b ∷ [] ≡ f.front ++ 13 ∷ 10 ∷ [] = ap (λ c. bytes ++ c ∷ []) e ∙ ap (λ l. l ++ 10 ∷ []) f.spelled ∙ append_assoc f.front (13 ∷ []) (10 ∷ []) in
    subst (λ l. Follows (after_line (h.seen + 1) h.line h.length) l) (sym w)
    (subst (λ k. Follows (after_line (k + 1) h.line h.length) (f.front ++ 13 ∷ 10 ∷ [])) (sym f.seen) (ends h.length h.line f.front f.headed (omega (arith, f.seen))))
in_return false false h b bytes f e1 e2 = tt

in_body : (t : Bool) (left : ℕ) (body : List ℕ) (b : ℕ) (bytes : List ℕ) → Bodied left body bytes → nat_le left 1 ≡ t → Follows (if t then with_body (body ++ b ∷ []) else without_body (InBody (left - 1) (body ++ b ∷ []))) (bytes ++ b ∷ [])
in_body true left body b bytes f e =
    let lt : left ≤ 1 = grind (arith, nat_tests) in
    let size : left + length body ≡ length (body ++ b ∷ []) = simp length-append (omega (arith, f.more)) in
    (read_start, record { lines = f.lines; spelled = ap (λ l. l ++ b ∷ []) f.spelled ∙ append_assoc (header f.lines) body (b ∷ []); plain = f.plain; one = f.one ∙ ap (λ k. Some k ∷ []) size; short = f.short })
in_body false left body b bytes f e =
    let lt : 1 < left = grind (arith, nat_tests) in
    let size : left + length body ≡ left - 1 + length (body ++ b ∷ []) = simp length-append (omega arith) in
    record { lines = f.lines; spelled = ap (λ l. l ++ b ∷ []) f.spelled ∙ append_assoc (header f.lines) body (b ∷ []); plain = f.plain; one = f.one ∙ ap (λ k. Some k ∷ []) size; short = f.short; more = omega arith }

stepped : (p : Partial) (b : ℕ) (bytes : List ℕ) → Read p bytes → Follows (step p b) (bytes ++ b ∷ [])
stepped (InLine h) b bytes f = in_line _ _ _ h b bytes f refl refl refl
stepped (InReturn h) b bytes f = in_return _ _ h b bytes f refl refl
stepped (InBody left body) b bytes f = in_body _ left body b bytes f refl
stepped (Failed fault) b bytes f = tt

-- One more byte.
begins_by : (o : Option (List ℕ)) (q : Partial) (came rest : List ℕ) → FollowsBy o q came → ((bytes : List ℕ) → Read q bytes → Begins (bytes ++ rest) (decode q rest).bodies) → Begins (came ++ rest) (body_before o (decode q rest)).bodies
begins_by None q came rest g more = more came g
begins_by (Some body) q came rest g more = let m = more [] g.0 in record {
  frames = came ∷ m.frames;
  rest = m.rest;
  whole = ap (λ l. came ++ l) m.whole ∙ sym (append_assoc came (flat_map (λ f. f) m.frames) m.rest);
  each = (g.1, m.each);
}

begins_from : (p : Partial) (came bytes : List ℕ) → Read p came → Begins (came ++ bytes) (decode p bytes).bodies
begins_from p came [] f = record { frames = []; rest = came; whole = append-nil came; each = tt }
begins_from p came (b ∷ bs) f =
    subst (λ l. Begins l (body_before (step p b).body (decode (step p b).next bs)).bodies) (append_assoc came (b ∷ []) bs)
    (begins_by (step p b).body (step p b).next (came ++ b ∷ []) bs (stepped p b came f) (λ bytes g. begins_from (step p b).next bytes bs g))

-- A stream begins with frames of its bodies.
pub begins : (bytes : List ℕ) → Begins bytes (decode start bytes).bodies
begins bytes = begins_from start [] bytes read_start
