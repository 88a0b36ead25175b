-- Frames decode to their bodies.
use Rattle.std.proofs.Common.{◌≡◌, ◌≢◌, ℕ, ◌+◌, ◌-◌, ◌*◌, ◌<◌, ◌≤◌, ◌^◌, ◌%◌, ◌/◌, ◌==◌, suc, rules, Bool, true, false, List, [], ◌∷◌, ◌++◌, length, drop, append_assoc, append-nil, arith, length-append, Option, Some, None, refl, ap, sym, ◌∙◌, if◌then◌else◌, nat_le}
use Rattle.std.proofs.lemmas.Bool.Decides.{nat_tests}
use Rattle.std.proofs.lemmas.Fmt.{decimal_by_steps, length-decimal-le}
use Rattle.std.specs.Fmt.{decimal}
use Rattle.dap_frames.specs.Decoding.{Partial, Decoded, Step, InLine, InReturn, InBody, Failed, fault_of, bodies_before, start, step, without_body, after_header, after_length, after_line, decode, body_before, number, number_after, has_length_name, length_name, frame}
use Rattle.dap_frames.specs.Frames.{IsPlain, AreLines, lengths, header, IsFrame, AreFrames}
use Rattle.std.specs.List.{flat_map}
use Rattle.dap_frames.proofs.Pieces.{decode_failed, decode_pieces}

pub plain_append : (xs ys : List ℕ) → IsPlain xs → IsPlain ys → IsPlain (xs ++ ys)
plain_append [] ys p q = q
plain_append (x ∷ xs) ys p q = (p.0, p.1, plain_append xs ys p.2 q)

plain_decimal : (n : ℕ) → n < 2 ^ 64 → IsPlain (decimal n)
plain_decimal = decimal_by_steps (λ n ds. IsPlain ds) (λ n h. (omega arith, omega arith, tt)) (λ n ds h p. plain_append ds ((48 + n % 10) ∷ []) p (omega arith, omega arith, tt))

-- ---- the number

digit_step : (m d : ℕ) → d < 10 → 10 * m + d ≤ 1048576 → number_after m ((48 + d) ∷ []) ≡ Some (10 * m + d)
digit_step m d h l = grind (arith, nat_tests)

under : (t : Bool) (a b : Option ℕ) (k z : ℕ) → (a ≡ Some k → b ≡ Some z) → (if t then a else None) ≡ Some k → (if t then b else None) ≡ Some z
under true a b k z f h = f h
under false a b k z f h = cc

number_last : (m : ℕ) (ds : List ℕ) (k d : ℕ) → d < 10 → 10 * k + d ≤ 1048576 → number_after m ds ≡ Some k → number_after m (ds ++ (48 + d) ∷ []) ≡ Some (10 * k + d)
number_last m [] k d h l e = let same : m ≡ k = cc in rw same (digit_step k d h l)
number_last m (c ∷ cs) k d h l e = under _ (number_after (10 * m + (c - 48)) cs) _ k (10 * k + d) (number_last (10 * m + (c - 48)) cs k d h l) e

number_decimal : (n : ℕ) → n < 2 ^ 64 → n ≤ 1048576 → (0 < length (decimal n)) × (number_after 0 (decimal n) ≡ Some n)
number_decimal = decimal_by_steps (λ n ds. n ≤ 1048576 → (0 < length ds) × (number_after 0 ds ≡ Some n))
    (λ n h l. let e : 10 * 0 + n ≡ n = omega arith in (omega arith, digit_step 0 n h (omega arith) ∙ ap Some e))
    (λ n ds h p l. let q = p (omega arith) in let e : n ≡ 10 * (n / 10) + n % 10 = omega arith in
    (omega (arith, length-append {A = ℕ}), number_last 0 ds (n / 10) (n % 10) (omega arith) (omega arith) q.1 ∙ ap Some (sym e)))

number_written : (ds : List ℕ) → 0 < length ds → number ds ≡ number_after 0 ds
number_written [] h = absurd (omega arith)
number_written (c ∷ cs) h = refl

-- ---- the header

plain_step : (seen b : ℕ) (line : List ℕ) (n : Option ℕ) → seen < 1024 → b ≢ 13 → b ≢ 10 → step (InLine (record { seen = seen; line = line; length = n })) b ≡ without_body (InLine (record { seen = seen + 1; line = line ++ b ∷ []; length = n }))
plain_step seen b line n h p q = grind (arith, nat_tests)

plain_run : (seen : ℕ) (line : List ℕ) (n : Option ℕ) (l more : List ℕ) → IsPlain l → seen + length l ≤ 1024 → decode (InLine (record { seen = seen; line = line; length = n })) (l ++ more) ≡ decode (InLine (record { seen = seen + length l; line = line ++ l; length = n })) more
plain_run seen line n [] more p h = let e : seen + 0 ≡ seen = omega arith in rw (e, append-nil line)
plain_run seen line n (b ∷ bs) more p h =
    let e : seen + 1 + length bs ≡ seen + suc (length bs) = omega arith in
    let t = plain_run (seen + 1) (line ++ b ∷ []) n bs more p.2 (omega arith) in
    rw (plain_step seen b line n (omega arith) p.0 p.1) (t ∙ rw (e, append_assoc line (b ∷ []) bs))

-- The end of a line.
end_run : (seen : ℕ) (line : List ℕ) (n : Option ℕ) (more : List ℕ) → seen + 2 ≤ 1024 → decode (InLine (record { seen = seen; line = line; length = n })) (13 ∷ 10 ∷ more) ≡ body_before (after_line (seen + 1 + 1) line n).body (decode (after_line (seen + 1 + 1) line n).next more)
end_run seen line n more h =
    let a : nat_le 1024 seen ≡ false = grind (arith, nat_tests) in
    let b : nat_le 1024 (seen + 1) ≡ false = grind (arith, nat_tests) in
    rw (a, b)

-- The length that the lines so far have.
abbrev pub noted : Option ℕ → List (Option ℕ)
noted None = []
noted (Some n) = Some n ∷ []

length_once : (seen m : ℕ) (n k : Option ℕ) (ks : List (Option ℕ)) → noted n ++ (k ∷ ks) ≡ Some m ∷ [] → (after_length seen n k ≡ without_body (InLine (record { seen = seen; line = []; length = Some m }))) × (ks ≡ [])
length_once seen m (Some i) k ks e = cc
length_once seen m None None ks e = cc
length_once seen m None (Some i) ks e = let same : i ≡ m = cc in let none : ks ≡ [] = cc in (rw same, none)

-- A line that isn't empty.
line_on : (t : Bool) (seen m : ℕ) (n k : Option ℕ) (ks : List (Option ℕ)) → noted n ++ (if t then k ∷ ks else ks) ≡ Some m ∷ [] →
    (n' : Option ℕ) × ((if t then after_length seen n k else without_body (InLine (record { seen = seen; line = []; length = n }))) ≡ without_body (InLine (record { seen = seen; line = []; length = n' }))) × (noted n' ++ ks ≡ Some m ∷ [])
line_on true seen m n k ks e = let h = length_once seen m n k ks e in (Some m, h.0, ap (λ l. Some m ∷ l) h.1)
line_on false seen m n k ks e = (n, refl, e)

ended_on : (seen m : ℕ) (l : List ℕ) (ls : List (List ℕ)) (n : Option ℕ) → 0 < length l → noted n ++ lengths (l ∷ ls) ≡ Some m ∷ [] → (n' : Option ℕ) × (after_line seen l n ≡ without_body (InLine (record { seen = seen; line = []; length = n' }))) × (noted n' ++ lengths ls ≡ Some m ∷ [])
ended_on seen m [] ls n h e = absurd (omega arith)
ended_on seen m (b ∷ bs) ls n h e = line_on _ seen m n (number (drop 16 (b ∷ bs))) (lengths ls) e

known : (m : ℕ) (n : Option ℕ) → noted n ++ [] ≡ Some m ∷ [] → n ≡ Some m
known m None e = cc
known m (Some i) e = cc

lines_run : (seen m : ℕ) (n : Option ℕ) (ls : List (List ℕ)) (more : List ℕ) → AreLines ls → noted n ++ lengths ls ≡ Some m ∷ [] → seen + length (header ls) ≤ 1024 → decode (InLine (record { seen = seen; line = []; length = n })) (header ls ++ more) ≡ body_before (after_header (Some m)).body (decode (after_header (Some m)).next more)
lines_run seen m n [] more p e h = rw (known m n e) (end_run seen [] (Some m) more h)
lines_run seen m n (l ∷ ls) more p e h =
    let size : length (header (l ∷ ls)) ≡ length l + (2 + length (header ls)) = simp length-append (omega arith) in
    let shape : header (l ∷ ls) ++ more ≡ l ++ 13 ∷ 10 ∷ (header ls ++ more) = simp append_assoc in
    let next = ended_on (seen + length l + 1 + 1) m l ls n p.0 e in
    ap (decode (InLine (record { seen = seen; line = []; length = n }))) shape
    ∙ plain_run seen [] n l (13 ∷ 10 ∷ (header ls ++ more)) p.1 (omega arith)
    ∙ end_run (seen + length l) l n (header ls ++ more) (omega arith)
    ∙ ap (λ (s : Step). body_before s.body (decode s.next (header ls ++ more))) next.1
    ∙ lines_run (seen + length l + 1 + 1) m next.0 ls more p.2 next.2 (omega arith)

-- ---- the body

body_step : (left x : ℕ) (front : List ℕ) → 1 < left → step (InBody left front) x ≡ without_body (InBody (left - 1) (front ++ x ∷ []))
body_step left x front h = grind (arith, nat_tests)

body_run : (left : ℕ) (front body more : List ℕ) → left ≡ length body → 0 < left → decode (InBody left front) (body ++ more) ≡ body_before (Some (front ++ body)) (decode start more)
body_run left front [] more e h = absurd (omega arith)
body_run left front (x ∷ []) more e h = rw e
body_run left front (x ∷ y ∷ ys) more e h =
    rw (body_step left x front (omega arith)) (body_run (left - 1) (front ++ x ∷ []) (y ∷ ys) more (omega arith) (omega arith) ∙ rw (append_assoc front (x ∷ []) (y ∷ ys)))

begun_run : (body more : List ℕ) → body_before (after_header (Some (length body))).body (decode (after_header (Some (length body))).next (body ++ more)) ≡ body_before (Some body) (decode start more)
begun_run [] more = refl
begun_run (x ∷ xs) more =
    let e : suc (length xs) == 0 ≡ false = grind (arith, nat_tests) in
    rw e (body_run (length (x ∷ xs)) [] (x ∷ xs) more refl (omega arith))

pub frame_run : (bytes body more : List ℕ) → IsFrame bytes body → decode start (bytes ++ more) ≡ body_before (Some body) (decode start more)
frame_run bytes body more f =
    ap (λ l. decode start (l ++ more)) f.spelled
    ∙ ap (decode start) (append_assoc (header f.lines) body more)
    ∙ lines_run 0 (length body) None f.lines (body ++ more) f.plain f.one (omega (arith, f.short))
    ∙ begun_run body more

-- The field of a written frame has the name of the length, whatever its value.
names_length : (ds : List ℕ) → has_length_name (length_name ++ ds) ≡ true
unfolding has_length_name
names_length ds = let long : nat_le 16 (length (length_name ++ ds)) ≡ true = grind (arith, nat_tests, length-append {A = ℕ}) in rw long refl

pub frame_is : (body : List ℕ) → length body ≤ 1048576 → IsFrame (frame body) body
frame_is body small =
    let ds = decimal (length body) in
    let n = number_decimal (length body) (omega arith) small in
    let fits : length ds ≤ 7 = length-decimal-le 7 (length body) (omega arith) (omega arith) (omega arith) in
    record {
      lines = (length_name ++ ds) ∷ [];
      spelled = simp append_assoc;
      plain = (omega arith, plain_append length_name ds (search rules) (plain_decimal (length body) (omega arith)), tt);
      one = rw (names_length ds) (ap (λ k. k ∷ []) (number_written ds n.0 ∙ n.1));
      short = simp length-append (omega arith);
    }

pub read_back : (body more : List ℕ) → length body ≤ 1048576 → decode start (frame body ++ more) ≡ body_before (Some body) (decode start more)
read_back body more small = frame_run (frame body) body more (frame_is body small)

pub frames_run : (frames bodies : List (List ℕ)) (more : List ℕ) → AreFrames frames bodies → decode start (flat_map (λ f. f) frames ++ more) ≡ bodies_before bodies (decode start more)
frames_run [] [] more h = refl
frames_run (f ∷ fs) (b ∷ bs) more h =
    ap (decode start) (append_assoc f (flat_map (λ f. f) fs) more)
    ∙ frame_run f b (flat_map (λ f. f) fs ++ more) h.0
    ∙ ap (body_before (Some b)) (frames_run fs bs more h.1)
frames_run [] (b ∷ bs) more h = absurd h
frames_run (f ∷ fs) [] more h = absurd h

not_failed : (p : Partial) (more : List ℕ) → (decode p more).rest ≡ start → fault_of p ≡ None
not_failed (Failed fault) more e = let l : start ≡ Failed fault = sym e ∙ ap (λ (c : Decoded). c.rest) (decode_failed fault more) in cc
not_failed (InLine h) more e = refl
not_failed (InReturn h) more e = refl
not_failed (InBody left body) more e = refl

-- A prefix of frames is not refused.
pub prefixes : (bytes more : List ℕ) (frames bodies : List (List ℕ)) → AreFrames frames bodies → bytes ++ more ≡ flat_map (λ f. f) frames → fault_of (decode start bytes).rest ≡ None
prefixes bytes more frames bodies h e =
    not_failed (decode start bytes).rest more
    (ap (λ (c : Decoded). c.rest) (sym (decode_pieces start bytes more) ∙ ap (decode start) (e ∙ sym (append-nil (flat_map (λ f. f) frames))) ∙ frames_run frames bodies [] h))
