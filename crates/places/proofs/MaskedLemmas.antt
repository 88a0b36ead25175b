-- Lemmas about old bytes together with the bit set of dropped ones.
use Rattle.std.proofs.Common.{◌≡◌, ◌≢◌, ℕ, zero, suc, not, ◌<◌, ◌≤◌, ◌+◌, Bool, true, false, refl, sym, ◌∙◌, ap, subst, List, [], ◌∷◌, ◌++◌, inl, inr, length, take, drop, ◌-◌, ◌^◌, arith, length-append}
use Rattle.std.specs.Prelude.{Option, Some, None, map, is_some, slice_get, option_map, replicate, slice_index_or}
use Rattle.std.specs.List.{list_any}
use Rattle.std.proofs.lemmas.List.{take_all, take-append-drop, length-take-le, length-drop}
use Rattle.places.proofs.ByteLemmas.{runs_once}
use Rattle.places.specs.declared.value.Value.{Value}
use Rattle.places.specs.declared.value.Value.TheVariants.{Byte}
use Rattle.places.specs.declared.notes.runs.Region.{Region}
use Rattle.places.specs.declared.notes.runs.Run.{Run}
use Rattle.places.specs.View.{View, named}
use Rattle.places.specs.Closed.{KeptOf, LeftOf}
use Rattle.places.specs.Runs.{place_in, old_bytes, run_changes, run_total, RunsOnce}
use Rattle.places.specs.Masked.{is_kept, marks_from, SameOutside, masked, kept_byte, LeftMark, MaskedOnce}
use Rattle.bit_sets.proofs.Bits.{has_past}
use Rattle.places.proofs.MarkLemmas.{length_marks, mark_is, marks_front, marks_back, marks_more, same_marks, all_marks}
use Rattle.places.proofs.Kept.{kept_bytes, kept_runs, runs_closed}

pub length-masked : (bs : List ℕ) (ks : List Bool) → length ks ≡ length bs → length (masked bs ks) ≡ length bs
length-masked [] ks h = refl
length-masked (b ∷ bs) [] h = absurd (omega arith)
length-masked (b ∷ bs) (k ∷ ks) h = ap suc (length-masked bs ks (omega arith))

pub masked-take : (n : ℕ) (bs : List ℕ) (ks : List Bool) → take n (masked bs ks) ≡ masked (take n bs) (take n ks)
masked-take zero bs ks = refl
masked-take (suc n) [] ks = refl
masked-take (suc n) (b ∷ bs) [] = refl
masked-take (suc n) (b ∷ bs) (k ∷ ks) = ap (λ os. kept_byte k b ∷ os) (masked-take n bs ks)

masked-none : (bs : List ℕ) → masked bs [] ≡ []
masked-none [] = refl
masked-none (b ∷ bs) = refl

pub masked-drop : (n : ℕ) (bs : List ℕ) (ks : List Bool) → drop n (masked bs ks) ≡ masked (drop n bs) (drop n ks)
masked-drop zero bs ks = refl
masked-drop (suc n) [] ks = refl
masked-drop (suc n) (b ∷ bs) [] = sym (masked-none (drop n bs))
masked-drop (suc n) (b ∷ bs) (k ∷ ks) = masked-drop n bs ks

pub masked-append : (bs cs : List ℕ) (ks ls : List Bool) → length ks ≡ length bs → masked (bs ++ cs) (ks ++ ls) ≡ masked bs ks ++ masked cs ls
masked-append [] cs [] ls h = refl
masked-append [] cs (k ∷ ks) ls h = absurd (omega arith)
masked-append (b ∷ bs) cs [] ls h = absurd (omega arith)
masked-append (b ∷ bs) cs (k ∷ ks) ls h = ap (λ os. kept_byte k b ∷ os) (masked-append bs cs ks ls (omega arith))

pub masked-all : (bs : List ℕ) → masked bs (replicate (length bs) true) ≡ map Some bs
masked-all [] = refl
masked-all (b ∷ bs) = ap (λ os. Some b ∷ os) (masked-all bs)

pub length_kept : (bs gone : List ℕ) (i : ℕ) → length (masked bs (marks_from gone i (length bs))) ≡ length bs
length_kept bs gone i = length-masked bs (marks_from gone i (length bs)) (length_marks gone i (length bs))

-- Appended bytes are not dropped.
pub masked_more : (bs cs before after : List ℕ) → ((q : ℕ) → is_kept after q ≡ is_kept before q) → ((q : ℕ) → length bs ≤ q → is_kept before q ≡ true)
    → masked (bs ++ cs) (marks_from after 0 (length (bs ++ cs))) ≡ masked bs (marks_from before 0 (length bs)) ++ map Some cs
masked_more bs cs before after same fresh =
    ap (λ n. masked (bs ++ cs) (marks_from after 0 n)) (length-append bs cs)
    ∙ ap (masked (bs ++ cs)) (marks_more after 0 (length bs) (length cs))
    ∙ masked-append bs cs (marks_from after 0 (length bs)) (marks_from after (0 + length bs) (length cs)) (length_marks after 0 (length bs))
    ∙ ap (λ ks. masked bs ks ++ masked cs (marks_from after (0 + length bs) (length cs))) (same_marks before after 0 (length bs) (λ q l m. same q))
    ∙ ap (λ ks. masked bs (marks_from before 0 (length bs)) ++ masked cs ks) (all_marks after (0 + length bs) (length cs) (λ q l. same q ∙ fresh q (omega arith)))
    ∙ ap (λ os. masked bs (marks_from before 0 (length bs)) ++ os) (masked-all cs)

-- Without any bits no byte is dropped.
pub masked_whole : (bs : List ℕ) (mark : ℕ) → masked bs (marks_from [] mark (length bs)) ≡ map (λ b. Some b) bs
masked_whole bs mark = ap (masked bs) (all_marks [] mark (length bs) (λ q h. ap not (has_past [] q (omega arith)))) ∙ masked-all bs

pub no_marks : (bs : List ℕ) (ks : List Bool) → list_any (λ k. k) ks ≡ false → list_any (λ o. is_some o) (masked bs ks) ≡ false
no_marks [] ks h = refl
no_marks (b ∷ bs) [] h = refl
no_marks (b ∷ bs) (true ∷ ks) h = cc
no_marks (b ∷ bs) (false ∷ ks) h = no_marks bs ks h

-- A recorded or dropped byte, as its value and its bit.
pub masked_at : (bs : List ℕ) (ks : List Bool) (i : ℕ) (o : Option ℕ) → slice_get (masked bs ks) i ≡ Some o → (b : ℕ) × (k : Bool) × (slice_get bs i ≡ Some b) × (slice_get ks i ≡ Some k) × (o ≡ kept_byte k b)
masked_at [] ks i o h = absurd cc
masked_at (b ∷ bs) [] i o h = absurd cc
masked_at (b ∷ bs) (k ∷ ks) zero o h = (b, k, refl, refl, (let e : kept_byte k b ≡ o = cc in sym e))
masked_at (b ∷ bs) (k ∷ ks) (suc i) o h = masked_at bs ks i o h

pub masked_here : (bs : List ℕ) (ks : List Bool) (i b : ℕ) (k : Bool) → slice_get bs i ≡ Some b → slice_get ks i ≡ Some k → slice_get (masked bs ks) i ≡ Some (kept_byte k b)
masked_here [] ks i b k e f = absurd cc
masked_here (c ∷ bs) [] i b k e f = absurd cc
masked_here (c ∷ bs) (m ∷ ks) zero b k e f = let p : c ≡ b = cc in let q : m ≡ k = cc in ap (λ x. Some (kept_byte m x)) p ∙ ap (λ x. Some (kept_byte x b)) q
masked_here (c ∷ bs) (m ∷ ks) (suc i) b k e f = masked_here bs ks i b k e f

some_other : (x : Option ℕ) (b : ℕ) → x ≢ Some b → Some (Byte b) ≢ option_map Byte x
some_other None b h e = cc
some_other (Some c) b h e = h (let i : b ≡ c = cc in ap Some (sym i))

mark_left : (x : Option ℕ) (b : ℕ) (k l : Bool) → LeftMark x b k l → LeftOf (option_map Byte x) (kept_byte k b) (kept_byte l b)
mark_left x b false l (inl h) = rw (h.0) refl
mark_left x b false l (inr h) = rw (h.0) refl
mark_left x b true l (inl h) = rw (h.0) (inl (refl, some_other x b h.1))
mark_left x b true l (inr h) = rw (h.0, h.1) (inr (refl, refl))

-- What remains of bytes, if each bit changes as the current value of its place requires.
pub each_left : (v : View) (g : Region) (s : ℕ) (bs before after : List ℕ) (mark : ℕ)
    → ((i b : ℕ) → slice_get bs i ≡ Some b → LeftOf (v (place_in g (s + i))) (kept_byte (is_kept before (mark + i)) b) (kept_byte (is_kept after (mark + i)) b))
    → KeptOf v (old_bytes g s (masked bs (marks_from before mark (length bs)))) (old_bytes g s (masked bs (marks_from after mark (length bs))))
each_left v g s bs before after mark h =
    kept_bytes v g s (masked bs ks) (masked bs ls) (length_kept bs after mark ∙ sym (length_kept bs before mark)) at
  where
    ks : List Bool
    ks = marks_from before mark (length bs)

    ls : List Bool
    ls = marks_from after mark (length bs)

    at : (i : ℕ) (o r : Option ℕ) → slice_get (masked bs ks) i ≡ Some o → slice_get (masked bs ls) i ≡ Some r → LeftOf (v (place_in g (s + i))) o r
    at i o r e f =
        let a = masked_at bs ks i o e in
        let b = masked_at bs ls i r f in
        let same : b.0 ≡ a.0 = let x = a.2 in let y = b.2 in cc in
        let o' : kept_byte (is_kept before (mark + i)) a.0 ≡ o = sym (a.4 ∙ ap (λ k. kept_byte k a.0) (mark_is before mark (length bs) i a.1 a.3)) in
        let r' : kept_byte (is_kept after (mark + i)) a.0 ≡ r = sym (b.4 ∙ ap (kept_byte b.1) same ∙ ap (λ k. kept_byte k a.0) (mark_is after mark (length bs) i b.1 b.3)) in
        subst (λ x. LeftOf (v (place_in g (s + i))) x r) o' (subst (λ x. LeftOf (v (place_in g (s + i))) (kept_byte (is_kept before (mark + i)) a.0) x) r' (h i a.0 a.2))

-- The same if the current bytes are compared as a slice.
pub marks_left : (v : View) (g : Region) (s : ℕ) (bs now before after : List ℕ) (mark : ℕ) → ((i : ℕ) → v (place_in g i) ≡ option_map Byte (slice_get now i))
    → ((i b : ℕ) → slice_get bs i ≡ Some b → LeftMark (slice_get now (s + i)) b (is_kept before (mark + i)) (is_kept after (mark + i)))
    → KeptOf v (old_bytes g s (masked bs (marks_from before mark (length bs)))) (old_bytes g s (masked bs (marks_from after mark (length bs))))
marks_left v g s bs now before after mark seen h =
    each_left v g s bs before after mark
    (λ i b e. subst (λ x. LeftOf x (kept_byte (is_kept before (mark + i)) b) (kept_byte (is_kept after (mark + i)) b)) (sym (seen (s + i))) (mark_left (slice_get now (s + i)) b (is_kept before (mark + i)) (is_kept after (mark + i)) (h i b e)))

-- A byte whose place has the old value is dropped, and any other stays.
pub left_gone : (x : Option Value) (b : ℕ) (k : Bool) → x ≡ Some (Byte b) → LeftOf x (kept_byte k b) (kept_byte false b)
left_gone x b false h = refl
left_gone x b true h = inr (refl, sym h)

pub left_kept : (x : Option Value) (b : ℕ) (k : Bool) → x ≢ Some (Byte b) → LeftOf x (kept_byte k b) (kept_byte k b)
left_kept x b false h = refl
left_kept x b true h = inl (refl, λ e. h (sym e))

-- What remains of a run and of the runs after it.
pub masked_runs : (v : View) (r : Run) (rs : List Run) (bs fb bb : List ℕ) (ks fk bk fl bl : List Bool) → fb ≡ take r.len bs → bb ≡ drop r.len bs → fk ≡ take r.len ks → bk ≡ drop r.len ks → length fb ≡ r.len → length fl ≡ length fb
    → KeptOf v (old_bytes r.region r.start (masked fb fk)) (old_bytes r.region r.start (masked fb fl)) → KeptOf v (run_changes rs (masked bb bk)) (run_changes rs (masked bb bl)) → KeptOf v (run_changes (r ∷ rs) (masked bs ks)) (run_changes (r ∷ rs) (masked bs (fl ++ bl)))
masked_runs v r rs bs fb bb ks fk bk fl bl a b c d e f h k =
    subst (λ os. KeptOf v (run_changes (r ∷ rs) (masked bs ks)) (run_changes (r ∷ rs) os)) (sym (masked-append fb bb fl bl f) ∙ ap (λ xs. masked xs (fl ++ bl)) (ap (λ xs. xs ++ bb) a ∙ ap (λ xs. take r.len bs ++ xs) b ∙ take-append-drop r.len bs))
    (kept_runs v r rs (masked bs ks) (masked fb fl) (masked bb bl) (length-masked fb fl f ∙ e)
    (subst (λ os. KeptOf v (old_bytes r.region r.start os) (old_bytes r.region r.start (masked fb fl))) (sym (masked-take r.len bs ks ∙ ap (λ x. masked x (take r.len ks)) (sym a) ∙ ap (masked fb) (sym c))) h)
    (subst (λ os. KeptOf v (run_changes rs os) (run_changes rs (masked bb bl))) (sym (masked-drop r.len bs ks ∙ ap (λ x. masked x (drop r.len ks)) (sym b) ∙ ap (masked bb) (sym d))) k))

-- The same for bits that begin at number `mark`.
pub marked_runs : (v : View) (r : Run) (rs : List Run) (bs fb bb before mid after : List ℕ) (mark : ℕ) → fb ≡ take r.len bs → bb ≡ drop r.len bs → length fb ≡ r.len → length bs ≡ length fb + length bb
    → SameOutside before mid mark (length fb) → SameOutside mid after (mark + r.len) (length bb)
    → KeptOf v (old_bytes r.region r.start (masked fb (marks_from before mark (length fb)))) (old_bytes r.region r.start (masked fb (marks_from mid mark (length fb))))
    → KeptOf v (run_changes rs (masked bb (marks_from mid (mark + r.len) (length bb)))) (run_changes rs (masked bb (marks_from after (mark + r.len) (length bb))))
    → KeptOf v (run_changes (r ∷ rs) (masked bs (marks_from before mark (length bs)))) (run_changes (r ∷ rs) (masked bs (marks_from after mark (length bs))))
marked_runs v r rs bs fb bb before mid after mark a b e n o p h k =
    subst (λ ls. KeptOf v (run_changes (r ∷ rs) (masked bs (marks_from before mark (length bs)))) (run_changes (r ∷ rs) (masked bs ls))) (sym whole)
    (masked_runs v r rs bs fb bb (marks_from before mark (length bs)) (marks_from before mark (length fb)) (marks_from before (mark + r.len) (length bb)) (marks_from after mark (length fb)) (marks_from after (mark + r.len) (length bb))
    a b front back e (length_marks after mark (length fb))
    (subst (λ ls. KeptOf v (old_bytes r.region r.start (masked fb (marks_from before mark (length fb)))) (old_bytes r.region r.start (masked fb ls))) (sym first) h)
    (subst (λ ls. KeptOf v (run_changes rs (masked bb ls)) (run_changes rs (masked bb (marks_from after (mark + r.len) (length bb))))) others k))
  where
    whole : marks_from after mark (length bs) ≡ marks_from after mark (length fb) ++ marks_from after (mark + r.len) (length bb)
    whole = ap (marks_from after mark) n ∙ marks_more after mark (length fb) (length bb) ∙ ap (λ m. marks_from after mark (length fb) ++ marks_from after (mark + m) (length bb)) e

    front : marks_from before mark (length fb) ≡ take r.len (marks_from before mark (length bs))
    front = ap (marks_from before mark) e ∙ marks_front before mark (length bs) r.len (omega arith)

    back : marks_from before (mark + r.len) (length bb) ≡ drop r.len (marks_from before mark (length bs))
    back = ap (marks_from before (mark + r.len)) (let m : length bb ≡ length bs - r.len = omega arith in m) ∙ marks_back before mark (length bs) r.len (omega arith)

    first : marks_from after mark (length fb) ≡ marks_from mid mark (length fb)
    first = same_marks mid after mark (length fb) (λ q l m. p q (inl (omega arith)))

    others : marks_from mid (mark + r.len) (length bb) ≡ marks_from before (mark + r.len) (length bb)
    others = same_marks before mid (mark + r.len) (length bb) (λ q l m. o q (inr (omega arith)))

-- The first byte, if it is recorded, and the changes after it.
first_is : (g : Region) (s n b : ℕ) (os : List ℕ) (k : Bool) (ks : List Bool) (rs : List Run) → 1 ≤ n → k ≡ true
    → old_bytes g s (take n (masked (b ∷ os) (k ∷ ks))) ++ run_changes rs (drop n (masked (b ∷ os) (k ∷ ks))) ≡ record { place = place_in g s; old = Some (Byte b) } ∷ (old_bytes g (s + 1) (take (n - 1) (masked os ks)) ++ run_changes rs (drop (n - 1) (masked os ks)))
first_is g s zero b os k ks rs h e = absurd (omega arith)
first_is g s (suc n) b os false ks rs h e = absurd cc
first_is g s (suc n) b os true ks rs h e = let m : suc n - 1 ≡ n = omega arith in rw (m) refl

pub first_kept : (g : Region) (s n : ℕ) (os gone : List ℕ) (mark : ℕ) (rs : List Run) (b : ℕ) → 1 ≤ n → 1 ≤ length os → is_kept gone mark ≡ true
    → old_bytes g s (take n (masked os (marks_from gone mark (length os)))) ++ run_changes rs (drop n (masked os (marks_from gone mark (length os))))
    ≡ record { place = place_in g s; old = Some (Byte (slice_index_or os 0 b)) } ∷ (old_bytes g (s + 1) (take (n - 1) (masked (take (length os - 1) (drop 1 os)) (marks_from gone (mark + 1) (length (take (length os - 1) (drop 1 os)))))) ++ run_changes rs (drop (n - 1) (masked (take (length os - 1) (drop 1 os)) (marks_from gone (mark + 1) (length (take (length os - 1) (drop 1 os)))))))
first_kept g s n [] gone mark rs b h i k = absurd (omega arith)
first_kept g s n (o ∷ os) gone mark rs b h i k =
    let l : suc (length os) - 1 ≡ length os = omega arith in
    rw (l, take_all (length os) os (omega arith)) (first_is g s n o os (is_kept gone mark) (marks_from gone (mark + 1) (length os)) rs h k)

-- Appending a run maintains the invariant of recorded bytes.
pub masked_once : (rs : List Run) (r : Run) (os before after bs : List ℕ) → MaskedOnce rs os before → ((q : ℕ) → is_kept after q ≡ is_kept before q) → r.len ≡ length bs → r.start + r.len ≤ 2 ^ 32
    → ((i : ℕ) → i < length bs → named (run_changes rs (masked os (marks_from before 0 (length os)))) (place_in r.region (r.start + i)) ≡ None) → MaskedOnce (rs ++ r ∷ []) (os ++ bs) after
masked_once rs r os before after bs o same l w fresh = record {
  once = subst (λ ps. RunsOnce (rs ++ r ∷ []) ps) (sym (masked_more os bs before after same o.fresh)) (runs_once rs r (masked os (marks_from before 0 (length os))) bs o.once l w fresh);
  fresh = λ q h. same q ∙ o.fresh q (omega (arith, length-append os bs));
}

-- So does dropping bytes.
pub marks_closed : (v : View) (rs : List Run) (bs before after : List ℕ) → MaskedOnce rs bs before → ((q : ℕ) → length bs ≤ q → is_kept after q ≡ is_kept before q)
    → KeptOf v (run_changes rs (masked bs (marks_from before 0 (length bs)))) (run_changes rs (masked bs (marks_from after 0 (length bs)))) → MaskedOnce rs bs after
marks_closed v rs bs before after o same k = record {
  once = runs_closed v rs (masked bs (marks_from before 0 (length bs))) (masked bs (marks_from after 0 (length bs))) o.once (length_kept bs after 0 ∙ sym (length_kept bs before 0)) k;
  fresh = λ q h. same q h ∙ o.fresh q h;
}

pub masked_nothing : MaskedOnce [] [] []
masked_nothing = record { once = record { fits = refl; within = tt; once = tt }; fresh = λ q h. ap not (has_past [] q (omega arith)) }

-- The changes of the first run, and those of the runs after it.
pub first_run : (rs : List Run) (d : Run) (bs fb bb : List ℕ) (ks fk bk : List Bool) → 1 ≤ length rs → fb ≡ take (slice_index_or rs 0 d).len bs → bb ≡ drop (slice_index_or rs 0 d).len bs → fk ≡ take (slice_index_or rs 0 d).len ks → bk ≡ drop (slice_index_or rs 0 d).len ks
    → run_changes rs (masked bs ks) ≡ old_bytes (slice_index_or rs 0 d).region (slice_index_or rs 0 d).start (masked fb fk) ++ run_changes (take (length rs - 1) (drop 1 rs)) (masked bb bk)
first_run [] d bs fb bb ks fk bk h a b e f = absurd (omega arith)
first_run (r ∷ rs) d bs fb bb ks fk bk h a b e f =
    let l : suc (length rs) - 1 ≡ length rs = omega arith in
    rw (a, b, e, f, l, take_all (length rs) rs (omega arith), masked-take r.len bs ks, masked-drop r.len bs ks) refl

first_fits : (rs : List Run) (d : Run) → 1 ≤ length rs → (slice_index_or rs 0 d).len ≤ run_total rs
first_fits [] d h = absurd (omega arith)
first_fits (r ∷ rs) d h = omega arith

-- The same for bits that begin at number `mark`.
pub first_stretch : (rs : List Run) (d : Run) (bs fb bb gone : List ℕ) (mark : ℕ) → 1 ≤ length rs → run_total rs ≡ length bs → fb ≡ take (slice_index_or rs 0 d).len bs → bb ≡ drop (slice_index_or rs 0 d).len bs
    → run_changes rs (masked bs (marks_from gone mark (length bs))) ≡ old_bytes (slice_index_or rs 0 d).region (slice_index_or rs 0 d).start (masked fb (marks_from gone mark (length fb))) ++ run_changes (take (length rs - 1) (drop 1 rs)) (masked bb (marks_from gone (mark + (slice_index_or rs 0 d).len) (length bb)))
first_stretch rs d bs fb bb gone mark h total a b =
    let w : (slice_index_or rs 0 d).len ≤ length bs = omega (arith, first_fits rs d h) in
    let front : length fb ≡ (slice_index_or rs 0 d).len = ap length a ∙ length-take-le (slice_index_or rs 0 d).len bs w in
    let back : length bb ≡ length bs - (slice_index_or rs 0 d).len = ap length b ∙ length-drop (slice_index_or rs 0 d).len bs in
    first_run rs d bs fb bb (marks_from gone mark (length bs)) (marks_from gone mark (length fb)) (marks_from gone (mark + (slice_index_or rs 0 d).len) (length bb)) h a b
    (ap (marks_from gone mark) front ∙ marks_front gone mark (length bs) (slice_index_or rs 0 d).len w)
    (ap (marks_from gone (mark + (slice_index_or rs 0 d).len)) back ∙ marks_back gone mark (length bs) (slice_index_or rs 0 d).len w)
