-- Lemmas about recorded bytes in runs.
use Rattle.std.proofs.Common.{◌≡◌, ℕ, zero, suc, ◌<◌, ◌≤◌, ◌+◌, Bool, true, false, cond, refl, sym, ◌∙◌, ap, subst, List, [], ◌∷◌, ◌++◌, ◌^◌, length, take, drop, arith, append_assoc}
use Rattle.std.specs.Prelude.{Option, Some, None, map, is_some, ◌==◌, ◌&&◌, ◌||◌, nat_le, nat_lt}
use Rattle.std.specs.List.{list_any}
use Rattle.std.proofs.lemmas.Bool.{eqb-true, eq-eqb}
use Rattle.std.proofs.lemmas.Bool.Decides.{nat_tests}
use Rattle.std.proofs.lemmas.List.{take-append-le, drop-append-le, take_all, append-nil, length-drop, length-append}
use Rattle.places.specs.declared.place.Place.{Place}
use Rattle.places.specs.declared.value.Value.{Value}
use Rattle.places.specs.declared.value.Value.TheVariants.{Byte}
use Rattle.places.specs.declared.value.Change.{Change}
use Rattle.places.specs.declared.notes.runs.Region.{Region}
use Rattle.places.specs.declared.notes.runs.Region.TheVariants.{Memory, File, Durable, Pipe}
use Rattle.places.specs.declared.notes.runs.Run.{Run}
use Rattle.places.specs.Places.{same_place, kind_of, index_of, second_of}
use Rattle.places.specs.PlaceNumbers.{place_of, place_again}
use Rattle.places.specs.View.{named, NamesOnce, first_note}
use Rattle.places.specs.Runs.{place_in, is_in, offset_in, covers, run_total, old_bytes, run_changes, byte_from, byte_in, NotedBytes, RunsOnce, RunsFit, AllKept}
use Rattle.places.proofs.SamePlace.{same_place_is, same_place_self}
use Rattle.places.proofs.Naming.{named-append}

-- The changes of runs, after one more run at the end.
pub run_changes-more : (rs : List Run) (r : Run) (os ps : List (Option ℕ)) → run_total rs ≡ length os → r.len ≡ length ps → run_changes (rs ++ r ∷ []) (os ++ ps) ≡ run_changes rs os ++ old_bytes r.region r.start ps
run_changes-more [] r [] ps h e = append-nil _ ∙ ap (old_bytes r.region r.start) (take_all r.len ps (omega arith))
run_changes-more [] r (o ∷ os) ps h e = absurd (omega arith)
run_changes-more (q ∷ rs) r os ps h e =
    let w : q.len ≤ length os = omega arith in
    rw (take-append-le q.len os ps w, drop-append-le q.len os ps w, run_changes-more rs r (drop q.len os) ps (let k = length-drop q.len os in omega arith) e)
    (sym (append_assoc (old_bytes q.region q.start (take q.len os)) (run_changes rs (drop q.len os)) (old_bytes r.region r.start ps)))

run_total-more : (rs : List Run) (r : Run) → run_total (rs ++ r ∷ []) ≡ run_total rs + r.len
run_total-more [] r = omega arith
run_total-more (q ∷ rs) r = let h = run_total-more rs r in omega arith

-- A byte of memory has no second index.
memory_second : (p : Place) → 9 ≡ kind_of p → second_of p ≡ 0
unfolding place_of
memory_second p k = ap second_of (sym (place_again p) ∙ ap (λ n. place_of n (index_of p) (second_of p)) (sym k))

and_assoc : (a b c : Bool) → (a && (b && c)) ≡ ((a && b) && c)
and_assoc true b c = refl
and_assoc false b c = refl

and_true : (a : Bool) → (a && true) ≡ a
and_true true = refl
and_true false = refl

-- A place is byte s of a region exactly if it is in the region and has index s there.
pub same_in : (g : Region) (s : ℕ) (p : Place) → same_place (place_in g s) p ≡ (is_in g p && (s == offset_in g p))
unfolding same_place
same_in Memory s p = by (9 == kind_of p) refl
  where
    by : (b : Bool) → (9 == kind_of p) ≡ b → (b && ((s == index_of p) && (0 == second_of p))) ≡ (b && (s == index_of p))
    by true k = ap (λ t. (s == index_of p) && t) (eq-eqb 0 (second_of p) (sym (memory_second p (eqb-true 9 (kind_of p) k)))) ∙ and_true (s == index_of p)
    by false k = refl
same_in (File o) s p = and_assoc (10 == kind_of p) (o == index_of p) (s == second_of p)
same_in (Durable o) s p = and_assoc (11 == kind_of p) (o == index_of p) (s == second_of p)
same_in (Pipe o) s p = and_assoc (16 == kind_of p) (o == index_of p) (s == second_of p)

pub offset_again : (g : Region) (s : ℕ) → offset_in g (place_in g s) ≡ s
offset_again Memory s = refl
offset_again (File o) s = refl
offset_again (Durable o) s = refl
offset_again (Pipe o) s = refl

pub tests : (a s : Bool) (x f : Option (Option Value)) → cond (a && s) x (cond a f None) ≡ cond a (cond s x f) None
tests true s x f = refl
tests false s x f = refl

either_none : (b : Bool) → ◌≡◌ {A = Option (Option Value)} (cond b None None) None
either_none true = refl
either_none false = refl

pub named_bytes : (g : Region) (s : ℕ) (bs : List ℕ) (q : Place) → named (old_bytes g s (map Some bs)) q ≡ byte_in g s bs q
unfolding named
named_bytes g s [] q = sym (either_none _)
named_bytes g s (b ∷ bs) q = rw (named_bytes g (s + 1) bs q, same_in g s q) (tests (is_in g q) (s == offset_in g q) (Some (Some (Byte b))) (byte_from (s + 1) bs (offset_in g q)))

pub noted_bytes : (cs : List Change) (g : Region) (s : ℕ) (bs : List ℕ) → NotedBytes cs (cs ++ old_bytes g s (map Some bs)) g s bs
noted_bytes cs g s bs q = named-append cs _ q ∙ ap (first_note (named cs q)) (named_bytes g s bs q)

byte_from_there : (s : ℕ) (bs : List ℕ) (i : ℕ) → is_some (byte_from s bs i) ≡ true → (k : ℕ) × (k < length bs) × (i ≡ s + k)
byte_from_there s [] i h = absurd cc
byte_from_there s (b ∷ bs) i h = by (s == i) refl h (byte_from_there (s + 1) bs i)
  where
    by : (t : Bool) → (s == i) ≡ t → is_some (cond t (Some (Some (Byte b))) (byte_from (s + 1) bs i)) ≡ true → (is_some (byte_from (s + 1) bs i) ≡ true → (k : ℕ) × (k < length bs) × (i ≡ (s + 1) + k)) → (k : ℕ) × (k < suc (length bs)) × (i ≡ s + k)
    by true e f again = (0, omega arith, (let j = eqb-true s i e in omega arith))
    by false e f again = let a = again f in (suc a.0, (let l = a.1 in omega arith), (let l = a.2 in omega arith))

pub byte_in_there : (g : Region) (s : ℕ) (bs : List ℕ) (p : Place) → is_some (byte_in g s bs p) ≡ true → (k : ℕ) × (k < length bs) × (place_in g (s + k) ≡ p)
byte_in_there g s bs p h = by (is_in g p) refl h
  where
    by : (a : Bool) → is_in g p ≡ a → is_some (cond a (byte_from s bs (offset_in g p)) None) ≡ true → (k : ℕ) × (k < length bs) × (place_in g (s + k) ≡ p)
    by true e m = let t = byte_from_there s bs (offset_in g p) m in (t.0, t.1, same_place_is (place_in g (s + t.0)) p (same_in g (s + t.0) p ∙ rw (e, eq-eqb (s + t.0) (offset_in g p) (sym t.2)) refl))
    by false e m = absurd cc

-- Two lists of notes, each without a second note of a place, that share no place.
pub once_append : (cs ds : List Change) → NamesOnce cs → NamesOnce ds → ((p : Place) → is_some (named ds p) ≡ true → named cs p ≡ None) → NamesOnce (cs ++ ds)
unfolding named
once_append [] ds h k apart = k
once_append (c ∷ cs) ds h k apart = (named-append cs ds c.place ∙ ap (λ n. first_note n (named ds c.place)) h.0 ∙ unnamed (named ds c.place) refl, once_append cs ds h.1 k (λ p e. tail (same_place c.place p) p (apart p e)))
  where
    none_some : (x : Option Value) → Some x ≡ None → ⊥
    none_some x e = cc

    tail : (b : Bool) (p : Place) → cond b (Some c.old) (named cs p) ≡ None → named cs p ≡ None
    tail true p e = absurd (none_some _ e)
    tail false p e = e

    unnamed : (n : Option (Option Value)) → named ds c.place ≡ n → n ≡ None
    unnamed None e = refl
    unnamed (Some x) e = absurd (none_some c.old (sym (ap (λ b. cond b (Some c.old) (named cs c.place)) (same_place_self c.place)) ∙ apart c.place (ap is_some e)))

byte_from_before : (s : ℕ) (bs : List ℕ) (i : ℕ) → i < s → byte_from s bs i ≡ None
byte_from_before s [] i h = refl
byte_from_before s (b ∷ bs) i h = by (s == i) refl (byte_from_before (s + 1) bs i (omega arith))
  where
    by : (t : Bool) → (s == i) ≡ t → byte_from (s + 1) bs i ≡ None → cond t (Some (Some (Byte b))) (byte_from (s + 1) bs i) ≡ None
    by true e k = absurd (let j = eqb-true s i e in omega arith)
    by false e k = k

pub bytes_once : (g : Region) (s : ℕ) (bs : List ℕ) → NamesOnce (old_bytes g s (map Some bs))
bytes_once g s [] = tt
bytes_once g s (b ∷ bs) =
    let n = byte_from_before (s + 1) bs (offset_in g (place_in g s)) (let e = offset_again g s in omega arith) in
    (named_bytes g (s + 1) bs (place_in g s) ∙ ap (λ m. cond (is_in g (place_in g s)) m None) n ∙ either_none _, bytes_once g (s + 1) bs)

length_some : (xs : List ℕ) → length (map (λ x. Some x) xs) ≡ length xs
length_some [] = refl
length_some (x ∷ xs) = ap suc (length_some xs)

pub noted_run : (rs : List Run) (r : Run) (os : List (Option ℕ)) (bs : List ℕ) → run_total rs ≡ length os → r.len ≡ length bs → NotedBytes (run_changes rs os) (run_changes (rs ++ r ∷ []) (os ++ map Some bs)) r.region r.start bs
noted_run rs r os bs h e q = ap (λ cs. named cs q) (run_changes-more rs r os (map Some bs) h (e ∙ sym (length_some bs))) ∙ noted_bytes (run_changes rs os) r.region r.start bs q

runs_fit : (rs : List Run) (r : Run) → RunsFit rs → r.start + r.len ≤ 2 ^ 32 → RunsFit (rs ++ r ∷ [])
runs_fit [] r h w = (w, tt)
runs_fit (q ∷ rs) r h w = (h.0, runs_fit rs r h.1 w)

pub runs_once : (rs : List Run) (r : Run) (os : List (Option ℕ)) (bs : List ℕ) → RunsOnce rs os → r.len ≡ length bs → r.start + r.len ≤ 2 ^ 32 → ((i : ℕ) → i < length bs → named (run_changes rs os) (place_in r.region (r.start + i)) ≡ None) → RunsOnce (rs ++ r ∷ []) (os ++ map Some bs)
runs_once rs r os bs o l w fresh = record {
  within = runs_fit rs r o.within w;
  fits = run_total-more rs r ∙ (let f = o.fits in omega (arith, length-append os (map Some bs), length_some bs));
  once = subst NamesOnce (sym (run_changes-more rs r os (map Some bs) o.fits (l ∙ sym (length_some bs)))) (once_append _ _ o.once (bytes_once r.region r.start bs) apart);
}
  where
    apart : (p : Place) → is_some (named (old_bytes r.region r.start (map Some bs)) p) ≡ true → named (run_changes rs os) p ≡ None
    apart p h =
        let t = byte_in_there r.region r.start bs p (ap is_some (sym (named_bytes r.region r.start bs p)) ∙ h) in
        ap (named (run_changes rs os)) (sym t.2) ∙ fresh t.0 t.1

all_kept : (bs : List ℕ) → AllKept (map Some bs)
all_kept [] = tt
all_kept (b ∷ bs) = all_kept bs

pub kept_more : (os : List (Option ℕ)) (bs : List ℕ) → AllKept os → AllKept (os ++ map Some bs)
kept_more [] bs h = all_kept bs
kept_more (None ∷ os) bs h = absurd h
kept_more (Some b ∷ os) bs h = kept_more os bs h

kept_take : (n : ℕ) (os : List (Option ℕ)) → AllKept os → AllKept (take n os)
kept_take zero os h = tt
kept_take (suc n) [] h = tt
kept_take (suc n) (None ∷ os) h = absurd h
kept_take (suc n) (Some b ∷ os) h = kept_take n os h

kept_drop : (n : ℕ) (os : List (Option ℕ)) → AllKept os → AllKept (drop n os)
kept_drop zero os h = h
kept_drop (suc n) [] h = tt
kept_drop (suc n) (None ∷ os) h = absurd h
kept_drop (suc n) (Some b ∷ os) h = kept_drop n os h

between : ℕ → ℕ → ℕ → Bool
between s n i = nat_le s i && nat_lt i (s + n)

between_more : (s n i : ℕ) → between s (suc n) i ≡ ((s == i) || between (s + 1) n i)
unfolding between
between_more s n i = grind (arith, nat_tests)

between_none : (s i : ℕ) → between s 0 i ≡ false
unfolding between
between_none s i = grind (arith, nat_tests)

some_cond : (b : Bool) (x : Option Value) (n : Option (Option Value)) → is_some (cond b (Some x) n) ≡ (b || is_some n)
some_cond true x n = refl
some_cond false x n = refl

or_and : (a s t : Bool) → ((a && s) || (a && t)) ≡ (a && (s || t))
or_and true s t = refl
or_and false s t = refl

and_false : (a : Bool) → (a && false) ≡ false
and_false true = refl
and_false false = refl

kept_named : (g : Region) (s : ℕ) (os : List (Option ℕ)) (p : Place) → AllKept os → is_some (named (old_bytes g s os) p) ≡ (is_in g p && between s (length os) (offset_in g p))
unfolding named
kept_named g s [] p h = rw (between_none s (offset_in g p)) (sym (and_false (is_in g p)))
kept_named g s (None ∷ os) p h = absurd h
kept_named g s (Some b ∷ os) p h =
    some_cond (same_place (place_in g s) p) (Some (Byte b)) (named (old_bytes g (s + 1) os) p)
    ∙ rw (same_in g s p, kept_named g (s + 1) os p h, between_more s (length os) (offset_in g p)) (or_and (is_in g p) (s == offset_in g p) (between (s + 1) (length os) (offset_in g p)))

some_first : (m n : Option (Option Value)) → is_some (first_note m n) ≡ (is_some m || is_some n)
some_first None n = refl
some_first (Some x) n = refl

length_take : (n : ℕ) (os : List (Option ℕ)) → n ≤ length os → length (take n os) ≡ n
length_take zero os h = refl
length_take (suc n) [] h = absurd (omega arith)
length_take (suc n) (o ∷ os) h = ap suc (length_take n os (omega arith))

-- If no byte is dropped, a place has a note exactly if a run covers it.
pub covered : (rs : List Run) (os : List (Option ℕ)) (p : Place) → AllKept os → run_total rs ≡ length os → list_any (λ r. covers r p) rs ≡ is_some (named (run_changes rs os) p)
unfolding named between
covered [] os p h e = refl
covered (r ∷ rs) os p h e =
    let w : r.len ≤ length os = omega arith in
    let l : length (drop r.len os) + r.len ≡ length os = let k = length-drop r.len os in omega arith in
    let one = kept_named r.region r.start (take r.len os) p (kept_take r.len os h) in
    let rest = covered rs (drop r.len os) p (kept_drop r.len os h) (omega arith) in
    sym (ap is_some (named-append (old_bytes r.region r.start (take r.len os)) (run_changes rs (drop r.len os)) p)
    ∙ some_first (named (old_bytes r.region r.start (take r.len os)) p) (named (run_changes rs (drop r.len os)) p)
    ∙ rw (one, ← rest, length_take r.len os w) refl)

any_take : (n : ℕ) (os : List (Option ℕ)) → list_any (λ o. is_some o) os ≡ false → list_any (λ o. is_some o) (take n os) ≡ false
any_take zero os h = refl
any_take (suc n) [] h = refl
any_take (suc n) (None ∷ os) h = any_take n os h
any_take (suc n) (Some b ∷ os) h = cc

any_drop : (n : ℕ) (os : List (Option ℕ)) → list_any (λ o. is_some o) os ≡ false → list_any (λ o. is_some o) (drop n os) ≡ false
any_drop zero os h = h
any_drop (suc n) [] h = refl
any_drop (suc n) (None ∷ os) h = any_drop n os h
any_drop (suc n) (Some b ∷ os) h = cc

old_none : (g : Region) (s : ℕ) (os : List (Option ℕ)) → list_any (λ o. is_some o) os ≡ false → old_bytes g s os ≡ []
old_none g s [] h = refl
old_none g s (None ∷ os) h = old_none g (s + 1) os h
old_none g s (Some b ∷ os) h = let e : true ≡ false = h in cc

-- Runs of which all bytes are dropped have no changes.
pub none_kept : (rs : List Run) (os : List (Option ℕ)) → list_any (λ o. is_some o) os ≡ false → run_changes rs os ≡ []
none_kept [] os h = refl
none_kept (r ∷ rs) os h = rw (old_none r.region r.start (take r.len os) (any_take r.len os h), none_kept rs (drop r.len os) (any_drop r.len os h)) refl
