-- Reading the items of a list, one at a time.
use Rattle.std.proofs.Common.{◌≡◌, ℕ, zero, suc, ◌+◌, ◌<◌, List, [], ◌∷◌, ◌++◌, length, map, drop, get_or, Option, Some, Result, Ok, Err, Bool, ◌&&◌, String, Global, string_bytes, refl, sym, ap, ◌∙◌, arith, append_assoc}
use Rattle.serde_json.specs.Data.{Data, null, boolean, number, string, array, object}
use Rattle.serde_json.specs.Find.{as_array, as_object}
use Rattle.serde_json.specs.View.{view, items_view, items_of, members_view}
use Rattle.serde_json.specs.declared.value.Value.{Value}
use Rattle.script.specs.declared.fault.ScriptFault.{ScriptFault}
use Rattle.script.specs.declared.fault.ScriptFault.TheVariants.{NotJson, Shape, Range, Limit, Memory}
use Rattle.script.specs.declared.fault.Path.{Path}
use Rattle.script.specs.Lists.{each, folded, listed, list_of, of_list, has_keys, keys_pass}
use Rattle.script.specs.Faults.{◌>>=◌, Fails}
use Rattle.std.specs.List.{list_all}
use Rattle.std.specs.Map.{keys_of}

-- The items read so far, followed by the rest.
abbrev pub with_front : {A : Type 0} → List A → Result (List A) ScriptFault → Result (List A) ScriptFault
with_front done rest = rest >>= λ xs. Ok (done ++ xs)

-- A fault is the fault of its own reading.
pub fails_at : {Y : Type 0} → (e : ScriptFault) (found : Result Y ScriptFault) → found ≡ Err e → Fails e found
fails_at NotJson found h = h
fails_at (Shape p) found h = h
fails_at (Range p) found h = h
fails_at (Limit p) found h = h
fails_at Memory found h = tt

pub item_view : (vs : List Value) (i : ℕ) (v : Value) → i < length vs → v ≡ get_or vs i v → drop i (map view vs) ≡ view v ∷ drop (i + 1) (map view vs)
item_view [] i v h e = absurd (omega arith)
item_view (x ∷ vs) zero v h e = let one : suc zero ≡ zero + 1 = omega arith in ap (λ d. d ∷ map view vs) (ap view (sym e)) ∙ ap (λ n. view v ∷ drop n (view x ∷ map view vs)) one
item_view (x ∷ vs) (suc i) v h e = let more : suc (i + 1) ≡ suc i + 1 = omega arith in item_view vs i v (omega arith) e ∙ ap (λ n. view v ∷ drop n (view x ∷ map view vs)) more

pushed : {A : Type 0} → (done : List A) (x : A) (rest : Result (List A) ScriptFault) → with_front done (rest >>= λ xs. Ok (x ∷ xs)) ≡ with_front (done ++ x ∷ []) rest
pushed done x (Ok xs) = ap Ok (sym (append_assoc done (x ∷ []) xs))
pushed done x (Err e) = refl

-- An item that reads.
pub each_on : {A : Type 0} → (f : ℕ → Data → Result A ScriptFault) (vs : List Value) (i : ℕ) (v : Value) (x : A) (done : List A) (all : Result (List A) ScriptFault) → i < length vs → v ≡ get_or vs i v → with_front done (each f i (drop i (map view vs))) ≡ all → f i (view v) ≡ Ok x → with_front (done ++ x ∷ []) (each f (i + 1) (drop (i + 1) (map view vs))) ≡ all
each_on f vs i v x done all h e so_far ok =
    let rest = each f (i + 1) (drop (i + 1) (map view vs)) in
    sym (pushed done x rest)
    ∙ ap (λ r. with_front done (r >>= λ y. (rest >>= λ ys. Ok (y ∷ ys)))) (sym ok)
    ∙ ap (λ ds. with_front done (each f i ds)) (sym (item_view vs i v h e))
    ∙ so_far

-- An item that doesn't.
pub each_err : {A : Type 0} → (f : ℕ → Data → Result A ScriptFault) (vs : List Value) (i : ℕ) (v : Value) (y : ScriptFault) (done : List A) (all : Result (List A) ScriptFault) → i < length vs → v ≡ get_or vs i v → with_front done (each f i (drop i (map view vs))) ≡ all → f i (view v) ≡ Err y → all ≡ Err y
each_err f vs i v y done all h e so_far bad =
    let rest = each f (i + 1) (drop (i + 1) (map view vs)) in
    sym so_far
    ∙ ap (λ ds. with_front done (each f i ds)) (item_view vs i v h e)
    ∙ ap (λ r. with_front done (r >>= λ x. (rest >>= λ ys. Ok (x ∷ ys)))) bad

list_of-items_of : (ds : List Data) → list_of (items_of ds) ≡ ds
list_of-items_of [] = refl
list_of-items_of (d ∷ ds) = ap (λ es. d ∷ es) (list_of-items_of ds)

pub listed_some : (p : Path) (d : Data) (vs : List Value) → Some (items_view vs) ≡ as_array d → listed p d ≡ Ok (map view vs)
listed_some p null vs h = absurd (cc)
listed_some p (boolean b) vs h = absurd (cc)
listed_some p (number n) vs h = absurd (cc)
listed_some p (string s) vs h = absurd (cc)
listed_some p (array ds) vs h = let e : items_view vs ≡ ds = cc in ap (λ es. Ok (list_of es)) (sym e) ∙ ap Ok (list_of-items_of (map view vs))
listed_some p (object ms) vs h = absurd (cc)

-- ---- keys

pass_all : (test : List ℕ → Bool) (es : List (String Global × Value)) → keys_pass test (members_view es) ≡ list_all (λ k. test (string_bytes k)) (keys_of es)
pass_all test [] = refl
pass_all test (e ∷ es) = ap (λ b. test (string_bytes e.0) && b) (pass_all test es)

pub has_keys_some : (test : List ℕ → Bool) (d : Data) (es : List (String Global × Value)) (b : Bool) → Some (members_view es) ≡ as_object d → b ≡ list_all (λ k. test (string_bytes k)) (keys_of es) → b ≡ has_keys test d
has_keys_some test null es b h g = absurd (cc)
has_keys_some test (boolean x) es b h g = absurd (cc)
has_keys_some test (number n) es b h g = absurd (cc)
has_keys_some test (string s) es b h g = absurd (cc)
has_keys_some test (array ds) es b h g = absurd (cc)
has_keys_some test (object ms) es b h g = let e : members_view es ≡ ms = cc in g ∙ sym (pass_all test es) ∙ ap (keys_pass test) e

-- The items of a JSON value that is a list.
pub of_list_some : {A : Type 0} → (form : List Data → Option A) (d : Data) (vs : List Value) → Some (items_view vs) ≡ as_array d → of_list form d ≡ form (map view vs)
of_list_some form null vs h = absurd (cc)
of_list_some form (boolean x) vs h = absurd (cc)
of_list_some form (number n) vs h = absurd (cc)
of_list_some form (string s) vs h = absurd (cc)
of_list_some form (array ds) vs h = let e : items_view vs ≡ ds = cc in ap (λ es. form (list_of es)) (sym e) ∙ ap form (list_of-items_of (map view vs))
of_list_some form (object ms) vs h = absurd (cc)

-- An item that has a fault, or for which an allocation failed.
pub each_fails : {A : Type 0} → (f : ℕ → Data → Result A ScriptFault) (vs : List Value) (i : ℕ) (v : Value) (y : ScriptFault) (done : List A) (all : Result (List A) ScriptFault) → i < length vs → v ≡ get_or vs i v → with_front done (each f i (drop i (map view vs))) ≡ all → Fails y (f i (view v)) → Fails y all
each_fails f vs i v NotJson done all h e so_far bad = each_err f vs i v NotJson done all h e so_far bad
each_fails f vs i v (Shape p) done all h e so_far bad = each_err f vs i v (Shape p) done all h e so_far bad
each_fails f vs i v (Range p) done all h e so_far bad = each_err f vs i v (Range p) done all h e so_far bad
each_fails f vs i v (Limit p) done all h e so_far bad = each_err f vs i v (Limit p) done all h e so_far bad
each_fails f vs i v Memory done all h e so_far bad = tt

-- ---- reading that carries a state from item to item

-- An item that reads.
pub folded_on : {S : Type 0} → (f : S → ℕ → Data → Result S ScriptFault) (vs : List Value) (i : ℕ) (v : Value) (s t : S) (all : Result S ScriptFault) → i < length vs → v ≡ get_or vs i v → folded f s i (drop i (map view vs)) ≡ all → f s i (view v) ≡ Ok t → folded f t (i + 1) (drop (i + 1) (map view vs)) ≡ all
folded_on f vs i v s t all h e so_far ok =
    let rest = drop (i + 1) (map view vs) in
    sym (ap (λ r. r >>= λ y. folded f y (i + 1) rest) ok)
    ∙ ap (λ ds. folded f s i ds) (sym (item_view vs i v h e))
    ∙ so_far

-- An item that doesn't.
folded_err : {S : Type 0} → (f : S → ℕ → Data → Result S ScriptFault) (vs : List Value) (i : ℕ) (v : Value) (y : ScriptFault) (s : S) (all : Result S ScriptFault) → i < length vs → v ≡ get_or vs i v → folded f s i (drop i (map view vs)) ≡ all → f s i (view v) ≡ Err y → all ≡ Err y
folded_err f vs i v y s all h e so_far bad =
    let rest = drop (i + 1) (map view vs) in
    sym so_far
    ∙ ap (λ ds. folded f s i ds) (item_view vs i v h e)
    ∙ ap (λ r. r >>= λ t. folded f t (i + 1) rest) bad

-- An item that has a fault, or for which an allocation failed.
pub folded_fails : {S : Type 0} → (f : S → ℕ → Data → Result S ScriptFault) (vs : List Value) (i : ℕ) (v : Value) (y : ScriptFault) (s : S) (all : Result S ScriptFault) → i < length vs → v ≡ get_or vs i v → folded f s i (drop i (map view vs)) ≡ all → Fails y (f s i (view v)) → Fails y all
folded_fails f vs i v NotJson s all h e so_far bad = folded_err f vs i v NotJson s all h e so_far bad
folded_fails f vs i v (Shape p) s all h e so_far bad = folded_err f vs i v (Shape p) s all h e so_far bad
folded_fails f vs i v (Range p) s all h e so_far bad = folded_err f vs i v (Range p) s all h e so_far bad
folded_fails f vs i v (Limit p) s all h e so_far bad = folded_err f vs i v (Limit p) s all h e so_far bad
folded_fails f vs i v Memory s all h e so_far bad = tt
