-- Reading the items of a list, one at a time.
use Rattle.std.proofs.Common.{◌≡◌, ℕ, zero, suc, ◌+◌, ◌<◌, List, [], ◌∷◌, ◌++◌, length, map, drop, get_or, Some, Result, Ok, Err, refl, sym, ap, ◌∙◌, arith, append_assoc}
use Rattle.serde_json.specs.Data.{Data, null, boolean, number, string, array, object}
use Rattle.serde_json.specs.Find.{as_array}
use Rattle.serde_json.specs.View.{view, items_view, items_of}
use Rattle.serde_json.specs.declared.value.Value.{Value}
use Rattle.dap_messages.specs.declared.field.Field.{Field}
use Rattle.dap_messages.specs.declared.fault.RequestFault.{RequestFault}
use Rattle.dap_messages.specs.declared.fault.RequestFault.TheVariants.{Memory, NotAnObject, NotARequest, UnknownCommand, BadArgument}
use Rattle.dap_messages.specs.Values.{each, items_in, list_of}
use Rattle.dap_messages.specs.Faults.{◌>>=◌, Fails}

-- The items read so far, followed by the rest.
abbrev pub with_front : {A : Type 0} → List A → Result (List A) RequestFault → Result (List A) RequestFault
with_front done rest = rest >>= λ xs. Ok (done ++ xs)

item_view : (vs : List Value) (i : ℕ) (v : Value) → i < length vs → v ≡ get_or vs i v → drop i (map view vs) ≡ view v ∷ drop (i + 1) (map view vs)
item_view [] i v h e = absurd (omega arith)
item_view (x ∷ vs) zero v h e = let one : suc zero ≡ zero + 1 = omega arith in ap (λ d. d ∷ map view vs) (ap view (sym e)) ∙ ap (λ n. view v ∷ drop n (view x ∷ map view vs)) one
item_view (x ∷ vs) (suc i) v h e = let more : suc (i + 1) ≡ suc i + 1 = omega arith in item_view vs i v (omega arith) e ∙ ap (λ n. view v ∷ drop n (view x ∷ map view vs)) more

pushed : {A : Type 0} → (done : List A) (x : A) (rest : Result (List A) RequestFault) → with_front done (rest >>= λ xs. Ok (x ∷ xs)) ≡ with_front (done ++ x ∷ []) rest
pushed done x (Ok xs) = ap Ok (sym (append_assoc done (x ∷ []) xs))
pushed done x (Err e) = refl

-- Nothing is read yet.
pub each_start : {A : Type 0} → (all : Result (List A) RequestFault) → with_front [] all ≡ all
each_start (Ok xs) = refl
each_start (Err e) = refl

-- An item that reads.
pub each_on : {A : Type 0} → (f : Data → Result A RequestFault) (vs : List Value) (i : ℕ) (v : Value) (x : A) (done : List A) (all : Result (List A) RequestFault) → i < length vs → v ≡ get_or vs i v → with_front done (each f (drop i (map view vs))) ≡ all → f (view v) ≡ Ok x → with_front (done ++ x ∷ []) (each f (drop (i + 1) (map view vs))) ≡ all
each_on f vs i v x done all h e so_far ok =
    let rest = each f (drop (i + 1) (map view vs)) in
    sym (pushed done x rest)
    ∙ ap (λ r. with_front done (r >>= λ y. (rest >>= λ ys. Ok (y ∷ ys)))) (sym ok)
    ∙ ap (λ ds. with_front done (each f ds)) (sym (item_view vs i v h e))
    ∙ so_far

each_err : {A : Type 0} → (f : Data → Result A RequestFault) (vs : List Value) (i : ℕ) (v : Value) (y : RequestFault) (done : List A) (all : Result (List A) RequestFault) → i < length vs → v ≡ get_or vs i v → with_front done (each f (drop i (map view vs))) ≡ all → f (view v) ≡ Err y → all ≡ Err y
each_err f vs i v y done all h e so_far bad =
    let rest = each f (drop (i + 1) (map view vs)) in
    sym so_far
    ∙ ap (λ ds. with_front done (each f ds)) (item_view vs i v h e)
    ∙ ap (λ r. with_front done (r >>= λ x. (rest >>= λ ys. Ok (x ∷ ys)))) bad

-- An item that has a fault, or for which an allocation failed.
pub each_fails : {A : Type 0} → (f : Data → Result A RequestFault) (vs : List Value) (i : ℕ) (v : Value) (y : RequestFault) (done : List A) (all : Result (List A) RequestFault) → i < length vs → v ≡ get_or vs i v → with_front done (each f (drop i (map view vs))) ≡ all → Fails y (f (view v)) → Fails y all
each_fails f vs i v Memory done all h e so_far bad = tt
each_fails f vs i v NotAnObject done all h e so_far bad = each_err f vs i v NotAnObject done all h e so_far bad
each_fails f vs i v NotARequest done all h e so_far bad = each_err f vs i v NotARequest done all h e so_far bad
each_fails f vs i v UnknownCommand done all h e so_far bad = each_err f vs i v UnknownCommand done all h e so_far bad
each_fails f vs i v (BadArgument g) done all h e so_far bad = each_err f vs i v (BadArgument g) done all h e so_far bad

list_of-items_of : (ds : List Data) → list_of (items_of ds) ≡ ds
list_of-items_of [] = refl
list_of-items_of (d ∷ ds) = ap (λ es. d ∷ es) (list_of-items_of ds)

-- The items of a JSON value that is a list.
pub items_in_some : {A : Type 0} → (read : Data → Result A RequestFault) (f : Field) (d : Data) (vs : List Value) → Some (items_view vs) ≡ as_array d → items_in read f (Some d) ≡ each read (map view vs)
items_in_some read f null vs h = absurd (cc)
items_in_some read f (boolean b) vs h = absurd (cc)
items_in_some read f (number n) vs h = absurd (cc)
items_in_some read f (string s) vs h = absurd (cc)
items_in_some read f (array ds) vs h = let e : items_view vs ≡ ds = cc in ap (λ es. each read (list_of es)) (sym e) ∙ ap (each read) (list_of-items_of (map view vs))
items_in_some read f (object ms) vs h = absurd (cc)
