-- Objects, looked up by name.
use Rattle.std.proofs.Common.{◌≡◌, ℕ, ◌+◌, Bool, true, false, not, cond, ◌&&◌, ◌||◌, nat_lt, List, [], ◌∷◌, ◌++◌, length, map, Some, None, refl, sym, ap, ◌∙◌}
use Rattle.std.specs.List.{list_any, position, position_or_len}
use Rattle.std.specs.Str.{bytes_eq}
use Rattle.std.proofs.lemmas.Slice.Eq.{bytes_eq-Decides}
use Rattle.std.proofs.lemmas.Bool.Decides.{same_from_decides}
use Rattle.std.proofs.lemmas.List.{length-map}
use Rattle.std.proofs.lemmas.List.Folds.{list_any-append}
use Rattle.places.specs.declared.object.Object.{Object}
use Rattle.scenario.specs.Setups.{is_named, names_once}
use Rattle.script.specs.Names.{texts}
use denote.Ref.{Bor}

abbrev names_of : List Object → List (List ℕ)
names_of os = map (λ o. o.name) os

-- ---- the set of names agrees with the objects

any_text : (name : List ℕ) (ks : List (Bor (List ℕ))) → list_any (λ k. bytes_eq name k.now) ks ≡ list_any (bytes_eq name) (texts ks)
any_text name [] = refl
any_text name (k ∷ ks) = ap (λ b. bytes_eq name k.now || b) (any_text name ks)

any_name : (name : List ℕ) (os : List Object) → list_any (bytes_eq name) (names_of os) ≡ list_any (is_named name) os
any_name name [] = refl
any_name name (o ∷ os) = ap (λ b. bytes_eq name o.name || b) (any_name name os)

pub any_named : (name : List ℕ) (ks : List (Bor (List ℕ))) (os : List Object) → texts ks ≡ names_of os → list_any (λ k. bytes_eq name k.now) ks ≡ list_any (is_named name) os
any_named name ks os h = any_text name ks ∙ ap (list_any (bytes_eq name)) h ∙ any_name name os

at_text : (name : List ℕ) (ks : List (Bor (List ℕ))) → position_or_len (λ k. bytes_eq name k.now) ks ≡ position_or_len (bytes_eq name) (texts ks)
at_text name [] = refl
at_text name (k ∷ ks) = ap (λ n. cond (not (bytes_eq name k.now)) (1 + n) 0) (at_text name ks)

at_name : (name : List ℕ) (os : List Object) → position_or_len (bytes_eq name) (names_of os) ≡ position_or_len (is_named name) os
at_name name [] = refl
at_name name (o ∷ os) = ap (λ n. cond (not (bytes_eq name o.name)) (1 + n) 0) (at_name name os)

pub lengths_alike : (ks : List (Bor (List ℕ))) (os : List Object) → texts ks ≡ names_of os → length ks ≡ length os
lengths_alike ks os h = sym (length-map ks (λ k. k.now)) ∙ ap length h ∙ length-map os (λ o. o.name)

pub position_named : (name : List ℕ) (ks : List (Bor (List ℕ))) (os : List Object) → texts ks ≡ names_of os → position (λ k. bytes_eq name k.now) ks ≡ position (is_named name) os
position_named name ks os h =
    let at : position_or_len (λ k. bytes_eq name k.now) ks ≡ position_or_len (is_named name) os = at_text name ks ∙ ap (position_or_len (bytes_eq name)) h ∙ at_name name os in
    ap (λ n. cond (nat_lt n (length ks)) (Some n) None) at ∙ ap (λ n. cond (nat_lt (position_or_len (is_named name) os) n) (Some (position_or_len (is_named name) os)) None) (lengths_alike ks os h)

texts-append : (ks ls : List (Bor (List ℕ))) → texts (ks ++ ls) ≡ texts ks ++ texts ls
texts-append [] ls = refl
texts-append (k ∷ ks) ls = ap (λ xs. k.now ∷ xs) (texts-append ks ls)

names-append : (os ps : List Object) → names_of (os ++ ps) ≡ names_of os ++ names_of ps
names-append [] ps = refl
names-append (o ∷ os) ps = ap (λ xs. o.name ∷ xs) (names-append os ps)

-- One more name, and its object.
pub one_more : (ks : List (Bor (List ℕ))) (os : List Object) (k : Bor (List ℕ)) (o : Object) → texts ks ≡ names_of os → o.name ≡ k.now → texts (ks ++ k ∷ []) ≡ names_of (os ++ o ∷ [])
one_more ks os k o h e =
    texts-append ks (k ∷ []) ∙ ap (λ xs. xs ++ k.now ∷ []) h ∙ ap (λ x. names_of os ++ x ∷ []) (sym e) ∙ sym (names-append os (o ∷ []))

-- A new name, and its object.
pub kept_names : (ks new : List (Bor (List ℕ))) (os : List Object) (k : Bor (List ℕ)) (o : Object) → texts ks ≡ names_of os → o.name ≡ k.now → list_any (is_named o.name) os ≡ false → new ≡ cond (list_any (λ l. bytes_eq k.now l.now) ks) ks (ks ++ k ∷ []) → texts new ≡ names_of (os ++ o ∷ [])
kept_names ks new os k o h e n i =
    let none : list_any (λ l. bytes_eq k.now l.now) ks ≡ false = any_named k.now ks os h ∙ ap (λ name. list_any (is_named name) os) (sym e) ∙ n in
    ap texts (i ∙ ap (λ b. cond b ks (ks ++ k ∷ [])) none) ∙ one_more ks os k o h e

-- ---- names are unique

bytes_eq-symm : (xs ys : List ℕ) → bytes_eq xs ys ≡ bytes_eq ys xs
bytes_eq-symm xs ys =
    let d = bytes_eq-Decides ys xs in
    same_from_decides (bytes_eq xs ys) (bytes_eq ys xs) (bytes_eq-Decides xs ys) (λ h. sym (d.0 h), λ h. d.1 (sym h))

or_false : (a b : Bool) → (a || b) ≡ false → (a ≡ false) × (b ≡ false)
or_false true b h = absurd (cc)
or_false false b h = (refl, h)

and_true : (a b : Bool) → (a && b) ≡ true → (a ≡ true) × (b ≡ true)
and_true true b h = (refl, h)
and_true false b h = absurd (cc)

or_none : (a b : Bool) → a ≡ false → b ≡ false → not (a || (b || false)) ≡ true
or_none a b h k = rw (h, k) refl

not_false : (a : Bool) → not a ≡ true → a ≡ false
not_false true h = absurd (cc)
not_false false h = refl

pub still_once : (os : List Object) (o : Object) → names_once os ≡ true → list_any (is_named o.name) os ≡ false → names_once (os ++ o ∷ []) ≡ true
still_once [] o h n = refl
still_once (x ∷ os) o h n =
    let a = and_true (not (list_any (is_named x.name) os)) (names_once os) h in
    let b = or_false (bytes_eq o.name x.name) (list_any (is_named o.name) os) n in
    let other : bytes_eq x.name o.name ≡ false = bytes_eq-symm x.name o.name ∙ b.0 in
    let none : not (list_any (is_named x.name) (os ++ o ∷ [])) ≡ true = ap not (list_any-append (is_named x.name) os (o ∷ [])) ∙ or_none (list_any (is_named x.name) os) (bytes_eq x.name o.name) (not_false _ a.0) other in
    ap (λ c. c && names_once (os ++ o ∷ [])) none ∙ still_once os o a.1 b.1
