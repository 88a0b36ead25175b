-- Lists that are written item by item.
use Rattle.std.proofs.Common.{◌≡◌, ℕ, zero, suc, ◌<◌, ◌≤◌, ◌+◌, Bool, true, List, [], ◌∷◌, ◌++◌, length, get_or, take, refl, sym, ap, subst, ◌∙◌, append_assoc, arith}
use Rattle.std.specs.Prelude.{nat_lt, ◌&&◌}
use Rattle.std.specs.List.{flat_map, list_all, AllByRecursion}
use Rattle.std.proofs.lemmas.Bool.Decides.{nat_tests}
use Rattle.std.proofs.lemmas.List.{flat_map_more, take_more}
use Rattle.std.proofs.lemmas.List.Recursion.{and_at}
use Rattle.std.proofs.lemmas.Bool.{and_parts, and_from}
use Rattle.byteorder.specs.Endian.{little_bytes}
use Rattle.entries.specs.declared.entry.Sqe.{Sqe}
use Rattle.entries.specs.Layout.{entry_bytes}
use Rattle.scenario.specs.declared.setup.Instruction.TheVariants.{Put}
use Rattle.traces.specs.Setups.{instruction_bytes}
use Rattle.places.specs.declared.object.Object.{Object}
use Rattle.places.specs.declared.object.Descriptor.{Descriptor}
use Rattle.traces.specs.Limits.{is_within, is_new_name, all_with_prefix, keeps_contents, keeps_object, end_number, keeps_descriptor}
use Rattle.traces.proofs.ObjectLaws.{within_most, end_there}

pushed : {A : Type 0} (W : A → Type 0) (xs : List A) (x : A) → AllByRecursion W xs → W x → AllByRecursion W (xs ++ x ∷ [])
pushed W [] x h w = (w, tt)
pushed W (y ∷ ys) x h w = (h.0, pushed W ys x h.1 w)

upto : {A : Type 0} (xs : List A) (i : ℕ) (x : A) → i < length xs → x ≡ get_or xs i x → take (i + 1) xs ≡ take i xs ++ x ∷ []
upto {A} xs i x lt there = take_more xs i x lt ∙ ap (λ (y : A). take i xs ++ y ∷ []) (sym there)

-- One more item that was written, after the number of items.
pub item_written : {A : Type 0} (f : A → List ℕ) (xs : List A) (i : ℕ) (x : A) (front count out new : List ℕ) → i < length xs → x ≡ get_or xs i x
    → out ≡ front ++ (count ++ flat_map f (take i xs)) → new ≡ out ++ f x → new ≡ front ++ (count ++ flat_map f (take (i + 1) xs))
item_written f xs i x front count out new lt there before e =
    let more : flat_map f (take i xs) ++ f x ≡ flat_map f (take (i + 1) xs) = flat_map_more f [] (take i xs) x ∙ ap (flat_map f) (sym (upto xs i x lt there)) in
    e ∙ ap (λ (t : List ℕ). t ++ f x) before ∙ append_assoc front (count ++ flat_map f (take i xs)) (f x)
    ∙ ap (λ (t : List ℕ). front ++ t) (append_assoc count (flat_map f (take i xs)) (f x) ∙ ap (λ (t : List ℕ). count ++ t) more)

-- One more item whose numbers fit.
pub item_fits : {A : Type 0} (W : A → Type 0) (xs : List A) (i : ℕ) (x : A) → i < length xs → x ≡ get_or xs i x → AllByRecursion W (take i xs) → W x → AllByRecursion W (take (i + 1) xs)
item_fits W xs i x lt there before w = rw (upto xs i x lt there) (pushed W (take i xs) x before w)

-- An item passes the test that all items pass.
pub item_kept : {A : Type 0} (p : A → Bool) (xs : List A) (i : ℕ) (x : A) → i < length xs → x ≡ get_or xs i x → list_all p xs ≡ true → p x ≡ true
item_kept {A} p xs i x lt there all = subst (λ (y : A). p y ≡ true) (sym there) (and_at (list_all p) p refl (λ _ _. refl) xs i x lt all)

-- Each item passes the test after the items before it.
pub kept_with_prefix : (keeps : List Object → Object → Bool) (xs before : List Object) (i : ℕ) (x : Object) → i < length xs → x ≡ get_or xs i x → all_with_prefix keeps before xs ≡ true
    → (front : List Object) × (keeps front x ≡ true)
kept_with_prefix keeps [] before i x lt there all = absurd (omega arith)
kept_with_prefix keeps (y ∷ ys) before zero x lt there all = (before, subst (λ (z : Object). keeps before z ≡ true) (sym there) (and_parts _ _ all).0)
kept_with_prefix keeps (y ∷ ys) before (suc i) x lt there all = kept_with_prefix keeps ys (before ++ y ∷ []) i x (omega arith) there (and_parts _ _ all).1

-- Object numbers of valid descriptors are small.
pub numbers_small : (objects : List Object) (ds : List Descriptor) → length objects ≤ 32 → list_all (keeps_descriptor objects) ds ≡ true → list_all (λ d. nat_lt d.object 256) ds ≡ true
numbers_small objects [] few all = refl
numbers_small objects (d ∷ ds) few all =
    let p = and_parts _ _ all in
    let there : d.object < length objects = end_there objects d.object (end_number d.end) p.0 in
    let below : nat_lt d.object 256 ≡ true = grind (arith, nat_tests) in
    and_from _ _ below (numbers_small objects ds few p.1)

three : (a b c d : List ℕ) → ((a ++ b) ++ c) ++ d ≡ a ++ (b ++ (c ++ d))
three a b c d = simp append_assoc

-- A Put: its kind, its slot and its entry.
pub put_written : (slot : ℕ) (entry : Sqe) (old one two bytes new : List ℕ) → bytes ≡ entry_bytes entry
    → one ≡ old ++ little_bytes 1 1 → two ≡ one ++ little_bytes 4 slot → new ≡ two ++ bytes → new ≡ old ++ instruction_bytes (Put slot entry)
put_written slot entry old one two bytes new e f g h =
    h ∙ ap (λ (t : List ℕ). two ++ t) e ∙ ap (λ (t : List ℕ). t ++ entry_bytes entry) (g ∙ ap (λ (t : List ℕ). t ++ little_bytes 4 slot) f)
    ∙ three old (little_bytes 1 1) (little_bytes 4 slot) (entry_bytes entry)

-- The limits of a valid object.
pub object_kept : (before : List Object) (o : Object) → keeps_object before o ≡ true → (length o.name < 256) × (keeps_contents o.contents ≡ true)
object_kept before o h =
    let p = and_parts (is_within 1 16 (length o.name) && is_new_name before o.name) (keeps_contents o.contents) h in
    let q = and_parts (is_within 1 16 (length o.name)) (is_new_name before o.name) p.0 in
    let most : length o.name ≤ 16 = within_most 1 16 (length o.name) q.0 in
    (omega arith, p.1)
