-- The names of objects that words name.
use Rattle.std.proofs.Common.{◌≡◌, ℕ, ◌<◌, List, [], ◌∷◌, length, get_or, Bool, true, false, ◌&&◌, not, eqb, cond, Option, Some, None, refl, sym, ap, ◌∙◌, subst}
use Rattle.std.specs.Prelude.{slice_get}
use Rattle.std.specs.Cmp.Lexicographic.{bytes_decides}
use Rattle.std.specs.List.{list_all, position, All}
use Rattle.std.specs.Option.{option_and_then, option_map_or}
use Rattle.std.proofs.lemmas.Bool.{eqb-true}
use Rattle.std.proofs.lemmas.List.Elements.{All-nil, All-cons, All-get_or}
use Rattle.std.proofs.lemmas.List.Quantifiers.{position-Some}
use Rattle.std.proofs.lemmas.List.Sums.{AllPass-from_list_all}
use Rattle.std.proofs.lemmas.Option.{slice_get-get_or}
use Rattle.places.specs.declared.object.Contents.TheVariants.{File}
use Rattle.places.specs.declared.object.Object.{Object}
use Rattle.scenario.specs.declared.owned.ObjectKind.{ObjectKind}
use Rattle.scenario.specs.declared.setup.Setup.{Setup}
use Rattle.scenario.specs.declared.setup.SetupRefusal.TheVariants.{RingSize, Limit}
use Rattle.scenario.specs.Names.{fitting, is_of, is_object_of, object_named}
use Rattle.scenario.specs.PlaceTexts.{name_of}
use Rattle.scenario.specs.Setups.{has_ring_sizes, has_memory, has_objects, keeps_limits, setup_refusal, is_object, is_name, is_name_byte}
use Rattle.scenario.proofs.Numbers.{fitting_is}

both_true : (a b : Bool) → (a && b) ≡ true → (a ≡ true) × (b ≡ true)
both_true true b h = (refl, h)
both_true false b h = absurd (cc)

-- ---- Words without spaces

abbrev pub Spaceless : List ℕ → Type 0
Spaceless word = All (λ b. eqb b 32 ≡ false) word

other : (p : ℕ → Bool) → p 32 ≡ false → (b : ℕ) → p b ≡ true → eqb b 32 ≡ false
other p none b h = by (eqb b 32) refl
  where
    by : (x : Bool) → eqb b 32 ≡ x → x ≡ false
    by false e = refl
    by true e = let space : p 32 ≡ true = ap p (sym (eqb-true b 32 e)) ∙ h in absurd (cc)

pub spaceless : (p : ℕ → Bool) → p 32 ≡ false → (word : List ℕ) → list_all p word ≡ true → Spaceless word
spaceless p none [] h = All-nil (λ b. eqb b 32 ≡ false)
spaceless p none (b ∷ bs) h =
    let parts = both_true (p b) (list_all p bs) h in
    All-cons (λ b. eqb b 32 ≡ false) b bs (other p none b parts.0) (spaceless p none bs parts.1)

-- ---- Objects

limits : (s : Setup) → setup_refusal s ≡ None → keeps_limits s ≡ true
limits s h = by (has_ring_sizes s) (keeps_limits s) h
  where
    by : (a b : Bool) → cond (not a) (Some RingSize) (cond b None (Some Limit)) ≡ None → b ≡ true
    by true true k = refl
    by true false k = absurd (cc)
    by false b k = absurd (cc)

-- The names of a setup's objects have no spaces.
object_spaceless : (s : Setup) → setup_refusal s ≡ None → (o : ℕ) (d : Object) → o < length s.objects → Spaceless (get_or s.objects o d).name
object_spaceless s h o d below =
    let memory = both_true (has_memory s) _ (limits s h) in
    let objects = both_true (has_objects s) _ memory.1 in
    let once = both_true _ _ objects.0 in
    let all = both_true _ (list_all is_object s.objects) once.0 in
    let object = All-get_or (λ (x : Object). is_object x ≡ true) s.objects o d below (AllPass-from_list_all is_object s.objects all.1) in
    let name = both_true (is_name (get_or s.objects o d).name) _ object in
    let bytes = both_true _ (list_all is_name_byte (get_or s.objects o d).name) name.0 in
    spaceless is_name_byte refl (get_or s.objects o d).name bytes.1

no_object : Object
no_object = record { name = []; contents = File [] }

position_named : (k : ObjectKind) (name : List ℕ) (objects : List Object) (o : ℕ) → position (is_object_of k name) objects ≡ Some o → (o < length objects) × (name ≡ (get_or objects o no_object).name)
position_named k name objects o h =
    let found = position-Some (is_object_of k name) objects o no_object h in
    let named = both_true _ (is_of k (get_or objects o no_object).contents) found.1 in
    (found.0, (bytes_decides name (get_or objects o no_object).name).0 named.0)

-- The name by which words name an object is the object's, and has no spaces.
pub object_name : (s : Setup) → setup_refusal s ≡ None → (k : ObjectKind) (name : List ℕ) (o : ℕ) → object_named s k name ≡ Some o → (name_of s o ≡ name) × Spaceless name
object_name s h k name o e = by (position (is_object_of k name) s.objects) refl e
  where
    at : position (is_object_of k name) s.objects ≡ Some o → (name_of s o ≡ name) × Spaceless name
    at f =
        let found = position_named k name s.objects o f in
        let its : name_of s o ≡ (get_or s.objects o no_object).name =
        ap (λ (x : Option Object). option_map_or (λ (y : Object). y.name) x []) (slice_get-get_or s.objects o no_object found.0) in
        (its ∙ sym found.1, subst Spaceless (sym found.1) (object_spaceless s h o no_object found.0))

    by : (x : Option ℕ) → position (is_object_of k name) s.objects ≡ x → option_and_then fitting x ≡ Some o → (name_of s o ≡ name) × Spaceless name
    by None f g = absurd (cc)
    by (Some i) f g = let same : i ≡ o = (fitting_is i o g).0 in at (f ∙ ap Some same)
