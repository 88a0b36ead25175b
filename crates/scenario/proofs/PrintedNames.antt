-- The printed name of a place, split at its spaces, names the place.
use Rattle.std.proofs.Common.{◌≡◌, ℕ, ◌<◌, ◌^◌, List, [], ◌∷◌, ◌++◌, Bool, true, false, cond, eqb, Option, Some, None, Ok, Err, refl, ap, ◌∙◌, subst, arith}
use Rattle.std.specs.Prelude.{decimal, ok_or, option_map, nat_lt}
use Rattle.std.specs.Char.{is_ascii_digit}
use Rattle.std.specs.List.{slice_split, find, AllByRecursion}
use Rattle.std.specs.Option.{option_and_then}
use Rattle.std.proofs.lemmas.List.{append-nil}
use Rattle.std.proofs.lemmas.List.Splits.{slice_split_none, slice_split_at}
use Rattle.places.specs.declared.place.Place.{Place}
use Rattle.scenario.specs.declared.setup.Setup.{Setup}
use Rattle.scenario.specs.declared.names.PlaceFault.TheVariants as fault
use Rattle.scenario.specs.declared.numbered.PlaceKind.{PlaceKind}
use Rattle.scenario.specs.declared.numbered.PlaceKind.TheVariants as kind
use Rattle.scenario.specs.declared.owned.ObjectPlace.{ObjectPlace}
use Rattle.scenario.specs.declared.owned.ObjectPlace.TheVariants as of_object
use Rattle.scenario.specs.declared.owned.BytePlace.{BytePlace}
use Rattle.scenario.specs.declared.owned.BytePlace.TheVariants as of_byte
use Rattle.scenario.specs.Names.{number_of, singles, has_single, if_there, single_named, kind_named, is_member, place_in, member_of, owner_of, owner_of_byte, object_named, bytes_of, place_of_object, place_of_byte, object_place_named, byte_place_named, object_place, byte_of, byte_in, byte_named, pair_named, place_named}
use Rattle.scenario.specs.PlaceTexts.{word_of, is_word_of, name_of, place_text}
use Rattle.scenario.specs.Setups.{setup_refusal}
use Rattle.scenario.proofs.Numbers.{digits_printed, number_again, number_below}
use Rattle.scenario.proofs.ObjectNames.{Spaceless, spaceless, object_name}

abbrev words : List ℕ → List (List ℕ)
words text = slice_split (λ b. eqb b 32) text

-- The words of the place's printed name name it.
abbrev Again : Setup → Place → Type 0
Again s p = place_named s (words (place_text s p)) ≡ Ok p

one_word : (word : List ℕ) → Spaceless word → words word ≡ word ∷ []
one_word word h = slice_split_none (λ b. eqb b 32) word h

number_word : (n : ℕ) → n < 2 ^ 32 → words (decimal n) ≡ decimal n ∷ []
number_word n h = one_word (decimal n) (spaceless is_ascii_digit refl (decimal n) (digits_printed n (omega arith)))

-- ---- One word

found : {X : Type 0} (P : X → Type 0) (test : X → Bool) (xs : List X) (x : X) → AllByRecursion P xs → find test xs ≡ Some x → P x
found P test [] x all h = absurd (cc)
found P test (y ∷ ys) x all h = by (test y) h (λ k. found P test ys x all.1 k)
  where
    by : (b : Bool) → cond b (Some y) (find test ys) ≡ Some x → (find test ys ≡ Some x → P x) → P x
    by true k later = let same : y ≡ x = cc in subst P same all.0
    by false k later = later k

singles_again : (s : Setup) → AllByRecursion (λ p. has_single s p ≡ true → Again s p) singles
singles_again s =
    let there : (p : Place) → (b : Bool) → b ≡ true → ok_or (cond b (Some p) None) fault.Place ≡ Ok p = λ p b h. rw h refl in
    (λ h. refl, (λ h. refl, (λ h. refl, (λ h. refl, (λ h. refl, (λ h. refl, (λ h. refl, (λ h. refl, (λ h. refl, (there _ s.sqpoll, tt))))))))))

single_again : (s : Setup) (word : List ℕ) (p : Place) → ok_or (single_named s word) fault.Place ≡ Ok p → Again s p
single_again s word p h = by (find (is_word_of word) singles) refl h
  where
    there : (q : Place) → find (is_word_of word) singles ≡ Some q → (b : Bool) → has_single s q ≡ b → ok_or (cond b (Some q) None) fault.Place ≡ Ok p → Again s p
    there q e true g k = let same : q ≡ p = cc in subst (Again s) same (found (λ x. has_single s x ≡ true → Again s x) (is_word_of word) singles q (singles_again s) e g)
    there q e false g k = absurd (cc)

    by : (o : Option Place) → find (is_word_of word) singles ≡ o → ok_or (option_and_then (if_there s) o) fault.Place ≡ Ok p → Again s p
    by None e k = absurd (cc)
    by (Some q) e k = there q e (has_single s q) refl k

-- ---- A word and a number

member_words : (s : Setup) (k : PlaceKind) (i : ℕ) → (words (place_text s (place_in k i)) ≡ word_of (place_in k i) ∷ words (decimal i)) × (kind_named (word_of (place_in k i)) ≡ Some k)
member_words s kind.Array i = (refl, refl)
member_words s kind.Slots i = (refl, refl)
member_words s kind.Completions i = (refl, refl)
member_words s kind.MemoryBytes i = (refl, refl)
member_words s kind.Positions i = (refl, refl)
member_words s kind.OpenMarks i = (refl, refl)
member_words s kind.Requests i = (refl, refl)
member_words s kind.Backlogs i = (refl, refl)
member_words s kind.ProgramCounters i = (refl, refl)
member_words s kind.Stages i = (refl, refl)
member_words s kind.Lasts i = (refl, refl)
member_words s kind.Gots i = (refl, refl)

member_again : (s : Setup) (k : PlaceKind) (i : ℕ) → i < 2 ^ 32 → is_member s k i ≡ true → Again s (place_in k i)
member_again s k i small there =
    let word = word_of (place_in k i) in let parts = member_words s k i in
    ap (place_named s) (parts.0 ∙ ap (λ (ws : List (List ℕ)). word ∷ ws) (number_word i small))
    ∙ ap (λ (o : Option PlaceKind). pair_named s o word (decimal i)) parts.1
    ∙ ap (member_of s k) (number_again i small)
    ∙ ap (λ (b : Bool). cond b (Ok (place_in k i)) (Err fault.Place)) there

members_again : (s : Setup) (k : PlaceKind) (word : List ℕ) (p : Place) → member_of s k (number_of word) ≡ Ok p → Again s p
members_again s k word p h = by (number_of word) refl h
  where
    there : (i : ℕ) → i < 2 ^ 32 → (b : Bool) → is_member s k i ≡ b → cond b (Ok (place_in k i)) (Err fault.Place) ≡ Ok p → Again s p
    there i small true e g = let same : place_in k i ≡ p = cc in subst (Again s) same (member_again s k i small e)
    there i small false e g = absurd (cc)

    by : (o : Option ℕ) → number_of word ≡ o → member_of s k o ≡ Ok p → Again s p
    by None e g = absurd (cc)
    by (Some i) e g = there i (number_below word i e) (is_member s k i) refl g

-- ---- A word and an object's name

object_words : (s : Setup) (q : ObjectPlace) (o : ℕ) → (words (place_text s (place_of_object q o)) ≡ word_of (place_of_object q o) ∷ words (name_of s o ++ [])) × (kind_named (word_of (place_of_object q o)) ≡ None) × (object_place_named (word_of (place_of_object q o)) ≡ Some q)
object_words s of_object.FileLength o = (refl, refl, refl)
object_words s of_object.DurableLength o = (refl, refl, refl)
object_words s of_object.PutCount o = (refl, refl, refl)
object_words s of_object.TakenCount o = (refl, refl, refl)
object_words s of_object.EventCount o = (refl, refl, refl)

object_again : (s : Setup) → setup_refusal s ≡ None → (q : ObjectPlace) (name : List ℕ) (o : ℕ) → object_named s (owner_of q) name ≡ Some o → Again s (place_of_object q o)
object_again s h q name o e =
    let word = word_of (place_of_object q o) in let parts = object_words s q o in let its = object_name s h (owner_of q) name o e in
    let last : words (name_of s o ++ []) ≡ name ∷ [] = ap words (append-nil (name_of s o) ∙ its.0) ∙ one_word name its.1 in
    ap (place_named s) (parts.0 ∙ ap (λ (ws : List (List ℕ)). word ∷ ws) last)
    ∙ ap (λ (k : Option PlaceKind). pair_named s k word name) parts.1
    ∙ ap (λ (x : Option ObjectPlace). ok_or (object_place s x name) fault.Place) parts.2
    ∙ ap (λ (x : Option ℕ). ok_or (option_map (place_of_object q) x) fault.Place) e

objects_again : (s : Setup) → setup_refusal s ≡ None → (q : Option ObjectPlace) (name : List ℕ) (p : Place) → ok_or (object_place s q name) fault.Place ≡ Ok p → Again s p
objects_again s h None name p k = absurd (cc)
objects_again s h (Some q) name p k = by (object_named s (owner_of q) name) refl k
  where
    by : (x : Option ℕ) → object_named s (owner_of q) name ≡ x → ok_or (option_map (place_of_object q) x) fault.Place ≡ Ok p → Again s p
    by None e g = absurd (cc)
    by (Some o) e g = let same : place_of_object q o ≡ p = cc in subst (Again s) same (object_again s h q name o e)

-- ---- A word, an object's name and a number

byte_words : (s : Setup) (b : BytePlace) (o i : ℕ) → (words (place_text s (place_of_byte b o i)) ≡ word_of (place_of_byte b o i) ∷ words (name_of s o ++ (32 ∷ decimal i))) × (byte_place_named (word_of (place_of_byte b o i)) ≡ Some b)
byte_words s of_byte.FileByte o i = (refl, refl)
byte_words s of_byte.DurableByte o i = (refl, refl)
byte_words s of_byte.PipeByte o i = (refl, refl)

byte_again : (s : Setup) → setup_refusal s ≡ None → (b : BytePlace) (name : List ℕ) (o i : ℕ) → object_named s (owner_of_byte b) name ≡ Some o → i < 2 ^ 32 → nat_lt i (bytes_of s o) ≡ true → Again s (place_of_byte b o i)
byte_again s h b name o i e small there =
    let word = word_of (place_of_byte b o i) in let parts = byte_words s b o i in let its = object_name s h (owner_of_byte b) name o e in
    let last : words (name_of s o ++ (32 ∷ decimal i)) ≡ name ∷ decimal i ∷ [] =
    ap (λ (n : List ℕ). words (n ++ (32 ∷ decimal i))) its.0
    ∙ slice_split_at (λ b. eqb b 32) name 32 (decimal i) its.1 refl
    ∙ ap (λ (ws : List (List ℕ)). name ∷ ws) (number_word i small) in
    ap (place_named s) (parts.0 ∙ ap (λ (ws : List (List ℕ)). word ∷ ws) last)
    ∙ ap (λ (k : Option BytePlace). byte_named s k name (decimal i)) parts.1
    ∙ ap (λ (x : Option ℕ). byte_in s b x (decimal i)) e
    ∙ ap (byte_of s b o) (number_again i small)
    ∙ ap (λ (t : Bool). cond t (Ok (place_of_byte b o i)) (Err fault.Place)) there

bytes_again : (s : Setup) → setup_refusal s ≡ None → (b : Option BytePlace) (name word : List ℕ) (p : Place) → byte_named s b name word ≡ Ok p → Again s p
bytes_again s h None name word p k = absurd (cc)
bytes_again s h (Some b) name word p k = by (object_named s (owner_of_byte b) name) refl k
  where
    there : (o : ℕ) → object_named s (owner_of_byte b) name ≡ Some o → (i : ℕ) → i < 2 ^ 32 → (t : Bool) → nat_lt i (bytes_of s o) ≡ t → cond t (Ok (place_of_byte b o i)) (Err fault.Place) ≡ Ok p → Again s p
    there o e i small true f g = let same : place_of_byte b o i ≡ p = cc in subst (Again s) same (byte_again s h b name o i e small f)
    there o e i small false f g = absurd (cc)

    number : (o : ℕ) → object_named s (owner_of_byte b) name ≡ Some o → (x : Option ℕ) → number_of word ≡ x → byte_of s b o x ≡ Ok p → Again s p
    number o e None f g = absurd (cc)
    number o e (Some i) f g = there o e i (number_below word i f) (nat_lt i (bytes_of s o)) refl g

    by : (x : Option ℕ) → object_named s (owner_of_byte b) name ≡ x → byte_in s b x word ≡ Ok p → Again s p
    by None e g = absurd (cc)
    by (Some o) e g = number o e (number_of word) refl g

-- ---- All names

pair_again : (s : Setup) → setup_refusal s ≡ None → (k : Option PlaceKind) (w x : List ℕ) (p : Place) → pair_named s k w x ≡ Ok p → Again s p
pair_again s h (Some k) w x p g = members_again s k x p g
pair_again s h None w x p g = objects_again s h (object_place_named w) x p g

pub parse : (s : Setup) (names : List (List ℕ)) (p : Place) → setup_refusal s ≡ None → place_named s names ≡ Ok p → Again s p
parse s [] p h g = absurd (cc)
parse s (w ∷ []) p h g = single_again s w p g
parse s (w ∷ x ∷ []) p h g = pair_again s h (kind_named w) w x p g
parse s (w ∷ o ∷ i ∷ []) p h g = bytes_again s h (byte_place_named w) o i p g
parse s (w ∷ o ∷ i ∷ x ∷ more) p h g = absurd (cc)
