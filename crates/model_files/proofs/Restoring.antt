-- Assigning the values of one world to another world with the same fixed properties.
use Rattle.std.proofs.Common.{◌≡◌, ℕ, Bool, true, false, cond, refl, sym, ◌∙◌, ap, List, length, ◌+◌, ◌-◌, ◌≤◌, arith}
use Rattle.std.specs.Prelude.{Option, Some, None, is_some, option_map, slice_get, map, nat_lt, nat_le}
use Rattle.std.specs.Option.{option_and_then}
use Rattle.std.proofs.lemmas.Bool.Decides.{nat_tests}
use Rattle.std.proofs.lemmas.Option.{slice_get_within, slice_get-map}
use Rattle.places.specs.declared.place.Place.{Place}
use Rattle.places.specs.declared.place.Place.TheVariants.{MemoryByte, FileByte, DurableByte, FileLength, DurableLength, Position, OpenMark, PipeByte, PutCount, TakenCount, EventCount}
use Rattle.places.specs.declared.value.Value.{Value}
use Rattle.places.specs.declared.value.Value.TheVariants.{Number, Byte}
use Rattle.places.proofs.ListLemmas.{same_list, slice_get_none}
use Rattle.model_files.specs.declared.body.Body.{Body}
use Rattle.model_files.specs.declared.body.Body.TheVariants.{File, Pipe, EventFd}
use Rattle.model_files.specs.declared.descriptor.DescriptorState.{DescriptorState}
use Rattle.model_files.specs.Objects.{in_range, object_in}
use Rattle.model_files.specs.Files.{FileState, FileFormed}
use Rattle.model_files.specs.Worlds.{WorldState, WorldFormed, OneSetup, body_seen, world_seen, world_can_put, kind_of_body, fixed_of, file_in, descriptor_of, mark_of}
use Rattle.model_files.proofs.Forming.{file_formed}
use Rattle.model_files.proofs.Lifting.{own_seen, owns_own}

-- ---- Which places are present

-- Lists of the same length have elements at the same indexes.
some_alike : {X V : Type 0} (f : X → V) (xs ys : List X) (i : ℕ) → length xs ≡ length ys → is_some (option_map f (slice_get xs i)) ≡ is_some (option_map f (slice_get ys i))
some_alike {X} {V} f xs ys i h = by (slice_get xs i) (slice_get ys i) refl refl
  where
    by : (a b : Option X) → slice_get xs i ≡ a → slice_get ys i ≡ b → is_some (option_map f a) ≡ is_some (option_map f b)
    by None None e k = refl
    by (Some x) (Some y) e k = refl
    by None (Some y) e k = absurd (let n = slice_get_none xs i e in let w = slice_get_within ys i y k in omega arith)
    by (Some x) None e k = absurd (let n = slice_get_none ys i k in let w = slice_get_within xs i x e in omega arith)

bodies_alike : (b c : Body) → kind_of_body b ≡ kind_of_body c → (p : Place) → is_some (body_seen b p) ≡ is_some (body_seen c p)
bodies_alike (File f) (File g) h (FileByte o i) = some_alike Byte f.bytes g.bytes i (let e = ap (λ k. k.file) h in cc)
bodies_alike (File f) (File g) h (DurableByte o i) = some_alike Byte f.durable g.durable i (let e = ap (λ k. k.device) h in cc)
bodies_alike (File f) (File g) h (FileLength o) = refl
bodies_alike (File f) (File g) h (DurableLength o) = refl
bodies_alike (File f) (File g) h _ = refl
bodies_alike (Pipe x) (Pipe y) h (PipeByte o i) = some_alike Byte x.slots y.slots i (let e = ap (λ k. k.pipe) h in cc)
bodies_alike (Pipe x) (Pipe y) h (PutCount o) = refl
bodies_alike (Pipe x) (Pipe y) h (TakenCount o) = refl
bodies_alike (Pipe x) (Pipe y) h _ = refl
bodies_alike (EventFd m) (EventFd n) h (EventCount o) = refl
bodies_alike (EventFd m) (EventFd n) h _ = refl
bodies_alike (File f) (Pipe y) h p = absurd (let e = ap (λ k. k.file) h in cc)
bodies_alike (File f) (EventFd n) h p = absurd (let e = ap (λ k. k.file) h in cc)
bodies_alike (Pipe x) (File g) h p = absurd (let e = ap (λ k. k.file) h in cc)
bodies_alike (Pipe x) (EventFd n) h p = absurd (let e = ap (λ k. k.pipe) h in cc)
bodies_alike (EventFd m) (File g) h p = absurd (let e = ap (λ k. k.file) h in cc)
bodies_alike (EventFd m) (Pipe y) h p = absurd (let e = ap (λ k. k.pipe) h in cc)

-- Elements at the same index have the same field, if the lists of fields are equal.
at_one : {X V : Type 0} (f : X → V) (xs ys : List X) (i : ℕ) → map f xs ≡ map f ys → option_map f (slice_get xs i) ≡ option_map f (slice_get ys i)
at_one f xs ys i h = sym (slice_get-map f xs i) ∙ ap (λ vs. slice_get vs i) h ∙ slice_get-map f ys i

objects_alike : (s m : WorldState) → OneSetup s m → (o : ℕ) (p : Place) → is_some (option_and_then (λ (b : Body). body_seen b p) (slice_get s.objects o)) ≡ is_some (option_and_then (λ (b : Body). body_seen b p) (slice_get m.objects o))
objects_alike s m h o p = by (slice_get s.objects o) (slice_get m.objects o) (at_one kind_of_body s.objects m.objects o h.objects)
  where
    by : (a b : Option Body) → option_map kind_of_body a ≡ option_map kind_of_body b → is_some (option_and_then (λ (b : Body). body_seen b p) a) ≡ is_some (option_and_then (λ (b : Body). body_seen b p) b)
    by None None e = refl
    by None (Some c) e = absurd cc
    by (Some b) None e = absurd cc
    by (Some b) (Some c) e = bodies_alike b c (cc) p

-- Descriptors with the same number have the same fixed properties.
descriptors_at_one : (s m : WorldState) → OneSetup s m → (fd : ℕ) → option_map fixed_of (descriptor_of s fd) ≡ option_map fixed_of (descriptor_of m fd)
descriptors_at_one s m h fd = by (nat_lt fd 3)
  where
    by : (t : Bool) → option_map fixed_of (cond t None (slice_get s.descriptors (fd - 3))) ≡ option_map fixed_of (cond t None (slice_get m.descriptors (fd - 3)))
    by true = refl
    by false = at_one fixed_of s.descriptors m.descriptors (fd - 3) h.descriptors

-- A descriptor of one world has a counterpart in the other, of the same end.
pub descriptor_alike : (s m : WorldState) → OneSetup s m → (fd : ℕ) (d : DescriptorState) → descriptor_of s fd ≡ Some d → (e : DescriptorState) × (descriptor_of m fd ≡ Some e) × (e.end ≡ d.end)
descriptor_alike s m h fd d k = by (descriptor_of m fd) refl (ap (option_map fixed_of) (sym k) ∙ descriptors_at_one s m h fd)
  where
    by : (o : Option DescriptorState) → descriptor_of m fd ≡ o → Some (fixed_of d) ≡ option_map fixed_of o → (e : DescriptorState) × (descriptor_of m fd ≡ Some e) × (e.end ≡ d.end)
    by None e g = absurd cc
    by (Some x) e g = (x, e, ap (λ k. k.end) (let f : fixed_of x ≡ fixed_of d = cc in f))

positions_alike : (a b : Option DescriptorState) → option_map fixed_of a ≡ option_map fixed_of b
    → is_some (option_and_then (λ (d : DescriptorState). option_map Number d.position) a) ≡ is_some (option_and_then (λ (d : DescriptorState). option_map Number d.position) b)
positions_alike None None e = refl
positions_alike None (Some y) e = absurd cc
positions_alike (Some x) None e = absurd cc
positions_alike (Some x) (Some y) e = by x.position y.position (let f : fixed_of x ≡ fixed_of y = cc in ap (λ k. k.positioned) f)
  where
    by : (a b : Option ℕ) → option_map {U = ℕ} (λ (n : ℕ). 0) a ≡ option_map {U = ℕ} (λ (n : ℕ). 0) b → is_some (option_map Number a) ≡ is_some (option_map Number b)
    by None None k = refl
    by None (Some n) k = absurd cc
    by (Some m) None k = absurd cc
    by (Some m) (Some n) k = refl

marks_alike : (a b : Option DescriptorState) → option_map fixed_of a ≡ option_map fixed_of b
    → is_some (option_map (λ (d : DescriptorState). Number (mark_of d.is_open)) a) ≡ is_some (option_map (λ (d : DescriptorState). Number (mark_of d.is_open)) b)
marks_alike None None e = refl
marks_alike None (Some y) e = absurd cc
marks_alike (Some x) None e = absurd cc
marks_alike (Some x) (Some y) e = refl

-- The same places are present in both worlds.
pub world_alike : (s m : WorldState) → OneSetup s m → (p : Place) → is_some (world_seen s p) ≡ is_some (world_seen m p)
world_alike s m h (MemoryByte a) = some_alike Byte s.memory m.memory a h.memory
world_alike s m h (FileByte o i) = objects_alike s m h o (FileByte o i)
world_alike s m h (DurableByte o i) = objects_alike s m h o (DurableByte o i)
world_alike s m h (FileLength o) = objects_alike s m h o (FileLength o)
world_alike s m h (DurableLength o) = objects_alike s m h o (DurableLength o)
world_alike s m h (PipeByte o i) = objects_alike s m h o (PipeByte o i)
world_alike s m h (PutCount o) = objects_alike s m h o (PutCount o)
world_alike s m h (TakenCount o) = objects_alike s m h o (TakenCount o)
world_alike s m h (EventCount o) = objects_alike s m h o (EventCount o)
world_alike s m h (Position fd) = positions_alike (descriptor_of s fd) (descriptor_of m fd) (descriptors_at_one s m h fd)
world_alike s m h (OpenMark fd) = marks_alike (descriptor_of s fd) (descriptor_of m fd) (descriptors_at_one s m h fd)
world_alike s m h _ = refl

none_alike : (a b : Option Value) → is_some a ≡ is_some b → a ≡ None → b ≡ None
none_alike a None h e = refl
none_alike None (Some v) h e = absurd cc
none_alike (Some u) (Some v) h e = absurd cc

-- The same places are absent in both worlds.
pub world_absent_same : (s m : WorldState) → OneSetup s m → (p : Place) → world_seen s p ≡ None → world_seen m p ≡ None
world_absent_same s m h p e = none_alike (world_seen s p) (world_seen m p) (world_alike s m h p) e

-- ---- What can be assigned

byte_ranged : (x : Option ℕ) (v : Value) (p : Place) → ((b : ℕ) → in_range p (Byte b) ≡ true) → option_map Byte x ≡ Some v → in_range p v ≡ true
byte_ranged None v p r e = absurd cc
byte_ranged (Some b) v p r e = let k : Byte b ≡ v = cc in ap (in_range p) (sym k) ∙ r b

number_ranged : (n : ℕ) (v : Value) (p : Place) → in_range p (Number n) ≡ true → Some (Number n) ≡ Some v → in_range p v ≡ true
number_ranged n v p r e = let k : Number n ≡ v = cc in ap (in_range p) (sym k) ∙ r

at_most : (n : ℕ) → n ≤ 65536 → nat_le n 65536 ≡ true
at_most n h = grind (arith, nat_tests)

body_ranged : (b : Body) (p : Place) (v : Value) → ((f : FileState) → file_in b ≡ Some f → FileFormed f) → body_seen b p ≡ Some v → in_range p v ≡ true
body_ranged (File f) (FileByte o i) v h e = byte_ranged (slice_get f.bytes i) v (FileByte o i) (λ b. refl) e
body_ranged (File f) (DurableByte o i) v h e = byte_ranged (slice_get f.durable i) v (DurableByte o i) (λ b. refl) e
body_ranged (File f) (FileLength o) v h e = number_ranged f.len v (FileLength o) (at_most f.len (h f refl).sized.len) e
body_ranged (File f) (DurableLength o) v h e = number_ranged f.durable_len v (DurableLength o) (at_most f.durable_len (h f refl).sized.durable_len) e
body_ranged (File f) _ v h e = absurd cc
body_ranged (Pipe x) (PipeByte o i) v h e = byte_ranged (slice_get x.slots i) v (PipeByte o i) (λ b. refl) e
body_ranged (Pipe x) (PutCount o) v h e = number_ranged x.put v (PutCount o) refl e
body_ranged (Pipe x) (TakenCount o) v h e = number_ranged x.taken v (TakenCount o) refl e
body_ranged (Pipe x) _ v h e = absurd cc
body_ranged (EventFd n) (EventCount o) v h e = number_ranged n v (EventCount o) refl e
body_ranged (EventFd n) _ v h e = absurd cc

object_ranged : (s : WorldState) → WorldFormed s → (o : ℕ) (p : Place) (v : Value) → option_and_then (λ (b : Body). body_seen b p) (slice_get s.objects o) ≡ Some v → in_range p v ≡ true
object_ranged s f o p v e = by (slice_get s.objects o) refl e
  where
    by : (x : Option Body) → slice_get s.objects o ≡ x → option_and_then (λ (b : Body). body_seen b p) x ≡ Some v → in_range p v ≡ true
    by None k h = absurd cc
    by (Some b) k h = body_ranged b p v (λ g i. file_formed s f o g (ap (option_and_then file_in) k ∙ i)) h

mark_ranged : (b : Bool) → nat_le (mark_of b) 1 ≡ true
mark_ranged true = refl
mark_ranged false = refl

world_ranged : (s : WorldState) → WorldFormed s → (p : Place) (v : Value) → world_seen s p ≡ Some v → in_range p v ≡ true
world_ranged s f (MemoryByte a) v e = byte_ranged (slice_get s.memory a) v (MemoryByte a) (λ b. refl) e
world_ranged s f (FileByte o i) v e = object_ranged s f o (FileByte o i) v e
world_ranged s f (DurableByte o i) v e = object_ranged s f o (DurableByte o i) v e
world_ranged s f (FileLength o) v e = object_ranged s f o (FileLength o) v e
world_ranged s f (DurableLength o) v e = object_ranged s f o (DurableLength o) v e
world_ranged s f (PipeByte o i) v e = object_ranged s f o (PipeByte o i) v e
world_ranged s f (PutCount o) v e = object_ranged s f o (PutCount o) v e
world_ranged s f (TakenCount o) v e = object_ranged s f o (TakenCount o) v e
world_ranged s f (EventCount o) v e = object_ranged s f o (EventCount o) v e
world_ranged s f (Position fd) v e = by (descriptor_of s fd) e
  where
    at : (x : Option ℕ) → option_map Number x ≡ Some v → in_range (Position fd) v ≡ true
    at None k = absurd cc
    at (Some n) k = number_ranged n v (Position fd) refl k

    by : (x : Option DescriptorState) → option_and_then (λ (d : DescriptorState). option_map Number d.position) x ≡ Some v → in_range (Position fd) v ≡ true
    by None k = absurd cc
    by (Some d) k = at d.position k
world_ranged s f (OpenMark fd) v e = by (descriptor_of s fd) e
  where
    by : (x : Option DescriptorState) → option_map (λ (d : DescriptorState). Number (mark_of d.is_open)) x ≡ Some v → in_range (OpenMark fd) v ≡ true
    by None k = absurd cc
    by (Some d) k = number_ranged (mark_of d.is_open) v (OpenMark fd) (mark_ranged d.is_open) k
world_ranged s f _ v e = absurd cc

some_there : (a b : Option Value) (v : Value) → is_some a ≡ is_some b → a ≡ Some v → is_some b ≡ true
some_there a b v h e = sym h ∙ ap is_some e

-- A value of one world can be assigned in the other.
pub world_seen_can_put : (s m : WorldState) → WorldFormed s → OneSetup s m → (p : Place) (v : Value) → world_seen s p ≡ Some v → world_can_put m p (Some v)
world_seen_can_put s m f h p v e = record { there = some_there (world_seen s p) (world_seen m p) v (world_alike s m h p) e; fits = world_ranged s f p v e }

-- ---- Worlds with equal views

same_through : {X V : Type 0} (f : X → V) → ((x y : X) → f x ≡ f y → x ≡ y) → (a b : Option X) → option_map f a ≡ option_map f b → a ≡ b
same_through f inj None None e = refl
same_through f inj None (Some y) e = absurd cc
same_through f inj (Some x) None e = absurd cc
same_through f inj (Some x) (Some y) e = ap Some (inj x y (cc))

same_bytes : (xs ys : List ℕ) → ((i : ℕ) → option_map Byte (slice_get xs i) ≡ option_map Byte (slice_get ys i)) → xs ≡ ys
same_bytes xs ys h = same_list xs ys (λ i. same_through Byte (λ x y k. cc) _ _ (h i))

same_body : (o : ℕ) (b c : Body) → kind_of_body b ≡ kind_of_body c → ((p : Place) → object_in p ≡ Some o → body_seen b p ≡ body_seen c p) → b ≡ c
same_body o (File f) (File g) h e = ap File (λ i. record { bytes = bytes i; len = len i; durable = durable i; durable_len = durable_len i })
  where
    bytes : f.bytes ≡ g.bytes
    bytes = same_bytes f.bytes g.bytes (λ i. e (FileByte o i) refl)

    len : f.len ≡ g.len
    len = let k = e (FileLength o) refl in cc

    durable : f.durable ≡ g.durable
    durable = same_bytes f.durable g.durable (λ i. e (DurableByte o i) refl)

    durable_len : f.durable_len ≡ g.durable_len
    durable_len = let k = e (DurableLength o) refl in cc
same_body o (Pipe x) (Pipe y) h e = ap Pipe (λ i. record { slots = slots i; put = put i; taken = taken i })
  where
    slots : x.slots ≡ y.slots
    slots = same_bytes x.slots y.slots (λ i. e (PipeByte o i) refl)

    put : x.put ≡ y.put
    put = let k = e (PutCount o) refl in cc

    taken : x.taken ≡ y.taken
    taken = let k = e (TakenCount o) refl in cc
same_body o (EventFd m) (EventFd n) h e = ap EventFd (let k = e (EventCount o) refl in cc)
same_body o (File f) (Pipe y) h e = absurd (let k = ap (λ k. k.file) h in cc)
same_body o (File f) (EventFd n) h e = absurd (let k = ap (λ k. k.file) h in cc)
same_body o (Pipe x) (File g) h e = absurd (let k = ap (λ k. k.file) h in cc)
same_body o (Pipe x) (EventFd n) h e = absurd (let k = ap (λ k. k.pipe) h in cc)
same_body o (EventFd m) (File g) h e = absurd (let k = ap (λ k. k.file) h in cc)
same_body o (EventFd m) (Pipe y) h e = absurd (let k = ap (λ k. k.pipe) h in cc)

same_objects : (s m : WorldState) → OneSetup s m → ((p : Place) → world_seen s p ≡ world_seen m p) → s.objects ≡ m.objects
same_objects s m h e = same_list s.objects m.objects (λ o. at o (slice_get s.objects o) (slice_get m.objects o) refl refl (at_one kind_of_body s.objects m.objects o h.objects))
  where
    at : (o : ℕ) (a b : Option Body) → slice_get s.objects o ≡ a → slice_get m.objects o ≡ b → option_map kind_of_body a ≡ option_map kind_of_body b → a ≡ b
    at o None None j k q = refl
    at o None (Some c) j k q = absurd cc
    at o (Some b) None j k q = absurd cc
    at o (Some b) (Some c) j k q = ap Some (same_body o b c (cc) (λ p i. sym (own_seen s o b p j (owns_own p o i)) ∙ e p ∙ own_seen m o c p k (owns_own p o i)))

-- Descriptors are numbered from 3.
of_number : (w : WorldState) (i : ℕ) → descriptor_of w (i + 3) ≡ slice_get w.descriptors i
of_number w i =
    let late : nat_lt (i + 3) 3 ≡ false = grind (arith, nat_tests) in
    let back : (i + 3) - 3 ≡ i = omega arith in
    ap (λ t. cond t None (slice_get w.descriptors ((i + 3) - 3))) late ∙ ap (slice_get w.descriptors) back

same_mark : (a b : Bool) → mark_of a ≡ mark_of b → a ≡ b
same_mark true true e = refl
same_mark false false e = refl
same_mark true false e = absurd cc
same_mark false true e = absurd cc

same_descriptor : (x y : DescriptorState) → fixed_of x ≡ fixed_of y → option_map Number x.position ≡ option_map Number y.position → Number (mark_of x.is_open) ≡ Number (mark_of y.is_open) → x ≡ y
same_descriptor x y f p q = λ i. record { object = object i; end = end i; is_open = is_open i; position = position i }
  where
    object : x.object ≡ y.object
    object = ap (λ k. k.object) f

    end : x.end ≡ y.end
    end = ap (λ k. k.end) f

    is_open : x.is_open ≡ y.is_open
    is_open = same_mark x.is_open y.is_open (cc)

    position : x.position ≡ y.position
    position = same_through Number (λ a b k. cc) x.position y.position p

same_descriptors : (s m : WorldState) → OneSetup s m → ((p : Place) → world_seen s p ≡ world_seen m p) → s.descriptors ≡ m.descriptors
same_descriptors s m h e = same_list s.descriptors m.descriptors (λ i. at (slice_get s.descriptors i) (slice_get m.descriptors i) (at_one fixed_of s.descriptors m.descriptors i h.descriptors) (positions i) (marks i))
  where
    positions : (i : ℕ) → option_and_then (λ (d : DescriptorState). option_map Number d.position) (slice_get s.descriptors i) ≡ option_and_then (λ (d : DescriptorState). option_map Number d.position) (slice_get m.descriptors i)
    positions i = ap (option_and_then (λ (d : DescriptorState). option_map Number d.position)) (sym (of_number s i)) ∙ e (Position (i + 3)) ∙ ap (option_and_then (λ (d : DescriptorState). option_map Number d.position)) (of_number m i)

    marks : (i : ℕ) → option_map (λ (d : DescriptorState). Number (mark_of d.is_open)) (slice_get s.descriptors i) ≡ option_map (λ (d : DescriptorState). Number (mark_of d.is_open)) (slice_get m.descriptors i)
    marks i = ap (option_map (λ (d : DescriptorState). Number (mark_of d.is_open))) (sym (of_number s i)) ∙ e (OpenMark (i + 3)) ∙ ap (option_map (λ (d : DescriptorState). Number (mark_of d.is_open))) (of_number m i)

    at : (a b : Option DescriptorState) → option_map fixed_of a ≡ option_map fixed_of b
        → option_and_then (λ (d : DescriptorState). option_map Number d.position) a ≡ option_and_then (λ (d : DescriptorState). option_map Number d.position) b
        → option_map (λ (d : DescriptorState). Number (mark_of d.is_open)) a ≡ option_map (λ (d : DescriptorState). Number (mark_of d.is_open)) b → a ≡ b
    at None None f p q = refl
    at None (Some y) f p q = absurd cc
    at (Some x) None f p q = absurd cc
    at (Some x) (Some y) f p q = ap Some (same_descriptor x y (cc) p (cc))

-- Worlds with the same fixed properties and equal views are equal.
pub same_world : (s m : WorldState) → OneSetup s m → ((p : Place) → world_seen s p ≡ world_seen m p) → s ≡ m
same_world s m h e = λ i. record { memory = memory i; objects = objects i; descriptors = descriptors i }
  where
    memory : s.memory ≡ m.memory
    memory = same_bytes s.memory m.memory (λ a. e (MemoryByte a))

    objects : s.objects ≡ m.objects
    objects = same_objects s m h e

    descriptors : s.descriptors ≡ m.descriptors
    descriptors = same_descriptors s m h e
