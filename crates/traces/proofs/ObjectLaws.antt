-- Reading objects and descriptors returns those that were written.
use Rattle.std.proofs.Common.{◌≡◌, ℕ, zero, suc, ◌-◌, ◌^◌, ◌<◌, ◌≤◌, true, List, ◌++◌, length, get_or, Option, Some, None, Ok, refl, sym, ap, subst, ◌∙◌, append_assoc, arith, inl, inr}
use Rattle.std.specs.Prelude.{nat_le, nat_lt, ◌==◌, ◌&&◌, slice_get}
use Rattle.std.proofs.lemmas.Bool.{and_parts, and_from, leb-true, ltb-true, eqb-true}
use Rattle.std.proofs.lemmas.Bool.Decides.{nat_tests}
use Rattle.std.proofs.lemmas.Option.{slice_get_cases, slice_get_read}
use Rattle.byteorder.specs.Endian.{little_bytes}
use Rattle.places.specs.declared.object.Object.{Object}
use Rattle.places.specs.declared.object.Contents.{Contents}
use Rattle.places.specs.declared.object.Contents.TheVariants.{File, Pipe, EventFd}
use Rattle.places.specs.declared.object.End.{End}
use Rattle.places.specs.declared.object.End.TheVariants.{Whole, Read, Write}
use Rattle.places.specs.declared.object.Descriptor.{Descriptor}
use Rattle.traces.specs.Cursors.{Cursor}
use Rattle.traces.specs.Limits.{is_within, is_new_name, keeps_contents, keeps_object, end_number, is_end_of, is_end, keeps_descriptor}
use Rattle.traces.specs.Setups.{long_bytes, name_bytes, contents_bytes, object_bytes, descriptor_bytes}
use Rattle.traces.specs.Reading.{◌>>=◌, kept, number_in, bytes_at, long_at, name_at, contents_of, contents_at, object_at, end_of, end_at, descriptor_at}
use Rattle.traces.proofs.Taking.{IsBytes, bind_ok, kept_ok, ok_is, cursor_at, Takes, Takes-then, Again, width1, width4, width8, number_in_takes, number_in_again, bytes_takes, bytes_again, long_takes, long_again}
use Rattle.traces.proofs.Lists.{Reads}

pub within_least : (least most n : ℕ) → is_within least most n ≡ true → least ≤ n
within_least least most n h = leb-true _ _ (and_parts (nat_le least n) (nat_le n most) h).0

pub within_most : (least most n : ℕ) → is_within least most n ≡ true → n ≤ most
within_most least most n h = leb-true _ _ (and_parts (nat_le least n) (nat_le n most) h).1

-- ---- names

name_takes : (before : List Object) (s : Cursor) (x : List ℕ) (t : Cursor) → IsBytes s.rest → name_at before s ≡ Ok (x, t)
    → Takes s (name_bytes x) t × (is_within 1 16 (length x) ≡ true) × (is_new_name before x ≡ true)
unfolding name_at
name_takes before s x t fits e =
    let a = bind_ok (number_in 1 (is_within 1 16) s) (λ n. bytes_at n.0 n.1 >>= λ name. kept (is_new_name before name.0) n.1.offset name) (x, t) e in
    let b = bind_ok (bytes_at a.0.0 a.0.1) (λ name. kept (is_new_name before name.0) a.0.1.offset name) (x, t) a.2 in
    let c = kept_ok (is_new_name before b.0.0) a.0.1.offset b.0 (x, t) b.2 in
    let count = number_in_takes 1 width1 (is_within 1 16) s a.0.0 a.0.1 fits a.1 in
    let bytes = bytes_takes a.0.0 a.0.1 b.0.0 b.0.1 count.0.fits b.1 in
    let both = Takes-then s (little_bytes 1 a.0.0) a.0.1 b.0.0 b.0.1 count.0 bytes.0 in
    let sized = subst (λ (n : ℕ). Takes s (little_bytes 1 n ++ b.0.0) b.0.1 × (is_within 1 16 n ≡ true) × (is_new_name before b.0.0 ≡ true)) (sym bytes.1) (both, count.2, c.0) in
    subst (λ (p : List ℕ × Cursor). Takes s (name_bytes p.0) p.1 × (is_within 1 16 (length p.0) ≡ true) × (is_new_name before p.0 ≡ true)) c.1 sized

name_again : (before : List Object) (offset : ℕ) (x rest : List ℕ) → is_within 1 16 (length x) ≡ true → is_new_name before x ≡ true
    → Again (name_at before) offset (name_bytes x ++ rest) x rest
unfolding name_at
name_again before offset x rest short new =
    let few : length x ≤ 16 = within_most 1 16 (length x) short in
    let a = number_in_again 1 (is_within 1 16) offset (length x) (x ++ rest) (omega arith) short in
    let b = bytes_again (length x) a.0 x rest refl in
    let regrouped : name_bytes x ++ rest ≡ little_bytes 1 (length x) ++ (x ++ rest) = append_assoc (little_bytes 1 (length x)) x rest in
    (b.0, ap (λ (input : List ℕ). name_at before (cursor_at offset input)) regrouped ∙ rw (a.1, b.1, new) refl)

-- ---- contents

abbrev contents_kind : Contents → ℕ
contents_kind (File bytes) = 1
contents_kind (Pipe capacity) = 2
contents_kind (EventFd counter) = 3

abbrev contents_tail : Contents → List ℕ
contents_tail (File bytes) = long_bytes bytes
contents_tail (Pipe capacity) = little_bytes 4 capacity
contents_tail (EventFd counter) = little_bytes 8 counter

contents_split : (c : Contents) → contents_bytes c ≡ little_bytes 1 (contents_kind c) ++ contents_tail c
contents_split (File bytes) = refl
contents_split (Pipe capacity) = refl
contents_split (EventFd counter) = refl

file_takes : (s : Cursor) (c : Contents) (t : Cursor) → IsBytes s.rest → contents_of 1 s ≡ Ok (c, t) → Takes s (contents_tail c) t × (contents_kind c ≡ 1) × (keeps_contents c ≡ true)
unfolding contents_of
file_takes s c t fits e =
    let a = bind_ok (long_at 65536 s) (λ bytes. Ok (File bytes.0, bytes.1)) (c, t) e in
    let bytes = long_takes 65536 s a.0.0 a.0.1 fits a.1 in
    subst (λ (p : Contents × Cursor). Takes s (contents_tail p.0) p.1 × (contents_kind p.0 ≡ 1) × (keeps_contents p.0 ≡ true)) (ok_is (File a.0.0, a.0.1) (c, t) a.2) (bytes.0, refl, bytes.1)

pipe_takes : (s : Cursor) (c : Contents) (t : Cursor) → IsBytes s.rest → contents_of 2 s ≡ Ok (c, t) → Takes s (contents_tail c) t × (contents_kind c ≡ 2) × (keeps_contents c ≡ true)
unfolding contents_of
pipe_takes s c t fits e =
    let a = bind_ok (number_in 4 (is_within 1 65536) s) (λ capacity. Ok (Pipe capacity.0, capacity.1)) (c, t) e in
    let capacity = number_in_takes 4 width4 (is_within 1 65536) s a.0.0 a.0.1 fits a.1 in
    subst (λ (p : Contents × Cursor). Takes s (contents_tail p.0) p.1 × (contents_kind p.0 ≡ 2) × (keeps_contents p.0 ≡ true)) (ok_is (Pipe a.0.0, a.0.1) (c, t) a.2) (capacity.0, refl, capacity.2)

counter_takes : (s : Cursor) (c : Contents) (t : Cursor) → IsBytes s.rest → contents_of 3 s ≡ Ok (c, t) → Takes s (contents_tail c) t × (contents_kind c ≡ 3) × (keeps_contents c ≡ true)
unfolding contents_of
counter_takes s c t fits e =
    let a = bind_ok (number_in 8 (λ n. nat_lt n (2 ^ 64 - 1)) s) (λ counter. Ok (EventFd counter.0, counter.1)) (c, t) e in
    let counter = number_in_takes 8 width8 (λ n. nat_lt n (2 ^ 64 - 1)) s a.0.0 a.0.1 fits a.1 in
    subst (λ (p : Contents × Cursor). Takes s (contents_tail p.0) p.1 × (contents_kind p.0 ≡ 3) × (keeps_contents p.0 ≡ true)) (ok_is (EventFd a.0.0, a.0.1) (c, t) a.2) (counter.0, refl, counter.2)

contents_of_takes : (k : ℕ) (s : Cursor) (c : Contents) (t : Cursor) → is_within 1 3 k ≡ true → IsBytes s.rest → contents_of k s ≡ Ok (c, t)
    → Takes s (contents_tail c) t × (contents_kind c ≡ k) × (keeps_contents c ≡ true)
contents_of_takes zero s c t within fits e = absurd (omega (arith, within_least 1 3 0 within))
contents_of_takes (suc zero) s c t within fits e = file_takes s c t fits e
contents_of_takes (suc (suc zero)) s c t within fits e = pipe_takes s c t fits e
contents_of_takes (suc (suc (suc zero))) s c t within fits e = counter_takes s c t fits e
contents_of_takes (suc (suc (suc (suc k)))) s c t within fits e = absurd (omega (arith, within_most 1 3 (suc (suc (suc (suc k)))) within))

contents_takes : (s : Cursor) (c : Contents) (t : Cursor) → IsBytes s.rest → contents_at s ≡ Ok (c, t) → Takes s (contents_bytes c) t × (keeps_contents c ≡ true)
unfolding contents_at
contents_takes s c t fits e =
    let a = bind_ok (number_in 1 (is_within 1 3) s) (λ kind. contents_of kind.0 kind.1) (c, t) e in
    let kind = number_in_takes 1 width1 (is_within 1 3) s a.0.0 a.0.1 fits a.1 in
    let tail = contents_of_takes a.0.0 a.0.1 c t kind.2 kind.0.fits a.2 in
    let both = Takes-then s (little_bytes 1 a.0.0) a.0.1 (contents_tail c) t kind.0 tail.0 in
    let whole : little_bytes 1 a.0.0 ++ contents_tail c ≡ contents_bytes c = ap (λ (k : ℕ). little_bytes 1 k ++ contents_tail c) (sym tail.1) ∙ sym (contents_split c) in
    (subst (λ (text : List ℕ). Takes s text t) whole both, tail.2)

contents_of_again : (offset : ℕ) (c : Contents) (rest : List ℕ) → keeps_contents c ≡ true → Again (contents_of (contents_kind c)) offset (contents_tail c ++ rest) c rest
unfolding contents_of
contents_of_again offset (File bytes) rest keeps =
    let a = long_again 65536 offset bytes rest (omega arith) keeps in
    (a.0, rw a.1 refl)
contents_of_again offset (Pipe capacity) rest keeps =
    let few : capacity ≤ 65536 = within_most 1 65536 capacity keeps in
    let a = number_in_again 4 (is_within 1 65536) offset capacity rest (omega arith) keeps in
    (a.0, rw a.1 refl)
contents_of_again offset (EventFd counter) rest keeps =
    let small : counter < 2 ^ 64 - 1 = ltb-true _ _ keeps in
    let a = number_in_again 8 (λ n. nat_lt n (2 ^ 64 - 1)) offset counter rest (omega arith) keeps in
    (a.0, rw a.1 refl)

kind_within : (c : Contents) → is_within 1 3 (contents_kind c) ≡ true
kind_within (File bytes) = refl
kind_within (Pipe capacity) = refl
kind_within (EventFd counter) = refl

kind_small : (c : Contents) → contents_kind c < 256 ^ 1
kind_small c = omega (arith, within_most 1 3 (contents_kind c) (kind_within c))

contents_again : (offset : ℕ) (c : Contents) (rest : List ℕ) → keeps_contents c ≡ true → Again contents_at offset (contents_bytes c ++ rest) c rest
unfolding contents_at
contents_again offset c rest keeps =
    let a = number_in_again 1 (is_within 1 3) offset (contents_kind c) (contents_tail c ++ rest) (kind_small c) (kind_within c) in
    let b = contents_of_again a.0 c rest keeps in
    let regrouped : contents_bytes c ++ rest ≡ little_bytes 1 (contents_kind c) ++ (contents_tail c ++ rest) =
    ap (λ (text : List ℕ). text ++ rest) (contents_split c) ∙ append_assoc (little_bytes 1 (contents_kind c)) (contents_tail c) rest in
    (b.0, ap (λ (input : List ℕ). contents_at (cursor_at offset input)) regrouped ∙ rw (a.1, b.1) refl)

-- ---- objects

object_takes : (before : List Object) (s : Cursor) (o : Object) (t : Cursor) → IsBytes s.rest → object_at before s ≡ Ok (o, t) → Takes s (object_bytes o) t × (keeps_object before o ≡ true)
unfolding object_at
object_takes before s o t fits e =
    let a = bind_ok (name_at before s) (λ name. contents_at name.1 >>= λ contents. Ok (record { name = name.0; contents = contents.0 }, contents.1)) (o, t) e in
    let b = bind_ok (contents_at a.0.1) (λ contents. Ok (record { name = a.0.0; contents = contents.0 }, contents.1)) (o, t) a.2 in
    let name = name_takes before s a.0.0 a.0.1 fits a.1 in
    let contents = contents_takes a.0.1 b.0.0 b.0.1 name.0.fits b.1 in
    let both = Takes-then s (name_bytes a.0.0) a.0.1 (contents_bytes b.0.0) b.0.1 name.0 contents.0 in
    let made : Object × Cursor = (record { name = a.0.0; contents = b.0.0 }, b.0.1) in
    subst (λ (p : Object × Cursor). Takes s (object_bytes p.0) p.1 × (keeps_object before p.0 ≡ true)) (ok_is made (o, t) b.2)
    (both, and_from _ _ (and_from _ _ name.1 name.2) contents.1)

object_again : (before : List Object) (offset : ℕ) (o : Object) (rest : List ℕ) → keeps_object before o ≡ true → Again (object_at before) offset (object_bytes o ++ rest) o rest
unfolding object_at
object_again before offset o rest keeps =
    let p = and_parts (is_within 1 16 (length o.name) && is_new_name before o.name) (keeps_contents o.contents) keeps in
    let q = and_parts (is_within 1 16 (length o.name)) (is_new_name before o.name) p.0 in
    let a = name_again before offset o.name (contents_bytes o.contents ++ rest) q.0 q.1 in
    let b = contents_again a.0 o.contents rest p.1 in
    let regrouped : object_bytes o ++ rest ≡ name_bytes o.name ++ (contents_bytes o.contents ++ rest) = append_assoc (name_bytes o.name) (contents_bytes o.contents) rest in
    (b.0, ap (λ (input : List ℕ). object_at before (cursor_at offset input)) regrouped ∙ rw (a.1, b.1) refl)

pub object_reads : Reads Object object_at object_bytes (λ before o. keeps_object before o ≡ true)
object_reads = record { takes = object_takes; again = object_again }

-- ---- descriptors

past_two : (n k : ℕ) → n ≡ suc (suc (suc k)) → (n == 0) ≡ true → ⊥
past_two n k e h = omega (arith, eqb-true n 0 h)

end_of_back : (c : Contents) (n : ℕ) → is_end_of c n ≡ true → end_number (end_of n) ≡ n
end_of_back c zero h = refl
end_of_back c (suc zero) h = refl
end_of_back c (suc (suc zero)) h = refl
end_of_back (File bytes) (suc (suc (suc k))) h = absurd (past_two (suc (suc (suc k))) k refl h)
end_of_back (Pipe capacity) (suc (suc (suc k))) h = absurd (omega (arith, within_most 1 2 (suc (suc (suc k))) h))
end_of_back (EventFd counter) (suc (suc (suc k))) h = absurd (past_two (suc (suc (suc k))) k refl h)

end_back : (o : Option Object) (n : ℕ) → is_end o n ≡ true → end_number (end_of n) ≡ n
end_back None n h = absurd cc
end_back (Some o) n h = end_of_back o.contents n h

end_again_of : (e : End) → end_of (end_number e) ≡ e
end_again_of Whole = refl
end_again_of Read = refl
end_again_of Write = refl

end_small : (e : End) → end_number e < 256 ^ 1
end_small Whole = omega arith
end_small Read = omega arith
end_small Write = omega arith

end_takes : (o : Option Object) (s : Cursor) (e : End) (t : Cursor) → IsBytes s.rest → end_at o s ≡ Ok (e, t) → Takes s (little_bytes 1 (end_number e)) t × (is_end o (end_number e) ≡ true)
unfolding end_at
end_takes o s e t fits h =
    let a = bind_ok (number_in 1 (is_end o) s) (λ n. Ok (end_of n.0, n.1)) (e, t) h in
    let n = number_in_takes 1 width1 (is_end o) s a.0.0 a.0.1 fits a.1 in
    let back = end_back o a.0.0 n.2 in
    let made = subst (λ (k : ℕ). Takes s (little_bytes 1 k) a.0.1 × (is_end o k ≡ true)) (sym back) (n.0, n.2) in
    subst (λ (p : End × Cursor). Takes s (little_bytes 1 (end_number p.0)) p.1 × (is_end o (end_number p.0) ≡ true)) (ok_is (end_of a.0.0, a.0.1) (e, t) a.2) made

end_again : (o : Option Object) (offset : ℕ) (e : End) (rest : List ℕ) → is_end o (end_number e) ≡ true → Again (end_at o) offset (little_bytes 1 (end_number e) ++ rest) e rest
unfolding end_at
end_again o offset e rest h =
    let a = number_in_again 1 (is_end o) offset (end_number e) rest (end_small e) h in
    (a.0, rw (a.1, end_again_of e) refl)

-- A descriptor with a valid end refers to an object of the list.
pub end_there : (objects : List Object) (i n : ℕ) → is_end (slice_get objects i) n ≡ true → i < length objects
end_there objects i n h =
    elim (slice_get_cases objects i).1 [
      | inl there ↦ there.1
      | inr past ↦ let none = ap (λ (o : Option Object). is_end o n) past.1 in absurd cc
    ]

descriptor_takes : (objects : List Object) (before : List Descriptor) (s : Cursor) (d : Descriptor) (t : Cursor) → IsBytes s.rest → descriptor_at objects s ≡ Ok (d, t)
    → Takes s (descriptor_bytes d) t × ((keeps_descriptor objects d ≡ true) × Unit {0})
unfolding descriptor_at
descriptor_takes objects before s d t fits e =
    let a = bind_ok (number_in 1 (λ n. nat_lt n (length objects)) s) (λ object. end_at (slice_get objects object.0) object.1 >>= λ end. Ok (record { object = object.0; end = end.0 }, end.1)) (d, t) e in
    let b = bind_ok (end_at (slice_get objects a.0.0) a.0.1) (λ end. Ok (record { object = a.0.0; end = end.0 }, end.1)) (d, t) a.2 in
    let object = number_in_takes 1 width1 (λ n. nat_lt n (length objects)) s a.0.0 a.0.1 fits a.1 in
    let end = end_takes (slice_get objects a.0.0) a.0.1 b.0.0 b.0.1 object.0.fits b.1 in
    let both = Takes-then s (little_bytes 1 a.0.0) a.0.1 (little_bytes 1 (end_number b.0.0)) b.0.1 object.0 end.0 in
    let made : Descriptor × Cursor = (record { object = a.0.0; end = b.0.0 }, b.0.1) in
    subst (λ (p : Descriptor × Cursor). Takes s (descriptor_bytes p.0) p.1 × ((keeps_descriptor objects p.0 ≡ true) × Unit {0})) (ok_is made (d, t) b.2) (both, (end.1, tt))

descriptor_again : (objects : List Object) → length objects ≤ 32 → (before : List Descriptor) (offset : ℕ) (d : Descriptor) (rest : List ℕ) → (keeps_descriptor objects d ≡ true) × Unit {0}
    → Again (descriptor_at objects) offset (descriptor_bytes d ++ rest) d rest
unfolding descriptor_at
descriptor_again objects few before offset d rest keeps =
    let there : d.object < length objects = end_there objects d.object (end_number d.end) keeps.0 in
    let below : nat_lt d.object (length objects) ≡ true = grind (arith, nat_tests) in
    let a = number_in_again 1 (λ n. nat_lt n (length objects)) offset d.object (little_bytes 1 (end_number d.end) ++ rest) (omega arith) below in
    let b = end_again (slice_get objects d.object) a.0 d.end rest keeps.0 in
    let regrouped : descriptor_bytes d ++ rest ≡ little_bytes 1 d.object ++ (little_bytes 1 (end_number d.end) ++ rest) = append_assoc (little_bytes 1 d.object) (little_bytes 1 (end_number d.end)) rest in
    (b.0, ap (λ (input : List ℕ). descriptor_at objects (cursor_at offset input)) regrouped ∙ rw (a.1, b.1) refl)

pub descriptor_reads : (objects : List Object) → length objects ≤ 32
    → Reads Descriptor (λ before. descriptor_at objects) descriptor_bytes (λ before d. (keeps_descriptor objects d ≡ true) × Unit {0})
descriptor_reads objects few = record { takes = descriptor_takes objects; again = descriptor_again objects few }

-- A descriptor is read if its object is in the list and has its end.
pub descriptor_is : (objects : List Object) (s : Cursor) (i : ℕ) (mid : Cursor) (o : Object) (e : End) (t : Cursor) → i < length objects
    → number_in 1 (λ n. nat_lt n (length objects)) s ≡ Ok (i, mid) → o ≡ get_or objects i o → end_at (Some o) mid ≡ Ok (e, t)
    → descriptor_at objects s ≡ Ok (record { object = i; end = e }, t)
unfolding descriptor_at
descriptor_is objects s i mid o e t lt number there end =
    let found : slice_get objects i ≡ Some o = slice_get_read objects (length objects) i o refl lt there in
    rw (number, found, end) refl
