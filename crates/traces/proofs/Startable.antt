-- A run can start from a setup if and only if its values are in the ranges that a trace requires.
use Rattle.std.proofs.Common.{◌≡◌, ℕ, Bool, true, false, not, cond, refl, sym, ◌∙◌, ap, List, [], ◌∷◌, ◌++◌, length, ◌-◌, ◌^◌, arith}
use Rattle.std.specs.Prelude.{Option, Some, None, slice_get, ◌==◌, ◌&&◌, ◌||◌, nat_le}
use Rattle.std.specs.Option.{option_map_or}
use Rattle.std.specs.List.{list_all, list_any}
use Rattle.std.specs.Str.{bytes_eq}
use Rattle.std.proofs.lemmas.Bool.{and_parts, and_from, or_parts, leb-true, le-leb, ltb-true, lt-ltb}
use Rattle.std.proofs.lemmas.List.Folds.{list_any-append}
use Rattle.std.proofs.lemmas.List.{append-nil, append_assoc}
use Rattle.ring_words.specs.Rings.{rounded}
use Rattle.places.specs.declared.object.Object.{Object}
use Rattle.places.specs.declared.object.Contents.{Contents}
use Rattle.places.specs.declared.object.Contents.TheVariants.{File, Pipe, EventFd}
use Rattle.places.specs.declared.object.End.{End}
use Rattle.places.specs.declared.object.End.TheVariants.{Whole, Read, Write}
use Rattle.places.specs.declared.object.Descriptor.{Descriptor}
use Rattle.scenario.specs.declared.setup.Instruction.{Instruction}
use Rattle.scenario.specs.declared.setup.Instruction.TheVariants.{Put, Push, Store, Enter, Reap, Close}
use Rattle.scenario.specs.declared.setup.Setup.{Setup}
use Rattle.scenario.specs.declared.setup.SetupRefusal.TheVariants.{RingSize, Limit}
use Rattle.scenario.specs.Setups.{is_completion_size, has_ring_sizes, is_instruction, is_program, has_programs, has_memory, is_name, is_contents, is_object, is_named, names_once, has_objects, is_end, is_descriptor, has_descriptors, keeps_limits, setup_refusal}
use Rattle.traces.specs.Limits.{is_within, is_name_byte, is_new_name, is_same, has_name, keeps_objects, keeps_threads, keeps_contents, keeps_object, all_with_prefix, end_number, is_end_of, is_end as is_end_number, keeps_descriptor, keeps_instruction, keeps_program, keeps_completions, keeps_rings, keeps_ranges}

-- ---- the items of a list

each : {A : Type 0} (p q : A → Bool) (xs : List A) → ((x : A) → p x ≡ true → q x ≡ true) → list_all p xs ≡ true → list_all q xs ≡ true
each p q [] h t = refl
each p q (x ∷ xs) h t = let b = and_parts (p x) (list_all p xs) t in and_from _ _ (h x b.0) (each p q xs h b.1)

-- ---- names

agree : (b c : List ℕ) → is_same b c ≡ bytes_eq b c
agree [] [] = refl
agree [] (c ∷ cs) = refl
agree (b ∷ bs) [] = refl
agree (b ∷ bs) (c ∷ cs) = ap (λ x. (b == c) && x) (agree bs cs)

no_no : (a : Bool) → not a ≡ true → a ≡ false
no_no false h = refl
no_no true h = absurd cc

none_in : (name : List ℕ) (before rest : List Object) (o : Object) → list_any (is_named name) (before ++ o ∷ rest) ≡ false → bytes_eq name o.name ≡ false
none_in name [] rest o h = (or_parts _ _ h).0
none_in name (p ∷ before) rest o h = none_in name before rest o (or_parts _ _ h).1

new_name : (before rest : List Object) (o : Object) → names_once (before ++ o ∷ rest) ≡ true → has_name before o.name ≡ false
new_name [] rest o h = refl
new_name (p ∷ before) rest o h =
    let b = and_parts (not (list_any (is_named p.name) (before ++ o ∷ rest))) (names_once (before ++ o ∷ rest)) h in
    ap (λ x. x || has_name before o.name) (agree p.name o.name ∙ none_in p.name before rest o (no_no _ b.0)) ∙ new_name before rest o b.1

-- ---- objects

contents_kept : (c : Contents) → is_contents c ≡ true → keeps_contents c ≡ true
contents_kept (File bytes) h = h
contents_kept (Pipe capacity) h = h
contents_kept (EventFd counter) h = let l = leb-true counter (2 ^ 64 - 2) h in lt-ltb counter (2 ^ 64 - 1) (omega (arith, l))

object_kept : (before : List Object) (o : Object) → is_object o ≡ true → has_name before o.name ≡ false → keeps_object before o ≡ true
object_kept before o h fresh =
    let b = and_parts (is_name o.name) (is_contents o.contents) h in
    let n = and_parts _ _ b.0 in
    and_from _ _ (and_from _ _ n.0 (and_from _ _ n.1 (ap not fresh))) (contents_kept o.contents b.1)

objects_kept : (before objects : List Object) → names_once (before ++ objects) ≡ true → list_all is_object objects ≡ true → all_with_prefix keeps_object before objects ≡ true
objects_kept before [] once h = refl
objects_kept before (o ∷ os) once h =
    let b = and_parts (is_object o) (list_all is_object os) h in
    let same : (before ++ o ∷ []) ++ os ≡ before ++ o ∷ os = simp append_assoc in
    let moved : names_once ((before ++ o ∷ []) ++ os) ≡ true = ap names_once same ∙ once in
    and_from _ _ (object_kept before o b.0 (new_name before os o once)) (objects_kept (before ++ o ∷ []) os moved b.1)

-- ---- descriptors and programs

descriptor_kept : (objects : List Object) (d : Descriptor) → is_descriptor objects d ≡ true → keeps_descriptor objects d ≡ true
descriptor_kept objects d h = at (slice_get objects d.object) d.end h
  where
    end_of_contents : (c : Contents) (e : End) → is_end c e ≡ true → is_end_of c (end_number e) ≡ true
    end_of_contents (Pipe capacity) Whole t = absurd cc
    end_of_contents (Pipe capacity) Read t = refl
    end_of_contents (Pipe capacity) Write t = refl
    end_of_contents (File bytes) Whole t = refl
    end_of_contents (File bytes) Read t = absurd cc
    end_of_contents (File bytes) Write t = absurd cc
    end_of_contents (EventFd counter) Whole t = refl
    end_of_contents (EventFd counter) Read t = absurd cc
    end_of_contents (EventFd counter) Write t = absurd cc

    at : (o : Option Object) (e : End) → option_map_or (λ (x : Object). is_end x.contents e) o false ≡ true → is_end_number o (end_number e) ≡ true
    at None e t = absurd cc
    at (Some o) e t = end_of_contents o.contents e t

instruction_kept : (slots : ℕ) (x : Instruction) → is_instruction slots x ≡ true → keeps_instruction slots x ≡ true
instruction_kept slots (Put slot entry) h = h
instruction_kept slots (Push index) h = refl
instruction_kept slots (Store address bytes) h = h
instruction_kept slots (Enter to_submit min_complete flags) h = refl
instruction_kept slots Reap h = refl
instruction_kept slots (Close fd) h = refl

program_kept : (slots : ℕ) (xs : List Instruction) → is_program slots xs ≡ true → keeps_program slots xs ≡ true
program_kept slots xs h = let b = and_parts _ _ h in and_from _ _ b.0 (each (is_instruction slots) (keeps_instruction slots) xs (instruction_kept slots) b.1)

-- ---- the whole setup

completions_kept : (entries : ℕ) (cq : Option ℕ) → is_completion_size entries cq ≡ true → keeps_completions entries cq ≡ true
completions_kept entries None h = refl
completions_kept entries (Some cq) h = h

parts_kept : (s : Setup) → has_ring_sizes s ≡ true → keeps_limits s ≡ true → keeps_ranges s ≡ true
unfolding keeps_ranges
parts_kept s sizes limits =
    let r = and_parts _ _ sizes in
    let m = and_parts (has_memory s) _ limits in
    let o = and_parts (has_objects s) _ m.1 in
    let d = and_parts (has_descriptors s) (has_programs s) o.1 in
    let o2 = and_parts (nat_le (length s.objects) 32 && list_all is_object s.objects) (names_once s.objects) o.0 in
    let o3 = and_parts (nat_le (length s.objects) 32) (list_all is_object s.objects) o2.0 in
    let f = and_parts _ _ d.0 in
    let t = and_parts _ _ d.1 in
    let rings : keeps_rings s ≡ true = and_from _ _ r.0 (completions_kept s.entries s.cq r.1) in
    let objects : all_with_prefix keeps_object [] s.objects ≡ true = objects_kept [] s.objects o2.1 o3.1 in
    let fds : list_all (keeps_descriptor s.objects) s.fds ≡ true = each (is_descriptor s.objects) (keeps_descriptor s.objects) s.fds (descriptor_kept s.objects) f.1 in
    let programs : list_all (keeps_program (rounded s.entries)) s.threads ≡ true = each (is_program (rounded s.entries)) (keeps_program (rounded s.entries)) s.threads (program_kept (rounded s.entries)) t.1 in
    and_from _ _ (and_from _ _ rings (and_from _ _ (and_from _ _ (and_from _ _ (and_from _ _ m.0 o3.0) objects) f.0) fds)) (and_from _ _ t.0 programs)

pub startable : (s : Setup) → setup_refusal s ≡ None → keeps_ranges s ≡ true
startable s h = by (has_ring_sizes s) (keeps_limits s) refl refl h
  where
    by : (a b : Bool) → has_ring_sizes s ≡ a → keeps_limits s ≡ b → cond (not a) (Some RingSize) (cond b None (Some Limit)) ≡ None → keeps_ranges s ≡ true
    by false b e f k = absurd cc
    by true false e f k = absurd cc
    by true true e f k = parts_kept s e f

-- ---- the converse: a run can start from a setup whose values are in range

yes_no : (a : Bool) → a ≡ false → not a ≡ true
yes_no false h = refl
yes_no true h = absurd cc

-- A name that no earlier object has is unique.
once_more : (before : List Object) (o : Object) → names_once before ≡ true → has_name before o.name ≡ false → names_once (before ++ o ∷ []) ≡ true
once_more [] o once fresh = refl
once_more (p ∷ ps) o once fresh =
    let n = and_parts (not (list_any (is_named p.name) ps)) (names_once ps) once in
    let f = or_parts (is_same p.name o.name) (has_name ps o.name) fresh in
    let other : list_any (is_named p.name) (ps ++ o ∷ []) ≡ false =
    list_any-append (is_named p.name) ps (o ∷ []) ∙ ap (λ b. b || (bytes_eq p.name o.name || false)) (no_no _ n.0) ∙ ap (λ b. b || false) (sym (agree p.name o.name) ∙ f.0) in
    and_from _ _ (yes_no _ other) (once_more ps o n.1 f.1)

name_kept : (before : List Object) (o : Object) → keeps_object before o ≡ true → (is_object o ≡ true) × (has_name before o.name ≡ false)
name_kept before o h =
    let b = and_parts (is_within 1 16 (length o.name) && is_new_name before o.name) (keeps_contents o.contents) h in
    let n = and_parts (is_within 1 16 (length o.name)) (is_new_name before o.name) b.0 in
    let m = and_parts (list_all is_name_byte o.name) (not (has_name before o.name)) n.1 in
    (and_from _ _ (and_from _ _ n.0 m.0) (contents_back o.contents b.1), no_no _ m.1)
  where
    contents_back : (c : Contents) → keeps_contents c ≡ true → is_contents c ≡ true
    contents_back (File bytes) t = t
    contents_back (Pipe capacity) t = t
    contents_back (EventFd counter) t = let l = ltb-true counter (2 ^ 64 - 1) t in le-leb counter (2 ^ 64 - 2) (omega (arith, l))

objects_back : (before objects : List Object) → names_once before ≡ true → all_with_prefix keeps_object before objects ≡ true → (names_once (before ++ objects) ≡ true) × (list_all is_object objects ≡ true)
objects_back before [] once h = (let same : before ++ [] ≡ before = simp append-nil in ap names_once same ∙ once, refl)
objects_back before (o ∷ os) once h =
    let b = and_parts (keeps_object before o) (all_with_prefix keeps_object (before ++ o ∷ []) os) h in
    let k = name_kept before o b.0 in
    let more = objects_back (before ++ o ∷ []) os (once_more before o once k.1) b.1 in
    let same : (before ++ o ∷ []) ++ os ≡ before ++ o ∷ os = simp append_assoc in
    (ap names_once (sym same) ∙ more.0, and_from _ _ k.0 more.1)

descriptor_back : (objects : List Object) (d : Descriptor) → keeps_descriptor objects d ≡ true → is_descriptor objects d ≡ true
descriptor_back objects d h = at (slice_get objects d.object) d.end h
  where
    end_of_contents : (c : Contents) (e : End) → is_end_of c (end_number e) ≡ true → is_end c e ≡ true
    end_of_contents (Pipe capacity) Whole t = absurd cc
    end_of_contents (Pipe capacity) Read t = refl
    end_of_contents (Pipe capacity) Write t = refl
    end_of_contents (File bytes) Whole t = refl
    end_of_contents (File bytes) Read t = absurd cc
    end_of_contents (File bytes) Write t = absurd cc
    end_of_contents (EventFd counter) Whole t = refl
    end_of_contents (EventFd counter) Read t = absurd cc
    end_of_contents (EventFd counter) Write t = absurd cc

    at : (o : Option Object) (e : End) → is_end_number o (end_number e) ≡ true → option_map_or (λ (x : Object). is_end x.contents e) o false ≡ true
    at None e t = absurd cc
    at (Some o) e t = end_of_contents o.contents e t

instruction_back : (slots : ℕ) (x : Instruction) → keeps_instruction slots x ≡ true → is_instruction slots x ≡ true
instruction_back slots (Put slot entry) h = h
instruction_back slots (Push index) h = refl
instruction_back slots (Store address bytes) h = h
instruction_back slots (Enter to_submit min_complete flags) h = refl
instruction_back slots Reap h = refl
instruction_back slots (Close fd) h = refl

program_back : (slots : ℕ) (xs : List Instruction) → keeps_program slots xs ≡ true → is_program slots xs ≡ true
program_back slots xs h = let b = and_parts _ _ h in and_from _ _ b.0 (each (keeps_instruction slots) (is_instruction slots) xs (instruction_back slots) b.1)

completions_back : (entries : ℕ) (cq : Option ℕ) → keeps_completions entries cq ≡ true → is_completion_size entries cq ≡ true
completions_back entries None h = refl
completions_back entries (Some cq) h = h

starts_by : (s : Setup) → has_ring_sizes s ≡ true → keeps_limits s ≡ true → setup_refusal s ≡ None
starts_by s a b = ap (λ x. cond (not x) (Some RingSize) (cond (keeps_limits s) None (Some Limit))) a ∙ ap (λ x. cond x None (Some Limit)) b

pub starting : (s : Setup) → keeps_ranges s ≡ true → setup_refusal s ≡ None
unfolding keeps_ranges
starting s h =
    let t = and_parts (keeps_rings s && keeps_objects s) (keeps_threads s) h in
    let r = and_parts (keeps_rings s) (keeps_objects s) t.0 in
    let rings = and_parts (is_within 1 4096 s.entries) (keeps_completions s.entries s.cq) r.0 in
    let d = and_parts (nat_le (length s.memory) 65536 && nat_le (length s.objects) 32 && all_with_prefix keeps_object [] s.objects && nat_le (length s.fds) 64) (list_all (keeps_descriptor s.objects) s.fds) r.1 in
    let f = and_parts (nat_le (length s.memory) 65536 && nat_le (length s.objects) 32 && all_with_prefix keeps_object [] s.objects) (nat_le (length s.fds) 64) d.0 in
    let o = and_parts (nat_le (length s.memory) 65536 && nat_le (length s.objects) 32) (all_with_prefix keeps_object [] s.objects) f.0 in
    let m = and_parts (nat_le (length s.memory) 65536) (nat_le (length s.objects) 32) o.0 in
    let p = and_parts (nat_le (length s.threads) 16) (list_all (keeps_program (rounded s.entries)) s.threads) t.1 in
    let named = objects_back [] s.objects refl o.1 in
    let objects : has_objects s ≡ true = and_from _ _ (and_from _ _ m.1 named.1) named.0 in
    let descriptors : has_descriptors s ≡ true = and_from _ _ f.1 (each (keeps_descriptor s.objects) (is_descriptor s.objects) s.fds (descriptor_back s.objects) d.1) in
    let programs : has_programs s ≡ true = and_from _ _ p.0 (each (keeps_program (rounded s.entries)) (is_program (rounded s.entries)) s.threads (program_back (rounded s.entries)) p.1) in
    starts_by s (and_from _ _ rings.0 (completions_back s.entries s.cq rings.1)) (and_from _ _ m.0 (and_from _ _ objects (and_from _ _ descriptors programs)))
