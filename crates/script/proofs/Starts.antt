-- A run can start from every setup that was read.
use Rattle.std.proofs.Common.{◌≡◌, ℕ, ◌+◌, ◌-◌, ◌^◌, ◌≤◌, Bool, true, false, not, cond, ◌&&◌, nat_le, nat_lt, List, [], ◌∷◌, ◌++◌, length, take, drop, Option, Some, None, Result, Ok, Err, refl, sym, ap, ◌∙◌, subst, arith, length-append, length-drop}
use Rattle.std.specs.Prelude.{option_map, codes}
use Rattle.std.specs.List.{list_all, list_any, position}
use Rattle.std.proofs.lemmas.Bool.Decides.{nat_tests}
use Rattle.std.proofs.lemmas.List.{length-take-le, length-replicate}
use Rattle.std.proofs.lemmas.List.Folds.{list_all-append}
use Rattle.serde_json.specs.Data.{Data}
use Rattle.serde_json.specs.Find.{as_str}
use Rattle.places.specs.declared.object.Contents.{Contents}
use Rattle.places.specs.declared.object.Contents.TheVariants.{File, Pipe, EventFd}
use Rattle.places.specs.declared.object.Descriptor.{Descriptor}
use Rattle.places.specs.declared.object.End.{End}
use Rattle.places.specs.declared.object.End.TheVariants.{Whole, Read, Write}
use Rattle.places.specs.declared.object.Object.{Object}
use Rattle.ring_words.specs.Rings.{rounded}
use Rattle.scenario.specs.Setups.{is_between, is_completion_size, is_name, is_named, is_contents, is_object, names_once, is_descriptor, setup_refusal}
use Rattle.scenario.specs.declared.event.Event.{Event}
use Rattle.scenario.specs.declared.setup.Instruction.{Instruction}
use Rattle.scenario.specs.declared.setup.Setup.{Setup}
use Rattle.script.specs.declared.fault.ScriptFault.{ScriptFault}
use Rattle.script.specs.declared.fault.Key.TheVariants as key
use Rattle.script.specs.declared.object.ContentsForm.{ContentsForm}
use Rattle.script.specs.declared.object.ContentsForm.TheVariants as form
use Rattle.script.specs.Faults.{at_key, at_item}
use Rattle.script.specs.Lists.{list_at, folded, at_most, folded_at_most}
use Rattle.script.specs.Memory.{placed, piece_form, is_short, overwritten, with_piece, piece_at, zeros, memory_of}
use Rattle.script.specs.Objects.{ObjectForm, object_form, contents_keep_limits, is_small, contents_in_range, is_new_name, object_in_range, object_at, objects_of, descriptor_of, end_named, before_mark, end_meant, descriptor_named, descriptor_at, fds_of}
use Rattle.script.specs.Numbers.{between}
use Rattle.script.specs.Scripts.{entries_of, cq_of, threads_of, schedule_of, Startable}
use Rattle.script.proofs.Numbered.{still_once}
use Rattle.script.proofs.KeptLimits.{bind_ok, some_both, some_mapped, formed_ok, limited_ok, tested, between_ok, placed_ok, each_all, at_most_ok, le_true, entries_ok, cq_ok, KeepPrograms, threads_kept, schedule_ok}

-- A property that each step preserves holds at the end.
folded_keeps : {S : Type 0} → (P : S → Type 0) (f : S → ℕ → Data → Result S ScriptFault) (s : S) (i : ℕ) (ds : List Data) (t : S) → ((r u : S) (j : ℕ) (d : Data) → P r → f r j d ≡ Ok u → P u) → P s → folded f s i ds ≡ Ok t → P t
folded_keeps P f s i [] t k p h = let e : s ≡ t = cc in subst P e p
folded_keeps P f s i (d ∷ ds) t k p h =
    let b = bind_ok (f s i d) (λ u. folded f u (i + 1) ds) t h in
    folded_keeps P f b.0 (i + 1) ds t k (k s b.0 i d p b.1) b.2

-- ---- memory

length-overwritten : (c : List ℕ) (at : ℕ) (others : List ℕ) → at + length others ≤ length c → length (overwritten c at others) ≡ length c
length-overwritten c at others h =
    let a = length-take-le at c (omega arith) in
    let b = length-drop (at + length others) c in
    let d = length-append others (drop (at + length others) c) in
    length-append (take at c) (others ++ drop (at + length others) c) ∙ omega (arith, a, b, d)

piece_keeps : (m n : List ℕ) (i : ℕ) (d : Data) → length m ≡ 65536 → piece_at m i d ≡ Ok n → length n ≡ 65536
piece_keeps m n i d l h =
    let w = limited_ok (at_item key.Memory i) (piece_form d) is_short (with_piece m) n h in
    let o = some_mapped (λ address. overwritten m address w.0.bytes) (placed w.0.bytes w.0.address) n w.3 in
    let t = placed_ok w.0.bytes w.0.address o.0 o.1 in
    let fits : o.0 + length w.0.bytes ≤ 65536 = within t in
    ap length o.2 ∙ length-overwritten m o.0 w.0.bytes (omega (arith, fits)) ∙ l
  where
    within : {n : ℕ} → nat_le n 65536 ≡ true → n ≤ 65536
    within e = grind (arith, nat_tests)

zeros_length : (n : ℕ) → length (zeros n) ≡ n
unfolding zeros
zeros_length n = length-replicate n 0

memory_length : (d : Option Data) (m : List ℕ) → memory_of d ≡ Ok m → length m ≡ 65536
memory_length d m h =
    let b = bind_ok (list_at key.Memory d) (folded piece_at (zeros 65536) 0) m h in
    folded_keeps (λ (n : List ℕ). length n ≡ 65536) piece_at (zeros 65536) 0 b.0 m (λ r u j e p k. piece_keeps r u j e p k) (zeros_length 65536) b.2

-- ---- objects

pub record AreObjects (os : List Object) : Type 0 where
  pub each : list_all is_object os ≡ true
  pub once : names_once os ≡ true

and_true : (a b : Bool) → (a && b) ≡ true → (a ≡ true) × (b ≡ true)
and_true true b h = (refl, h)
and_true false b h = absurd (cc)

contents_ok : (w : ContentsForm) (c : Contents) → contents_keep_limits w ≡ true → contents_in_range w ≡ Some c → is_contents c ≡ true
contents_ok (form.File bytes) c k h = let e : File bytes ≡ c = cc in ap is_contents (sym e) ∙ k
contents_ok (form.Pipe capacity) c k h =
    let m = some_mapped Pipe (between 1 65536 capacity) c h in
    ap is_contents m.2 ∙ between_ok 1 65536 capacity m.0 m.1
contents_ok (form.EventFd counter) c k h =
    let m = some_mapped EventFd (between 0 (2 ^ 64 - 2) counter) c h in
    let b = and_true (nat_le 0 m.0) (nat_le m.0 (2 ^ 64 - 2)) (between_ok 0 (2 ^ 64 - 2) counter m.0 m.1) in
    ap is_contents m.2 ∙ b.1

not_false : (a : Bool) → not a ≡ true → a ≡ false
not_false true h = absurd (cc)
not_false false h = refl

chosen_some : {A : Type 0} → (b : Bool) (o : Option A) (x : A) → cond b o None ≡ Some x → (b ≡ true) × (o ≡ Some x)
chosen_some true o x h = (refl, h)
chosen_some false o x h = absurd (cc)

abbrev IsNext : List Object → Object → Type 0
IsNext os o = (is_object o ≡ true) × (list_any (is_named o.name) os ≡ false)

object_ok : (os : List Object) (w : ObjectForm) (o : Object) → is_small w ≡ true → object_in_range os w ≡ Some o → IsNext os o
object_ok os w o k h =
    let t = chosen_some (is_new_name os w.name) (option_map (λ contents. record { name = w.name; contents = contents }) (contents_in_range w.contents)) o h in
    let m = some_mapped (λ contents. record { name = w.name; contents = contents }) (contents_in_range w.contents) o t.1 in
    let n = and_true (is_name w.name) (not (list_any (is_named w.name) os)) t.0 in
    let c = contents_ok w.contents m.0 k m.1 in (
      ap is_object m.2 ∙ ap (λ b. b && is_contents m.0) n.0 ∙ c,
      ap (λ (x : Object). list_any (is_named x.name) os) m.2 ∙ not_false _ n.1,
    )

one_all : (a b : Bool) → a ≡ true → b ≡ true → (a && (b && true)) ≡ true
one_all a b h k = rw (h, k) refl

more_objects : (os : List Object) (o : Object) → AreObjects os → IsNext os o → AreObjects (os ++ o ∷ [])
more_objects os o a n = record {
  each = list_all-append is_object os (o ∷ []) ∙ one_all (list_all is_object os) (is_object o) a.each n.0;
  once = still_once os o a.once n.1;
}

-- One more object.
object_adds : (os ps : List Object) (i : ℕ) (d : Data) → object_at os i d ≡ Ok ps → (o : Object) × IsNext os o × (ps ≡ os ++ o ∷ [])
object_adds os ps i d h =
    let w = limited_ok (at_item key.Objects i) (object_form d) is_small (λ (f : ObjectForm). option_map (λ x. os ++ x ∷ []) (object_in_range os f)) ps h in
    let m = some_mapped (λ x. os ++ x ∷ []) (object_in_range os w.0) ps w.3 in
    (m.0, object_ok os w.0 m.0 w.2 m.1, m.2)

object_keeps : (os ps : List Object) (i : ℕ) (d : Data) → AreObjects os → object_at os i d ≡ Ok ps → AreObjects ps
object_keeps os ps i d a h = let o = object_adds os ps i d h in subst AreObjects (sym o.2) (more_objects os o.0 a o.1)

folded_length : (os : List Object) (i : ℕ) (ds : List Data) (ps : List Object) → folded object_at os i ds ≡ Ok ps → length ps ≡ length os + length ds
folded_length os i [] ps h = let e : os ≡ ps = cc in ap length (sym e) ∙ omega arith
folded_length os i (d ∷ ds) ps h =
    let b = bind_ok (object_at os i d) (λ u. folded object_at u (i + 1) ds) ps h in
    let o = object_adds os b.0 i d b.1 in
    let l : length b.0 ≡ length os + 1 = ap length o.2 ∙ length-append os (o.0 ∷ []) in
    folded_length b.0 (i + 1) ds ps b.2 ∙ omega (arith, l)

pub record AreFew (os : List Object) : Type 0 where
  pub few : length os ≤ 32
  pub objects : AreObjects os

objects_ok : (d : Option Data) (os : List Object) → objects_of d ≡ Ok os → AreFew os
objects_ok d os h =
    let b = bind_ok (list_at key.Objects d) (folded_at_most 32 (at_key key.Objects) object_at []) os h in
    by b.0 (nat_lt 32 (length b.0)) refl b.2
  where
    by : (ds : List Data) (t : Bool) → nat_lt 32 (length ds) ≡ t → cond t (Err (ScriptFault.Limit (at_key key.Objects))) (folded object_at [] 0 ds) ≡ Ok os → AreFew os
    by ds true t k = absurd (cc)
    by ds false t k =
        let short : length ds ≤ 32 = grind (arith, nat_tests) in
        let l = folded_length [] 0 ds os k in
        record {
          few = omega (arith, l);
          objects = folded_keeps AreObjects object_at [] 0 ds os (λ r u j e p g. object_keeps r u j e p g) (record { each = refl; once = refl }) k;
        }

-- ---- descriptors

end_ok : (os : List Object) (end : End) (name : List ℕ) (d : Descriptor) → end_named os end name ≡ Some d → is_descriptor os d ≡ true
end_ok os end name d h =
    let s = some_both (position (is_named name) os) (descriptor_of os end) d h in
    let t = tested (is_descriptor os (record { object = s.0; end = end })) (record { object = s.0; end = end }) d s.2 in
    ap (is_descriptor os) (sym t.1) ∙ t.0

meant_ok : (os : List Object) (text : List ℕ) (reader writer : Option (List ℕ)) (d : Descriptor) → end_meant os text reader writer ≡ Some d → is_descriptor os d ≡ true
meant_ok os text (Some name) writer d h = end_ok os Read name d h
meant_ok os text None (Some name) d h = end_ok os Write name d h
meant_ok os text None None d h = end_ok os Whole text d h

descriptor_ok : (os : List Object) (i : ℕ) (e : Data) (d : Descriptor) → descriptor_at os i e ≡ Ok d → is_descriptor os d ≡ true
descriptor_ok os i e d h =
    let f = formed_ok (at_item key.Fds i) (as_str e) (descriptor_named os) d h in
    meant_ok os f.0 (before_mark (codes ":r") f.0) (before_mark (codes ":w") f.0) d f.1

fds_ok : (os : List Object) (d : Option Data) (fds : List Descriptor) → fds_of os d ≡ Ok fds → (length fds ≤ 64) × (list_all (is_descriptor os) fds ≡ true)
fds_ok os d fds h =
    let b = bind_ok (list_at key.Fds d) (at_most 64 (at_key key.Fds) (descriptor_at os)) fds h in
    let m = at_most_ok 64 (at_key key.Fds) (descriptor_at os) b.0 fds b.2 in
    (m.0, each_all (is_descriptor os) (descriptor_at os) 0 b.0 fds (descriptor_ok os) m.1)

-- ---- the whole setup

abbrev setup_of : ℕ → Option ℕ → Bool → Bool → ℕ → List ℕ → List Object → List Descriptor → List (List Instruction) → Setup
setup_of entries cq sqpoll submit_all base memory objects fds threads = record {
  entries = entries;
  cq = cq;
  sqpoll = sqpoll;
  submit_all = submit_all;
  base = base;
  memory = memory;
  objects = objects;
  fds = fds;
  threads = threads;
}

starts : (entries : ℕ) (cq : Option ℕ) (sqpoll submit_all : Bool) (base : ℕ) (memory : List ℕ) (os : List Object) (fds : List Descriptor) (ts : List (List Instruction))
    → is_between 1 4096 entries ≡ true → is_completion_size entries cq ≡ true → length memory ≤ 65536 → AreFew os → length fds ≤ 64 → list_all (is_descriptor os) fds ≡ true → KeepPrograms (rounded entries) ts
    → setup_refusal (setup_of entries cq sqpoll submit_all base memory os fds ts) ≡ None
starts entries cq sqpoll submit_all base memory os fds ts e q m o l f b =
    let small = le_true (length memory) 65536 m in
    let few_objects = le_true (length os) 32 o.few in
    let few_fds = le_true (length fds) 64 l in
    let few = le_true (length ts) 16 b.few in
    rw (e, q, small, few_objects, o.objects.each, o.objects.once, few_fds, f, few, b.programs) refl

pub startable : (d1 d2 d3 d4 d5 d6 d7 : Option Data) (entries size : ℕ) (cq : Option ℕ) (sqpoll submit_all : Bool) (base : ℕ) (memory : List ℕ) (os : List Object) (fds : List Descriptor) (ts : List (List Instruction)) (es : List Event)
    → Ok entries ≡ entries_of d1 → Ok cq ≡ cq_of entries d2 → memory_of d3 ≡ Ok memory → objects_of d4 ≡ Ok os → fds_of os d5 ≡ Ok fds → size ≡ rounded entries → threads_of size d6 ≡ Ok ts → schedule_of d7 ≡ Ok es
    → Startable (record { setup = setup_of entries cq sqpoll submit_all base memory os fds ts; schedule = es })
startable d1 d2 d3 d4 d5 d6 d7 entries size cq sqpoll submit_all base memory os fds ts es e q m o f s t h =
    let programs = threads_kept (rounded entries) d6 ts (ap (λ n. threads_of n d6) (sym s) ∙ t) in
    let events = schedule_ok d7 es h in
    let l = memory_length d3 memory m in
    let ends = fds_ok os d5 fds f in
    record {
      setup = starts entries cq sqpoll submit_all base memory os fds ts (entries_ok d1 entries (sym e)) (cq_ok entries d2 cq (sym q)) (omega (arith, l)) (objects_ok d4 os o) ends.0 ends.1 programs;
      events = events.0;
      transfers = events.1;
    }
