-- The initial machine of a setup is well formed.
use Rattle.machine.proofs.Common.{◌≡◌, ℕ, Bool, true, false, refl, sym, ◌∙◌, ap, subst, List, [], ◌∷◌, length, map, ◌+◌, ◌<◌, ◌≤◌, ◌^◌, arith, Option, Some, None, slice_get, ◌&&◌, list_all, slice_get_within, slice_get-map, length-replicate, take_more, map-append, get_or_from_slice_get, take, ◌++◌, option_map, zero, suc, rules, Row, rounded, zero_entry, waiting_none, formed_sub_start, formed_com_start, HasWidths, HaveWidths, IsDone, IsProgram, chained-none, ThreadState, thread_start, option_and_then, ContentsFit, PutsWithin, body_start, pipe_in, world_start, Ready, Waiting, is_asleep, flag_word, WellFormed, ThreadWellFormed, first_poller, start, completion_entries, Instruction, world_start_formed, setup_refusal, has_ring_sizes, is_between, is_completion_size, has_programs, is_program, is_instruction, has_memory, has_objects, has_descriptors}
use Rattle.std.proofs.{Math.Dec.leb, lemmas.Bool.Decides.nat_tests}
use Rattle.ring_words.proofs.Sizes.{rounded_size, size_some}
use Rattle.places.specs.declared.object.{Contents.Contents, Object.Object, Descriptor.Descriptor}
use Rattle.scenario.specs.declared.setup.Setup.{Setup}

both_true : (a b : Bool) → (a && b) ≡ true → (a ≡ true) × (b ≡ true)
both_true = grind arith

-- ---- Facts about each item below an index

pub below_on : {X : Type 0} (P : X → Type 0) (xs : List X) (i : ℕ) (y : X) → slice_get xs i ≡ Some y → P y → ((j : ℕ) (x : X) → j < i → slice_get xs j ≡ Some x → P x) → (j : ℕ) (x : X) → j < i + 1 → slice_get xs j ≡ Some x → P x
below_on = grind arith

pub all_below : {X : Type 0} (P : X → Type 0) (xs : List X) (i : ℕ) → length xs ≤ i → ((j : ℕ) (x : X) → j < i → slice_get xs j ≡ Some x → P x) → (j : ℕ) (x : X) → slice_get xs j ≡ Some x → P x
all_below P xs i l below j x h = let w = slice_get_within xs j x h in below j x (omega (arith, w, l)) h

-- ---- Items of lists that pass a test

list_all_get : {X : Type 0} (q : X → Bool) (xs : List X) (i : ℕ) (x : X) → list_all q xs ≡ true → slice_get xs i ≡ Some x → q x ≡ true
list_all_get q [] i x h g = absurd cc
list_all_get q (y ∷ ys) zero x h g = let e : y ≡ x = cc in ap q (sym e) ∙ (both_true (q y) (list_all q ys) h).0
list_all_get q (y ∷ ys) (suc i) x h g = list_all_get q ys i x (both_true (q y) (list_all q ys) h).1 g

-- ---- Instructions and programs

done : (size : ℕ) (x : Instruction) → is_instruction size x ≡ true → HasWidths x → IsDone size x
done = grind arith

program : (size : ℕ) (p : List Instruction) → is_program size p ≡ true → ((i : ℕ) (x : Instruction) → slice_get p i ≡ Some x → HasWidths x) → IsProgram size p
program = grind (arith, both_true, leb, done, list_all_get)

-- ---- The setup's fields

pub record Accepted (s : Setup) : Type 0 where
  pub sizes : has_ring_sizes s ≡ true
  pub memory : has_memory s ≡ true
  pub objects : has_objects s ≡ true
  pub descriptors : has_descriptors s ≡ true
  pub programs : has_programs s ≡ true

pub accepted : (s : Setup) → setup_refusal s ≡ None → Accepted s
accepted = grind arith

-- The initial memory and objects of a setup fit.
pub memory_fits : (s : Setup) → Accepted s → length s.memory ≤ 65536
memory_fits s a = grind (arith, nat_tests, a.memory)

pub objects_fit : (s : Setup) → Accepted s → (i : ℕ) (o : Object) → slice_get s.objects i ≡ Some o → ContentsFit o.contents
objects_fit = grind (arith, list_all_get)

pub descriptors_few : (s : Setup) → Accepted s → length s.fds ≤ 64
descriptors_few = grind arith

-- The initial pipes have received no bytes.
puts_start : (memory : List ℕ) (os : List Object) (ds : List Descriptor) → PutsWithin 0 (world_start memory os ds)
puts_start memory os ds o p h = by os o h
  where
    one : (c : Contents) → pipe_in (body_start c) ≡ Some p → p.put ≤ 0
    one = grind arith

    by : (xs : List Object) (i : ℕ) → option_and_then pipe_in (slice_get (map (λ (x : Object). body_start x.contents) xs) i) ≡ Some p → p.put ≤ 0
    by [] i e = absurd cc
    by (x ∷ xs) zero e = one x.contents e
    by (x ∷ xs) (suc i) e = by xs i e

entries_between : (s : Setup) → has_ring_sizes s ≡ true → (0 < s.entries) × (s.entries ≤ 4096)
entries_between = grind arith

completions_between : (entries : ℕ) (cq : Option ℕ) → 0 < entries → entries ≤ 4096 → is_completion_size entries cq ≡ true → (0 < completion_entries entries cq) × (completion_entries entries cq ≤ 8192)
completions_between entries None l m h =
    let size = rounded_size entries 12 l m (omega arith) (omega (arith, m)) in
    let some = size_some size in
    let most = size.most in
    (omega (arith, some), omega (arith, most))
completions_between entries (Some n) l m h = grind arith

-- ---- The whole machine

threads_well_formed : (s : Setup) → Accepted s → HaveWidths s.threads → (t : ℕ) (x : ThreadState) → slice_get (map thread_start s.threads) t ≡ Some x → ThreadWellFormed (rounded s.entries) x
threads_well_formed s a w t x h = by (slice_get s.threads t) refl (sym (slice_get-map thread_start s.threads t) ∙ h)
  where
    ready : (n v : ℕ) → Ready ≡ Waiting n v → ⊥
    ready n v q = cc

    all : list_all (is_program (rounded s.entries)) s.threads ≡ true
    all = (both_true (leb (length s.threads) 16) (list_all (is_program (rounded s.entries)) s.threads) a.programs).1

    by : (o : Option (List Instruction)) → slice_get s.threads t ≡ o → option_map thread_start o ≡ Some x → ThreadWellFormed (rounded s.entries) x
    by None g k = absurd cc
    by (Some p) g k =
        let e : thread_start p ≡ x = cc in
        subst (ThreadWellFormed (rounded s.entries)) e (record {
          within = omega arith;
          program = program (rounded s.entries) p (list_all_get (is_program (rounded s.entries)) s.threads t p all g) (w t p g);
          last = search rules;
          waits = λ n v q. absurd (ready n v q);
        })

awake_first : (b : Bool) → is_asleep (first_poller b) ≡ false
awake_first = grind arith

pub formed_start : (s : Setup) → setup_refusal s ≡ None → s.base < 2 ^ 32 → HaveWidths s.threads → WellFormed (start s)
formed_start s h b w =
    let a = accepted s h in
    let n = entries_between s a.sizes in
    let c = completions_between s.entries s.cq n.0 n.1 (both_true (is_between 1 4096 s.entries) (is_completion_size s.entries s.cq) a.sizes).1 in
    let none = waiting_none s.base b in
    let size : length (start s).submissions.slots ≡ rounded s.entries = length-replicate (rounded s.entries) zero_entry in
    record {
      mostly = record {
        rings = record {
          submissions = formed_sub_start s.entries s.base n.0 n.1 b;
          completions = formed_com_start (completion_entries s.entries s.cq) s.base c.0 c.1 b;
          entries_wait = omega (arith, none);
          completions_wait = omega (arith, none);
          flags = sym (ap (λ b. flag_word b false) (awake_first s.sqpoll));
        };
        kept = record { front = omega arith; overflowed = omega arith };
        table = record { few = omega arith; chained = chained-none; counted = refl };
        world = world_start_formed s.memory s.objects s.fds (memory_fits s a) (objects_fit s a) (descriptors_few s a);
        clock = omega arith;
        threads = λ t x k. subst (λ (i : ℕ). ThreadWellFormed i x) (sym size) (threads_well_formed s a w t x k);
      };
      rows = λ r x k. absurd (none_there x k);
      guards = λ r x k. absurd (none_there x k);
      unmet = λ r x k. absurd (none_there x k);
      puts = puts_start s.memory s.objects s.fds;
    }
  where
    none_there : (x : Row) → None ≡ Some x → ⊥
    none_there x k = cc

-- ---- Lists that are built by a function of each item

pub mapped_on : {X Y : Type 0} (f : X → Y) (xs : List X) (ys zs : List Y) (i : ℕ) (x : X) (y : Y) → ys ≡ map f (take i xs) → zs ≡ ys ++ y ∷ [] → y ≡ f x → slice_get xs i ≡ Some x → zs ≡ map f (take (i + 1) xs)
mapped_on f xs ys zs i x y h k e g =
    k ∙ ap (λ (vs : List _). vs ++ y ∷ []) h ∙ ap (λ v. map f (take i xs) ++ v ∷ []) e
    ∙ sym (ap (map f) (take_more xs i x (slice_get_within xs i x g) ∙ ap (λ v. take i xs ++ v ∷ []) (get_or_from_slice_get xs i x x g)) ∙ map-append f (take i xs) (x ∷ []))

pub copied_on : {X : Type 0} (xs ys zs : List X) (i : ℕ) (x y : X) → ys ≡ take i xs → zs ≡ ys ++ y ∷ [] → y ≡ x → slice_get xs i ≡ Some x → zs ≡ take (i + 1) xs
copied_on xs ys zs i x y h k e g =
    k ∙ ap (λ (vs : List _). vs ++ y ∷ []) h ∙ ap (λ v. take i xs ++ v ∷ []) e
    ∙ sym (take_more xs i x (slice_get_within xs i x g) ∙ ap (λ v. take i xs ++ v ∷ []) (get_or_from_slice_get xs i x x g))
