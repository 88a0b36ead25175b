-- Reading a setup returns the one that was written.
use Rattle.std.proofs.Common.{◌≡◌, ℕ, zero, suc, ◌^◌, ◌<◌, ◌≤◌, Bool, true, false, List, [], ◌++◌, length, Option, Some, Result, Ok, refl, sym, ap, subst, ◌∙◌, append_assoc, arith}
use Rattle.std.specs.Prelude.{nat_le, nat_lt, ◌==◌, ◌&&◌, ◌||◌}
use Rattle.std.specs.List.{list_all, AllByRecursion}
use Rattle.std.proofs.lemmas.Bool.{and_parts, and_from, leb-true, le-leb, ltb-true, eqb-true}
use Rattle.byteorder.specs.Endian.{little_bytes}
use Rattle.ring_words.specs.Rings.{rounded}
use Rattle.places.specs.declared.object.Object.{Object}
use Rattle.places.specs.declared.object.Descriptor.{Descriptor}
use Rattle.scenario.specs.declared.setup.Instruction.{Instruction}
use Rattle.scenario.specs.declared.setup.Setup.{Setup}
use Rattle.traces.specs.declared.fault.TraceFault.{TraceFault}
use Rattle.traces.specs.Cursors.{Cursor}
use Rattle.traces.specs.Limits.{is_within, is_size, is_completion_size, all_with_prefix, keeps_object, keeps_descriptor, keeps_program, keeps_completions, keeps_rings, keeps_objects, keeps_threads, keeps_ranges, HasWidths, Widths}
use Rattle.traces.specs.Setups.{list_bytes, long_bytes, object_bytes, descriptor_bytes, program_bytes, options_number, setup_bytes, is_trimmed, IsCanonical}
use Rattle.traces.specs.Reading.{◌>>=◌, kept, number_at, number_in, long_at, list_at, object_at, descriptor_at, program_at, memory_at, setup_at}
use Rattle.traces.proofs.Taking.{IsBytes, bind_ok, kept_ok, ok_is, cursor_at, Takes, Takes-then, Again, width1, width2, width4, number_takes, number_again, number_in_takes, number_in_again, long_takes, long_again}
use Rattle.traces.proofs.Lists.{list_takes, list_again, prefix_fits, fits_with_prefix, all_fit, fit_all, no_more}
use Rattle.traces.proofs.ObjectLaws.{object_reads, descriptor_reads}
use Rattle.traces.proofs.ProgramLaws.{program_reads}

-- ---- sizes

pub size_rounded : (most n : ℕ) → is_size most n ≡ true → rounded n ≡ n
size_rounded most n h = eqb-true (rounded n) n (and_parts (nat_le n most) (rounded n == n) h).1

pub size_most : (most n : ℕ) → is_size most n ≡ true → n ≤ most
size_most most n h = leb-true n most (and_parts (nat_le n most) (rounded n == n) h).0

rounded_zero : rounded 0 ≡ 1
unfolding rounded
rounded_zero = refl

size_some : (most n : ℕ) → is_size most n ≡ true → 1 ≤ n
size_some most zero h = let e : rounded 0 ≡ 0 = size_rounded most 0 h in absurd (omega (arith, rounded_zero, e))
size_some most (suc n) h = omega arith

within_is : (least most n : ℕ) → least ≤ n → n ≤ most → is_within least most n ≡ true
within_is least most n a b = and_from (nat_le least n) (nat_le n most) (le-leb _ _ a) (le-leb _ _ b)

pub size_within : (most n : ℕ) → is_size most n ≡ true → is_within 1 most n ≡ true
size_within most n h = within_is 1 most n (size_some most n h) (size_most most n h)

-- ---- memory

memory_takes : (s : Cursor) (x : List ℕ) (t : Cursor) → IsBytes s.rest → memory_at s ≡ Ok (x, t) → Takes s (long_bytes x) t × (nat_le (length x) 65536 ≡ true) × (is_trimmed x ≡ true)
unfolding memory_at
memory_takes s x t fits e =
    let a = bind_ok (long_at 65536 s) (λ bytes. kept (is_trimmed bytes.0) s.offset bytes) (x, t) e in
    let g = kept_ok (is_trimmed a.0.0) s.offset a.0 (x, t) a.2 in
    let bytes = long_takes 65536 s a.0.0 a.0.1 fits a.1 in
    subst (λ (p : List ℕ × Cursor). Takes s (long_bytes p.0) p.1 × (nat_le (length p.0) 65536 ≡ true) × (is_trimmed p.0 ≡ true)) g.1 (bytes.0, bytes.1, g.0)

memory_again : (offset : ℕ) (x rest : List ℕ) → nat_le (length x) 65536 ≡ true → is_trimmed x ≡ true → Again memory_at offset (long_bytes x ++ rest) x rest
unfolding memory_at
memory_again offset x rest few trim =
    let a = long_again 65536 offset x rest (omega arith) few in
    (a.0, rw (a.1, trim) refl)

-- ---- options

pub options_back : (o : ℕ) → nat_lt o 4 ≡ true → options_number ((o == 1) || (o == 3)) ((o == 2) || (o == 3)) ≡ o
options_back zero h = refl
options_back (suc zero) h = refl
options_back (suc (suc zero)) h = refl
options_back (suc (suc (suc zero))) h = refl
options_back (suc (suc (suc (suc o)))) h = absurd (omega (arith, ltb-true (suc (suc (suc (suc o)))) 4 h))

options_sqpoll : (a b : Bool) → ((options_number a b == 1) || (options_number a b == 3)) ≡ a
options_sqpoll true true = refl
options_sqpoll true false = refl
options_sqpoll false true = refl
options_sqpoll false false = refl

options_submit_all : (a b : Bool) → ((options_number a b == 2) || (options_number a b == 3)) ≡ b
options_submit_all true true = refl
options_submit_all true false = refl
options_submit_all false true = refl
options_submit_all false false = refl

options_small : (a b : Bool) → nat_lt (options_number a b) 4 ≡ true
options_small true true = refl
options_small true false = refl
options_small false true = refl
options_small false false = refl

-- ---- setups

abbrev pub setup_of : ℕ → ℕ → ℕ → ℕ → List ℕ → List Object → List Descriptor → List (List Instruction) → Setup
setup_of entries completions options base memory objects fds threads = record {
  entries = entries;
  cq = Some completions;
  sqpoll = (options == 1) || (options == 3);
  submit_all = (options == 2) || (options == 3);
  base = base;
  memory = memory;
  objects = objects;
  fds = fds;
  threads = threads;
}

abbrev bytes_of : ℕ → ℕ → ℕ → ℕ → List ℕ → List Object → List Descriptor → List (List Instruction) → List ℕ
bytes_of entries completions options base memory objects fds threads =
    little_bytes 2 entries ++ (little_bytes 2 completions ++ (little_bytes 1 options
    ++ (little_bytes 4 base ++ (long_bytes memory ++ (list_bytes object_bytes objects
    ++ (list_bytes descriptor_bytes fds ++ list_bytes program_bytes threads))))))

-- The checks that the parts of a setup with rounded sizes pass.
pub record Parts (entries completions options base : ℕ) (memory : List ℕ) (objects : List Object) (fds : List Descriptor) (threads : List (List Instruction)) : Type 0 where
  pub entries_ok : is_size 4096 entries ≡ true
  pub completions_ok : is_completion_size entries completions ≡ true
  pub options_ok : nat_lt options 4 ≡ true
  pub base_ok : base < 2 ^ 32
  pub memory_few : nat_le (length memory) 65536 ≡ true
  pub memory_trim : is_trimmed memory ≡ true
  pub objects_few : nat_le (length objects) 32 ≡ true
  pub objects_ok : all_with_prefix keeps_object [] objects ≡ true
  pub fds_few : nat_le (length fds) 64 ≡ true
  pub fds_ok : list_all (keeps_descriptor objects) fds ≡ true
  pub threads_few : nat_le (length threads) 16 ≡ true
  pub threads_ok : list_all (keeps_program entries) threads ≡ true
  pub widths : AllByRecursion (AllByRecursion HasWidths) threads

-- What reading a setup consumes.
pub record SetupTakes (s : Cursor) (x : Setup) (t : Cursor) : Type 0 where
  pub entries : ℕ
  pub completions : ℕ
  pub options : ℕ
  pub base : ℕ
  pub memory : List ℕ
  pub objects : List Object
  pub fds : List Descriptor
  pub threads : List (List Instruction)
  pub is : x ≡ setup_of entries completions options base memory objects fds threads
  pub parts : Parts entries completions options base memory objects fds threads
  pub taken : Takes s (bytes_of entries completions options base memory objects fds threads) t

-- What reading the parts after the rings consumes.
record Things (entries completions options base : ℕ) (s : Cursor) (x : Setup) (t : Cursor) : Type 0 where
  memory : List ℕ
  objects : List Object
  fds : List Descriptor
  threads : List (List Instruction)
  is : x ≡ setup_of entries completions options base memory objects fds threads
  memory_few : nat_le (length memory) 65536 ≡ true
  memory_trim : is_trimmed memory ≡ true
  objects_few : nat_le (length objects) 32 ≡ true
  objects_ok : all_with_prefix keeps_object [] objects ≡ true
  fds_few : nat_le (length fds) 64 ≡ true
  fds_ok : list_all (keeps_descriptor objects) fds ≡ true
  threads_few : nat_le (length threads) 16 ≡ true
  threads_ok : list_all (keeps_program entries) threads ≡ true
  widths : AllByRecursion (AllByRecursion HasWidths) threads
  taken : Takes s (long_bytes memory ++ (list_bytes object_bytes objects ++ (list_bytes descriptor_bytes fds ++ list_bytes program_bytes threads))) t

abbrev finish : Setup → Cursor → Result (Setup × Cursor) TraceFault
finish x t = Ok (x, t)

threads_take : (entries completions options base : ℕ) (s : Cursor) (memory : List ℕ) (s1 : Cursor) (objects : List Object) (s2 : Cursor) (fds : List Descriptor) (s3 : Cursor) (x : Setup) (t : Cursor) → entries ≤ 4096
    → Takes s (long_bytes memory) s1 → nat_le (length memory) 65536 ≡ true → is_trimmed memory ≡ true
    → Takes s1 (list_bytes object_bytes objects) s2 → nat_le (length objects) 32 ≡ true → all_with_prefix keeps_object [] objects ≡ true
    → Takes s2 (list_bytes descriptor_bytes fds) s3 → nat_le (length fds) 64 ≡ true → list_all (keeps_descriptor objects) fds ≡ true
    → (list_at 16 (λ before. program_at entries) s3 >>= λ threads. finish (setup_of entries completions options base memory objects fds threads.0) threads.1) ≡ Ok (x, t)
    → Things entries completions options base s x t
threads_take entries completions options base s memory s1 objects s2 fds s3 x t slots m m1 m2 o o1 o2 f f1 f2 e =
    let a = bind_ok (list_at 16 (λ before. program_at entries) s3) (λ threads. finish (setup_of entries completions options base memory objects fds threads.0) threads.1) (x, t) e in
    let threads = list_takes (List Instruction) (λ before. program_at entries) program_bytes (λ before p. (keeps_program entries p ≡ true) × AllByRecursion HasWidths p) (program_reads entries slots) 16 s3 a.0.0 a.0.1 f.fits a.1 in
    let all = fit_all (keeps_program entries) (AllByRecursion HasWidths) [] a.0.0 threads.2 in
    let t3 = Takes-then s2 (list_bytes descriptor_bytes fds) s3 (list_bytes program_bytes a.0.0) a.0.1 f threads.0 in
    let t2 = Takes-then s1 (list_bytes object_bytes objects) s2 (list_bytes descriptor_bytes fds ++ list_bytes program_bytes a.0.0) a.0.1 o t3 in
    let t1 = Takes-then s (long_bytes memory) s1 (list_bytes object_bytes objects ++ (list_bytes descriptor_bytes fds ++ list_bytes program_bytes a.0.0)) a.0.1 m t2 in
    let made : Setup × Cursor = (setup_of entries completions options base memory objects fds a.0.0, a.0.1) in
    subst (λ (p : Setup × Cursor). Things entries completions options base s p.0 p.1) (ok_is made (x, t) a.2)
    (record {
      memory = memory;
      objects = objects;
      fds = fds;
      threads = a.0.0;
      is = refl;
      memory_few = m1;
      memory_trim = m2;
      objects_few = o1;
      objects_ok = o2;
      fds_few = f1;
      fds_ok = f2;
      threads_few = threads.1;
      threads_ok = all.0;
      widths = all.1;
      taken = t1;
    })

fds_take : (entries completions options base : ℕ) (s : Cursor) (memory : List ℕ) (s1 : Cursor) (objects : List Object) (s2 : Cursor) (x : Setup) (t : Cursor) → entries ≤ 4096
    → Takes s (long_bytes memory) s1 → nat_le (length memory) 65536 ≡ true → is_trimmed memory ≡ true
    → Takes s1 (list_bytes object_bytes objects) s2 → nat_le (length objects) 32 ≡ true → all_with_prefix keeps_object [] objects ≡ true
    → (list_at 64 (λ before. descriptor_at objects) s2 >>= λ fds. list_at 16 (λ before. program_at entries) fds.1 >>= λ threads. finish (setup_of entries completions options base memory objects fds.0 threads.0) threads.1) ≡ Ok (x, t)
    → Things entries completions options base s x t
fds_take entries completions options base s memory s1 objects s2 x t slots m m1 m2 o o1 o2 e =
    let a = bind_ok (list_at 64 (λ before. descriptor_at objects) s2) (λ fds. list_at 16 (λ before. program_at entries) fds.1 >>= λ threads. finish (setup_of entries completions options base memory objects fds.0 threads.0) threads.1) (x, t) e in
    let few : length objects ≤ 32 = leb-true _ _ o1 in
    let fds = list_takes Descriptor (λ before. descriptor_at objects) descriptor_bytes (λ before d. (keeps_descriptor objects d ≡ true) × Unit {0}) (descriptor_reads objects few) 64 s2 a.0.0 a.0.1 o.fits a.1 in
    let all = fit_all (keeps_descriptor objects) (λ d. Unit {0}) [] a.0.0 fds.2 in
    threads_take entries completions options base s memory s1 objects s2 a.0.0 a.0.1 x t slots m m1 m2 o o1 o2 fds.0 fds.1 all.0 a.2

objects_take : (entries completions options base : ℕ) (s : Cursor) (memory : List ℕ) (s1 : Cursor) (x : Setup) (t : Cursor) → entries ≤ 4096
    → Takes s (long_bytes memory) s1 → nat_le (length memory) 65536 ≡ true → is_trimmed memory ≡ true
    → (list_at 32 object_at s1 >>= λ objects. list_at 64 (λ before. descriptor_at objects.0) objects.1 >>= λ fds. list_at 16 (λ before. program_at entries) fds.1 >>= λ threads. finish (setup_of entries completions options base memory objects.0 fds.0 threads.0) threads.1) ≡ Ok (x, t)
    → Things entries completions options base s x t
objects_take entries completions options base s memory s1 x t slots m m1 m2 e =
    let a = bind_ok (list_at 32 object_at s1) (λ objects. list_at 64 (λ before. descriptor_at objects.0) objects.1 >>= λ fds. list_at 16 (λ before. program_at entries) fds.1 >>= λ threads. finish (setup_of entries completions options base memory objects.0 fds.0 threads.0) threads.1) (x, t) e in
    let objects = list_takes Object object_at object_bytes (λ before o. keeps_object before o ≡ true) object_reads 32 s1 a.0.0 a.0.1 m.fits a.1 in
    fds_take entries completions options base s memory s1 a.0.0 a.0.1 x t slots m m1 m2 objects.0 objects.1 (fits_with_prefix keeps_object [] a.0.0 objects.2) a.2

things_take : (entries completions options base : ℕ) (s : Cursor) (x : Setup) (t : Cursor) → entries ≤ 4096 → IsBytes s.rest
    → (memory_at s >>= λ memory. list_at 32 object_at memory.1 >>= λ objects. list_at 64 (λ before. descriptor_at objects.0) objects.1 >>= λ fds. list_at 16 (λ before. program_at entries) fds.1 >>= λ threads. finish (setup_of entries completions options base memory.0 objects.0 fds.0 threads.0) threads.1) ≡ Ok (x, t)
    → Things entries completions options base s x t
things_take entries completions options base s x t slots fits e =
    let a = bind_ok (memory_at s) (λ memory. list_at 32 object_at memory.1 >>= λ objects. list_at 64 (λ before. descriptor_at objects.0) objects.1 >>= λ fds. list_at 16 (λ before. program_at entries) fds.1 >>= λ threads. finish (setup_of entries completions options base memory.0 objects.0 fds.0 threads.0) threads.1) (x, t) e in
    let memory = memory_takes s a.0.0 a.0.1 fits a.1 in
    objects_take entries completions options base s a.0.0 a.0.1 x t slots memory.0 memory.1 memory.2 a.2

base_take : (s : Cursor) (entries : ℕ) (s1 : Cursor) (completions : ℕ) (s2 : Cursor) (options : ℕ) (s3 : Cursor) (x : Setup) (t : Cursor)
    → Takes s (little_bytes 2 entries) s1 → is_size 4096 entries ≡ true
    → Takes s1 (little_bytes 2 completions) s2 → is_completion_size entries completions ≡ true
    → Takes s2 (little_bytes 1 options) s3 → nat_lt options 4 ≡ true
    → (number_at 4 s3 >>= λ base. memory_at base.1 >>= λ memory. list_at 32 object_at memory.1 >>= λ objects. list_at 64 (λ before. descriptor_at objects.0) objects.1 >>= λ fds. list_at 16 (λ before. program_at entries) fds.1 >>= λ threads. finish (setup_of entries completions options base.0 memory.0 objects.0 fds.0 threads.0) threads.1) ≡ Ok (x, t) → SetupTakes s x t
base_take s entries s1 completions s2 options s3 x t e e1 c c1 o o1 h =
    let a = bind_ok (number_at 4 s3) (λ base. memory_at base.1 >>= λ memory. list_at 32 object_at memory.1 >>= λ objects. list_at 64 (λ before. descriptor_at objects.0) objects.1 >>= λ fds. list_at 16 (λ before. program_at entries) fds.1 >>= λ threads. finish (setup_of entries completions options base.0 memory.0 objects.0 fds.0 threads.0) threads.1) (x, t) h in
    let base = number_takes 4 width4 s3 a.0.0 a.0.1 o.fits a.1 in
    let p = things_take entries completions options a.0.0 a.0.1 x t (size_most 4096 entries e1) base.0.fits a.2 in
    let tail = long_bytes p.memory ++ (list_bytes object_bytes p.objects ++ (list_bytes descriptor_bytes p.fds ++ list_bytes program_bytes p.threads)) in
    let t4 = Takes-then s3 (little_bytes 4 a.0.0) a.0.1 tail t base.0 p.taken in
    let t3 = Takes-then s2 (little_bytes 1 options) s3 (little_bytes 4 a.0.0 ++ tail) t o t4 in
    let t2 = Takes-then s1 (little_bytes 2 completions) s2 (little_bytes 1 options ++ (little_bytes 4 a.0.0 ++ tail)) t c t3 in
    let t1 = Takes-then s (little_bytes 2 entries) s1 (little_bytes 2 completions ++ (little_bytes 1 options ++ (little_bytes 4 a.0.0 ++ tail))) t e t2 in
    let small : a.0.0 < 2 ^ 32 = omega (arith, base.1) in
    record {
      entries = entries;
      completions = completions;
      options = options;
      base = a.0.0;
      memory = p.memory;
      objects = p.objects;
      fds = p.fds;
      threads = p.threads;
      is = p.is;
      parts = record {
        entries_ok = e1;
        completions_ok = c1;
        options_ok = o1;
        base_ok = small;
        memory_few = p.memory_few;
        memory_trim = p.memory_trim;
        objects_few = p.objects_few;
        objects_ok = p.objects_ok;
        fds_few = p.fds_few;
        fds_ok = p.fds_ok;
        threads_few = p.threads_few;
        threads_ok = p.threads_ok;
        widths = p.widths;
      };
      taken = t1;
    }

parts_take : (s : Cursor) (x : Setup) (t : Cursor) → IsBytes s.rest → setup_at s ≡ Ok (x, t) → SetupTakes s x t
unfolding setup_at
parts_take s x t fits h =
    let a = bind_ok (number_in 2 (is_size 4096) s) (λ entries. number_in 2 (is_completion_size entries.0) entries.1 >>= λ completions. number_in 1 (λ n. nat_lt n 4) completions.1 >>= λ options. number_at 4 options.1 >>= λ base. memory_at base.1 >>= λ memory. list_at 32 object_at memory.1 >>= λ objects. list_at 64 (λ before. descriptor_at objects.0) objects.1 >>= λ fds. list_at 16 (λ before. program_at entries.0) fds.1 >>= λ threads. finish (setup_of entries.0 completions.0 options.0 base.0 memory.0 objects.0 fds.0 threads.0) threads.1) (x, t) h in
    let b = bind_ok (number_in 2 (is_completion_size a.0.0) a.0.1) (λ completions. number_in 1 (λ n. nat_lt n 4) completions.1 >>= λ options. number_at 4 options.1 >>= λ base. memory_at base.1 >>= λ memory. list_at 32 object_at memory.1 >>= λ objects. list_at 64 (λ before. descriptor_at objects.0) objects.1 >>= λ fds. list_at 16 (λ before. program_at a.0.0) fds.1 >>= λ threads. finish (setup_of a.0.0 completions.0 options.0 base.0 memory.0 objects.0 fds.0 threads.0) threads.1) (x, t) a.2 in
    let c = bind_ok (number_in 1 (λ n. nat_lt n 4) b.0.1) (λ options. number_at 4 options.1 >>= λ base. memory_at base.1 >>= λ memory. list_at 32 object_at memory.1 >>= λ objects. list_at 64 (λ before. descriptor_at objects.0) objects.1 >>= λ fds. list_at 16 (λ before. program_at a.0.0) fds.1 >>= λ threads. finish (setup_of a.0.0 b.0.0 options.0 base.0 memory.0 objects.0 fds.0 threads.0) threads.1) (x, t) b.2 in
    let entries = number_in_takes 2 width2 (is_size 4096) s a.0.0 a.0.1 fits a.1 in
    let completions = number_in_takes 2 width2 (is_completion_size a.0.0) a.0.1 b.0.0 b.0.1 entries.0.fits b.1 in
    let options = number_in_takes 1 width1 (λ n. nat_lt n 4) b.0.1 c.0.0 c.0.1 completions.0.fits c.1 in
    base_take s a.0.0 a.0.1 b.0.0 b.0.1 c.0.0 c.0.1 x t entries.0 entries.2 completions.0 completions.2 options.0 options.2 c.2

regroup : (a b c d e f g h r : List ℕ) → (a ++ (b ++ (c ++ (d ++ (e ++ (f ++ (g ++ h))))))) ++ r ≡ a ++ (b ++ (c ++ (d ++ (e ++ (f ++ (g ++ (h ++ r)))))))
regroup a b c d e f g h r = simp append_assoc

parts_again : (offset entries completions options base : ℕ) (memory : List ℕ) (objects : List Object) (fds : List Descriptor) (threads : List (List Instruction)) (rest : List ℕ)
    → Parts entries completions options base memory objects fds threads
    → Again setup_at offset (bytes_of entries completions options base memory objects fds threads ++ rest) (setup_of entries completions options base memory objects fds threads) rest
unfolding setup_at
parts_again offset entries completions options base memory objects fds threads rest p =
    let r7 = list_bytes program_bytes threads ++ rest in
    let r6 = list_bytes descriptor_bytes fds ++ r7 in
    let r5 = list_bytes object_bytes objects ++ r6 in
    let r4 = long_bytes memory ++ r5 in
    let r3 = little_bytes 4 base ++ r4 in
    let r2 = little_bytes 1 options ++ r3 in
    let r1 = little_bytes 2 completions ++ r2 in
    let slots : entries ≤ 4096 = size_most 4096 entries p.entries_ok in
    let most : completions ≤ 8192 = size_most 8192 completions (and_parts (is_size 8192 completions) (nat_le entries completions) p.completions_ok).0 in
    let low : options < 4 = ltb-true options 4 p.options_ok in
    let small : base < 2 ^ 32 = p.base_ok in
    let few : length objects ≤ 32 = leb-true _ _ p.objects_few in
    let a = number_in_again 2 (is_size 4096) offset entries r1 (omega arith) p.entries_ok in
    let b = number_in_again 2 (is_completion_size entries) a.0 completions r2 (omega arith) p.completions_ok in
    let c = number_in_again 1 (λ n. nat_lt n 4) b.0 options r3 (omega arith) p.options_ok in
    let d = number_again 4 c.0 base r4 (omega arith) in
    let f = memory_again d.0 memory r5 p.memory_few p.memory_trim in
    let g = list_again Object object_at object_bytes (λ before o. keeps_object before o ≡ true) object_reads 32 f.0 objects r6 (omega arith) p.objects_few (prefix_fits keeps_object [] objects p.objects_ok) in
    let h = list_again Descriptor (λ before. descriptor_at objects) descriptor_bytes (λ before d. (keeps_descriptor objects d ≡ true) × Unit {0}) (descriptor_reads objects few) 64 g.0 fds r7 (omega arith) p.fds_few
    (all_fit (keeps_descriptor objects) (λ d. Unit {0}) [] fds p.fds_ok (no_more fds)) in
    let i = list_again (List Instruction) (λ before. program_at entries) program_bytes (λ before p. (keeps_program entries p ≡ true) × AllByRecursion HasWidths p) (program_reads entries slots) 16 h.0 threads rest (omega arith) p.threads_few
    (all_fit (keeps_program entries) (AllByRecursion HasWidths) [] threads p.threads_ok p.widths) in
    let regrouped = regroup (little_bytes 2 entries) (little_bytes 2 completions) (little_bytes 1 options) (little_bytes 4 base) (long_bytes memory) (list_bytes object_bytes objects) (list_bytes descriptor_bytes fds) (list_bytes program_bytes threads) rest in
    (i.0, ap (λ (input : List ℕ). setup_at (cursor_at offset input)) regrouped ∙ rw (a.1, b.1, c.1, d.1, f.1, g.1, h.1, i.1) refl)

-- ---- from the parts to the setup

pub record Spelled (x : Setup) : Type 0 where
  pub canonical : IsCanonical x
  pub ranges : keeps_ranges x ≡ true
  pub widths : Widths x

of_parts : (entries completions options base : ℕ) (memory : List ℕ) (objects : List Object) (fds : List Descriptor) (threads : List (List Instruction))
    → Parts entries completions options base memory objects fds threads → Spelled (setup_of entries completions options base memory objects fds threads)
unfolding keeps_ranges
of_parts entries completions options base memory objects fds threads p =
    let q = and_parts (is_size 8192 completions) (nat_le entries completions) p.completions_ok in
    let same : rounded entries ≡ entries = size_rounded 4096 entries p.entries_ok in
    let also : rounded completions ≡ completions = size_rounded 8192 completions q.0 in
    let order : nat_le (rounded entries) (rounded completions) ≡ true = rw (same, also) q.1 in
    let rings = and_from (is_within 1 4096 entries) (is_within 1 8192 completions && nat_le (rounded entries) (rounded completions)) (size_within 4096 entries p.entries_ok)
    (and_from (is_within 1 8192 completions) (nat_le (rounded entries) (rounded completions)) (size_within 8192 completions q.0) order) in
    let things = and_from _ _ (and_from _ _ (and_from _ _ (and_from _ _ p.memory_few p.objects_few) p.objects_ok) p.fds_few) p.fds_ok in
    let programs : list_all (keeps_program (rounded entries)) threads ≡ true = subst (λ (n : ℕ). list_all (keeps_program n) threads ≡ true) (sym same) p.threads_ok in
    record {
      canonical = record { entries = p.entries_ok; completions = (completions, refl, q.0); memory = p.memory_trim };
      ranges = and_from _ _ (and_from _ _ rings things) (and_from _ _ p.threads_few programs);
      widths = record { base = p.base_ok; threads = p.widths };
    }

pub setup_takes : (s : Cursor) (x : Setup) (t : Cursor) → IsBytes s.rest → setup_at s ≡ Ok (x, t) → Takes s (setup_bytes x) t × Spelled x
setup_takes s x t fits e =
    let p = parts_take s x t fits e in
    let text : bytes_of p.entries p.completions p.options p.base p.memory p.objects p.fds p.threads ≡ setup_bytes (setup_of p.entries p.completions p.options p.base p.memory p.objects p.fds p.threads) =
    ap (λ (o : ℕ). bytes_of p.entries p.completions o p.base p.memory p.objects p.fds p.threads) (sym (options_back p.options p.parts.options_ok)) in
    let taken = subst (λ (bytes : List ℕ). Takes s bytes t) text p.taken in
    subst (λ (y : Setup). Takes s (setup_bytes y) t × Spelled y) (sym p.is) (taken, of_parts p.entries p.completions p.options p.base p.memory p.objects p.fds p.threads p.parts)

to_parts : (x : Setup) (completions : ℕ) → x.cq ≡ Some completions → Spelled x
    → Parts x.entries completions (options_number x.sqpoll x.submit_all) x.base x.memory x.objects x.fds x.threads
unfolding keeps_ranges
to_parts x completions cq s =
    let entries_ok : is_size 4096 x.entries ≡ true = s.canonical.entries in
    let same_number : s.canonical.completions.0 ≡ completions = let e : Some s.canonical.completions.0 ≡ Some completions = sym s.canonical.completions.1 ∙ cq in cc in
    let size : is_size 8192 completions ≡ true = subst (λ (n : ℕ). is_size 8192 n ≡ true) same_number s.canonical.completions.2 in
    let q = and_parts (keeps_rings x && keeps_objects x) (keeps_threads x) s.ranges in
    let r = and_parts (keeps_rings x) (keeps_objects x) q.0 in
    let rings = and_parts (is_within 1 4096 x.entries) (keeps_completions x.entries x.cq) r.0 in
    let completions_kept : keeps_completions x.entries (Some completions) ≡ true = subst (λ (o : Option ℕ). keeps_completions x.entries o ≡ true) cq rings.1 in
    let order = and_parts (is_within 1 8192 completions) (nat_le (rounded x.entries) (rounded completions)) completions_kept in
    let same : rounded x.entries ≡ x.entries = size_rounded 4096 x.entries entries_ok in
    let also : rounded completions ≡ completions = size_rounded 8192 completions size in
    let above : nat_le x.entries completions ≡ true = subst (λ (n : ℕ). nat_le n completions ≡ true) same (subst (λ (n : ℕ). nat_le (rounded x.entries) n ≡ true) also order.1) in
    let o5 = and_parts (nat_le (length x.memory) 65536 && nat_le (length x.objects) 32 && all_with_prefix keeps_object [] x.objects && nat_le (length x.fds) 64) (list_all (keeps_descriptor x.objects) x.fds) r.1 in
    let o4 = and_parts (nat_le (length x.memory) 65536 && nat_le (length x.objects) 32 && all_with_prefix keeps_object [] x.objects) (nat_le (length x.fds) 64) o5.0 in
    let o3 = and_parts (nat_le (length x.memory) 65536 && nat_le (length x.objects) 32) (all_with_prefix keeps_object [] x.objects) o4.0 in
    let o2 = and_parts (nat_le (length x.memory) 65536) (nat_le (length x.objects) 32) o3.0 in
    let th = and_parts (nat_le (length x.threads) 16) (list_all (keeps_program (rounded x.entries)) x.threads) q.1 in
    record {
      entries_ok = entries_ok;
      completions_ok = and_from (is_size 8192 completions) (nat_le x.entries completions) size above;
      options_ok = options_small x.sqpoll x.submit_all;
      base_ok = s.widths.base;
      memory_few = o2.0;
      memory_trim = s.canonical.memory;
      objects_few = o2.1;
      objects_ok = o3.1;
      fds_few = o4.1;
      fds_ok = o5.1;
      threads_few = th.0;
      threads_ok = subst (λ (n : ℕ). list_all (keeps_program n) x.threads ≡ true) same th.1;
      widths = s.widths.threads;
    }

pub setup_again : (offset : ℕ) (x : Setup) (rest : List ℕ) → Spelled x → Again setup_at offset (setup_bytes x ++ rest) x rest
setup_again offset x rest s =
    let n = s.canonical.completions.0 in
    let cq = s.canonical.completions.1 in
    let o = options_number x.sqpoll x.submit_all in
    let a = parts_again offset x.entries n o x.base x.memory x.objects x.fds x.threads rest (to_parts x n cq s) in
    let text : setup_bytes x ≡ bytes_of x.entries n o x.base x.memory x.objects x.fds x.threads = ap (λ (q : Option ℕ). setup_bytes (record x { cq = q })) cq in
    let whole : setup_of x.entries n o x.base x.memory x.objects x.fds x.threads ≡ x =
    ap (λ (p : Bool). record x { cq = Some n; sqpoll = p; submit_all = (o == 2) || (o == 3) }) (options_sqpoll x.sqpoll x.submit_all)
    ∙ ap (λ (p : Bool). record x { cq = Some n; submit_all = p }) (options_submit_all x.sqpoll x.submit_all)
    ∙ ap (λ (q : Option ℕ). record x { cq = q }) (sym cq) in
    (a.0, ap (λ (bytes : List ℕ). setup_at (cursor_at offset (bytes ++ rest))) text ∙ a.1 ∙ ap (λ (y : Setup). Ok (y, cursor_at a.0 rest)) whole)
