-- Reading programs returns those that were written.
use Rattle.std.proofs.Common.{◌≡◌, ℕ, zero, suc, ◌+◌, ◌^◌, ◌<◌, ◌≤◌, true, List, [], ◌++◌, length, take, Ok, refl, sym, ap, subst, ◌∙◌, append_assoc, arith, Fits, FitsSigned}
use Rattle.std.specs.Prelude.{nat_le, nat_lt}
use Rattle.std.specs.List.{list_all, AllByRecursion}
use Rattle.std.specs.Int.{w32, cast_signed, cast_unsigned}
use Rattle.std.proofs.lemmas.Int.{of_z-to_z, to_z-of_z, ints}
use Rattle.std.proofs.Math.Facts.{sfits_to_z}
use Rattle.std.proofs.lemmas.Bool.{and_parts, and_from, leb-true, ltb-true}
use Rattle.std.proofs.lemmas.List.{take_at}
use Rattle.byteorder.specs.Endian.{little_bytes}
use Rattle.entries.specs.declared.entry.Sqe.{Sqe}
use Rattle.entries.specs.Layout.{entry_bytes, entry_of_bytes}
use Rattle.scenario.specs.declared.setup.Instruction.{Instruction}
use Rattle.scenario.specs.declared.setup.Instruction.TheVariants.{Put, Push, Store, Enter, Reap, Close}
use Rattle.traces.specs.Cursors.{Cursor}
use Rattle.traces.specs.Limits.{is_within, keeps_instruction, keeps_program, HasWidths}
use Rattle.traces.specs.Setups.{long_bytes, instruction_bytes, program_bytes}
use Rattle.traces.specs.Reading.{◌>>=◌, kept, number_at, number_in, bytes_at, count_at, put_at, push_at, store_at, enter_at, close_at, instruction_of, instruction_at, program_at}
use Rattle.traces.proofs.Taking.{IsBytes, IsBytes-take, bind_ok, kept_ok, ok_is, cursor_at, Takes, Takes-then, Again, width1, width4, number_takes, number_again, number_in_takes, number_in_again, bytes_takes, bytes_again}
use Rattle.traces.proofs.Entries.{entry_fits, rest_long, entry_spelled, entry_long, entry_again}
use Rattle.traces.proofs.Lists.{Reads, list_takes, list_again, all_fit, fit_all}
use Rattle.traces.proofs.ObjectLaws.{within_least, within_most}

abbrev kind_of : Instruction → ℕ
kind_of (Put slot entry) = 1
kind_of (Push index) = 2
kind_of (Store address bytes) = 3
kind_of (Enter to_submit min_complete flags) = 4
kind_of Reap = 5
kind_of (Close fd) = 6

abbrev tail_of : Instruction → List ℕ
tail_of (Put slot entry) = little_bytes 4 slot ++ entry_bytes entry
tail_of (Push index) = little_bytes 4 index
tail_of (Store address bytes) = little_bytes 4 address ++ long_bytes bytes
tail_of (Enter to_submit min_complete flags) = little_bytes 4 to_submit ++ (little_bytes 4 min_complete ++ little_bytes 4 flags)
tail_of Reap = []
tail_of (Close fd) = little_bytes 4 (cast_unsigned w32 fd)

instruction_split : (i : Instruction) → instruction_bytes i ≡ little_bytes 1 (kind_of i) ++ tail_of i
instruction_split (Put slot entry) = refl
instruction_split (Push index) = refl
instruction_split (Store address bytes) = refl
instruction_split (Enter to_submit min_complete flags) = refl
instruction_split Reap = refl
instruction_split (Close fd) = refl

abbrev Kept : ℕ → Instruction → Type 0
Kept slots i = (keeps_instruction slots i ≡ true) × HasWidths i

-- The result of reading an instruction after its kind.
abbrev TailTakes : ℕ → ℕ → Cursor → Instruction → Cursor → Type 0
TailTakes slots k s i t = Takes s (tail_of i) t × (kind_of i ≡ k) × Kept slots i

-- What was read from bytes consists of bytes.
bytes_fit : (s : Cursor) (x : List ℕ) (t : Cursor) → IsBytes s.rest → Takes s x t → IsBytes x
bytes_fit s x t fits taken =
    let front : take (length x) s.rest ≡ x = ap (λ (r : List ℕ). take (length x) r) taken.parts ∙ take_at x t.rest (length x) refl in
    subst (λ (r : List ℕ). IsBytes r) front (IsBytes-take (length x) s.rest fits)

put_takes : (slots : ℕ) (s : Cursor) (i : Instruction) (t : Cursor) → IsBytes s.rest → put_at slots s ≡ Ok (i, t) → TailTakes slots 1 s i t
unfolding put_at
put_takes slots s i t fits e =
    let a = bind_ok (number_in 4 (λ n. nat_lt n slots) s) (λ slot. bytes_at 64 slot.1 >>= λ entry. Ok (Put slot.0 (entry_of_bytes entry.0), entry.1)) (i, t) e in
    let b = bind_ok (bytes_at 64 a.0.1) (λ entry. Ok (Put a.0.0 (entry_of_bytes entry.0), entry.1)) (i, t) a.2 in
    let slot = number_in_takes 4 width4 (λ n. nat_lt n slots) s a.0.0 a.0.1 fits a.1 in
    let bytes = bytes_takes 64 a.0.1 b.0.0 b.0.1 slot.0.fits b.1 in
    let entry_fit = bytes_fit a.0.1 b.0.0 b.0.1 slot.0.fits bytes.0 in
    let spelled = subst (λ (text : List ℕ). Takes a.0.1 text b.0.1) (entry_spelled b.0.0 bytes.1 entry_fit) bytes.0 in
    let both = Takes-then s (little_bytes 4 a.0.0) a.0.1 (entry_bytes (entry_of_bytes b.0.0)) b.0.1 slot.0 spelled in
    let made : Instruction × Cursor = (Put a.0.0 (entry_of_bytes b.0.0), b.0.1) in
    subst (λ (p : Instruction × Cursor). TailTakes slots 1 s p.0 p.1) (ok_is made (i, t) b.2)
    (both, refl, (slot.2, (entry_fits b.0.0 entry_fit, rest_long b.0.0 bytes.1)))

push_takes : (slots : ℕ) (s : Cursor) (i : Instruction) (t : Cursor) → IsBytes s.rest → push_at s ≡ Ok (i, t) → TailTakes slots 2 s i t
unfolding push_at
push_takes slots s i t fits e =
    let a = bind_ok (number_at 4 s) (λ index. Ok (Push index.0, index.1)) (i, t) e in
    let index = number_takes 4 width4 s a.0.0 a.0.1 fits a.1 in
    let small : a.0.0 < 2 ^ 32 = omega (arith, index.1) in
    subst (λ (p : Instruction × Cursor). TailTakes slots 2 s p.0 p.1) (ok_is (Push a.0.0, a.0.1) (i, t) a.2) (index.0, refl, (refl, small))

store_takes : (slots : ℕ) (s : Cursor) (i : Instruction) (t : Cursor) → IsBytes s.rest → store_at s ≡ Ok (i, t) → TailTakes slots 3 s i t
unfolding store_at
store_takes slots s i t fits e =
    let a = bind_ok (number_at 4 s) (λ address. count_at 4096 address.1 >>= λ n. kept (nat_le (address.0 + n.0) 65536) s.offset n >>= λ inside. bytes_at inside.0 inside.1 >>= λ bytes. Ok (Store address.0 bytes.0, bytes.1)) (i, t) e in
    let b = bind_ok (count_at 4096 a.0.1) (λ n. kept (nat_le (a.0.0 + n.0) 65536) s.offset n >>= λ inside. bytes_at inside.0 inside.1 >>= λ bytes. Ok (Store a.0.0 bytes.0, bytes.1)) (i, t) a.2 in
    let c = bind_ok (kept (nat_le (a.0.0 + b.0.0) 65536) s.offset b.0) (λ inside. bytes_at inside.0 inside.1 >>= λ bytes. Ok (Store a.0.0 bytes.0, bytes.1)) (i, t) b.2 in
    let g = kept_ok (nat_le (a.0.0 + b.0.0) 65536) s.offset b.0 c.0 c.1 in
    let e4 : (bytes_at b.0.0 b.0.1 >>= λ bytes. Ok (Store a.0.0 bytes.0, bytes.1)) ≡ Ok (i, t) =
    ap (λ (n : ℕ × Cursor). bytes_at n.0 n.1 >>= λ bytes. Ok (Store a.0.0 bytes.0, bytes.1)) g.1 ∙ c.2 in
    let d = bind_ok (bytes_at b.0.0 b.0.1) (λ bytes. Ok (Store a.0.0 bytes.0, bytes.1)) (i, t) e4 in
    let address = number_takes 4 width4 s a.0.0 a.0.1 fits a.1 in
    let count = number_in_takes 4 width4 (λ n. nat_le n 4096) a.0.1 b.0.0 b.0.1 address.0.fits b.1 in
    let bytes = bytes_takes b.0.0 b.0.1 d.0.0 d.0.1 count.0.fits d.1 in
    let long = Takes-then a.0.1 (little_bytes 4 b.0.0) b.0.1 d.0.0 d.0.1 count.0 bytes.0 in
    let sized = subst (λ (n : ℕ). Takes a.0.1 (little_bytes 4 n ++ d.0.0) d.0.1 × (nat_le n 4096 ≡ true) × (nat_le (a.0.0 + n) 65536 ≡ true)) (sym bytes.1) (long, count.2, g.0) in
    let both = Takes-then s (little_bytes 4 a.0.0) a.0.1 (long_bytes d.0.0) d.0.1 address.0 sized.0 in
    subst (λ (p : Instruction × Cursor). TailTakes slots 3 s p.0 p.1) (ok_is (Store a.0.0 d.0.0, d.0.1) (i, t) d.2)
    (both, refl, (and_from _ _ sized.1 sized.2, tt))

enter_takes : (slots : ℕ) (s : Cursor) (i : Instruction) (t : Cursor) → IsBytes s.rest → enter_at s ≡ Ok (i, t) → TailTakes slots 4 s i t
unfolding enter_at
enter_takes slots s i t fits e =
    let a = bind_ok (number_at 4 s) (λ to_submit. number_at 4 to_submit.1 >>= λ min_complete. number_at 4 min_complete.1 >>= λ flags. Ok (Enter to_submit.0 min_complete.0 flags.0, flags.1)) (i, t) e in
    let b = bind_ok (number_at 4 a.0.1) (λ min_complete. number_at 4 min_complete.1 >>= λ flags. Ok (Enter a.0.0 min_complete.0 flags.0, flags.1)) (i, t) a.2 in
    let c = bind_ok (number_at 4 b.0.1) (λ flags. Ok (Enter a.0.0 b.0.0 flags.0, flags.1)) (i, t) b.2 in
    let x = number_takes 4 width4 s a.0.0 a.0.1 fits a.1 in
    let y = number_takes 4 width4 a.0.1 b.0.0 b.0.1 x.0.fits b.1 in
    let z = number_takes 4 width4 b.0.1 c.0.0 c.0.1 y.0.fits c.1 in
    let last = Takes-then a.0.1 (little_bytes 4 b.0.0) b.0.1 (little_bytes 4 c.0.0) c.0.1 y.0 z.0 in
    let both = Takes-then s (little_bytes 4 a.0.0) a.0.1 (little_bytes 4 b.0.0 ++ little_bytes 4 c.0.0) c.0.1 x.0 last in
    let sx : a.0.0 < 2 ^ 32 = omega (arith, x.1) in
    let sy : b.0.0 < 2 ^ 32 = omega (arith, y.1) in
    let sz : c.0.0 < 2 ^ 32 = omega (arith, z.1) in
    subst (λ (p : Instruction × Cursor). TailTakes slots 4 s p.0 p.1) (ok_is (Enter a.0.0 b.0.0 c.0.0, c.0.1) (i, t) c.2)
    (both, refl, (refl, (sx, sy, sz)))

close_takes : (slots : ℕ) (s : Cursor) (i : Instruction) (t : Cursor) → IsBytes s.rest → close_at s ≡ Ok (i, t) → TailTakes slots 6 s i t
unfolding close_at
close_takes slots s i t fits e =
    let a = bind_ok (number_at 4 s) (λ fd. Ok (Close (cast_signed w32 fd.0), fd.1)) (i, t) e in
    let fd = number_takes 4 width4 s a.0.0 a.0.1 fits a.1 in
    let small : a.0.0 < 2 ^ 32 = omega (arith, fd.1) in
    let back : cast_unsigned w32 (cast_signed w32 a.0.0) ≡ a.0.0 = of_z-to_z w32 a.0.0 small in
    let spelled = subst (λ (n : ℕ). Takes s (little_bytes 4 n) a.0.1) (sym back) fd.0 in
    let made : Instruction × Cursor = (Close (cast_signed w32 a.0.0), a.0.1) in
    let wide : Fits w32 a.0.0 = omega (arith, fd.1) in
    subst (λ (p : Instruction × Cursor). TailTakes slots 6 s p.0 p.1) (ok_is made (i, t) a.2) (spelled, refl, (refl, sfits_to_z wide))

reap_takes : (slots : ℕ) (s : Cursor) (i : Instruction) (t : Cursor) → IsBytes s.rest → instruction_of slots 5 s ≡ Ok (i, t) → TailTakes slots 5 s i t
unfolding instruction_of
reap_takes slots s i t fits e =
    subst (λ (p : Instruction × Cursor). TailTakes slots 5 s p.0 p.1) (ok_is (Reap, s) (i, t) e) (record { parts = refl; fits = fits }, refl, (refl, tt))

instruction_of_takes : (slots k : ℕ) (s : Cursor) (i : Instruction) (t : Cursor) → is_within 1 6 k ≡ true → IsBytes s.rest → instruction_of slots k s ≡ Ok (i, t) → TailTakes slots k s i t
unfolding instruction_of
instruction_of_takes slots zero s i t within fits e = absurd (omega (arith, within_least 1 6 0 within))
instruction_of_takes slots (suc zero) s i t within fits e = put_takes slots s i t fits e
instruction_of_takes slots (suc (suc zero)) s i t within fits e = push_takes slots s i t fits e
instruction_of_takes slots (suc (suc (suc zero))) s i t within fits e = store_takes slots s i t fits e
instruction_of_takes slots (suc (suc (suc (suc zero)))) s i t within fits e = enter_takes slots s i t fits e
instruction_of_takes slots (suc (suc (suc (suc (suc zero))))) s i t within fits e = reap_takes slots s i t fits e
instruction_of_takes slots (suc (suc (suc (suc (suc (suc zero)))))) s i t within fits e = close_takes slots s i t fits e
instruction_of_takes slots (suc (suc (suc (suc (suc (suc (suc k))))))) s i t within fits e = absurd (omega (arith, within_most 1 6 (suc (suc (suc (suc (suc (suc (suc k))))))) within))

instruction_takes : (slots : ℕ) (before : List Instruction) (s : Cursor) (i : Instruction) (t : Cursor) → IsBytes s.rest → instruction_at slots s ≡ Ok (i, t)
    → Takes s (instruction_bytes i) t × Kept slots i
unfolding instruction_at
instruction_takes slots before s i t fits e =
    let a = bind_ok (number_in 1 (is_within 1 6) s) (λ kind. instruction_of slots kind.0 kind.1) (i, t) e in
    let kind = number_in_takes 1 width1 (is_within 1 6) s a.0.0 a.0.1 fits a.1 in
    let tail = instruction_of_takes slots a.0.0 a.0.1 i t kind.2 kind.0.fits a.2 in
    let both = Takes-then s (little_bytes 1 a.0.0) a.0.1 (tail_of i) t kind.0 tail.0 in
    let whole : little_bytes 1 a.0.0 ++ tail_of i ≡ instruction_bytes i = ap (λ (k : ℕ). little_bytes 1 k ++ tail_of i) (sym tail.1) ∙ sym (instruction_split i) in
    (subst (λ (text : List ℕ). Takes s text t) whole both, tail.2)

-- ---- reading what was written

small_signed : (x : _) → FitsSigned w32 x → cast_unsigned w32 x < 256 ^ 4
small_signed x f = omega (arith, ints)

put_again : (slots offset slot : ℕ) (entry : Sqe) (rest : List ℕ) → slots ≤ 4096 → Kept slots (Put slot entry) → Again (put_at slots) offset (tail_of (Put slot entry) ++ rest) (Put slot entry) rest
unfolding put_at
put_again slots offset slot entry rest few kept =
    let below : slot < slots = ltb-true _ _ kept.0 in
    let a = number_in_again 4 (λ n. nat_lt n slots) offset slot (entry_bytes entry ++ rest) (omega arith) kept.0 in
    let b = bytes_again 64 a.0 (entry_bytes entry) rest (entry_long entry kept.1.1) in
    let regrouped : tail_of (Put slot entry) ++ rest ≡ little_bytes 4 slot ++ (entry_bytes entry ++ rest) = append_assoc (little_bytes 4 slot) (entry_bytes entry) rest in
    let made : (a.0 ≡ a.0) × (put_at slots (cursor_at offset (little_bytes 4 slot ++ (entry_bytes entry ++ rest))) ≡ Ok (Put slot (entry_of_bytes (entry_bytes entry)), cursor_at b.0 rest)) = (refl, rw (a.1, b.1) refl) in
    (b.0, ap (λ (input : List ℕ). put_at slots (cursor_at offset input)) regrouped ∙ made.1 ∙ ap (λ (x : Sqe). Ok (Put slot x, cursor_at b.0 rest)) (entry_again entry kept.1.0 kept.1.1))

push_again : (offset index : ℕ) (rest : List ℕ) → index < 2 ^ 32 → Again push_at offset (little_bytes 4 index ++ rest) (Push index) rest
unfolding push_at
push_again offset index rest small =
    let a = number_again 4 offset index rest (omega arith) in
    (a.0, rw a.1 refl)

store_again : (offset address : ℕ) (bytes rest : List ℕ) → nat_le (length bytes) 4096 ≡ true → nat_le (address + length bytes) 65536 ≡ true
    → length bytes < 256 ^ 4 → address < 256 ^ 4 → Again store_at offset (tail_of (Store address bytes) ++ rest) (Store address bytes) rest
unfolding store_at
store_again offset address bytes rest short inside few low =
    let a = number_again 4 offset address (little_bytes 4 (length bytes) ++ (bytes ++ rest)) low in
    let b = number_in_again 4 (λ n. nat_le n 4096) a.0 (length bytes) (bytes ++ rest) few short in
    let c = bytes_again (length bytes) b.0 bytes rest refl in
    let regrouped : tail_of (Store address bytes) ++ rest ≡ little_bytes 4 address ++ (little_bytes 4 (length bytes) ++ (bytes ++ rest)) =
    append_assoc (little_bytes 4 address) (long_bytes bytes) rest ∙ ap (λ (x : List ℕ). little_bytes 4 address ++ x) (append_assoc (little_bytes 4 (length bytes)) bytes rest) in
    (c.0, ap (λ (input : List ℕ). store_at (cursor_at offset input)) regrouped ∙ rw (a.1, b.1, inside, c.1) refl)

stored_again : (slots offset address : ℕ) (bytes rest : List ℕ) → keeps_instruction slots (Store address bytes) ≡ true → Again store_at offset (tail_of (Store address bytes) ++ rest) (Store address bytes) rest
stored_again slots offset address bytes rest keeps =
    let p = and_parts (nat_le (length bytes) 4096) (nat_le (address + length bytes) 65536) keeps in
    let few : length bytes ≤ 4096 = leb-true _ _ p.0 in
    let inside : address + length bytes ≤ 65536 = leb-true _ _ p.1 in
    store_again offset address bytes rest p.0 p.1 (omega arith) (omega arith)

enter_again : (offset to_submit min_complete flags : ℕ) (rest : List ℕ) → HasWidths (Enter to_submit min_complete flags)
    → Again enter_at offset (tail_of (Enter to_submit min_complete flags) ++ rest) (Enter to_submit min_complete flags) rest
unfolding enter_at
enter_again offset to_submit min_complete flags rest widths =
    let a = number_again 4 offset to_submit (little_bytes 4 min_complete ++ (little_bytes 4 flags ++ rest)) (omega (arith, widths.0)) in
    let b = number_again 4 a.0 min_complete (little_bytes 4 flags ++ rest) (omega (arith, widths.1)) in
    let c = number_again 4 b.0 flags rest (omega (arith, widths.2)) in
    let regrouped : tail_of (Enter to_submit min_complete flags) ++ rest ≡ little_bytes 4 to_submit ++ (little_bytes 4 min_complete ++ (little_bytes 4 flags ++ rest)) =
    append_assoc (little_bytes 4 to_submit) (little_bytes 4 min_complete ++ little_bytes 4 flags) rest ∙ ap (λ (x : List ℕ). little_bytes 4 to_submit ++ x) (append_assoc (little_bytes 4 min_complete) (little_bytes 4 flags) rest) in
    (c.0, ap (λ (input : List ℕ). enter_at (cursor_at offset input)) regrouped ∙ rw (a.1, b.1, c.1) refl)

close_again : (offset : ℕ) (fd : _) (rest : List ℕ) → HasWidths (Close fd) → Again close_at offset (tail_of (Close fd) ++ rest) (Close fd) rest
unfolding close_at
close_again offset fd rest widths =
    let a = number_again 4 offset (cast_unsigned w32 fd) rest (small_signed fd widths) in
    (a.0, rw (a.1, to_z-of_z w32 fd widths) refl)

instruction_of_again : (slots offset : ℕ) (i : Instruction) (rest : List ℕ) → slots ≤ 4096 → Kept slots i → Again (instruction_of slots (kind_of i)) offset (tail_of i ++ rest) i rest
unfolding instruction_of
instruction_of_again slots offset (Put slot entry) rest few kept = put_again slots offset slot entry rest few kept
instruction_of_again slots offset (Push index) rest few kept = push_again offset index rest kept.1
instruction_of_again slots offset (Store address bytes) rest few kept = stored_again slots offset address bytes rest kept.0
instruction_of_again slots offset (Enter to_submit min_complete flags) rest few kept = enter_again offset to_submit min_complete flags rest kept.1
instruction_of_again slots offset Reap rest few kept = (offset, refl)
instruction_of_again slots offset (Close fd) rest few kept = close_again offset fd rest kept.1

kind_within : (i : Instruction) → is_within 1 6 (kind_of i) ≡ true
kind_within (Put slot entry) = refl
kind_within (Push index) = refl
kind_within (Store address bytes) = refl
kind_within (Enter to_submit min_complete flags) = refl
kind_within Reap = refl
kind_within (Close fd) = refl

kind_small : (i : Instruction) → kind_of i < 256 ^ 1
kind_small i = omega (arith, within_most 1 6 (kind_of i) (kind_within i))

instruction_again : (slots : ℕ) → slots ≤ 4096 → (before : List Instruction) (offset : ℕ) (i : Instruction) (rest : List ℕ) → Kept slots i
    → Again (instruction_at slots) offset (instruction_bytes i ++ rest) i rest
unfolding instruction_at
instruction_again slots few before offset i rest kept =
    let a = number_in_again 1 (is_within 1 6) offset (kind_of i) (tail_of i ++ rest) (kind_small i) (kind_within i) in
    let b = instruction_of_again slots a.0 i rest few kept in
    let regrouped : instruction_bytes i ++ rest ≡ little_bytes 1 (kind_of i) ++ (tail_of i ++ rest) =
    ap (λ (text : List ℕ). text ++ rest) (instruction_split i) ∙ append_assoc (little_bytes 1 (kind_of i)) (tail_of i) rest in
    (b.0, ap (λ (input : List ℕ). instruction_at slots (cursor_at offset input)) regrouped ∙ rw (a.1, b.1) refl)

instruction_reads : (slots : ℕ) → slots ≤ 4096 → Reads Instruction (λ before. instruction_at slots) instruction_bytes (λ before i. (keeps_instruction slots i ≡ true) × HasWidths i)
instruction_reads slots few = record { takes = instruction_takes slots; again = instruction_again slots few }

-- ---- programs

program_takes : (slots : ℕ) → slots ≤ 4096 → (before : List (List Instruction)) (s : Cursor) (p : List Instruction) (t : Cursor) → IsBytes s.rest → program_at slots s ≡ Ok (p, t)
    → Takes s (program_bytes p) t × ((keeps_program slots p ≡ true) × AllByRecursion HasWidths p)
unfolding program_at
program_takes slots few before s p t fits e =
    let h = list_takes Instruction (λ before. instruction_at slots) instruction_bytes (λ before i. (keeps_instruction slots i ≡ true) × HasWidths i) (instruction_reads slots few) 4096 s p t fits e in
    let all = fit_all (keeps_instruction slots) HasWidths [] p h.2 in
    (h.0, (and_from _ _ h.1 all.0, all.1))

program_again : (slots : ℕ) → slots ≤ 4096 → (before : List (List Instruction)) (offset : ℕ) (p : List Instruction) (rest : List ℕ) → (keeps_program slots p ≡ true) × AllByRecursion HasWidths p
    → Again (program_at slots) offset (program_bytes p ++ rest) p rest
unfolding program_at
program_again slots few before offset p rest kept =
    let q = and_parts (nat_le (length p) 4096) (list_all (keeps_instruction slots) p) kept.0 in
    list_again Instruction (λ before. instruction_at slots) instruction_bytes (λ before i. (keeps_instruction slots i ≡ true) × HasWidths i) (instruction_reads slots few) 4096 offset p rest (omega arith) q.0
    (all_fit (keeps_instruction slots) HasWidths [] p q.1 kept.1)

pub program_reads : (slots : ℕ) → slots ≤ 4096
    → Reads (List Instruction) (λ before. program_at slots) program_bytes (λ before p. (keeps_program slots p ≡ true) × AllByRecursion HasWidths p)
program_reads slots few = record { takes = program_takes slots few; again = program_again slots few }
