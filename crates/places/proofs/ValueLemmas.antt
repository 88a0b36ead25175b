-- Values as lists of numbers, which are read back.
use Rattle.std.proofs.Common.{◌≡◌, ℕ, zero, suc, ◌+◌, ◌-◌, ◌*◌, ◌/◌, ◌%◌, ◌^◌, ◌<◌, ◌≤◌, ℤ, refl, sym, ◌∙◌, ap, List, [], ◌∷◌, ◌++◌, length, take, drop, slice_index, arith, FitsSigned, w32, w64, of_z, drop-cons, length-drop, get_or-drop}
use Rattle.std.specs.Prelude.{Bool, false, Option, Some, None, ◌==◌}
use Rattle.std.specs.Int.{cast_signed, cast_unsigned, byte_at, bytes_low_first}
use Rattle.std.proofs.Math.Nat.{mod-eq_of_lt, div-div-eq-div-mul, div-one, pow-succ'}
use Rattle.std.proofs.lemmas.Int.{to_z-of_z, ints}
use Rattle.std.proofs.lemmas.List.{take_all, take-append-drop}
use Rattle.byteorder.specs.Endian.{little_bytes, little_number, little_from}
use Rattle.entries.specs.declared.completion.Cqe.{Cqe}
use Rattle.entries.specs.declared.entry.Sqe.{Sqe}
use Rattle.entries.specs.declared.row.Row.{Row}
use Rattle.entries.specs.Layout.{EntryFits, CompletionFits}
use Rattle.compact_size.specs.Reading.{Reads}
use Rattle.compact_size.specs.CompactSizes.{number_of, after, after_many, word_of}
use Rattle.places.specs.declared.value.Stage.{Stage}
use Rattle.places.specs.declared.value.Stage.TheVariants.{Ready, Waiting}
use Rattle.places.specs.declared.value.Value.TheVariants.{Signed, Entry, Completed, Requested, Staged, Reaped, Awake}
use Rattle.places.specs.Packed.{option_number, option_from, word_from, phase_number, phase_from, completion_of, entry_of, row_of, framed_value, Spells}

same_part : {m n : ℕ} (k : ℕ) → m ≡ n → n < k → m % k ≡ n
same_part k e h = ap (λ i. i % k) e ∙ mod-eq_of_lt h

of_z_small : (z : ℤ) → FitsSigned w32 z → of_z w32 z < 2 ^ 32
of_z_small z f = omega (arith, ints)

same_signed : {m : ℕ} (z : ℤ) → m ≡ cast_unsigned w32 z → FitsSigned w32 z → cast_signed w32 (m % 2 ^ 32) ≡ z
same_signed z e f = ap (cast_signed w32) (same_part (2 ^ 32) e (of_z_small z f)) ∙ to_z-of_z w32 z f

-- ---- The bytes of a number, and back

byte_at_is : (j r : ℕ) → byte_at j r ≡ r / 256 ^ j % 256
byte_at_is zero r = ap (λ q. q % 256) (sym (div-one r))
byte_at_is (suc j) r = refl

byte_shifted : (j b r : ℕ) → b < 256 → byte_at (suc j) (b + 256 * r) ≡ byte_at j r
byte_shifted j b r h =
    let e : (b + 256 * r) / 256 ≡ r = omega arith in
    ap (λ p. (b + 256 * r) / p % 256) (pow-succ' 256 j) ∙ ap (λ q. q % 256) (sym (div-div-eq-div-mul (b + 256 * r) 256 (256 ^ j)) ∙ ap (λ q. q / 256 ^ j) e) ∙ sym (byte_at_is j r)

bytes_shifted : (n j b r : ℕ) → b < 256 → bytes_low_first (suc j) n (b + 256 * r) ≡ bytes_low_first j n r
bytes_shifted zero j b r h = refl
bytes_shifted (suc n) j b r h = rw (byte_shifted j b r h, bytes_shifted n (suc j) b r h) refl

bytes_back : (n i : ℕ) (xs : List ℕ) → i + n ≤ length xs → ((k : ℕ) → slice_index xs k < 256) → bytes_low_first 0 n (little_from i n xs) ≡ take n (drop i xs)
bytes_back zero i xs l h = refl
bytes_back (suc n) i xs l h =
    let r = little_from (suc i) n xs in
    let b = h i in
    let e : (slice_index xs i + 256 * r) % 256 ≡ slice_index xs i = omega arith in
    rw (e, bytes_shifted n 0 (slice_index xs i) r b, bytes_back n (suc i) xs (omega arith) h, drop-cons xs i 0 (omega arith)) refl

-- ---- Values

abbrev pub completion_list : Cqe → List ℕ
completion_list c = c.user_data ∷ cast_unsigned w32 c.res ∷ c.flags ∷ []

completion_read : (x : Cqe) (bs rest : List ℕ) → CompletionFits x → Reads number_of after bs (completion_list x) rest → completion_of bs ≡ x
completion_read x bs rest f h =
    let a = same_signed x.res h.1.0 f.res in
    let b = same_part (2 ^ 32) h.1.1.0 f.flags in
    rw (h.0, a, b) refl

pub completion_spells : (x : Cqe) → CompletionFits x → Spells 4 (completion_list x) (Completed x)
unfolding framed_value
completion_spells x f bs h = ap Completed (completion_read x bs [] f h)

-- Fields that often are 0 come last.
abbrev pub entry_list : Sqe → List ℕ
entry_list e =
    e.user_data ∷ e.opcode ∷ cast_unsigned w32 e.fd ∷ e.len ∷ e.addr ∷ e.off ∷ e.flags ∷ e.operation_flags ∷ e.ioprio
    ∷ e.buf_index ∷ e.personality ∷ cast_unsigned w32 e.splice_fd_in ∷ little_number 8 e.rest ∷ little_number 8 (drop 8 e.rest) ∷ []

abbrev entry_with : ℕ → ℕ → ℕ → ℤ → ℕ → ℕ → ℕ → ℕ → ℕ → ℕ → ℕ → ℤ → List ℕ → Sqe
entry_with a0 a1 a2 a3 a4 a5 a6 a7 a8 a9 a10 a11 a12 = record { opcode = a0; flags = a1; ioprio = a2; fd = a3; off = a4; addr = a5; len = a6; operation_flags = a7; user_data = a8; buf_index = a9; personality = a10; splice_fd_in = a11; rest = a12 }

same_fields : {a0 b0 : ℕ} {a1 b1 : ℕ} {a2 b2 : ℕ} {a3 b3 : ℤ} {a4 b4 : ℕ} {a5 b5 : ℕ} {a6 b6 : ℕ} {a7 b7 : ℕ} {a8 b8 : ℕ} {a9 b9 : ℕ} {a10 b10 : ℕ} {a11 b11 : ℤ} {a12 b12 : List ℕ} → a0 ≡ b0 → a1 ≡ b1 → a2 ≡ b2 → a3 ≡ b3 → a4 ≡ b4 → a5 ≡ b5 → a6 ≡ b6 → a7 ≡ b7 → a8 ≡ b8 → a9 ≡ b9 → a10 ≡ b10 → a11 ≡ b11 → a12 ≡ b12 → entry_with a0 a1 a2 a3 a4 a5 a6 a7 a8 a9 a10 a11 a12 ≡ entry_with b0 b1 b2 b3 b4 b5 b6 b7 b8 b9 b10 b11 b12
same_fields e0 e1 e2 e3 e4 e5 e6 e7 e8 e9 e10 e11 e12 = rw (e0, e1, e2, e3, e4, e5, e6, e7, e8, e9, e10, e11, e12) refl

later : (xs : List ℕ) → length xs ≡ 16 → ((k : ℕ) → slice_index xs k < 256) → little_bytes 8 (little_number 8 (drop 8 xs)) ≡ take 8 (drop 8 xs)
later xs l r = bytes_back 8 0 (drop 8 xs) (omega (arith, length-drop 8 xs)) (λ k. rw (get_or-drop 8 xs k 0) (r (8 + k)))

halves : (xs : List ℕ) → length xs ≡ 16 → take 8 xs ++ take 8 (drop 8 xs) ≡ xs
halves xs l = ap (λ (ys : List ℕ). take 8 xs ++ ys) (take_all 8 (drop 8 xs) (omega (arith, length-drop 8 xs))) ∙ take-append-drop 8 xs

entry_read : (e : Sqe) (more bs : List ℕ) → EntryFits e → length e.rest ≡ 16 → ((k : ℕ) → slice_index e.rest k < 256) → Reads number_of after bs (entry_list e ++ more) [] → entry_of bs ≡ e
unfolding entry_of
entry_read e more bs f l r h =
    let p0 = h.0 in
    let p1 = same_part (2 ^ 8) h.1.0 f.opcode in
    let p2 = same_signed e.fd h.1.1.0 f.fd in
    let p3 = same_part (2 ^ 32) h.1.1.1.0 f.len in
    let p4 = h.1.1.1.1.0 in
    let p5 = h.1.1.1.1.1.0 in
    let p6 = same_part (2 ^ 8) h.1.1.1.1.1.1.0 f.flags in
    let p7 = same_part (2 ^ 32) h.1.1.1.1.1.1.1.0 f.operation_flags in
    let p8 = same_part (2 ^ 16) h.1.1.1.1.1.1.1.1.0 f.ioprio in
    let p9 = same_part (2 ^ 16) h.1.1.1.1.1.1.1.1.1.0 f.buf_index in
    let p10 = same_part (2 ^ 16) h.1.1.1.1.1.1.1.1.1.1.0 f.personality in
    let p11 = same_signed e.splice_fd_in h.1.1.1.1.1.1.1.1.1.1.1.0 f.splice_fd_in in
    let a : little_bytes 8 (number_of (after_many 12 bs)) ≡ take 8 e.rest = ap (little_bytes 8) h.1.1.1.1.1.1.1.1.1.1.1.1.0 ∙ bytes_back 8 0 e.rest (omega arith) r in
    let b : little_bytes 8 (number_of (after_many 13 bs)) ≡ take 8 (drop 8 e.rest) = ap (little_bytes 8) h.1.1.1.1.1.1.1.1.1.1.1.1.1.0 ∙ later e.rest l r in
    let c : little_bytes 8 (number_of (after_many 12 bs)) ++ little_bytes 8 (number_of (after_many 13 bs)) ≡ e.rest = ap (λ (xs : List ℕ). xs ++ little_bytes 8 (number_of (after_many 13 bs))) a ∙ ap (λ (xs : List ℕ). take 8 e.rest ++ xs) b ∙ halves e.rest l in
    same_fields p1 p6 p8 p2 p5 p4 p3 p7 p0 p9 p10 p11 c

pub entry_spells : (e : Sqe) → EntryFits e → length e.rest ≡ 16 → ((k : ℕ) → slice_index e.rest k < 256) → Spells 3 (entry_list e) (Entry e)
unfolding framed_value
entry_spells e f l r bs h = ap Entry (entry_read e [] bs f l r h)

times : (t : Option ℕ) {n : ℕ} → n ≡ option_number t → option_from n ≡ t
times None e = ap option_from e
times (Some t) e = ap option_from e ∙ once t
  where
    once : (t : ℕ) → option_from (t + 1) ≡ Some t
    once t = grind arith

-- The numbers of a row that follow those of its entry.
abbrev pub later_list : Row → List ℕ
later_list r = option_number r.held ∷ r.base ∷ option_number r.time ∷ option_number r.deadline ∷ option_number r.target ∷ []

abbrev pub row_list : Row → List ℕ
row_list r = r.unit ∷ phase_number r.phase ∷ (entry_list r.entry ++ later_list r)

-- Each field of a row but its entry and its times is read back from its number as it was.
pub record RowAgain (r : Row) : Type 0 where
  pub base : r.base < 2 ^ 32
  pub unit : r.unit < 2 ^ 32
  pub target : word_from (option_number r.target) ≡ r.target
  pub held : word_from (option_number r.held) ≡ r.held
  pub phase : phase_from (phase_number r.phase) ≡ r.phase

pub row_spells : (r : Row) → RowAgain r → EntryFits r.entry → length r.entry.rest ≡ 16 → ((k : ℕ) → slice_index r.entry.rest k < 256) → Spells 5 (row_list r) (Requested r)
unfolding framed_value row_of
row_spells r f g l b bs h =
    let t = h.1.1.1.1.1.1.1.1.1.1.1.1.1.1.1.1 in
    let u = same_part (2 ^ 32) h.0 f.unit in
    let p = ap phase_from h.1.0 ∙ f.phase in
    let e = entry_read r.entry (later_list r) (after_many 2 bs) g l b h.1.1 in
    let i = ap word_from t.0 ∙ f.held in
    let n = same_part (2 ^ 32) t.1.0 f.base in
    let v = times r.time t.1.1.0 in
    let d = times r.deadline t.1.1.1.0 in
    let w = ap word_from t.1.1.1.1.0 ∙ f.target in
    ap Requested (rw (u, p, e, i, n, v, d, w) refl)

-- The numbers of a stage fit into 32 bits.
abbrev pub StageFits : Stage → Type 0
StageFits Ready = Unit {0}
StageFits (Waiting submitted needed) = (submitted < 2 ^ 32) × (needed < 2 ^ 32)

abbrev pub stage_list : Stage → List ℕ
stage_list Ready = 0 ∷ 0 ∷ []
stage_list (Waiting submitted needed) = (submitted + 1) ∷ needed ∷ []

pub stage_spells : (s : Stage) → StageFits s → Spells 6 (stage_list s) (Staged s)
unfolding framed_value
stage_spells Ready f bs h = rw (h.0) refl
stage_spells (Waiting a b) f bs h =
    let n : (number_of bs == 0) ≡ false = rw (h.0) (later a) in
    let i : (number_of bs - 1) % 2 ^ 32 ≡ a = rw (h.0) (before a f.0) in
    let j : word_of (after_many 1 bs) ≡ b = same_part (2 ^ 32) h.1.0 f.1 in
    rw (n, i, j) refl
  where
    later : (a : ℕ) → (a + 1 == 0) ≡ false
    later a = grind arith

    before : (a : ℕ) → a < 2 ^ 32 → (a + 1 - 1) % 2 ^ 32 ≡ a
    before a h = omega arith

pub nothing_spells : Spells 7 (0 ∷ 0 ∷ 0 ∷ 0 ∷ []) (Reaped None)
unfolding framed_value
nothing_spells bs h = rw (h.0) refl

pub reaped_spells : (x : Cqe) → CompletionFits x → Spells 7 (1 ∷ completion_list x) (Reaped (Some x))
unfolding framed_value
reaped_spells x f bs h = rw (h.0) (ap (λ (c : Cqe). Reaped (Some c)) (completion_read x (after bs) [] f h.1))

pub signed_spells : (z : ℤ) → FitsSigned w64 z → Spells 2 (cast_unsigned w64 z ∷ []) (Signed z)
unfolding framed_value
signed_spells z f bs h = ap Signed (ap (cast_signed w64) h.0 ∙ to_z-of_z w64 z f)

pub awake_spells : (n : ℕ) (a : Bool) → (n == 1) ≡ a → Spells 8 (n ∷ []) (Awake a)
unfolding framed_value
awake_spells n a e bs h = ap Awake (ap (λ i. i == 1) h.0 ∙ e)
