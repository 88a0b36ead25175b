-- The tests of equality in `Sameness` decide whether values are equal.
use Rattle.std.proofs.Common.{◌≡◌, ℕ, Bool, false, refl, ap}
use Rattle.std.specs.Prelude.{Option, Some, None}
use Rattle.std.specs.Bool.{Decides}
use Rattle.std.specs.Cmp.{booleans_Decides}
use Rattle.std.specs.Cmp.Lexicographic.{bytes_decides}
use Rattle.std.specs.Option.{option_eq}
use Rattle.std.proofs.lemmas.Bool.Decides.{Decides-eqb, Decides-int_eq, Decides-and, Decides-like}
use Rattle.entries.specs.declared.entry.Sqe.{Sqe}
use Rattle.entries.specs.declared.completion.Cqe.{Cqe}
use Rattle.entries.specs.declared.row.Phase.{Phase}
use Rattle.entries.specs.declared.row.Phase.TheVariants.{Queued, Issued, Ended}
use Rattle.entries.specs.declared.row.Row.{Row}
use Rattle.places.specs.declared.value.Stage.{Stage}
use Rattle.places.specs.declared.value.Stage.TheVariants.{Ready, Waiting}
use Rattle.places.specs.declared.value.Value.{Value}
use Rattle.places.specs.declared.value.Value.TheVariants.{Number, Signed, Byte, Entry, Completed, Requested, Staged, Reaped, Awake}
use Rattle.places.specs.Sameness.{same_number, numbers_of, same_entry, same_completion, same_phase, same_row, same_stage, same_value, is_same}

-- A test that returns false decides a statement that is false.
differing : {P : Type 0} → (P → ⊥) → Decides false P
differing f = (λ e. cc, λ p. absurd (f p))

optional : {X : Type 0} (f : X → X → Bool) → ((v w : X) → Decides (f v w) (v ≡ w)) → (a b : Option X) → Decides (option_eq f a b) (a ≡ b)
optional f decides None None = (λ e. refl, λ e. refl)
optional f decides None (Some w) = differing (λ e. cc)
optional f decides (Some v) None = differing (λ e. cc)
optional f decides (Some v) (Some w) = Decides-like _ (λ e. ap Some e) (λ e. cc) (decides v w)

entry_whole : (a b : Sqe) → numbers_of a ≡ numbers_of b → a.fd ≡ b.fd → a.splice_fd_in ≡ b.splice_fd_in → a ≡ b
entry_whole a b n f s =
    let opcode : a.opcode ≡ b.opcode = cc in
    let flags : a.flags ≡ b.flags = cc in
    let ioprio : a.ioprio ≡ b.ioprio = cc in
    let off : a.off ≡ b.off = cc in
    let addr : a.addr ≡ b.addr = cc in
    let len : a.len ≡ b.len = cc in
    let operation_flags : a.operation_flags ≡ b.operation_flags = cc in
    let user_data : a.user_data ≡ b.user_data = cc in
    let buf_index : a.buf_index ≡ b.buf_index = cc in
    let personality : a.personality ≡ b.personality = cc in
    let rest : a.rest ≡ b.rest = cc in
    λ i. record {
      opcode = opcode i;
      flags = flags i;
      ioprio = ioprio i;
      fd = f i;
      off = off i;
      addr = addr i;
      len = len i;
      operation_flags = operation_flags i;
      user_data = user_data i;
      buf_index = buf_index i;
      personality = personality i;
      splice_fd_in = s i;
      rest = rest i;
    }

entry_decides : (a b : Sqe) → Decides (same_entry a b) (a ≡ b)
entry_decides a b = Decides-like _ (λ h. entry_whole a b h.0 h.1.0 h.1.1) (λ e. (ap numbers_of e, (ap (λ (x : Sqe). x.fd) e, ap (λ (x : Sqe). x.splice_fd_in) e)))
    (Decides-and _ _ (bytes_decides (numbers_of a) (numbers_of b)) (Decides-and _ _ (Decides-int_eq a.fd b.fd) (Decides-int_eq a.splice_fd_in b.splice_fd_in)))

completion_decides : (a b : Cqe) → Decides (same_completion a b) (a ≡ b)
completion_decides a b = Decides-like _ (λ h. λ i. record { user_data = h.0 i; res = h.1.0 i; flags = h.1.1 i }) (λ e. (ap (λ (x : Cqe). x.user_data) e, (ap (λ (x : Cqe). x.res) e, ap (λ (x : Cqe). x.flags) e)))
    (Decides-and _ _ (Decides-eqb a.user_data b.user_data) (Decides-and _ _ (Decides-int_eq a.res b.res) (Decides-eqb a.flags b.flags)))

phase_decides : (a b : Phase) → Decides (same_phase a b) (a ≡ b)
phase_decides Queued Queued = (λ e. refl, λ e. refl)
phase_decides Issued Issued = (λ e. refl, λ e. refl)
phase_decides (Ended a) (Ended b) = Decides-like _ (λ e. ap Ended e) (λ e. cc) (Decides-int_eq a b)
phase_decides _ _ = differing (λ e. cc)

number_decides : (a b : Option ℕ) → Decides (option_eq same_number a b) (a ≡ b)
number_decides = optional same_number Decides-eqb

row_whole : (a b : Row) → a.deadline ≡ b.deadline → a.time ≡ b.time → a.entry ≡ b.entry → a.base ≡ b.base → a.unit ≡ b.unit → a.target ≡ b.target → a.held ≡ b.held → a.phase ≡ b.phase → a ≡ b
row_whole a b d t e n u g h p = λ i. record { deadline = d i; time = t i; entry = e i; base = n i; unit = u i; target = g i; held = h i; phase = p i }

row_decides : (a b : Row) → Decides (same_row a b) (a ≡ b)
row_decides a b = Decides-like _ (λ h. row_whole a b h.0 h.1.0 h.1.1.0 h.1.1.1.0 h.1.1.1.1.0 h.1.1.1.1.1.0 h.1.1.1.1.1.1.0 h.1.1.1.1.1.1.1) (λ e. (
  ap (λ (x : Row). x.deadline) e,
  (
    ap (λ (x : Row). x.time) e,
    (
      ap (λ (x : Row). x.entry) e,
      (
        ap (λ (x : Row). x.base) e,
        (
          ap (λ (x : Row). x.unit) e,
          (
            ap (λ (x : Row). x.target) e,
            (ap (λ (x : Row). x.held) e, ap (λ (x : Row). x.phase) e),
          ),
        ),
      ),
    ),
  ),
))
    (Decides-and _ _ (number_decides a.deadline b.deadline) (Decides-and _ _ (number_decides a.time b.time) (Decides-and _ _ (entry_decides a.entry b.entry)
    (Decides-and _ _ (Decides-eqb a.base b.base) (Decides-and _ _ (Decides-eqb a.unit b.unit) (Decides-and _ _ (number_decides a.target b.target)
    (Decides-and _ _ (number_decides a.held b.held) (phase_decides a.phase b.phase))))))))

stage_decides : (a b : Stage) → Decides (same_stage a b) (a ≡ b)
stage_decides Ready Ready = (λ e. refl, λ e. refl)
stage_decides (Waiting a b) (Waiting x y) = Decides-like _ (λ h. let p = h.0 in let q = h.1 in cc) (λ e. (cc, cc)) (Decides-and _ _ (Decides-eqb a x) (Decides-eqb b y))
stage_decides _ _ = differing (λ e. cc)

value_decides : (a b : Value) → Decides (same_value a b) (a ≡ b)
value_decides (Number a) (Number b) = Decides-like _ (λ e. ap Number e) (λ e. cc) (Decides-eqb a b)
value_decides (Signed a) (Signed b) = Decides-like _ (λ e. ap Signed e) (λ e. cc) (Decides-int_eq a b)
value_decides (Byte a) (Byte b) = Decides-like _ (λ e. ap Byte e) (λ e. cc) (Decides-eqb a b)
value_decides (Entry a) (Entry b) = Decides-like _ (λ e. ap Entry e) (λ e. cc) (entry_decides a b)
value_decides (Completed a) (Completed b) = Decides-like _ (λ e. ap Completed e) (λ e. cc) (completion_decides a b)
value_decides (Requested a) (Requested b) = Decides-like _ (λ e. ap Requested e) (λ e. cc) (row_decides a b)
value_decides (Staged a) (Staged b) = Decides-like _ (λ e. ap Staged e) (λ e. cc) (stage_decides a b)
value_decides (Reaped a) (Reaped b) = Decides-like _ (λ e. ap Reaped e) (λ e. cc) (optional same_completion completion_decides a b)
value_decides (Awake a) (Awake b) = Decides-like _ (λ e. ap Awake e) (λ e. cc) (booleans_Decides a b)
value_decides _ _ = differing (λ e. cc)

-- `is_same` decides whether two optional values are equal.
pub same_decides : (a b : Option Value) → Decides (is_same a b) (a ≡ b)
unfolding is_same
same_decides = optional same_value value_decides
