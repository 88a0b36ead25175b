-- Completing a request preserves the invariant of the world.
use Rattle.opcodes.proofs.Common.{◌≡◌, ℕ, ℤ, pos, negsuc, zero, suc, Bool, true, false, cond, refl, sym, subst, ◌∙◌, ap, ◌+◌, ◌≤◌, arith, option_and_then, option_map_or, Sqe, Row, DescriptorState, Stock, File, Pipe, EventFd, GivesOut, TakesIn, WorldState, WorldFormed, OneSetup, PutsWithin, descriptor_of, number_at, pipe_of, stock_of, world_at, world_put, world_read, world_taken, world_written, setup_self, setup_then, setup_read, setup_written, setup_synced, setup_taken, setup_put, setup_added, setup_cleared, Choice, Op, Fsync, Read, Write, Res, op_of, outcome_of, held_descriptor, is_at_position, offset_of, position_of, moved_on, bytes_read, bytes_written, done_by, world_after, world_at_formed, world_read_formed, world_written_formed, world_synced_formed, world_taken_formed, world_put_formed, world_added_formed, world_cleared_formed}
use Rattle.std.specs.Prelude.{Option, Some, None, IsSomeAnd, ◌^◌}
use Rattle.opcodes.proofs.{Nothing.bytes_read_nothing, Nothing.bytes_written_nothing, Transferring.Moves, Transferring.row_read, Transferring.row_written, Transferring.setup_moved, Transferring.gives_out, Transferring.takes_in, Transferring.counts_to}

-- The next world satisfies the invariant, and has the same fixed properties.
pub record Stays (w v : WorldState) : Type 0 where
  pub formed : WorldFormed v
  pub setup : OneSetup w v

stays_self : (w : WorldState) → WorldFormed w → Stays w w
stays_self w f = record { formed = f; setup = setup_self w }

-- Advancing the file position preserves both.
stays_moved : (entry : Sqe) (fd : ℕ) (d : DescriptorState) (k : ℕ) (w : WorldState) → WorldFormed w → descriptor_of w fd ≡ Some d → offset_of entry (position_of (Some d)) + k ≤ 65536 → Stays w (moved_on entry fd d.position k w)
stays_moved entry fd d k w f there l = by d.position refl
  where
    by : (o : Option ℕ) → d.position ≡ o → Stays w (moved_on entry fd o k w)
    by None e = stays_self w f
    by (Some p) e = at (is_at_position entry) refl
      where
        at : (b : Bool) → is_at_position entry ≡ b → Stays w (cond b (world_at fd (p + k) w) w)
        at true g =
            let begins : offset_of entry (position_of (Some d)) ≡ p = ap (λ b. cond b (position_of (Some d)) entry.off) g ∙ ap (λ x. position_of (Some (record d { position = x }))) e in
            record { formed = world_at_formed fd (p + k) w f (omega (arith, l, begins)); setup = setup_moved w fd (p + k) d p there e }
        at false g = stays_self w f

stays_then : (a b c : WorldState) → Stays a b → Stays b c → Stays a c
stays_then a b c h k = record { formed = k.formed; setup = setup_then a b c h.setup k.setup }

stays_read : (entry : Sqe) (fd : ℕ) (d : DescriptorState) (k : ℕ) (w : WorldState) → WorldFormed w → descriptor_of w fd ≡ Some d → Moves entry (position_of (Some d)) k → Stays w (bytes_read entry fd d k w)
stays_read entry fd d zero w f there m = subst (Stays w) (sym (bytes_read_nothing entry fd d w there)) (stays_self w f)
stays_read entry fd d (suc k) w f there m =
    let offset = offset_of entry (position_of (Some d)) in
    let formed = world_read_formed d.object offset (suc k) entry.addr w f m.memory in
    stays_then w (world_read d.object offset (suc k) entry.addr w) _
    (record { formed = formed; setup = setup_read d.object offset (suc k) entry.addr w f m.memory })
    (stays_moved entry fd d (suc k) (world_read d.object offset (suc k) entry.addr w) formed there (m.file (omega arith)))

stays_written : (entry : Sqe) (fd : ℕ) (d : DescriptorState) (k : ℕ) (w : WorldState) → WorldFormed w → descriptor_of w fd ≡ Some d → Moves entry (position_of (Some d)) k → Stays w (bytes_written entry fd d k w)
stays_written entry fd d zero w f there m = subst (Stays w) (sym (bytes_written_nothing entry fd d w f there)) (stays_self w f)
stays_written entry fd d (suc k) w f there m =
    let offset = offset_of entry (position_of (Some d)) in
    let within = m.file (omega arith) in
    let formed = world_written_formed d.object offset (suc k) entry.addr w f within in
    stays_then w (world_written d.object offset (suc k) entry.addr w) _
    (record { formed = formed; setup = setup_written d.object offset (suc k) entry.addr w f within })
    (stays_moved entry fd d (suc k) (world_written d.object offset (suc k) entry.addr w) formed there within)

stays_taken : (entry : Sqe) (o k : ℕ) (w : WorldState) → WorldFormed w → entry.addr + k ≤ 65536 → IsSomeAnd (pipe_of w o) (GivesOut k) → Stays w (world_taken o k entry.addr w)
stays_taken entry o k w f l g = record { formed = world_taken_formed o k entry.addr w f l g; setup = setup_taken o k entry.addr w f l g }

stays_put : (entry : Sqe) (o k : ℕ) (w : WorldState) → WorldFormed w → IsSomeAnd (pipe_of w o) (TakesIn k) → Stays w (world_put o k entry.addr w)
stays_put entry o k w f g = record { formed = world_put_formed o k entry.addr w f g; setup = setup_put o k entry.addr w }

-- Completing a request preserves both, whatever its result.
pub stays_after : (held : ℕ → Bool) (w : WorldState) (row : Row) (res : ℤ) (c : Choice) → WorldFormed w → PutsWithin (2 ^ 63) w → outcome_of held w row c ≡ Res res → Stays w (world_after row res w)
stays_after held w row (negsuc n) c f puts h = stays_self w f
stays_after held w row (pos k) c f puts h = holding row.held refl
  where
    through : (fd : ℕ) (d : DescriptorState) → descriptor_of w fd ≡ Some d → held_descriptor w row ≡ Some d → (o : Option Op) (s : Option Stock) → op_of row.entry.opcode ≡ o → stock_of w d.object ≡ s → Stays w (done_by row.entry o s fd d k w)
    through fd d there here (Some Fsync) (Some (File n)) e i = record { formed = world_synced_formed d.object w f; setup = setup_synced d.object w f }
    through fd d there here (Some Read) (Some (File n)) e i = stays_read row.entry fd d k w f there (row_read held w row d (File n) c (pos k) k f e here i refl h)
    through fd d there here (Some Read) (Some (Pipe n m)) e i =
        let t = row_read held w row d (Pipe n m) c (pos k) k f e here i refl h in
        stays_taken row.entry d.object k w f t.1 (gives_out w f d.object k n m i t.0)
    through fd d there here (Some Read) (Some (EventFd n)) e i =
        let t = row_read held w row d (EventFd n) c (pos k) k f e here i refl h in
        record { formed = world_cleared_formed d.object row.entry.addr w f t; setup = setup_cleared d.object row.entry.addr w f t }
    through fd d there here (Some Write) (Some (File n)) e i = stays_written row.entry fd d k w f there (row_written held w row d (File n) c (pos k) k e here i refl h)
    through fd d there here (Some Write) (Some (Pipe n m)) e i =
        let t = row_written held w row d (Pipe n m) c (pos k) k e here i refl h in
        stays_put row.entry d.object k w f (takes_in w f puts d.object k n m i t.0)
    through fd d there here (Some Write) (Some (EventFd n)) e i =
        let t = row_written held w row d (EventFd n) c (pos k) k e here i refl h in
        record { formed = world_added_formed d.object (number_at w row.entry.addr) w f (counts_to w d.object n (number_at w row.entry.addr) i t.1); setup = setup_added d.object (number_at w row.entry.addr) w }
    through fd d there here o s e i = stays_self w f

    holding : (x : Option ℕ) → row.held ≡ x → Stays w (option_map_or (λ fd. option_map_or (λ d. done_by row.entry (op_of row.entry.opcode) (stock_of w d.object) fd d k w) (descriptor_of w fd) w) x w)
    holding None e = stays_self w f
    holding (Some fd) e = at (descriptor_of w fd) refl
      where
        at : (y : Option DescriptorState) → descriptor_of w fd ≡ y → Stays w (option_map_or (λ d. done_by row.entry (op_of row.entry.opcode) (stock_of w d.object) fd d k w) y w)
        at None g = stays_self w f
        at (Some d) g = through fd d g (ap (option_and_then (descriptor_of w)) e ∙ g) (op_of row.entry.opcode) (stock_of w d.object) refl refl
