-- Bounds that a successful transfer satisfies.
use Rattle.opcodes.proofs.Common.{◌≡◌, ℕ, ℤ, pos, negsuc, Bool, cond, refl, sym, ◌∙◌, ap, subst, ◌+◌, ◌-◌, ◌<◌, ◌≤◌, ◌^◌, arith, option_and_then, Sqe, Row, Body, DescriptorState, Stock, File, Pipe, EventFd, PipeFormed, GivesOut, TakesIn, filled, WorldState, WorldFormed, BodyFormed, StockFits, OneSetup, PutsWithin, descriptor_of, file_of, pipe_in, pipe_of, counter_of, stock_in, stock_of, number_at, world_at, FileFormed, setup_at, Choice, Op, Read, Write, Res, op_of, fixed, passes_memory, offset_of, read_outcome, write_outcome, outcome_on, outcome_of, held_descriptor, position_of, file_formed}
use Rattle.std.specs.Prelude.{Option, Some, None, IsSome, IsSomeAnd, is_some, option_map, slice_get, length}
use Rattle.model_files.{specs.declared.body.Body.TheVariants.File as FileBody, specs.declared.body.Body.TheVariants.Pipe as PipeBody, specs.declared.body.Body.TheVariants.EventFd as EventBody, proofs.Describing.number_from_three}

pub setup_moved : (w : WorldState) (fd n : ℕ) (d : DescriptorState) (p : ℕ) → descriptor_of w fd ≡ Some d → d.position ≡ Some p → OneSetup w (world_at fd n w)
setup_moved w fd n d p h e = setup_at fd n w (λ x k. let same : x ≡ d = (let g = (number_from_three w fd d h).1 in let both = sym k ∙ g in cc) in ap is_some (ap (λ (y : DescriptorState). y.position) same ∙ e))

-- The bounds of a file transfer of k bytes.
pub record Moves (entry : Sqe) (position k : ℕ) : Type 0 where
  pub memory : entry.addr + k ≤ 65536
  pub file : 0 < k → offset_of entry position + k ≤ 65536

-- The bounds of a READ, and of a WRITE, for each kind of object.
abbrev pub ReadKeeps : Sqe → ℕ → ℕ → Stock → Type 0
ReadKeeps entry p k (File len) = Moves entry p k
ReadKeeps entry p k (Pipe filled capacity) = (k ≤ filled) × (entry.addr + k ≤ 65536)
ReadKeeps entry p k (EventFd counter) = entry.addr + 8 ≤ 65536

abbrev pub WriteKeeps : Sqe → ℕ → ℕ → ℕ → Stock → Type 0
WriteKeeps entry p number k (File len) = Moves entry p k
WriteKeeps entry p number k (Pipe filled capacity) = (k ≤ capacity - filled) × (entry.addr + k ≤ 65536)
WriteKeeps entry p number k (EventFd counter) = (entry.addr + 8 ≤ 65536) × (counter + number < 2 ^ 64 - 1)

read_keeps : (entry : Sqe) (p k : ℕ) (writer : Bool) (stock : Stock) (c : Choice) → StockFits stock → cond (passes_memory entry) (fixed (negsuc 13) c) (read_outcome entry p writer (Some stock) c) ≡ Res (pos k) → ReadKeeps entry p k stock
read_keeps = grind arith

write_keeps : (entry : Sqe) (p number k : ℕ) (reader : Bool) (stock : Stock) (c : Choice) → cond (passes_memory entry) (fixed (negsuc 13) c) (write_outcome entry p reader number (Some stock) c) ≡ Res (pos k) → WriteKeeps entry p number k stock
write_keeps = grind arith

-- The bounds on how much an object holds.
pub stock_fits : (w : WorldState) → WorldFormed w → (o : ℕ) (s : Stock) → stock_of w o ≡ Some s → StockFits s
stock_fits w f o s h = by (slice_get w.objects o) refl h
  where
    at : (b : Body) → BodyFormed b → StockFits (stock_in b)
    at (FileBody g) x = x.sized.len
    at (PipeBody p) x = tt
    at (EventBody n) x = tt

    by : (x : Option Body) → slice_get w.objects o ≡ x → option_map stock_in x ≡ Some s → StockFits s
    by None e k = absurd cc
    by (Some b) e k = let same : stock_in b ≡ s = cc in subst StockFits same (at b (f.objects o b e))

pub gives_out : (w : WorldState) → WorldFormed w → (o k n m : ℕ) → stock_of w o ≡ Some (Pipe n m) → k ≤ n → IsSomeAnd (pipe_of w o) (GivesOut k)
gives_out w f o k n m h l = by (slice_get w.objects o) refl h
  where
    by : (x : Option Body) → slice_get w.objects o ≡ x → option_map stock_in x ≡ Some (Pipe n m) → IsSomeAnd (option_and_then pipe_in x) (GivesOut k)
    by None e g = absurd cc
    by (Some (FileBody q)) e g = absurd cc
    by (Some (PipeBody p)) e g = let same : filled p ≡ n = cc in record { formed = f.objects o (PipeBody p) e; there = subst (λ z. k ≤ z) (sym same) l }
    by (Some (EventBody q)) e g = absurd cc

pub takes_in : (w : WorldState) → WorldFormed w → PutsWithin (2 ^ 63) w → (o k n m : ℕ) → stock_of w o ≡ Some (Pipe n m) → k ≤ m - n → IsSomeAnd (pipe_of w o) (TakesIn k)
takes_in w f puts o k n m h l = by (slice_get w.objects o) refl h
  where
    by : (x : Option Body) → slice_get w.objects o ≡ x → option_map stock_in x ≡ Some (Pipe n m) → IsSomeAnd (option_and_then pipe_in x) (TakesIn k)
    by None e g = absurd cc
    by (Some (FileBody q)) e g = absurd cc
    by (Some (PipeBody p)) e g =
        let one : filled p ≡ n = cc in
        let two : length p.slots ≡ m = cc in
        let formed : PipeFormed p = f.objects o (PipeBody p) e in
        let most = formed.most in
        let put : p.put ≤ 2 ^ 63 = puts o p (ap (option_and_then pipe_in) e) in
        record { formed = formed; room = subst (λ z. k ≤ z) (sym (ap (λ z. z - filled p) two ∙ ap (λ z. m - z) one)) l; count = omega (arith, two, most, l, put) }
    by (Some (EventBody q)) e g = absurd cc

pub counts_to : (w : WorldState) (o n number : ℕ) → stock_of w o ≡ Some (EventFd n) → n + number < 2 ^ 64 - 1 → IsSomeAnd (counter_of w o) (λ m. m + number < 2 ^ 64 - 1)
counts_to = grind arith

-- The outcome of a request, for its opcode and descriptor.
outcome_is : (held : ℕ → Bool) (w : WorldState) (row : Row) (d : DescriptorState) (op : Op) (c : Choice) (res : ℤ) (k : ℕ) → op_of row.entry.opcode ≡ Some op → held_descriptor w row ≡ Some d → pos k ≡ res → outcome_of held w row c ≡ Res res → outcome_on held w row.entry (Some op) (Some d) c ≡ Res (pos k)
outcome_is held w row d op c res k o h e g = sym (ap (λ x. outcome_on held w row.entry x (held_descriptor w row) c) o ∙ ap (λ x. outcome_on held w row.entry (Some op) x c) h) ∙ g ∙ ap Res (sym e)

pub row_read : (held : ℕ → Bool) (w : WorldState) (row : Row) (d : DescriptorState) (s : Stock) (c : Choice) (res : ℤ) (k : ℕ) → WorldFormed w → op_of row.entry.opcode ≡ Some Read → held_descriptor w row ≡ Some d → stock_of w d.object ≡ Some s → pos k ≡ res → outcome_of held w row c ≡ Res res → ReadKeeps row.entry (position_of (Some d)) k s
row_read = grind (arith, read_keeps, stock_fits, outcome_is)

pub row_written : (held : ℕ → Bool) (w : WorldState) (row : Row) (d : DescriptorState) (s : Stock) (c : Choice) (res : ℤ) (k : ℕ) → op_of row.entry.opcode ≡ Some Write → held_descriptor w row ≡ Some d → stock_of w d.object ≡ Some s → pos k ≡ res → outcome_of held w row c ≡ Res res → WriteKeeps row.entry (position_of (Some d)) (number_at w row.entry.addr) k s
row_written = grind (arith, write_keeps)

-- A present file satisfies its invariant.
pub file_there : (w : WorldState) → WorldFormed w → (o : ℕ) → IsSome (file_of w o) → IsSomeAnd (file_of w o) FileFormed
file_there = grind (arith, file_formed)
