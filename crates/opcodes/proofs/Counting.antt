-- Bounds on how many bytes have been written to a pipe over the whole run.
use Rattle.opcodes.proofs.Common.{◌≡◌, ℕ, ℤ, pos, negsuc, zero, suc, Bool, refl, sym, ◌∙◌, ap, List, [], ◌∷◌, length, drop, length-take, ◌+◌, ◌≤◌, arith, rules, Option, Some, None, slice_get, option_and_then, option_map_or, Sqe, Row, Body, DescriptorState, Stock, File, Pipe, EventFd, part, synced, written, PipeState, put_in, taken_out, WorldState, PutsWithin, descriptor_of, number_at, on_counter, on_file, on_pipe, pipe_in, stock_of, world_added, world_cleared, world_put, world_synced, world_taken, Choice, Op, Fsync, Read, Write, Res, op_of, outcome_of, held_descriptor, moved_on, bytes_read, bytes_written, done_by, world_after, updated}
use Rattle.opcodes.proofs.Transferring.{row_written}

-- The bound for a list of objects.
abbrev PutsIn : ℕ → List Body → Type 0
PutsIn n os = (j : ℕ) (p : PipeState) → option_and_then pipe_in (slice_get os j) ≡ Some p → p.put ≤ n

puts_changed : (g : Body → Body) (n m : ℕ) → n ≤ m → ((b : Body) (p : PipeState) → ((q : PipeState) → pipe_in b ≡ Some q → q.put ≤ n) → pipe_in (g b) ≡ Some p → p.put ≤ m) → (os : List Body) (o : ℕ) → PutsIn n os → PutsIn m (updated g os o)
puts_changed g n m l keep [] o all j p e = absurd cc
puts_changed g n m l keep (b ∷ os) zero all zero p e = keep b p (λ q k. all 0 q k) e
puts_changed g n m l keep (b ∷ os) zero all (suc j) p e = let k = all (suc j) p e in omega arith
puts_changed g n m l keep (b ∷ os) (suc o) all zero p e = let k = all 0 p e in omega arith
puts_changed g n m l keep (b ∷ os) (suc o) all (suc j) p e = puts_changed g n m l keep os o (λ i q k. all (suc i) q k) j p e

pub puts_more : (n m : ℕ) (w : WorldState) → n ≤ m → PutsWithin n w → PutsWithin m w
puts_more n m w l h o p e = let k = h o p e in omega arith

puts_file : (g : Body → Body) → ((b : Body) → pipe_in (g b) ≡ pipe_in b) → (n : ℕ) (os : List Body) (o : ℕ) → PutsIn n os → PutsIn n (updated g os o)
puts_file g same n os o h = puts_changed g n n (omega arith) (λ b p k e. k p (sym (same b) ∙ e)) os o h

files_same : (b : Body) (at : ℕ) (bytes : List ℕ) → pipe_in (on_file (written bytes at) b) ≡ pipe_in b
files_same = grind arith

syncs_same : (b : Body) → pipe_in (on_file synced b) ≡ pipe_in b
syncs_same = grind arith

counters_same : (g : ℕ → ℕ) (b : Body) → pipe_in (on_counter g b) ≡ pipe_in b
counters_same = grind arith

taken_keeps : (n k : ℕ) (b : Body) (p : PipeState) → ((q : PipeState) → pipe_in b ≡ Some q → q.put ≤ n) → pipe_in (on_pipe (taken_out k) b) ≡ Some p → p.put ≤ n
taken_keeps = grind arith

put_grows : (n k : ℕ) (bytes : List ℕ) → length bytes ≤ k → (b : Body) (p : PipeState) → ((q : PipeState) → pipe_in b ≡ Some q → q.put ≤ n) → pipe_in (on_pipe (put_in bytes) b) ≡ Some p → p.put ≤ n + k
put_grows = grind arith

puts_moved : (entry : Sqe) (fd k n : ℕ) (o : Option ℕ) (w : WorldState) → PutsWithin n w → PutsWithin n (moved_on entry fd o k w)
puts_moved = grind arith

puts_read : (entry : Sqe) (fd : ℕ) (d : DescriptorState) (k n : ℕ) (w : WorldState) → PutsWithin n w → PutsWithin n (bytes_read entry fd d k w)
puts_read entry fd d k n w h = puts_moved entry fd k n d.position _ h

puts_written : (entry : Sqe) (fd : ℕ) (d : DescriptorState) (k n : ℕ) (w : WorldState) → PutsWithin n w → PutsWithin n (bytes_written entry fd d k w)
puts_written = search (rules, puts_moved, puts_file, files_same)

puts_taken : (entry : Sqe) (o k n : ℕ) (w : WorldState) → PutsWithin n w → PutsWithin n (world_taken o k entry.addr w)
puts_taken entry o k n w h = puts_changed (on_pipe (taken_out k)) n n (omega arith) (taken_keeps n k) w.objects o h

puts_put : (entry : Sqe) (o k n : ℕ) (w : WorldState) → k ≤ 65536 → PutsWithin n w → PutsWithin (n + 65536) (world_put o k entry.addr w)
puts_put entry o k n w l h =
    let size = length-take k (drop entry.addr w.memory) in
    puts_changed (on_pipe (put_in (part w.memory entry.addr k))) n (n + 65536) (omega arith) (put_grows n 65536 (part w.memory entry.addr k) (omega (arith, size, l))) w.objects o h

-- A request writes at most 65,536 bytes to a pipe.
pub puts_after : (held : ℕ → Bool) (w : WorldState) (row : Row) (res : ℤ) (c : Choice) (n : ℕ) → outcome_of held w row c ≡ Res res → PutsWithin n w → PutsWithin (n + 65536) (world_after row res w)
puts_after held w row (negsuc k) c n h puts = puts_more n (n + 65536) w (omega arith) puts
puts_after held w row (pos k) c n h puts = holding row.held refl
  where
    more : (v : WorldState) → PutsWithin n v → PutsWithin (n + 65536) v
    more v x = puts_more n (n + 65536) v (omega arith) x

    through : (fd : ℕ) (d : DescriptorState) → held_descriptor w row ≡ Some d → (o : Option Op) (s : Option Stock) → op_of row.entry.opcode ≡ o → stock_of w d.object ≡ s → PutsWithin (n + 65536) (done_by row.entry o s fd d k w)
    through fd d here (Some Fsync) (Some (File m)) e i = more (world_synced d.object w) (puts_file (on_file synced) syncs_same n w.objects d.object puts)
    through fd d here (Some Read) (Some (File m)) e i = more (bytes_read row.entry fd d k w) (puts_read row.entry fd d k n w puts)
    through fd d here (Some Read) (Some (Pipe m l)) e i = more (world_taken d.object k row.entry.addr w) (puts_taken row.entry d.object k n w puts)
    through fd d here (Some Read) (Some (EventFd m)) e i = more (world_cleared d.object row.entry.addr w) (puts_file (on_counter (λ z. 0)) (counters_same (λ z. 0)) n w.objects d.object puts)
    through fd d here (Some Write) (Some (File m)) e i = more (bytes_written row.entry fd d k w) (puts_written row.entry fd d k n w puts)
    through fd d here (Some Write) (Some (Pipe m l)) e i =
        let t = row_written held w row d (Pipe m l) c (pos k) k e here i refl h in
        let most = t.1 in
        puts_put row.entry d.object k n w (omega (arith, most)) puts
    through fd d here (Some Write) (Some (EventFd m)) e i = more (world_added d.object (number_at w row.entry.addr) w) (puts_file (on_counter (λ z. z + number_at w row.entry.addr)) (counters_same (λ z. z + number_at w row.entry.addr)) n w.objects d.object puts)
    through fd d here o s e i = more w puts

    holding : (x : Option ℕ) → row.held ≡ x → PutsWithin (n + 65536) (option_map_or (λ fd. option_map_or (λ d. done_by row.entry (op_of row.entry.opcode) (stock_of w d.object) fd d k w) (descriptor_of w fd) w) x w)
    holding None e = more w puts
    holding (Some fd) e = at (descriptor_of w fd) refl
      where
        at : (y : Option DescriptorState) → descriptor_of w fd ≡ y → PutsWithin (n + 65536) (option_map_or (λ d. done_by row.entry (op_of row.entry.opcode) (stock_of w d.object) fd d k w) y w)
        at None g = more w puts
        at (Some d) g = through fd d (ap (option_and_then (descriptor_of w)) e ∙ g) (op_of row.entry.opcode) (stock_of w d.object) refl refl
