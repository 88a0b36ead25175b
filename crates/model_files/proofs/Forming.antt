-- Each step preserves the invariant of the world.
use Rattle.std.proofs.Common.{◌≡◌, ℕ, zero, suc, false, refl, sym, ◌∙◌, ap, subst, List, [], ◌∷◌, length, take, drop, ◌+◌, ◌-◌, ◌≤◌, length-append, length-take, arith}
use Rattle.std.specs.Prelude.{Option, Some, None, IsSomeAnd, slice_get, map, ◌<◌, ◌^◌}
use Rattle.std.specs.Option.{option_and_then}
use Rattle.std.proofs.lemmas.List.{take_at, length-map, length-replicate}
use Rattle.places.specs.Lists.{updated}
use Rattle.places.proofs.ListLemmas.{length-updated}
use Rattle.places.specs.declared.object.Contents.{Contents}
use Rattle.places.specs.declared.object.Contents.TheVariants.{File as FileOf, Pipe as PipeOf, EventFd as EventFdOf}
use Rattle.places.specs.declared.object.Descriptor.{Descriptor}
use Rattle.places.specs.declared.object.Object.{Object}
use Rattle.model_files.specs.declared.body.Body.{Body}
use Rattle.model_files.specs.declared.descriptor.DescriptorState.{DescriptorState}
use Rattle.model_files.specs.declared.body.Body.TheVariants.{File, Pipe, EventFd}
use Rattle.model_files.specs.Files.{FileState, FileFormed, content, content_written, file_start, padded, part, written, synced, zeros}
use Rattle.model_files.specs.Pipes.{PipeState, PipeFormed, GivesOut, TakesIn, filled, room_in, put_in, taken_out}
use Rattle.model_files.specs.Worlds.{WorldState, WorldFormed, BodyFormed, ContentsFit, body_start, descriptor_start, position_start, bytes_of, file_in, file_of, pipe_in, pipe_of, counter_in, counter_of, counter_bytes, oldest, on_file, on_pipe, on_counter, world_taken, world_put, world_added, world_cleared, world_start, world_read, world_written, world_synced, world_at, world_closed, world_stored}
use Rattle.model_files.proofs.Wrapping.{length-bytes_from, length-slots_with}
use Rattle.model_files.proofs.Overwriting.{length-content, length-overwritten, most_written}

length-padded : (c : List ℕ) → length c ≤ 65536 → length (padded c) ≡ 65536
length-padded c h =
    let z : length (zeros (65536 - length c)) ≡ 65536 - length c = length-replicate (65536 - length c) 0 in
    length-append c (zeros (65536 - length c)) ∙ omega (arith, z)

take-padded : (c : List ℕ) → take (length c) (padded c) ≡ c
take-padded c = take_at c (zeros (65536 - length c)) (length c) refl

pub start_formed : (bytes : List ℕ) → length bytes ≤ 65536 → FileFormed (file_start bytes)
start_formed bytes h = record {
  sized = record { bytes = length-padded bytes h; len = h; durable = length-padded bytes h; durable_len = h };
  bytes = ap padded (sym (take-padded bytes));
  durable = ap padded (sym (take-padded bytes));
}

pub written_formed : (f : FileState) (at : ℕ) (others : List ℕ) → FileFormed f → at + length others ≤ 65536 → FileFormed (written others at f)
written_formed f at others h k =
    let l = most_written (content f) at others in
    let n = length-content f h.sized in
    let b = h.sized.len in
    let most : length (content_written (content f) at others) ≤ 65536 = omega (arith, l, n, b) in
    record {
      sized = record { bytes = length-padded (content_written (content f) at others) most; len = most; durable = h.sized.durable; durable_len = h.sized.durable_len };
      bytes = ap padded (sym (take-padded (content_written (content f) at others)));
      durable = h.durable;
    }

pub synced_formed : (f : FileState) → FileFormed f → FileFormed (synced f)
synced_formed f h = record {
  sized = record { bytes = h.sized.bytes; len = h.sized.len; durable = h.sized.bytes; durable_len = h.sized.len };
  bytes = h.bytes;
  durable = h.bytes;
}

pub put_formed : (p : PipeState) (bs : List ℕ) → PipeFormed p → length bs ≤ room_in p → PipeFormed (put_in bs p)
put_formed p bs f h =
    let size = length-slots_with p.slots p.put bs in
    let had : filled p ≡ p.put - p.taken = refl in
    let order = f.order in
    let within = f.within in
    record { some = let x = f.some in omega (arith, size); most = let x = f.most in omega (arith, size); order = omega arith; within = omega (arith, size, had, h, order, within) }

pub taken_formed : (p : PipeState) (k : ℕ) → PipeFormed p → k ≤ filled p → PipeFormed (taken_out k p)
taken_formed p k f h =
    let had : filled p ≡ p.put - p.taken = refl in
    let order = f.order in
    let within = f.within in
    record { some = f.some; most = f.most; order = omega (arith, had, h); within = omega arith }

-- If a change preserves the invariant of an object, changing one object preserves those of all.
bodies_changed : (g : Body → Body) (os : List Body) (o : ℕ) → ((b : Body) → slice_get os o ≡ Some b → BodyFormed b → BodyFormed (g b)) → ((j : ℕ) (b : Body) → slice_get os j ≡ Some b → BodyFormed b)
    → (j : ℕ) (b : Body) → slice_get (updated g os o) j ≡ Some b → BodyFormed b
bodies_changed g [] o keep all j b e = all j b e
bodies_changed g (x ∷ os) zero keep all zero b e = let k : g x ≡ b = cc in subst BodyFormed k (keep x refl (all 0 x refl))
bodies_changed g (x ∷ os) zero keep all (suc j) b e = all (suc j) b e
bodies_changed g (x ∷ os) (suc o) keep all zero b e = all 0 b e
bodies_changed g (x ∷ os) (suc o) keep all (suc j) b e = bodies_changed g os o keep (λ i h k. all (suc i) h k) j b e

-- The objects of a world that satisfies its invariant satisfy theirs.
pub file_formed : (w : WorldState) → WorldFormed w → (o : ℕ) (f : FileState) → file_of w o ≡ Some f → FileFormed f
file_formed w h o f e = by (slice_get w.objects o) refl e
  where
    by : (x : Option Body) → slice_get w.objects o ≡ x → option_and_then file_in x ≡ Some f → FileFormed f
    by None k e = absurd cc
    by (Some (File g)) k e = let same : g ≡ f = cc in subst FileFormed same (h.objects o (File g) k)
    by (Some (Pipe p)) k e = absurd cc
    by (Some (EventFd n)) k e = absurd cc

pub world_read_formed : (o offset k addr : ℕ) (w : WorldState) → WorldFormed w → addr + k ≤ 65536 → WorldFormed (world_read o offset k addr w)
world_read_formed o offset k addr w h within =
    let bytes = bytes_of (file_of w o) in
    let d = length-take k (drop offset bytes) in
    let m = h.memory in
    let l = length-overwritten w.memory addr (part bytes offset k) (omega arith) in
    record { memory = l ∙ omega (arith, d, m); objects = h.objects; few = h.few; positions = h.positions }

pub world_written_formed : (o offset k addr : ℕ) (w : WorldState) → WorldFormed w → offset + k ≤ 65536 → WorldFormed (world_written o offset k addr w)
world_written_formed o offset k addr w h within =
    record {
      memory = h.memory;
      objects = bodies_changed (on_file (written (part w.memory addr k) offset)) w.objects o keep h.objects;
      few = h.few;
      positions = h.positions;
    }
  where
    keep : (b : Body) → slice_get w.objects o ≡ Some b → BodyFormed b → BodyFormed (on_file (written (part w.memory addr k) offset) b)
    keep (File f) e x = let d = length-take k (drop addr w.memory) in written_formed f offset (part w.memory addr k) x (omega (arith, d, within))
    keep (Pipe p) e x = x
    keep (EventFd n) e x = x

pub world_synced_formed : (o : ℕ) (w : WorldState) → WorldFormed w → WorldFormed (world_synced o w)
world_synced_formed o w h = record { memory = h.memory; objects = bodies_changed (on_file synced) w.objects o keep h.objects; few = h.few; positions = h.positions }
  where
    keep : (b : Body) → slice_get w.objects o ≡ Some b → BodyFormed b → BodyFormed (on_file synced b)
    keep (File f) e x = synced_formed f x
    keep (Pipe p) e x = x
    keep (EventFd n) e x = x

-- If a change keeps a position within its limit, changing one descriptor keeps all within it.
positions_changed : (g : DescriptorState → DescriptorState) → ((d : DescriptorState) (n : ℕ) → ((m : ℕ) → d.position ≡ Some m → m ≤ 65536) → (g d).position ≡ Some n → n ≤ 65536) → (ds : List DescriptorState)
    → ((i : ℕ) (d : DescriptorState) (n : ℕ) → slice_get ds i ≡ Some d → d.position ≡ Some n → n ≤ 65536) → (o i : ℕ) (d : DescriptorState) (n : ℕ) → slice_get (updated g ds o) i ≡ Some d → d.position ≡ Some n → n ≤ 65536
positions_changed g keep [] all o i d n e p = all i d n e p
positions_changed g keep (x ∷ ds) all zero zero d n e p = let k : g x ≡ d = cc in keep x n (λ m q. all 0 x m refl q) (ap (λ (y : DescriptorState). y.position) k ∙ p)
positions_changed g keep (x ∷ ds) all zero (suc i) d n e p = all (suc i) d n e p
positions_changed g keep (x ∷ ds) all (suc o) zero d n e p = all 0 d n e p
positions_changed g keep (x ∷ ds) all (suc o) (suc i) d n e p = positions_changed g keep ds (λ j y m q r. all (suc j) y m q r) o i d n e p

pub world_at_formed : (fd n : ℕ) (w : WorldState) → WorldFormed w → n ≤ 65536 → WorldFormed (world_at fd n w)
world_at_formed fd n w h l = record {
  memory = h.memory;
  objects = h.objects;
  few = subst (λ k. k ≤ 64) (sym (length-updated (λ d. record d { position = Some n }) w.descriptors (fd - 3))) h.few;
  positions = positions_changed (λ d. record d { position = Some n }) (λ d m all e. let same : n ≡ m = cc in subst (λ k. k ≤ 65536) same l) w.descriptors h.positions (fd - 3);
}

pub world_closed_formed : (fd : ℕ) (w : WorldState) → WorldFormed w → WorldFormed (world_closed fd w)
world_closed_formed fd w h = record {
  memory = h.memory;
  objects = h.objects;
  few = subst (λ k. k ≤ 64) (sym (length-updated (λ d. record d { is_open = false }) w.descriptors (fd - 3))) h.few;
  positions = positions_changed (λ d. record d { is_open = false }) (λ d m all e. all m e) w.descriptors h.positions (fd - 3);
}

pub world_stored_formed : (addr : ℕ) (bytes : List ℕ) (w : WorldState) → WorldFormed w → addr + length bytes ≤ 65536 → WorldFormed (world_stored addr bytes w)
world_stored_formed addr bytes w h within =
    let m = h.memory in
    let l = length-overwritten w.memory addr bytes (omega arith) in
    record { memory = l ∙ omega (arith, m); objects = h.objects; few = h.few; positions = h.positions }

-- ---- Pipes and eventfds

pub world_taken_formed : (o k addr : ℕ) (w : WorldState) → WorldFormed w → addr + k ≤ 65536 → IsSomeAnd (pipe_of w o) (GivesOut k) → WorldFormed (world_taken o k addr w)
world_taken_formed o k addr w h within there =
    let stored = world_stored_formed addr (oldest k (pipe_of w o)) w h (bytes (pipe_of w o) there) in
    record { memory = stored.memory; objects = bodies_changed (on_pipe (taken_out k)) w.objects o keep h.objects; few = h.few; positions = h.positions }
  where
    bytes : (x : Option PipeState) → IsSomeAnd x (GivesOut k) → addr + length (oldest k x) ≤ 65536
    bytes None t = absurd t
    bytes (Some p) t = let n = length-bytes_from p.slots p.taken k in omega (arith, n, within)

    keep : (b : Body) → slice_get w.objects o ≡ Some b → BodyFormed b → BodyFormed (on_pipe (taken_out k) b)
    keep (File f) e x = x
    keep (Pipe p) e x = let g : GivesOut k p = subst (λ (y : Option PipeState). IsSomeAnd y (GivesOut k)) (ap (option_and_then pipe_in) e) there in taken_formed p k x g.there
    keep (EventFd n) e x = x

pub world_put_formed : (o k addr : ℕ) (w : WorldState) → WorldFormed w → IsSomeAnd (pipe_of w o) (TakesIn k) → WorldFormed (world_put o k addr w)
world_put_formed o k addr w h there = record { memory = h.memory; objects = bodies_changed (on_pipe (put_in (part w.memory addr k))) w.objects o keep h.objects; few = h.few; positions = h.positions }
  where
    keep : (b : Body) → slice_get w.objects o ≡ Some b → BodyFormed b → BodyFormed (on_pipe (put_in (part w.memory addr k)) b)
    keep (File f) e x = x
    keep (Pipe p) e x =
        let g : TakesIn k p = subst (λ (y : Option PipeState). IsSomeAnd y (TakesIn k)) (ap (option_and_then pipe_in) e) there in
        let d = length-take k (drop addr w.memory) in
        let room = g.room in
        put_formed p (part w.memory addr k) x (omega (arith, d, room))
    keep (EventFd n) e x = x

pub world_added_formed : (o n : ℕ) (w : WorldState) → WorldFormed w → IsSomeAnd (counter_of w o) (λ m. m + n < 2 ^ 64 - 1) → WorldFormed (world_added o n w)
world_added_formed o n w h there = record { memory = h.memory; objects = bodies_changed (on_counter (λ m. m + n)) w.objects o keep h.objects; few = h.few; positions = h.positions }
  where
    keep : (b : Body) → slice_get w.objects o ≡ Some b → BodyFormed b → BodyFormed (on_counter (λ m. m + n) b)
    keep (File f) e x = x
    keep (Pipe p) e x = x
    keep (EventFd m) e x = subst (λ (y : Option ℕ). IsSomeAnd y (λ i. i + n < 2 ^ 64 - 1)) (ap (option_and_then counter_in) e) there

pub world_cleared_formed : (o addr : ℕ) (w : WorldState) → WorldFormed w → addr + 8 ≤ 65536 → WorldFormed (world_cleared o addr w)
world_cleared_formed o addr w h within =
    let stored = world_stored_formed addr (counter_bytes (counter_of w o)) w h (bytes (counter_of w o)) in
    record { memory = stored.memory; objects = bodies_changed (on_counter (λ n. 0)) w.objects o keep h.objects; few = h.few; positions = h.positions }
  where
    bytes : (x : Option ℕ) → addr + length (counter_bytes x) ≤ 65536
    bytes None = omega (arith, within)
    bytes (Some n) = within

    keep : (b : Body) → slice_get w.objects o ≡ Some b → BodyFormed b → BodyFormed (on_counter (λ n. 0) b)
    keep (File f) e x = x
    keep (Pipe p) e x = x
    keep (EventFd m) e x = omega arith

-- ---- The start of a run

contents_formed : (c : Contents) → ContentsFit c → BodyFormed (body_start c)
contents_formed (FileOf bytes) h = start_formed bytes h
contents_formed (PipeOf capacity) h =
    let size : length (zeros capacity) ≡ capacity = length-replicate capacity 0 in
    let some = h.0 in
    let most = h.1 in
    record { some = omega (arith, size, some); most = omega (arith, size, most); order = omega arith; within = omega arith }
contents_formed (EventFdOf counter) h = h

started : (os : List Object) → ((i : ℕ) (o : Object) → slice_get os i ≡ Some o → ContentsFit o.contents) → (j : ℕ) (b : Body) → slice_get (map (λ (o : Object). body_start o.contents) os) j ≡ Some b → BodyFormed b
started [] fit j b e = absurd cc
started (o ∷ os) fit zero b e = let same : body_start o.contents ≡ b = cc in subst BodyFormed same (contents_formed o.contents (fit 0 o refl))
started (o ∷ os) fit (suc j) b e = started os (λ i x k. fit (suc i) x k) j b e

at_start : (os : List Object) (x : Option Object) (n : ℕ) → option_and_then (λ (o : Object). position_start o.contents) x ≡ Some n → n ≤ 65536
at_start os None n e = absurd cc
at_start os (Some o) n e = by o.contents e
  where
    by : (c : Contents) → position_start c ≡ Some n → n ≤ 65536
    by (FileOf bytes) k = let z : 0 ≡ n = cc in omega arith
    by (PipeOf capacity) k = absurd cc
    by (EventFdOf counter) k = absurd cc

started_at : (os : List Object) (ds : List Descriptor) (i : ℕ) (d : DescriptorState) (n : ℕ) → slice_get (map (descriptor_start os) ds) i ≡ Some d → d.position ≡ Some n → n ≤ 65536
started_at os [] i d n e p = absurd cc
started_at os (x ∷ ds) zero d n e p = let k : descriptor_start os x ≡ d = cc in at_start os (slice_get os x.object) n (ap (λ (y : DescriptorState). y.position) k ∙ p)
started_at os (x ∷ ds) (suc i) d n e p = started_at os ds i d n e p

pub world_start_formed : (memory : List ℕ) (os : List Object) (ds : List Descriptor) → length memory ≤ 65536 → ((i : ℕ) (o : Object) → slice_get os i ≡ Some o → ContentsFit o.contents) → length ds ≤ 64 → WorldFormed (world_start memory os ds)
world_start_formed memory os ds h fit few = record { memory = length-padded memory h; objects = started os fit; few = subst (λ n. n ≤ 64) (sym (length-map ds (descriptor_start os))) few; positions = started_at os ds }
