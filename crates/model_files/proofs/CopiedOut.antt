-- Facts about the notes of a transfer from a pipe or an eventfd into memory.
use Rattle.std.proofs.Common.{◌≡◌, ℕ, Bool, true, false, cond, refl, sym, ◌∙◌, ap, subst, List, ◌++◌, length, take, drop, append_assoc, ◌+◌, ◌-◌, ◌<◌, ◌≤◌, ◌⊎◌, inl, inr, get_or, arith}
use Rattle.std.specs.Int.{w64, to_le_bytes}
use Rattle.std.specs.Prelude.{Some, None, IsSome, slice_get}
use Rattle.std.specs.Option.{option_and_then}
use Rattle.std.proofs.lemmas.Bool.{eqb-true}
use Rattle.std.proofs.lemmas.Grind.{common_steps}
use Rattle.std.proofs.lemmas.Option.{gets, slice_get_past, slice_get_within}
use Rattle.places.specs.declared.place.Place.{Place}
use Rattle.places.specs.declared.place.Place.TheVariants.{MemoryByte, TakenCount, EventCount}
use Rattle.places.specs.declared.value.Change.{Change}
use Rattle.places.specs.declared.value.Value.TheVariants.{Number}
use Rattle.places.specs.declared.notes.runs.Region.TheVariants.{Memory}
use Rattle.places.specs.View.{View, named, Keeps, Noted}
use Rattle.places.proofs.ListLemmas.{same_list}
use Rattle.places.proofs.Keeping.{keeps_then, keeps_unchanged, noted_keeps}
use Rattle.model_files.specs.declared.body.Body.{Body}
use Rattle.model_files.specs.declared.body.Body.TheVariants.{Pipe, EventFd}
use Rattle.model_files.specs.Differing.{NotedAmong, NamesDiffering}
use Rattle.model_files.specs.Files.{overwritten, part}
use Rattle.model_files.specs.Objects.{object_owns, NamesChanges}
use Rattle.model_files.specs.Pipes.{PipeState, pipe_seen, bytes_from, taken_out}
use Rattle.model_files.specs.Worlds.{WorldState, world_owns, world_seen, body_seen, pipe_in, pipe_of, counter_in, counter_of, on_pipe, on_counter, oldest, counter_bytes, world_stored, world_taken, world_cleared}
use Rattle.model_files.proofs.Among.{among_fresh, among_named}
use Rattle.model_files.proofs.Comparing.{slice_get-part, slice_get-part_past}
use Rattle.model_files.proofs.Lifting.{with_body, seen_of_set, own_seen, keeps_object, changed_body, found_body}
use Rattle.model_files.proofs.Noting.{below_or_not, keeps_changed, length-part, noted_named}
use Rattle.model_files.proofs.Piping.{keeps_counter}
use Rattle.model_files.proofs.Remembering.{keeps_memory_bytes, names_memory}

names_then : (owns : Place → Bool) (u v w : View) (ds : List Change) → NamesChanges owns u v ds → NamesChanges owns v w ds → NamesChanges owns u w ds
names_then owns u v w ds h k q own e = k q own e ∙ h q own e

-- If the changes of an object have notes, those of the world do.
names_object : (w : WorldState) (o : ℕ) (b c : Body) (ds : List Change) → slice_get w.objects o ≡ Some b → NamesChanges (object_owns o) (body_seen b) (body_seen c) ds → NamesChanges world_owns (world_seen w) (world_seen (with_body w o c)) ds
names_object w o b c ds h k q own e = seen_of_set w o c q (slice_get_within w.objects o b h) ∙ by (object_owns o q) refl
  where
    by : (t : Bool) → object_owns o q ≡ t → cond t (body_seen c q) (world_seen w q) ≡ world_seen w q
    by true f = k q f e ∙ sym (own_seen w o b q h f)
    by false f = refl

-- ---- Memory in two parts

-- Recording the first part of memory adds no note of the second part.
pub second_part_fresh : (w : WorldState) (addr n m : ℕ) (cs ds : List Change) → addr + n ≤ length w.memory → NotedAmong cs ds Memory addr (part w.memory addr n) → ((i : ℕ) → i < n + m → named cs (MemoryByte (addr + i)) ≡ None) → (i : ℕ) → i < m → named ds (MemoryByte ((addr + n) + i)) ≡ None
second_part_fresh w addr n m cs ds h a fresh i l =
    let size = length-part w.memory addr n h in
    among_fresh cs ds Memory addr (part w.memory addr n) a ((addr + n) + i) (omega (arith, size)) (ap (λ z. named cs (MemoryByte z)) (let e : (addr + n) + i ≡ addr + (n + i) = omega arith in e) ∙ fresh (n + i) (omega arith))

differing_both : (xs first second : List ℕ) (at : ℕ) (ds es : List Change) → NotedAmong ds es Memory (at + length first) (part xs (at + length first) (length second)) → NamesDiffering ds Memory at (part xs at (length first)) first → NamesDiffering es Memory (at + length first) (part xs (at + length first) (length second)) second
    → NamesDiffering es Memory at (part xs at (length first + length second)) (first ++ second)
differing_both xs first second at ds es a one two i e = by (below_or_not i (length first)) (below_or_not i (length first + length second))
  where
    front : i < length first → slice_get (first ++ second) i ≡ slice_get first i
    front l = grind (arith, common_steps, gets)

    back : length first ≤ i → slice_get (first ++ second) i ≡ slice_get second (i - length first)
    back l = grind (arith, common_steps, gets)

    by : (i < length first) ⊎ (length first ≤ i) → (i < length first + length second) ⊎ (length first + length second ≤ i) → slice_get (part xs at (length first + length second)) i ≡ slice_get (first ++ second) i
    by (inl l) b =
        slice_get-part xs at (length first + length second) i (omega arith) ∙ sym (slice_get-part xs at (length first) i l)
        ∙ one i (among_named ds es Memory (at + length first) (part xs (at + length first) (length second)) a (MemoryByte (at + i)) e) ∙ sym (front l)
    by (inr l) (inl b) =
        let there : at + i ≡ (at + length first) + (i - length first) = omega arith in
        slice_get-part xs at (length first + length second) i b ∙ ap (slice_get xs) there ∙ sym (slice_get-part xs (at + length first) (length second) (i - length first) (omega arith))
        ∙ two (i - length first) (ap (λ z. named es (MemoryByte z)) (sym there) ∙ e) ∙ sym (back l)
    by (inr l) (inr b) = slice_get-part_past xs at (length first + length second) i b ∙ sym (back l ∙ slice_get_past second (i - length first) (omega arith))

-- Recording two parts of memory, before they are written, doesn't change what undoing gives.
pub keeps_two : (w : WorldState) (at k l m : ℕ) (cs ds es : List Change) → NotedAmong cs ds Memory at (part w.memory at k) → NotedAmong ds es Memory l (part w.memory l m) → Keeps world_owns (world_seen w) (world_seen w) cs es
keeps_two w at k l m cs ds es a b = keeps_then world_owns (world_seen w) (world_seen w) (world_seen w) cs ds es (keeps_memory_bytes w at k cs ds a) (keeps_memory_bytes w l m ds es b)

-- ---- Reading from a pipe

-- Recording the count of read bytes doesn't change what undoing gives.
pub keeps_count : (w : WorldState) (o : ℕ) (p : PipeState) (ds es : List Change) → slice_get w.objects o ≡ Some (Pipe p) → Noted ds es (TakenCount o) (Some (Number p.taken)) → Keeps world_owns (world_seen w) (world_seen w) ds es
keeps_count w o p ds es h n = keeps_unchanged world_owns (world_seen w) ds es (TakenCount o) refl (subst (λ x. Noted ds es (TakenCount o) x) (sym (ap (option_and_then (λ (b : Body). body_seen b (TakenCount o))) h)) n)

names_count : (o k : ℕ) (p : PipeState) (ds es : List Change) → Noted ds es (TakenCount o) (Some (Number p.taken)) → NamesChanges (object_owns o) (pipe_seen p) (pipe_seen (taken_out k p)) es
names_count o k p ds es n (TakenCount y) own h = absurd (noted_named ds es (TakenCount o) (Some (Number p.taken)) n (ap (λ z. named es (TakenCount z)) (eqb-true o y own) ∙ h))
names_count o k p ds es n _ own h = refl

oldest_of : (w : WorldState) (o k : ℕ) (p : PipeState) → slice_get w.objects o ≡ Some (Pipe p) → oldest k (pipe_of w o) ≡ bytes_from p.slots p.taken k
oldest_of w o k p h = ap (oldest k) (ap (option_and_then pipe_in) h)

-- Storing the bytes in memory and then removing them from the pipe is `world_taken`.
pub taken_is : (w v : WorldState) (o k addr : ℕ) (b c : Body) → v ≡ world_stored addr (oldest k (pipe_of w o)) w → IsSome (pipe_of w o) → b ≡ get_or v.objects o b → c ≡ on_pipe (taken_out k) b → with_body v o c ≡ world_taken o k addr w
taken_is w v o k addr b c e there r d =
    let found : slice_get w.objects o ≡ Some b = found_body pipe_in w o b there (r ∙ ap (λ (x : WorldState). get_or x.objects o b) e) in
    ap (λ (x : WorldState). with_body x o c) e ∙ changed_body (on_pipe (taken_out k)) (world_stored addr (oldest k (pipe_of w o)) w) o b c found d

pub keeps_taken : (w v : WorldState) (o k addr : ℕ) (cs ds : List Change) → v ≡ world_taken o k addr w → Keeps world_owns (world_seen w) (world_seen w) cs ds → NamesChanges world_owns (world_seen w) (world_seen (world_taken o k addr w)) ds → Keeps world_owns (world_seen w) (world_seen v) cs ds
keeps_taken w v o k addr cs ds e h n = subst (λ (x : WorldState). Keeps world_owns (world_seen w) (world_seen x) cs ds) (sym e) (keeps_changed world_owns (world_seen w) (world_seen w) (world_seen (world_taken o k addr w)) cs ds h n)

-- All changes have notes.
pub names_taken : (w : WorldState) (o k addr : ℕ) (p : PipeState) (first second : List ℕ) (ds es fs : List Change) → slice_get w.objects o ≡ Some (Pipe p) → first ++ second ≡ bytes_from p.slots p.taken k → addr + (length first + length second) ≤ length w.memory
    → NamesDiffering ds Memory addr (part w.memory addr (length first)) first → NotedAmong ds es Memory (addr + length first) (part w.memory (addr + length first) (length second)) → NamesDiffering es Memory (addr + length first) (part w.memory (addr + length first) (length second)) second
    → Noted es fs (TakenCount o) (Some (Number p.taken)) → NamesChanges world_owns (world_seen w) (world_seen (world_taken o k addr w)) fs
names_taken w o k addr p first second ds es fs h bytes within one a two n =
    subst (λ (v : WorldState). NamesChanges world_owns (world_seen w) (world_seen v) fs) (changed_body (on_pipe (taken_out k)) stored o (Pipe p) (Pipe (taken_out k p)) h refl)
    (names_then world_owns (world_seen w) (world_seen stored) (world_seen (with_body stored o (Pipe (taken_out k p)))) fs memory (names_object stored o (Pipe p) (Pipe (taken_out k p)) fs h (names_count o k p es fs n)))
  where
    stored : WorldState
    stored = world_stored addr (oldest k (pipe_of w o)) w

    both : NamesDiffering fs Memory addr (part w.memory addr (length first + length second)) (first ++ second)
    both i e = differing_both w.memory first second addr ds es a one two i (noted_keeps es fs (TakenCount o) (Some (Number p.taken)) n (MemoryByte (addr + i)) e)

    size : length (first ++ second) ≡ length first + length second
    size = grind (arith, common_steps)

    memory : NamesChanges world_owns (world_seen w) (world_seen stored) fs
    memory = subst (λ (xs : List ℕ). NamesChanges world_owns (world_seen w) (world_seen (world_stored addr xs w)) fs) (bytes ∙ sym (oldest_of w o k p h)) (names_memory w addr (length first + length second) (first ++ second) fs within size both)

-- Bytes are stored in two parts.
front_stays : (xs first : List ℕ) (at : ℕ) → at + length first ≤ length xs → take (at + length first) (overwritten xs at first) ≡ take at xs ++ first
front_stays xs first at h = same_list _ _ (λ i. grind (arith, common_steps, gets))

rest_stays : (xs first second : List ℕ) (at : ℕ) → at + (length first + length second) ≤ length xs → drop ((at + length first) + length second) (overwritten xs at first) ≡ drop (at + length (first ++ second)) xs
rest_stays xs first second at h = same_list _ _ (λ i. grind (arith, common_steps, gets))

overwritten_both : (xs first second : List ℕ) (at : ℕ) → at + (length first + length second) ≤ length xs → overwritten (overwritten xs at first) (at + length first) second ≡ overwritten xs at (first ++ second)
overwritten_both xs first second at h =
    ap (λ ys. ys ++ (second ++ drop ((at + length first) + length second) (overwritten xs at first))) (front_stays xs first at (omega arith))
    ∙ ap (λ ys. (take at xs ++ first) ++ (second ++ ys)) (rest_stays xs first second at h)
    ∙ append_assoc (take at xs) first (second ++ drop (at + length (first ++ second)) xs)
    ∙ ap (λ ys. take at xs ++ ys) (sym (append_assoc first second (drop (at + length (first ++ second)) xs)))

pub copied_is : (w : WorldState) (o k addr : ℕ) (p : PipeState) (first second one two : List ℕ) → slice_get w.objects o ≡ Some (Pipe p) → first ++ second ≡ bytes_from p.slots p.taken k → addr + (length first + length second) ≤ length w.memory
    → one ≡ overwritten w.memory addr first → two ≡ overwritten one (addr + length first) second → record w { memory = two } ≡ world_stored addr (oldest k (pipe_of w o)) w
copied_is w o k addr p first second one two h bytes within a b =
    ap (λ (xs : List ℕ). record w { memory = xs })
    (b ∙ ap (λ xs. overwritten xs (addr + length first) second) a ∙ overwritten_both w.memory first second addr within ∙ ap (overwritten w.memory addr) (bytes ∙ sym (oldest_of w o k p h)))

-- ---- The counter of an eventfd

-- Recording memory and a counter, and then storing the counter's bytes and resetting it, doesn't
-- change what undoing gives.
pub keeps_cleared : (w : WorldState) (o addr n : ℕ) (bytes memory : List ℕ) (cs ds es : List Change) → slice_get w.objects o ≡ Some (EventFd n) → addr + length bytes ≤ length w.memory → NotedAmong cs ds Memory addr (part w.memory addr (length bytes)) → NamesDiffering ds Memory addr (part w.memory addr (length bytes)) bytes
    → Noted ds es (EventCount o) (Some (Number n)) → memory ≡ overwritten w.memory addr bytes → Keeps world_owns (world_seen w) (world_seen (record (with_body w o (EventFd 0)) { memory = memory })) cs es
keeps_cleared w o addr n bytes memory cs ds es h within a one k m =
    subst (λ (xs : List ℕ). Keeps world_owns (world_seen w) (world_seen (record (with_body w o (EventFd 0)) { memory = xs })) cs es) (sym m)
    (keeps_changed world_owns (world_seen w) (world_seen (with_body w o (EventFd 0))) (world_seen (with_body (world_stored addr bytes w) o (EventFd 0))) cs es
    (keeps_then world_owns (world_seen w) (world_seen w) (world_seen (with_body w o (EventFd 0))) cs ds es (keeps_memory_bytes w addr (length bytes) cs ds a) (keeps_object w o (EventFd n) (EventFd 0) ds es h (keeps_counter o n 0 ds es k)))
    (names_memory (with_body w o (EventFd 0)) addr (length bytes) bytes es within refl (λ i e. one i (noted_keeps ds es (EventCount o) (Some (Number n)) k (MemoryByte (addr + i)) e))))

pub cleared_is : (w : WorldState) (o addr n : ℕ) (bytes memory : List ℕ) → slice_get w.objects o ≡ Some (EventFd n) → bytes ≡ to_le_bytes w64 n → memory ≡ overwritten w.memory addr bytes → record (with_body w o (EventFd 0)) { memory = memory } ≡ world_cleared o addr w
cleared_is w o addr n bytes memory h is m =
    let counter : counter_of w o ≡ Some n = ap (option_and_then counter_in) h in
    ap (λ (xs : List ℕ). record (with_body w o (EventFd 0)) { memory = xs }) (m ∙ ap (overwritten w.memory addr) (is ∙ sym (ap counter_bytes counter)))
    ∙ changed_body (on_counter (λ m. 0)) (world_stored addr (counter_bytes (counter_of w o)) w) o (EventFd n) (EventFd 0) h refl
