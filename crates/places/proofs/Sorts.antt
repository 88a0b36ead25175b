-- Notes of different kinds share no place.
use Rattle.std.proofs.Common.{◌≡◌, ◌≢◌, ℕ, ◌+◌, Bool, true, false, cond, refl, sym, ◌∙◌, ap, List, [], ◌∷◌, ◌++◌, take, drop}
use Rattle.std.specs.Prelude.{Option, Some, None, map, ◌==◌}
use Rattle.std.proofs.lemmas.Bool.{eq-eqb}
use Rattle.places.specs.declared.place.Place.{Place}
use Rattle.places.specs.declared.place.Place.TheVariants.{SubmissionHead, SubmissionTail, SubmissionFlags, SubmissionDropped, CompletionHead, CompletionTail, Array, Slot, Completion, MemoryByte, FileByte, DurableByte, FileLength, DurableLength, Position, OpenMark, PipeByte, PutCount, TakenCount, EventCount, Request, Backlog, BacklogFront, Clock, Counted, PollerStage, ProgramCounter, ThreadStage, Last, Got}
use Rattle.places.specs.declared.value.Value.{Value}
use Rattle.places.specs.declared.value.Value.TheVariants.{Byte}
use Rattle.places.specs.declared.value.Change.{Change}
use Rattle.places.specs.declared.notes.numbers.NumberNote.{NumberNote}
use Rattle.places.specs.declared.notes.completions.CompletionNote.{CompletionNote}
use Rattle.places.specs.declared.notes.rows.RowNote.{RowNote}
use Rattle.places.specs.declared.notes.rows.RowNote.TheVariants.{Absent, Was, Other}
use Rattle.places.specs.declared.notes.runs.Region.{Region}
use Rattle.places.specs.declared.notes.runs.Region.TheVariants.{Memory, File, Durable, Pipe}
use Rattle.places.specs.declared.notes.runs.Run.{Run}
use Rattle.places.specs.Places.{same_place, is_number, is_other}
use Rattle.places.specs.View.{View, named, NamesOnce, Noted}
use Rattle.places.specs.Slots.{number_change, completion_change, row_change}
use Rattle.places.specs.SlotLaws.{number_plain, other_lone}
use Rattle.places.specs.Runs.{place_in, old_bytes, run_changes, NotedBytes}
use Rattle.places.specs.Closed.{KeptOf}
use Rattle.places.specs.RestList.{RestList}
use Rattle.places.specs.All.{kind_changes, all_changes}
use Rattle.places.proofs.SamePlace.{same_place_is}
use Rattle.places.proofs.Marking.{named_nowhere}
use Rattle.places.proofs.ByteLemmas.{once_append}
use Rattle.places.proofs.Kept.{kept_append}
use Rattle.places.proofs.Joining.{noted_before_others, noted_after_others, bytes_after, none_append, sorts_apart}

-- The kinds of notes: numbers 0, completions 1, requests and other places 2, bytes 3.
pub sort_of : Place → ℕ
sort_of SubmissionHead = 0
sort_of SubmissionTail = 0
sort_of SubmissionFlags = 0
sort_of SubmissionDropped = 0
sort_of CompletionHead = 0
sort_of CompletionTail = 0
sort_of (Array i) = 0
sort_of (Slot i) = 2
sort_of (Completion i) = 1
sort_of (MemoryByte i) = 3
sort_of (FileByte o i) = 3
sort_of (DurableByte o i) = 3
sort_of (FileLength i) = 0
sort_of (DurableLength i) = 0
sort_of (Position i) = 0
sort_of (OpenMark i) = 0
sort_of (PipeByte o i) = 3
sort_of (PutCount i) = 0
sort_of (TakenCount i) = 0
sort_of (EventCount i) = 0
sort_of (Request i) = 2
sort_of (Backlog i) = 2
sort_of BacklogFront = 0
sort_of Clock = 0
sort_of Counted = 0
sort_of PollerStage = 2
sort_of (ProgramCounter i) = 0
sort_of (ThreadStage i) = 2
sort_of (Last i) = 2
sort_of (Got i) = 2

pub number_sort : (p : Place) → is_number p ≡ true → sort_of p ≡ 0
unfolding sort_of
number_sort SubmissionHead h = refl
number_sort SubmissionTail h = refl
number_sort SubmissionFlags h = refl
number_sort SubmissionDropped h = refl
number_sort CompletionHead h = refl
number_sort CompletionTail h = refl
number_sort (Array i) h = refl
number_sort (Slot i) h = absurd cc
number_sort (Completion i) h = absurd cc
number_sort (MemoryByte i) h = absurd cc
number_sort (FileByte o i) h = absurd cc
number_sort (DurableByte o i) h = absurd cc
number_sort (FileLength i) h = refl
number_sort (DurableLength i) h = refl
number_sort (Position i) h = refl
number_sort (OpenMark i) h = refl
number_sort (PipeByte o i) h = absurd cc
number_sort (PutCount i) h = refl
number_sort (TakenCount i) h = refl
number_sort (EventCount i) h = refl
number_sort (Request i) h = absurd cc
number_sort (Backlog i) h = absurd cc
number_sort BacklogFront h = refl
number_sort Clock h = refl
number_sort Counted h = refl
number_sort PollerStage h = absurd cc
number_sort (ProgramCounter i) h = refl
number_sort (ThreadStage i) h = absurd cc
number_sort (Last i) h = absurd cc
number_sort (Got i) h = absurd cc

pub completion_sort : (i : ℕ) → sort_of (Completion i) ≡ 1
unfolding sort_of
completion_sort i = refl

pub row_sort : (i : ℕ) → sort_of (Request i) ≡ 2
unfolding sort_of
row_sort i = refl

pub other_sort : (p : Place) → is_other p ≡ true → sort_of p ≡ 2
unfolding sort_of
other_sort SubmissionHead h = absurd cc
other_sort SubmissionTail h = absurd cc
other_sort SubmissionFlags h = absurd cc
other_sort SubmissionDropped h = absurd cc
other_sort CompletionHead h = absurd cc
other_sort CompletionTail h = absurd cc
other_sort (Array i) h = absurd cc
other_sort (Slot i) h = refl
other_sort (Completion i) h = absurd cc
other_sort (MemoryByte i) h = absurd cc
other_sort (FileByte o i) h = absurd cc
other_sort (DurableByte o i) h = absurd cc
other_sort (FileLength i) h = absurd cc
other_sort (DurableLength i) h = absurd cc
other_sort (Position i) h = absurd cc
other_sort (OpenMark i) h = absurd cc
other_sort (PipeByte o i) h = absurd cc
other_sort (PutCount i) h = absurd cc
other_sort (TakenCount i) h = absurd cc
other_sort (EventCount i) h = absurd cc
other_sort (Request i) h = absurd cc
other_sort (Backlog i) h = refl
other_sort BacklogFront h = absurd cc
other_sort Clock h = absurd cc
other_sort Counted h = absurd cc
other_sort PollerStage h = refl
other_sort (ProgramCounter i) h = absurd cc
other_sort (ThreadStage i) h = refl
other_sort (Last i) h = refl
other_sort (Got i) h = refl

pub byte_sort : (g : Region) (i : ℕ) → sort_of (place_in g i) ≡ 3
unfolding sort_of
byte_sort Memory i = refl
byte_sort (File o) i = refl
byte_sort (Durable o) i = refl
byte_sort (Pipe o) i = refl

slots_elsewhere : {X : Type 0} (change : X → Change) (s : ℕ) → ((x : X) → sort_of (change x).place ≡ s) → (xs : List X) (p : Place) → sort_of p ≢ s → named (map change xs) p ≡ None
slots_elsewhere change s k xs p h = named_nowhere change xs p (λ x e. h (sym (ap sort_of e) ∙ k x))

numbers_elsewhere : (ns : List NumberNote) (p : Place) → sort_of p ≢ 0 → named (map number_change ns) p ≡ None
numbers_elsewhere = slots_elsewhere number_change 0 (λ x. number_sort _ (number_plain x.kind x.index).number)

completions_elsewhere : (cs : List CompletionNote) (p : Place) → sort_of p ≢ 1 → named (map completion_change cs) p ≡ None
completions_elsewhere = slots_elsewhere completion_change 1 (λ x. completion_sort x.slot)

row_note_sort : (x : RowNote) → sort_of (row_change x).place ≡ 2
row_note_sort (Absent r) = row_sort r
row_note_sort (Was r o) = row_sort r
row_note_sort (Other k i o) = other_sort _ (other_lone k i).other

rows_elsewhere : (rs : List RowNote) (p : Place) → sort_of p ≢ 2 → named (map row_change rs) p ≡ None
rows_elsewhere = slots_elsewhere row_change 2 row_note_sort

old_bytes_elsewhere : (g : Region) (s : ℕ) (os : List (Option ℕ)) (p : Place) → sort_of p ≢ 3 → named (old_bytes g s os) p ≡ None
unfolding named
old_bytes_elsewhere g s [] p h = refl
old_bytes_elsewhere g s (None ∷ os) p h = old_bytes_elsewhere g (s + 1) os p h
old_bytes_elsewhere g s (Some b ∷ os) p h = by (same_place (place_in g s) p) refl (old_bytes_elsewhere g (s + 1) os p h)
  where
    by : (t : Bool) → same_place (place_in g s) p ≡ t → named (old_bytes g (s + 1) os) p ≡ None → cond t (Some (Some (Byte b))) (named (old_bytes g (s + 1) os) p) ≡ None
    by true e n = absurd (h (sym (ap sort_of (same_place_is _ _ e)) ∙ byte_sort g s))
    by false e n = n

bytes_elsewhere : (rs : List Run) (os : List (Option ℕ)) (p : Place) → sort_of p ≢ 3 → named (run_changes rs os) p ≡ None
unfolding named
bytes_elsewhere [] os p h = refl
bytes_elsewhere (r ∷ rs) os p h = none_append _ (run_changes rs (drop r.len os)) p (old_bytes_elsewhere r.region r.start (take r.len os) p h) (bytes_elsewhere rs (drop r.len os) p h)

other : {m n k : ℕ} → m ≡ n → (n == k) ≡ false → m ≢ k
other {m} {n} {k} e f g = absurd (let h : n ≡ k = sym e ∙ g in let t : (n == n) ≡ false = ap (λ i. n == i) h ∙ f in cc (eq-eqb n n refl))

module _ (ns : List NumberNote) (cs : List CompletionNote) (rs : List RowNote) (xs : List Run) (os : List (Option ℕ)) where
  -- The notes after those of numbers, of completions, and of requests name no place of that kind.
  after_numbers : (p : Place) → sort_of p ≡ 0 → named (map completion_change cs ++ (map row_change rs ++ run_changes xs os)) p ≡ None
  after_numbers p e = none_append (map completion_change cs) (map row_change rs ++ run_changes xs os) p (completions_elsewhere cs p (other e refl)) (none_append (map row_change rs) (run_changes xs os) p (rows_elsewhere rs p (other e refl)) (bytes_elsewhere xs os p (other e refl)))

  after_completions : (p : Place) → sort_of p ≡ 1 → named (map row_change rs ++ run_changes xs os) p ≡ None
  after_completions p e = none_append (map row_change rs) (run_changes xs os) p (rows_elsewhere rs p (other e refl)) (bytes_elsewhere xs os p (other e refl))

  after_rows : (p : Place) → sort_of p ≡ 2 → named (run_changes xs os) p ≡ None
  after_rows p e = bytes_elsewhere xs os p (other e refl)

  -- Adding a note to one kind adds it to the joined list.
  pub number_of_kinds : (ms : List NumberNote) (p : Place) (x : Option Value) → is_number p ≡ true → Noted (map number_change ns) (map number_change ms) p x → Noted (kind_changes ns cs rs (run_changes xs os)) (kind_changes ms cs rs (run_changes xs os)) p x
  number_of_kinds ms p x i h = noted_before_others (map number_change ns) (map number_change ms) (map completion_change cs ++ (map row_change rs ++ run_changes xs os)) p x h (after_numbers p (number_sort p i))

  pub completion_of_kinds : (ms : List CompletionNote) (i : ℕ) (x : Option Value) → Noted (map completion_change cs) (map completion_change ms) (Completion i) x → Noted (kind_changes ns cs rs (run_changes xs os)) (kind_changes ns ms rs (run_changes xs os)) (Completion i) x
  completion_of_kinds ms i x h = noted_after_others (map number_change ns) _ (map completion_change ms ++ (map row_change rs ++ run_changes xs os)) (Completion i) x (noted_before_others (map completion_change cs) (map completion_change ms) (map row_change rs ++ run_changes xs os) (Completion i) x h (after_completions (Completion i) (completion_sort i)))

  pub row_of_kinds : (ms : List RowNote) (p : Place) (x : Option Value) → sort_of p ≡ 2 → Noted (map row_change rs) (map row_change ms) p x → Noted (kind_changes ns cs rs (run_changes xs os)) (kind_changes ns cs ms (run_changes xs os)) p x
  row_of_kinds ms p x i h = noted_after_others (map number_change ns) _ (map completion_change cs ++ (map row_change ms ++ run_changes xs os)) p x (noted_after_others (map completion_change cs) _ (map row_change ms ++ run_changes xs os) p x (noted_before_others (map row_change rs) (map row_change ms) (run_changes xs os) p x h (after_rows p i)))

  pub bytes_of_kinds : (ys : List Run) (ps : List (Option ℕ)) (g : Region) (s : ℕ) (bs : List ℕ) → NotedBytes (run_changes xs os) (run_changes ys ps) g s bs → NotedBytes (kind_changes ns cs rs (run_changes xs os)) (kind_changes ns cs rs (run_changes ys ps)) g s bs
  bytes_of_kinds ys ps g s bs h = bytes_after (map number_change ns) _ (map completion_change cs ++ (map row_change rs ++ run_changes ys ps)) g s bs (bytes_after (map completion_change cs) _ (map row_change rs ++ run_changes ys ps) g s bs (bytes_after (map row_change rs) (run_changes xs os) (run_changes ys ps) g s bs h))

  -- The joined list has at most one note for each place.
  pub kinds_once : NamesOnce (map number_change ns) → NamesOnce (map completion_change cs) → NamesOnce (map row_change rs) → NamesOnce (run_changes xs os) → NamesOnce (kind_changes ns cs rs (run_changes xs os))
  kinds_once a b c d =
      once_append (map number_change ns) (map completion_change cs ++ (map row_change rs ++ run_changes xs os)) a
      (once_append (map completion_change cs) (map row_change rs ++ run_changes xs os) b
      (once_append (map row_change rs) (run_changes xs os) c d (sorts_apart sort_of 2 (map row_change rs) (run_changes xs os) (rows_elsewhere rs) after_rows))
      (sorts_apart sort_of 1 (map completion_change cs) (map row_change rs ++ run_changes xs os) (completions_elsewhere cs) after_completions))
      (sorts_apart sort_of 0 (map number_change ns) (map completion_change cs ++ (map row_change rs ++ run_changes xs os)) (numbers_elsewhere ns) after_numbers)

-- What remains of the joined list when a recorder is closed.
pub all_kept : (v : View) (ns ns' : List NumberNote) (cs cs' : List CompletionNote) (rs rs' : List RowNote) (x x' : RestList) → KeptOf v (map number_change ns) (map number_change ns') → KeptOf v (map completion_change cs) (map completion_change cs') → KeptOf v (map row_change rs) (map row_change rs') → KeptOf v (run_changes x.runs x.olds) (run_changes x'.runs x'.olds) → KeptOf v x.odd x'.odd → KeptOf v (all_changes ns cs rs x) (all_changes ns' cs' rs' x')
all_kept v ns ns' cs cs' rs rs' x x' a b c d e =
    kept_append v (kind_changes ns cs rs (run_changes x.runs x.olds)) x.odd (kind_changes ns' cs' rs' (run_changes x'.runs x'.olds)) x'.odd
    (kept_append v (map number_change ns) (map completion_change cs ++ (map row_change rs ++ run_changes x.runs x.olds)) (map number_change ns') (map completion_change cs' ++ (map row_change rs' ++ run_changes x'.runs x'.olds)) a
    (kept_append v (map completion_change cs) (map row_change rs ++ run_changes x.runs x.olds) (map completion_change cs') (map row_change rs' ++ run_changes x'.runs x'.olds) b
    (kept_append v (map row_change rs) (run_changes x.runs x.olds) (map row_change rs') (run_changes x'.runs x'.olds) c d)))
    e
