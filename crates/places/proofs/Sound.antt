-- The invariant of a recorder is maintained by each call.
use Rattle.std.proofs.Common.{◌≡◌, ℕ, ◌+◌, ◌-◌, ◌<◌, ◌≤◌, true, refl, sym, ◌∙◌, ap, List, ◌++◌, [], ◌∷◌, arith, length}
use Rattle.std.specs.Prelude.{Option, Some, None, is_some, map, ◌||◌}
use Rattle.places.specs.declared.place.Place.{Place}
use Rattle.places.specs.declared.place.Place.TheVariants.{Completion}
use Rattle.places.specs.declared.value.Value.{Value}
use Rattle.places.specs.declared.notes.numbers.NumberNote.{NumberNote}
use Rattle.places.specs.declared.notes.completions.CompletionNote.{CompletionNote}
use Rattle.places.specs.declared.notes.rows.RowNote.{RowNote}
use Rattle.places.specs.declared.notes.room.Room.{Room}
use Rattle.places.specs.declared.notes.runs.Region.{Region}
use Rattle.places.specs.Places.{is_number}
use Rattle.places.specs.View.{named, first_note, Noted, NamesOnce}
use Rattle.places.specs.Marks.{SlotList}
use Rattle.places.specs.RestList.{RestList}
use Rattle.places.specs.Slots.{number_change, completion_change, row_change}
use Rattle.places.specs.Runs.{run_changes, place_in, byte_in, NotedBytes, AllKept}
use Rattle.places.specs.All.{kind_changes, all_changes, HasRoom, IsSound}
use Rattle.places.proofs.Naming.{named-append, noted_at_end}
use Rattle.places.proofs.Marking.{noted_again}
use Rattle.places.proofs.ByteLemmas.{once_append, byte_in_there}
use Rattle.places.proofs.Joining.{noted_before_others, noted_after_others, bytes_before, none_parts, apart_noted, apart_bytes, apart_more}
use Rattle.places.proofs.Sorts.{sort_of, number_of_kinds, completion_of_kinds, row_of_kinds, bytes_of_kinds, kinds_once}

-- A recorder without notes satisfies the invariant.
pub sound_empty : (ns : SlotList NumberNote) (cs : SlotList CompletionNote) (rs : SlotList RowNote) (x : RestList) (r : Room) → x.olds ≡ [] → x.odd ≡ [] → r ≡ record { numbers = 0; completions = 0; others = 0; held = 0 } → IsSound ns cs rs x r
unfolding named
sound_empty ns cs rs x r d e f = rw (f) (record {
  apart = rw (e) (λ p s. cc);
  kept = rw (d) tt;
  numbers = record { spare = omega arith; reached = λ l. omega arith };
  completions = record { spare = omega arith; reached = λ l. omega arith };
  rows = record { spare = omega arith; reached = λ l. omega arith };
  held = refl;
  spare = omega arith;
})

-- After one note of a kind there is memory for one fewer.
pub less_room : {X : Type 0} (n m limit : ℕ) (s t : SlotList X) → HasRoom n limit s → m ≡ n - 1 → s.spare ≤ t.spare + 1 → s.reached ≤ t.reached → HasRoom m limit t
less_room n m limit s t h e f g = record { spare = let k = h.spare in omega arith; reached = λ l. let k = h.reached (omega arith) in omega arith }

pub same_room : {X : Type 0} (n m limit : ℕ) (s : SlotList X) → HasRoom n limit s → m ≤ n → HasRoom m limit s
same_room n m limit s h e = record { spare = let k = h.spare in omega arith; reached = λ l. h.reached (omega arith) }

module _ (ns : SlotList NumberNote) (cs : SlotList CompletionNote) (rs : SlotList RowNote) (x : RestList) (r q : Room) where
  -- Recording a number maintains the invariant.
  pub number_sound : (ms : SlotList NumberNote) → IsSound ns cs rs x r → ((p : Place) → is_some (named x.odd p) ≡ true → named (kind_changes ms.notes cs.notes rs.notes (run_changes x.runs x.olds)) p ≡ None) → ns.spare ≤ ms.spare + 1 → ns.reached ≤ ms.reached → q.numbers ≡ r.numbers - 1 → q.completions ≡ r.completions → q.others ≡ r.others → q.held ≡ q.numbers + (q.completions + q.others) → IsSound ms cs rs x q
  number_sound ms h a s t e f g k = record {
    apart = a;
    kept = h.kept;
    numbers = less_room r.numbers q.numbers 8192 ns ms h.numbers e s t;
    completions = same_room r.completions q.completions 8192 cs h.completions (omega arith);
    rows = same_room r.others q.others 262144 rs h.rows (omega arith);
    held = k;
    spare = let l = h.held in let m = h.spare in omega arith;
  }

  pub completion_sound : (ms : SlotList CompletionNote) → IsSound ns cs rs x r → ((p : Place) → is_some (named x.odd p) ≡ true → named (kind_changes ns.notes ms.notes rs.notes (run_changes x.runs x.olds)) p ≡ None) → cs.spare ≤ ms.spare + 1 → cs.reached ≤ ms.reached → q.numbers ≡ r.numbers → q.completions ≡ r.completions - 1 → q.others ≡ r.others → q.held ≡ q.numbers + (q.completions + q.others) → IsSound ns ms rs x q
  completion_sound ms h a s t e f g k = record {
    apart = a;
    kept = h.kept;
    numbers = same_room r.numbers q.numbers 8192 ns h.numbers (omega arith);
    completions = less_room r.completions q.completions 8192 cs ms h.completions f s t;
    rows = same_room r.others q.others 262144 rs h.rows (omega arith);
    held = k;
    spare = let l = h.held in let m = h.spare in omega arith;
  }

  pub row_sound : (ms : SlotList RowNote) → IsSound ns cs rs x r → ((p : Place) → is_some (named x.odd p) ≡ true → named (kind_changes ns.notes cs.notes ms.notes (run_changes x.runs x.olds)) p ≡ None) → rs.spare ≤ ms.spare + 1 → rs.reached ≤ ms.reached → q.numbers ≡ r.numbers → q.completions ≡ r.completions → q.others ≡ r.others - 1 → q.held ≡ q.numbers + (q.completions + q.others) → IsSound ns cs ms x q
  row_sound ms h a s t e f g k = record {
    apart = a;
    kept = h.kept;
    numbers = same_room r.numbers q.numbers 8192 ns h.numbers (omega arith);
    completions = same_room r.completions q.completions 8192 cs h.completions (omega arith);
    rows = less_room r.others q.others 262144 rs ms h.rows g s t;
    held = k;
    spare = let l = h.held in let m = h.spare in omega arith;
  }

module _ (ns : SlotList NumberNote) (cs : SlotList CompletionNote) (rs : SlotList RowNote) (x : RestList) (r : Room) (h : IsSound ns cs rs x r) where
  pub number_apart : (ms : SlotList NumberNote) (p : Place) (v : Option Value) → is_number p ≡ true → Noted (map number_change ns.notes) (map number_change ms.notes) p v → named x.odd p ≡ None → (q : Place) → is_some (named x.odd q) ≡ true → named (kind_changes ms.notes cs.notes rs.notes (run_changes x.runs x.olds)) q ≡ None
  number_apart ms p v i n none = apart_noted x.odd _ (kind_changes ms.notes cs.notes rs.notes (run_changes x.runs x.olds)) p v h.apart (number_of_kinds ns.notes cs.notes rs.notes x.runs x.olds ms.notes p v i n) none

  pub completion_apart : (ms : SlotList CompletionNote) (i : ℕ) (v : Option Value) → Noted (map completion_change cs.notes) (map completion_change ms.notes) (Completion i) v → named x.odd (Completion i) ≡ None → (q : Place) → is_some (named x.odd q) ≡ true → named (kind_changes ns.notes ms.notes rs.notes (run_changes x.runs x.olds)) q ≡ None
  completion_apart ms i v n none = apart_noted x.odd _ (kind_changes ns.notes ms.notes rs.notes (run_changes x.runs x.olds)) (Completion i) v h.apart (completion_of_kinds ns.notes cs.notes rs.notes x.runs x.olds ms.notes i v n) none

  pub row_apart : (ms : SlotList RowNote) (p : Place) (v : Option Value) → sort_of p ≡ 2 → Noted (map row_change rs.notes) (map row_change ms.notes) p v → named x.odd p ≡ None → (q : Place) → is_some (named x.odd q) ≡ true → named (kind_changes ns.notes cs.notes ms.notes (run_changes x.runs x.olds)) q ≡ None
  row_apart ms p v i n none = apart_noted x.odd _ (kind_changes ns.notes cs.notes ms.notes (run_changes x.runs x.olds)) p v h.apart (row_of_kinds ns.notes cs.notes rs.notes x.runs x.olds ms.notes p v i n) none

  pub fresh_odd : (g : Region) (s : ℕ) (bs : List ℕ) → ((i : ℕ) → i < length bs → named (all_changes ns.notes cs.notes rs.notes x) (place_in g (s + i)) ≡ None) → (q : Place) → is_some (byte_in g s bs q) ≡ true → named x.odd q ≡ None
  fresh_odd g s bs fresh q b =
      let t = byte_in_there g s bs q b in
      let n : named (all_changes ns.notes cs.notes rs.notes x) (place_in g (s + t.0)) ≡ None = fresh t.0 t.1 in
      ap (named x.odd) (sym t.2) ∙ (none_parts (kind_changes ns.notes cs.notes rs.notes (run_changes x.runs x.olds)) x.odd (place_in g (s + t.0)) n).1

  -- Recording bytes, none of which was recorded, maintains it.
  pub bytes_sound : (y : RestList) (g : Region) (s : ℕ) (bs : List ℕ) → NotedBytes (run_changes x.runs x.olds) (run_changes y.runs y.olds) g s bs → ((i : ℕ) → i < length bs → named (all_changes ns.notes cs.notes rs.notes x) (place_in g (s + i)) ≡ None) → y.odd ≡ x.odd → AllKept y.olds → x.spare ≤ y.spare → IsSound ns cs rs y r
  bytes_sound y g s bs n fresh e k m = record {
    apart = rw (e) (apart_bytes x.odd _ (kind_changes ns.notes cs.notes rs.notes (run_changes y.runs y.olds)) g s bs h.apart (bytes_of_kinds ns.notes cs.notes rs.notes x.runs x.olds y.runs y.olds g s bs n) (fresh_odd g s bs fresh));
    kept = k;
    numbers = h.numbers;
    completions = h.completions;
    rows = h.rows;
    held = h.held;
    spare = let l = h.spare in omega arith;
  }

  -- Adding a single note of a new place maintains it.
  pub other_sound : (y : RestList) (q : Room) (p : Place) (v : Option Value) → named (all_changes ns.notes cs.notes rs.notes x) p ≡ None → y.odd ≡ x.odd ++ record { place = p; old = v } ∷ [] → y.runs ≡ x.runs → y.olds ≡ x.olds → q.numbers ≤ r.numbers → q.completions ≤ r.completions → q.others ≤ r.others → q.held ≡ q.numbers + (q.completions + q.others) → q.held ≤ y.spare → IsSound ns cs rs y q
  other_sound y q p v none e f g a b c d m = record {
    apart = rw (e, f, g) (apart_more x.odd (x.odd ++ record { place = p; old = v } ∷ []) (kind_changes ns.notes cs.notes rs.notes (run_changes x.runs x.olds)) p v h.apart (noted_at_end x.odd p v) (none_parts (kind_changes ns.notes cs.notes rs.notes (run_changes x.runs x.olds)) x.odd p none).0);
    kept = rw (g) h.kept;
    numbers = same_room r.numbers q.numbers 8192 ns h.numbers a;
    completions = same_room r.completions q.completions 8192 cs h.completions b;
    rows = same_room r.others q.others 262144 rs h.rows c;
    held = d;
    spare = m;
  }

  pub all_once : NamesOnce (map number_change ns.notes) → NamesOnce (map completion_change cs.notes) → NamesOnce (map row_change rs.notes) → NamesOnce (run_changes x.runs x.olds) → NamesOnce x.odd → NamesOnce (all_changes ns.notes cs.notes rs.notes x)
  all_once a b c d e = once_append (kind_changes ns.notes cs.notes rs.notes (run_changes x.runs x.olds)) x.odd (kinds_once ns.notes cs.notes rs.notes x.runs x.olds a b c d) e h.apart

module _ (ns : List NumberNote) (cs : List CompletionNote) (rs : List RowNote) (x : RestList) where
  -- Adding a note to one kind adds it to all notes.
  pub number_noted : (ms : List NumberNote) (p : Place) (v : Option Value) → is_number p ≡ true → Noted (map number_change ns) (map number_change ms) p v → named x.odd p ≡ None → Noted (all_changes ns cs rs x) (all_changes ms cs rs x) p v
  number_noted ms p v i n none = noted_before_others (kind_changes ns cs rs (run_changes x.runs x.olds)) (kind_changes ms cs rs (run_changes x.runs x.olds)) x.odd p v (number_of_kinds ns cs rs x.runs x.olds ms p v i n) none

  pub completion_noted : (ms : List CompletionNote) (i : ℕ) (v : Option Value) → Noted (map completion_change cs) (map completion_change ms) (Completion i) v → named x.odd (Completion i) ≡ None → Noted (all_changes ns cs rs x) (all_changes ns ms rs x) (Completion i) v
  completion_noted ms i v n none = noted_before_others (kind_changes ns cs rs (run_changes x.runs x.olds)) (kind_changes ns ms rs (run_changes x.runs x.olds)) x.odd (Completion i) v (completion_of_kinds ns cs rs x.runs x.olds ms i v n) none

  pub row_noted : (ms : List RowNote) (p : Place) (v : Option Value) → sort_of p ≡ 2 → Noted (map row_change rs) (map row_change ms) p v → named x.odd p ≡ None → Noted (all_changes ns cs rs x) (all_changes ns cs ms x) p v
  row_noted ms p v i n none = noted_before_others (kind_changes ns cs rs (run_changes x.runs x.olds)) (kind_changes ns cs ms (run_changes x.runs x.olds)) x.odd p v (row_of_kinds ns cs rs x.runs x.olds ms p v i n) none

  pub bytes_noted : (y : RestList) (g : Region) (s : ℕ) (bs : List ℕ) → NotedBytes (run_changes x.runs x.olds) (run_changes y.runs y.olds) g s bs → y.odd ≡ x.odd → ((q : Place) → is_some (byte_in g s bs q) ≡ true → named x.odd q ≡ None) → NotedBytes (all_changes ns cs rs x) (all_changes ns cs rs y) g s bs
  bytes_noted y g s bs n e none = rw (e) (bytes_before (kind_changes ns cs rs (run_changes x.runs x.olds)) (kind_changes ns cs rs (run_changes y.runs y.olds)) x.odd g s bs (bytes_of_kinds ns cs rs x.runs x.olds y.runs y.olds g s bs n) none)

  pub other_noted : (y : RestList) (p : Place) (v : Option Value) → y.odd ≡ x.odd ++ record { place = p; old = v } ∷ [] → y.runs ≡ x.runs → y.olds ≡ x.olds → Noted (all_changes ns cs rs x) (all_changes ns cs rs y) p v
  other_noted y p v e f g = rw (e, f, g) (noted_after_others (kind_changes ns cs rs (run_changes x.runs x.olds)) x.odd (x.odd ++ record { place = p; old = v } ∷ []) p v (noted_at_end x.odd p v))

  -- A place with a single note needs no other.
  pub odd_noted : (p : Place) (v : Option Value) → is_some (named x.odd p) ≡ true → Noted (all_changes ns cs rs x) (all_changes ns cs rs x) p v
  odd_noted p v h = noted_again (all_changes ns cs rs x) p v (ap is_some (named-append (kind_changes ns cs rs (run_changes x.runs x.olds)) x.odd p) ∙ by (named (kind_changes ns cs rs (run_changes x.runs x.olds)) p))
    where
      by : (m : Option (Option Value)) → is_some (first_note m (named x.odd p)) ≡ true
      by None = h
      by (Some w) = refl

  pub fresh_bytes : (p : Place) → named (all_changes ns cs rs x) p ≡ None → named (run_changes x.runs x.olds) p ≡ None
  fresh_bytes p e =
      let k = (none_parts (kind_changes ns cs rs (run_changes x.runs x.olds)) x.odd p e).0 in
      let m = (none_parts (map number_change ns) (map completion_change cs ++ (map row_change rs ++ run_changes x.runs x.olds)) p k).1 in
      let l = (none_parts (map completion_change cs) (map row_change rs ++ run_changes x.runs x.olds) p m).1 in
      (none_parts (map row_change rs) (run_changes x.runs x.olds) p l).1

  pub fresh_other : (p : Place) → named (all_changes ns cs rs x) p ≡ None → named x.odd p ≡ None
  fresh_other p e = (none_parts (kind_changes ns cs rs (run_changes x.runs x.olds)) x.odd p e).1

  -- Searching each kind of notes decides whether a place is recorded.
  pub is_named_all : (p : Place) → (is_some (named x.odd p) || (is_some (named (run_changes x.runs x.olds) p) || (is_some (named (map number_change ns) p) || (is_some (named (map completion_change cs) p) || is_some (named (map row_change rs) p))))) ≡ is_some (named (all_changes ns cs rs x) p)
  is_named_all p =
      by (named (map number_change ns) p) (named (map completion_change cs) p) (named (map row_change rs) p) (named (run_changes x.runs x.olds) p) (named x.odd p)
      ∙ sym (ap is_some (named-append (kind_changes ns cs rs (run_changes x.runs x.olds)) x.odd p
      ∙ ap (λ m. first_note m (named x.odd p)) (named-append (map number_change ns) (map completion_change cs ++ (map row_change rs ++ run_changes x.runs x.olds)) p
      ∙ ap (first_note (named (map number_change ns) p)) (named-append (map completion_change cs) (map row_change rs ++ run_changes x.runs x.olds) p
      ∙ ap (first_note (named (map completion_change cs) p)) (named-append (map row_change rs) (run_changes x.runs x.olds) p)))))
    where
      by : (n c r b o : Option (Option Value)) → (is_some o || (is_some b || (is_some n || (is_some c || is_some r)))) ≡ is_some (first_note (first_note n (first_note c (first_note r b))) o)
      by None None None None None = refl
      by None None None None (Some o) = refl
      by None None None (Some b) None = refl
      by None None None (Some b) (Some o) = refl
      by None None (Some r) None None = refl
      by None None (Some r) None (Some o) = refl
      by None None (Some r) (Some b) None = refl
      by None None (Some r) (Some b) (Some o) = refl
      by None (Some c) r b (Some o) = refl
      by None (Some c) r (Some b) None = refl
      by None (Some c) r None None = refl
      by (Some n) c r b (Some o) = refl
      by (Some n) c r (Some b) None = refl
      by (Some n) c r None None = refl
