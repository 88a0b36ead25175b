-- Which notes shorten a list when they are undone.
use Rattle.std.proofs.Common.{◌≡◌, ℕ, ◌+◌, false, not, refl, ◌∙◌, ap, List, [], ◌∷◌, ◌++◌, take, drop}
use Rattle.std.specs.Prelude.{Option, Some, None, is_some, ◌||◌, map}
use Rattle.std.specs.List.{list_any}
use Rattle.places.specs.declared.place.Place.{Place}
use Rattle.places.specs.declared.place.Place.TheVariants.{Completion}
use Rattle.places.specs.declared.value.Value.{Value}
use Rattle.places.specs.declared.value.Value.TheVariants.{Byte, Number, Completed}
use Rattle.places.specs.declared.value.Change.{Change}
use Rattle.places.specs.declared.notes.numbers.NumberNote.{NumberNote}
use Rattle.places.specs.declared.notes.completions.CompletionNote.{CompletionNote}
use Rattle.places.specs.declared.notes.rows.RowNote.{RowNote}
use Rattle.places.specs.declared.notes.runs.Region.{Region}
use Rattle.places.specs.declared.notes.runs.Run.{Run}
use Rattle.places.specs.declared.listed.Listed.{Listed}
use Rattle.places.specs.Notes.{number_in, cut_off, after_change, left, ShortensNothing}
use Rattle.places.specs.Slots.{number_place, number_change, completion_change, row_change}
use Rattle.places.specs.Runs.{place_in, old_bytes, run_changes}
use Rattle.places.specs.RestList.{RestList}
use Rattle.places.specs.All.{kind_changes, all_changes}

pub left-append : (l : Listed) (cs ds : List Change) (n : ℕ) → left l (cs ++ ds) n ≡ left l ds (left l cs n)
left-append l [] ds n = refl
left-append l (c ∷ cs) ds n = left-append l cs ds (after_change l c.place c.old n)

-- A note with an old value removes no element.
pub after_some : (l : Listed) (p : Place) (v : Value) (n : ℕ) → after_change l p (Some v) n ≡ n
after_some l p v n = by (number_in l p)
  where
    by : (i : Option ℕ) → cut_off i (Some v) n ≡ n
    by None = refl
    by (Some i) = refl

left-numbers : (l : Listed) (ns : List NumberNote) (n : ℕ) → left l (map number_change ns) n ≡ n
left-numbers l [] n = refl
left-numbers l (x ∷ xs) n = ap (left l (map number_change xs)) (after_some l (number_place x.kind x.index) (Number x.old) n) ∙ left-numbers l xs n

left-completions : (l : Listed) (cs : List CompletionNote) (n : ℕ) → left l (map completion_change cs) n ≡ n
left-completions l [] n = refl
left-completions l (x ∷ xs) n = ap (left l (map completion_change xs)) (after_some l (Completion x.slot) (Completed x.old) n) ∙ left-completions l xs n

left-old : (l : Listed) (g : Region) (s : ℕ) (os : List (Option ℕ)) (n : ℕ) → left l (old_bytes g s os) n ≡ n
left-old l g s [] n = refl
left-old l g s (None ∷ os) n = left-old l g (s + 1) os n
left-old l g s (Some b ∷ os) n = ap (left l (old_bytes g (s + 1) os)) (after_some l (place_in g s) (Byte b) n) ∙ left-old l g (s + 1) os n

left-bytes : (l : Listed) (rs : List Run) (os : List (Option ℕ)) (n : ℕ) → left l (run_changes rs os) n ≡ n
left-bytes l [] os n = refl
left-bytes l (r ∷ rs) os n =
    left-append l (old_bytes r.region r.start (take r.len os)) (run_changes rs (drop r.len os)) n
    ∙ ap (left l (run_changes rs (drop r.len os))) (left-old l r.region r.start (take r.len os) n) ∙ left-bytes l rs (drop r.len os) n

-- Notes of rows of which none was absent remove no element.
left-rows : (rs : List RowNote) → list_any (λ r. not (is_some (row_change r).old)) rs ≡ false → ShortensNothing (map row_change rs)
left-rows [] e l n = refl
left-rows (x ∷ xs) e l n = by (row_change x).old e (λ h. left-rows xs h l n)
  where
    by : (o : Option Value) → (not (is_some o) || list_any (λ r. not (is_some (row_change r).old)) xs) ≡ false → (list_any (λ r. not (is_some (row_change r).old)) xs ≡ false → left l (map row_change xs) n ≡ n) → left l (map row_change xs) (after_change l (row_change x).place o n) ≡ n
    by None g f = absurd cc
    by (Some v) g f = ap (left l (map row_change xs)) (after_some l (row_change x).place v n) ∙ f g

pub kinds_shorten_nothing : (ns : List NumberNote) (cs : List CompletionNote) (rs : List RowNote) → list_any (λ r. not (is_some (row_change r).old)) rs ≡ false → ShortensNothing (map number_change ns ++ (map completion_change cs ++ map row_change rs))
kinds_shorten_nothing ns cs rs e l n =
    left-append l (map number_change ns) (map completion_change cs ++ map row_change rs) n
    ∙ ap (left l (map completion_change cs ++ map row_change rs)) (left-numbers l ns n)
    ∙ left-append l (map completion_change cs) (map row_change rs) n
    ∙ ap (left l (map row_change rs)) (left-completions l cs n) ∙ left-rows rs e l n

-- Only notes of requests and other places, and single notes, can remove elements.
pub left_everywhere : (l : Listed) (ns : List NumberNote) (cs : List CompletionNote) (rs : List RowNote) (x : RestList) (n : ℕ) → left l (all_changes ns cs rs x) n ≡ left l x.odd (left l (map row_change rs) n)
left_everywhere l ns cs rs x n =
    let bs = run_changes x.runs x.olds in
    left-append l (kind_changes ns cs rs bs) x.odd n
    ∙ ap (left l x.odd) (
    left-append l (map number_change ns) (map completion_change cs ++ (map row_change rs ++ bs)) n
    ∙ ap (left l (map completion_change cs ++ (map row_change rs ++ bs))) (left-numbers l ns n)
    ∙ left-append l (map completion_change cs) (map row_change rs ++ bs) n
    ∙ ap (left l (map row_change rs ++ bs)) (left-completions l cs n)
    ∙ left-append l (map row_change rs) bs n
    ∙ left-bytes l x.runs x.olds (left l (map row_change rs) n))
