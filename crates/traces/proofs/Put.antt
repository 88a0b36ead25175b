-- The contents of a list after parts of it are written.
use Rattle.std.proofs.Common.{◌≡◌, ℕ, ◌-◌, ◌≤◌, List, [], ◌++◌, length, take, drop, refl, arith, length-drop}
use Rattle.std.proofs.lemmas.List.{append_assoc, append-nil, drop_all, drop-drop, take_all}
use borrow.Rule.Slice.PartMut.{mid_of, put_mid}
use Rattle.entries.specs.Layout.{put_at}

-- Writing a part at an offset, as a write at the front of the rest.
pub put_is : (o : ℕ) (xs part buf : List ℕ) → o ≤ length xs
    → buf ≡ part ++ drop (length part) (mid_of o (length xs - o) xs) → put_mid o (length xs - o) xs buf ≡ put_at o part xs
put_is o xs part buf h e =
    let mid : take (length xs - o) (drop o xs) ≡ drop o xs = take_all (length xs - o) (drop o xs) (omega (arith, length-drop o xs)) in
    let none : drop (length xs - o) (drop o xs) ≡ [] = drop_all (length xs - o) (drop o xs) (omega (arith, length-drop o xs)) in
    rw (e, mid, none, append-nil, drop-drop (length part) o xs, append_assoc) refl
