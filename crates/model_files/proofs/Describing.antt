-- The view of a world in which one descriptor changed.
use Rattle.std.proofs.Common.{◌≡◌, ℕ, Bool, true, false, cond, refl, sym, ◌∙◌, ap, subst, List, length, get_or, ◌-◌, ◌<◌, ◌≤◌, arith}
use Rattle.std.specs.Prelude.{Option, Some, None, IsSome, is_some, option_map, slice_get, slice_set, ◌==◌, ◌&&◌, nat_lt, nat_le, IsTrue}
use Rattle.std.specs.Option.{option_and_then}
use Rattle.std.proofs.lemmas.Bool.{eqb-true, eq-eqb}
use Rattle.std.proofs.lemmas.Bool.Decides.{nat_tests}
use Rattle.std.proofs.lemmas.Option.{slice_get_within, get_or_from_slice_get}
use Rattle.places.specs.declared.place.Place.{Place}
use Rattle.places.specs.declared.place.Place.TheVariants.{Position, OpenMark}
use Rattle.places.specs.declared.value.Change.{Change}
use Rattle.places.specs.declared.value.Value.{Value}
use Rattle.places.specs.declared.value.Value.TheVariants.{Number}
use Rattle.places.specs.Places.{same_place}
use Rattle.places.specs.View.{put_at, Keeps, Noted}
use Rattle.places.proofs.ListLemmas.{slice_get-set, map_same, updated_set}
use Rattle.places.proofs.Keeping.{keeps_noted}
use Rattle.model_files.specs.declared.descriptor.DescriptorState.{DescriptorState}
use Rattle.model_files.specs.Worlds.{WorldState, world_owns, world_seen, descriptor_of, mark_of, fixed_of, world_at, world_closed, OneSetup}

-- The world with the descriptor of one number replaced.
abbrev pub with_other : WorldState → ℕ → DescriptorState → WorldState
with_other w fd d = record w { descriptors = slice_set w.descriptors (fd - 3) d }

-- The number of a present descriptor is at least 3.
pub number_from_three : (w : WorldState) (fd : ℕ) (d : DescriptorState) → descriptor_of w fd ≡ Some d → (3 ≤ fd) × (slice_get w.descriptors (fd - 3) ≡ Some d)
number_from_three w fd d h = by (nat_lt fd 3) refl h
  where
    by : (t : Bool) → nat_lt fd 3 ≡ t → cond t None (slice_get w.descriptors (fd - 3)) ≡ Some d → (3 ≤ fd) × (slice_get w.descriptors (fd - 3) ≡ Some d)
    by true e k = absurd cc
    by false e k = (grind (arith, nat_tests), k)

other_here : (w : WorldState) (fd g : ℕ) (d : DescriptorState) → 3 ≤ fd → fd - 3 < length w.descriptors → descriptor_of (with_other w fd d) g ≡ cond (fd == g) (Some d) (descriptor_of w g)
other_here w fd g d h l = by (nat_lt g 3) refl
  where
    differs : g < 3 → (t : Bool) → (fd == g) ≡ t → ◌≡◌ {A = Option DescriptorState} None (cond t (Some d) None)
    differs k true e = absurd (let s = eqb-true fd g e in omega arith)
    differs k false e = refl

    same : 3 ≤ g → (s t : Bool) → (fd - 3 == g - 3) ≡ s → (fd == g) ≡ t → s ≡ t
    same k true true e f = refl
    same k false false e f = refl
    same k true false e f = absurd (let i = eqb-true (fd - 3) (g - 3) e in let j = eq-eqb fd g (omega arith) in cc)
    same k false true e f = absurd (let i = eqb-true fd g f in let j = eq-eqb (fd - 3) (g - 3) (omega arith) in cc)

    by : (t : Bool) → nat_lt g 3 ≡ t → cond t None (slice_get (slice_set w.descriptors (fd - 3) d) (g - 3)) ≡ cond (fd == g) (Some d) (cond t None (slice_get w.descriptors (g - 3)))
    by true e = differs (grind (arith, nat_tests)) (fd == g) refl
    by false e = slice_get-set w.descriptors (fd - 3) (g - 3) d l ∙ ap (λ t. cond t (Some d) (slice_get w.descriptors (g - 3))) (same (grind (arith, nat_tests)) (fd - 3 == g - 3) (fd == g) refl refl)

mark_here : (w : WorldState) (fd g : ℕ) (d e : DescriptorState) → descriptor_of w fd ≡ Some d → e.is_open ≡ d.is_open → (t : Bool) → (fd == g) ≡ t
    → option_map (λ (x : DescriptorState). Number (mark_of x.is_open)) (cond t (Some e) (descriptor_of w g)) ≡ option_map (λ (x : DescriptorState). Number (mark_of x.is_open)) (descriptor_of w g)
mark_here w fd g d e h k true i = ap (λ b. Some (Number (mark_of b))) k ∙ sym (ap (option_map (λ (x : DescriptorState). Number (mark_of x.is_open))) (ap (descriptor_of w) (sym (eqb-true fd g i)) ∙ h))
mark_here w fd g d e h k false i = refl

position_here : (w : WorldState) (fd g : ℕ) (d e : DescriptorState) → descriptor_of w fd ≡ Some d → e.position ≡ d.position → (t : Bool) → (fd == g) ≡ t
    → option_and_then (λ (x : DescriptorState). option_map Number x.position) (cond t (Some e) (descriptor_of w g)) ≡ option_and_then (λ (x : DescriptorState). option_map Number x.position) (descriptor_of w g)
position_here w fd g d e h k true i = ap (option_map Number) k ∙ sym (ap (option_and_then (λ (x : DescriptorState). option_map Number x.position)) (ap (descriptor_of w) (sym (eqb-true fd g i)) ∙ h))
position_here w fd g d e h k false i = refl

-- The view after the position of a descriptor is set.
pub put_position : (w : WorldState) (fd n : ℕ) (d : DescriptorState) → descriptor_of w fd ≡ Some d → (q : Place) → world_seen (with_other w fd (record d { position = Some n })) q ≡ put_at (world_seen w) (Position fd) (Some (Number n)) q
unfolding same_place
put_position w fd n d h (Position g) =
    let r = number_from_three w fd d h in
    ap (option_and_then (λ (x : DescriptorState). option_map Number x.position)) (other_here w fd g (record d { position = Some n }) r.0 (slice_get_within w.descriptors (fd - 3) d r.1)) ∙ by (fd == g)
  where
    by : (t : Bool) → option_and_then (λ (x : DescriptorState). option_map Number x.position) (cond t (Some (record d { position = Some n })) (descriptor_of w g)) ≡ cond (t && true) (Some (Number n)) (option_and_then (λ (x : DescriptorState). option_map Number x.position) (descriptor_of w g))
    by true = refl
    by false = refl
put_position w fd n d h (OpenMark g) =
    let r = number_from_three w fd d h in
    ap (option_map (λ (x : DescriptorState). Number (mark_of x.is_open))) (other_here w fd g (record d { position = Some n }) r.0 (slice_get_within w.descriptors (fd - 3) d r.1))
    ∙ mark_here w fd g d (record d { position = Some n }) h refl (fd == g) refl
put_position w fd n d h _ = refl

-- The view after the open mark of a descriptor is set.
pub put_mark : (w : WorldState) (fd : ℕ) (b : Bool) (d : DescriptorState) → descriptor_of w fd ≡ Some d → (q : Place) → world_seen (with_other w fd (record d { is_open = b })) q ≡ put_at (world_seen w) (OpenMark fd) (Some (Number (mark_of b))) q
unfolding same_place
put_mark w fd b d h (OpenMark g) =
    let r = number_from_three w fd d h in
    ap (option_map (λ (x : DescriptorState). Number (mark_of x.is_open))) (other_here w fd g (record d { is_open = b }) r.0 (slice_get_within w.descriptors (fd - 3) d r.1)) ∙ by (fd == g)
  where
    by : (t : Bool) → option_map (λ (x : DescriptorState). Number (mark_of x.is_open)) (cond t (Some (record d { is_open = b })) (descriptor_of w g)) ≡ cond (t && true) (Some (Number (mark_of b))) (option_map (λ (x : DescriptorState). Number (mark_of x.is_open)) (descriptor_of w g))
    by true = refl
    by false = refl
put_mark w fd b d h (Position g) =
    let r = number_from_three w fd d h in
    ap (option_and_then (λ (x : DescriptorState). option_map Number x.position)) (other_here w fd g (record d { is_open = b }) r.0 (slice_get_within w.descriptors (fd - 3) d r.1))
    ∙ position_here w fd g d (record d { is_open = b }) h refl (fd == g) refl
put_mark w fd b d h _ = refl

-- A mark of 0 or 1 is read back as the same number.
pub mark_again : (n : ℕ) → n ≤ 1 → mark_of (n == 1) ≡ n
mark_again n h = grind (arith, nat_tests)

-- Replacing a descriptor by one with the same fixed properties preserves those of the world.
pub one_setup_descriptor : (w : WorldState) (fd : ℕ) (d e : DescriptorState) → descriptor_of w fd ≡ Some d → fixed_of e ≡ fixed_of d → OneSetup w (with_other w fd e)
one_setup_descriptor w fd d e h k = record { memory = refl; objects = refl; descriptors = sym (map_same fixed_of w.descriptors (fd - 3) d e (number_from_three w fd d h).1 k) }

-- The descriptor read at index fd - 3 is that of number fd.
read_is : (w : WorldState) (fd : ℕ) (d : DescriptorState) → IsSome (descriptor_of w fd) → d ≡ get_or w.descriptors (fd - 3) d → descriptor_of w fd ≡ Some d
read_is w fd d h r = by (descriptor_of w fd) refl h
  where
    by : (o : Option DescriptorState) → descriptor_of w fd ≡ o → is_some o ≡ true → descriptor_of w fd ≡ Some d
    by None e k = absurd cc
    by (Some x) e k = e ∙ ap Some (sym (r ∙ get_or_from_slice_get w.descriptors (fd - 3) x d (number_from_three w fd x e).1))

pub closed_is : (w : WorldState) (fd : ℕ) (d : DescriptorState) → IsSome (descriptor_of w fd) → d ≡ get_or w.descriptors (fd - 3) d → with_other w fd (record d { is_open = false }) ≡ world_closed fd w
closed_is w fd d h r = ap (λ (ds : List DescriptorState). record w { descriptors = ds }) (sym (updated_set (λ (x : DescriptorState). record x { is_open = false }) w.descriptors (fd - 3) d (number_from_three w fd d (read_is w fd d h r)).1))

pub keeps_closed : (w : WorldState) (fd : ℕ) (d e : DescriptorState) (cs ds : List Change) → IsSome (descriptor_of w fd) → d ≡ get_or w.descriptors (fd - 3) d → e ≡ get_or w.descriptors (fd - 3) e → Noted cs ds (OpenMark fd) (Some (Number (mark_of e.is_open)))
    → Keeps world_owns (world_seen w) (world_seen (with_other w fd (record d { is_open = false }))) cs ds
keeps_closed w fd d e cs ds h r s n =
    let k = read_is w fd e h s in
    keeps_noted world_owns (world_seen w) (world_seen (with_other w fd (record d { is_open = false }))) cs ds (OpenMark fd) (Some (Number 0)) refl
    (subst (λ (x : Option Value). Noted cs ds (OpenMark fd) x) (sym (ap (option_map (λ (x : DescriptorState). Number (mark_of x.is_open))) k)) n) (put_mark w fd false d (read_is w fd d h r))

-- If the place of a position is present, so is the descriptor.
pub positioned_there : (w : WorldState) (fd : ℕ) → IsSome (world_seen w (Position fd)) → IsSome (descriptor_of w fd)
positioned_there w fd h = by (descriptor_of w fd) h
  where
    by : (o : Option DescriptorState) → is_some (option_and_then (λ (x : DescriptorState). option_map Number x.position) o) ≡ true → is_some o ≡ true
    by None k = k
    by (Some x) k = refl

pub moved_is : (w : WorldState) (fd n : ℕ) (d : DescriptorState) → IsSome (descriptor_of w fd) → d ≡ get_or w.descriptors (fd - 3) d → with_other w fd (record d { position = Some n }) ≡ world_at fd n w
moved_is w fd n d h r = ap (λ (ds : List DescriptorState). record w { descriptors = ds }) (sym (updated_set (λ (x : DescriptorState). record x { position = Some n }) w.descriptors (fd - 3) d (number_from_three w fd d (read_is w fd d h r)).1))

pub keeps_moved : (w : WorldState) (fd n old : ℕ) (d e : DescriptorState) (cs ds : List Change) → IsSome (descriptor_of w fd) → d ≡ get_or w.descriptors (fd - 3) d → e ≡ get_or w.descriptors (fd - 3) e → e.position ≡ Some old → Noted cs ds (Position fd) (Some (Number old))
    → Keeps world_owns (world_seen w) (world_seen (with_other w fd (record d { position = Some n }))) cs ds
keeps_moved w fd n old d e cs ds h r s p m =
    let k = read_is w fd e h s in
    keeps_noted world_owns (world_seen w) (world_seen (with_other w fd (record d { position = Some n }))) cs ds (Position fd) (Some (Number n)) refl
    (subst (λ (x : Option Value). Noted cs ds (Position fd) x) (sym (ap (option_and_then (λ (x : DescriptorState). option_map Number x.position)) k ∙ ap (option_map Number) p)) m) (put_position w fd n d (read_is w fd d h r))

-- If the place of an open mark is present, so is the descriptor.
pub marked_there : (w : WorldState) (fd : ℕ) → IsSome (world_seen w (OpenMark fd)) → IsSome (descriptor_of w fd)
marked_there w fd h = by (descriptor_of w fd) h
  where
    by : (o : Option DescriptorState) → is_some (option_map (λ (x : DescriptorState). Number (mark_of x.is_open)) o) ≡ true → is_some o ≡ true
    by None k = k
    by (Some x) k = refl

pub within_there : (w : WorldState) (fd : ℕ) → IsSome (descriptor_of w fd) → fd - 3 < length w.descriptors
within_there w fd h = by (descriptor_of w fd) refl h
  where
    by : (o : Option DescriptorState) → descriptor_of w fd ≡ o → is_some o ≡ true → fd - 3 < length w.descriptors
    by None e k = absurd cc
    by (Some d) e k = slice_get_within w.descriptors (fd - 3) d (number_from_three w fd d e).1

-- `one_setup_descriptor` for the descriptor that was read.
pub one_setup_read : (w : WorldState) (fd : ℕ) (d e : DescriptorState) → IsSome (descriptor_of w fd) → d ≡ get_or w.descriptors (fd - 3) d → fixed_of e ≡ fixed_of d → OneSetup w (with_other w fd e)
one_setup_read w fd d e h r k = one_setup_descriptor w fd d e (read_is w fd d h r) k

pub put_position_read : (w : WorldState) (fd n : ℕ) (d : DescriptorState) → IsSome (descriptor_of w fd) → d ≡ get_or w.descriptors (fd - 3) d → (q : Place) → world_seen (with_other w fd (record d { position = Some n })) q ≡ put_at (world_seen w) (Position fd) (Some (Number n)) q
put_position_read w fd n d h r = put_position w fd n d (read_is w fd d h r)

pub put_mark_read : (w : WorldState) (fd n : ℕ) (d : DescriptorState) → IsSome (descriptor_of w fd) → d ≡ get_or w.descriptors (fd - 3) d → n ≤ 1 → (q : Place) → world_seen (with_other w fd (record d { is_open = n == 1 })) q ≡ put_at (world_seen w) (OpenMark fd) (Some (Number n)) q
put_mark_read w fd n d h r l q = put_mark w fd (n == 1) d (read_is w fd d h r) q ∙ ap (λ m. put_at (world_seen w) (OpenMark fd) (Some (Number m)) q) (mark_again n l)

-- A descriptor that has a position still has one after it is set.
pub positioned_same : (w : WorldState) (fd n : ℕ) (d : DescriptorState) → IsSome (world_seen w (Position fd)) → d ≡ get_or w.descriptors (fd - 3) d → fixed_of (record d { position = Some n }) ≡ fixed_of d
positioned_same w fd n d h r = by d.position refl
  where
    k : descriptor_of w fd ≡ Some d
    k = read_is w fd d (positioned_there w fd h) r

    seen : IsSome (option_map Number d.position)
    seen = subst (λ (x : Option DescriptorState). IsSome (option_and_then (λ (y : DescriptorState). option_map Number y.position) x)) k h

    by : (p : Option ℕ) → d.position ≡ p → fixed_of (record d { position = Some n }) ≡ fixed_of d
    by None e = absurd (let s = subst (λ (x : Option ℕ). IsSome (option_map Number x)) e seen in cc)
    by (Some m) e = ap (λ (x : Option ℕ). record { object = d.object; end = d.end; positioned = option_map (λ (y : ℕ). 0) x }) (sym e)

pub mark_fits : (n : ℕ) → IsTrue (nat_le n 1) → n ≤ 1
mark_fits n h = grind (arith, nat_tests)
