-- Restoring the old values of a record, one change after the other.
use Rattle.machine.proofs.Common.{◌≡◌, ℕ, ◌+◌, Bool, true, false, cond, refl, sym, ◌∙◌, ap, subst, List, [], ◌∷◌, ◌++◌, length, map, Option, Some, None, IsSome, is_some, unwrap_or, Place, Value, Byte, Change, same_place_is, same_place_self, WorldState, world_owns, world_seen, OneSetup as OneWorldSetup, fixed_of, Machine, same_place, named, undo, put_at, Keeps, NamesOnce, once_back, named_front, named_back, undo-append}
use Rattle.places.{specs.declared.notes.runs.Region.Region, specs.declared.notes.runs.Region.TheVariants.Memory, specs.declared.notes.runs.Region.TheVariants.File, specs.declared.notes.runs.Region.TheVariants.Durable, specs.declared.notes.runs.Region.TheVariants.Pipe, specs.Runs.place_in, specs.Runs.old_bytes, specs.Masked.BytesPresent, proofs.KeptAt.named_here}
use Rattle.model_files.proofs.PuttingBack.{named_in_world}
use Rattle.model_files.proofs.Fixing as worlds
use Rattle.machine.{specs.Whole.view, specs.Whole.can_put, specs.Whole.everywhere, specs.Whole.OneSetup, specs.Whole.Overwrites, specs.Whole.Overwritten, proofs.Lifting.lift_world, proofs.Staying.Remains, proofs.PuttingBack.undo-cons, proofs.PuttingBack.seen_can_put, proofs.PuttingBack.absent_same, proofs.PuttingBack.same_machine}

-- The changes in `left` remain to be undone.
pub record Restored (before : Machine) (cs : List Change) (now : Machine) (left : List Change) : Type 0 where
  pub setup : OneSetup before now
  pub rows : map fixed_of before.table ≡ map fixed_of now.table
  pub backlog : length before.backlog.items ≡ length now.backlog.items
  pub once : NamesOnce left
  pub includes : (p : Place) (x : Option Value) → named left p ≡ Some x → named cs p ≡ Some x
  pub same : (p : Place) → undo (view now) left p ≡ undo (view before) cs p

pub setup_then : (a b c : Machine) → OneSetup a b → OneSetup b c → OneSetup a c
setup_then a b c h k = record { array = h.array ∙ k.array; slots = h.slots ∙ k.slots; completions = h.completions ∙ k.completions; world = worlds.setup_then _ _ _ h.world k.world; programs = h.programs ∙ k.programs; poller = h.poller ∙ k.poller; submit_all = h.submit_all ∙ k.submit_all }

pub setup_self : (m : Machine) → OneSetup m m
setup_self m = record { array = refl; slots = refl; completions = refl; world = worlds.setup_self _; programs = refl; poller = refl; submit_all = refl }

pub restored_from : (m : Machine) (cs : List Change) → NamesOnce cs → Restored m cs m cs
restored_from m cs o = record { setup = setup_self m; rows = refl; backlog = refl; once = o; includes = λ p x h. h; same = λ p. refl }

first_named : (c : Change) (left : List Change) → named (c ∷ left) c.place ≡ Some c.old
unfolding named
first_named c left = ap (λ b. cond b (Some c.old) (named left c.place)) (same_place_self c.place)

-- The old value of the next change is the value in the machine to restore.
next_is : (s before now : Machine) (cs : List Change) (c : Change) (left : List Change) → Overwrites s before cs → Restored before cs now (c ∷ left) → c.old ≡ view s c.place
next_is s before now cs c left g r = g.values c.place c.old (r.includes c.place c.old (first_named c left))

pub next_can_put : (s before now : Machine) (cs : List Change) (c : Change) (left : List Change) (v : Value) → c.old ≡ Some v → Overwrites s before cs → Restored before cs now (c ∷ left) → can_put now c.place c.old
next_can_put s before now cs c left v e g r =
    subst (can_put now c.place) (sym e)
    (seen_can_put s now g.formed (setup_then s before now g.setup r.setup) (g.rows ∙ r.rows) (g.backlog ∙ r.backlog) c.place v (sym (next_is s before now cs c left g r) ∙ e))

pub restored_on : (before now next : Machine) (cs : List Change) (c : Change) (left : List Change) → OneSetup now next → map fixed_of now.table ≡ map fixed_of next.table → length now.backlog.items ≡ length next.backlog.items → ((q : Place) → view next q ≡ put_at (view now) c.place c.old q)
    → Restored before cs now (c ∷ left) → Restored before cs next left
restored_on before now next cs c left o l b e r = record {
  setup = setup_then before now next r.setup o;
  rows = r.rows ∙ l;
  backlog = r.backlog ∙ b;
  once = r.once.1;
  includes = λ p x h. r.includes p x (named_back (c ∷ []) left p x r.once h);
  same = λ p. undo-cons (view now) (view next) c left r.once.0 e p ∙ r.same p;
}

-- A change of a place that was absent is skipped.
pub restored_skip : (s before now : Machine) (cs : List Change) (c : Change) (left : List Change) → c.old ≡ None → Overwrites s before cs → Restored before cs now (c ∷ left) → Restored before cs now left
restored_skip s before now cs c left e g r = restored_on before now now cs c left (setup_self now) refl refl stays r
  where
    gone : view now c.place ≡ None
    gone = absent_same s now (setup_then s before now g.setup r.setup) (g.rows ∙ r.rows) (g.backlog ∙ r.backlog) c.place (sym (next_is s before now cs c left g r) ∙ e)

    at : (q : Place) (b : Bool) → same_place c.place q ≡ b → view now q ≡ cond b c.old (view now q)
    at q true k = ap (view now) (sym (same_place_is c.place q k)) ∙ gone ∙ sym e
    at q false k = refl

    stays : (q : Place) → view now q ≡ put_at (view now) c.place c.old q
    stays q = at q (same_place c.place q) refl

-- All changes were undone.
pub restored_all : (before now : Machine) (cs left : List Change) → left ≡ [] → Restored before cs now left → Overwritten before now cs
unfolding named
restored_all before now cs left h r = record { setup = r.setup; rows = r.rows; backlog = r.backlog; undone = λ p. ap (λ ds. undo (view now) ds p) (sym h) ∙ r.same p }

-- ---- Bytes, one range at a time

-- Several changes are undone at once.
pub restored_over : (before now next : Machine) (cs ds left : List Change) → Overwritten now next ds → Restored before cs now (ds ++ left) → Restored before cs next left
restored_over before now next cs ds left o r = record {
  setup = setup_then before now next r.setup o.setup;
  rows = r.rows ∙ o.rows;
  backlog = r.backlog ∙ o.backlog;
  once = once_back ds left r.once;
  includes = λ p x h. r.includes p x (named_back ds left p x r.once h);
  same = λ p. ap (λ y. unwrap_or (named left p) y) (o.undone p) ∙ sym (undo-append (view now) ds left r.once p) ∙ r.same p;
}

-- A place of a byte that may be written in the machine is present among the objects and the memory.
value_there : (m : Machine) (g : Region) (j : ℕ) (v : Value) → can_put m (place_in g j) (Some v) → IsSome (world_seen m.world (place_in g j))
value_there m Memory j v h = h.there
value_there m (File o) j v h = h.there
value_there m (Durable o) j v h = h.there
value_there m (Pipe o) j v h = h.there

-- Each byte of the next range that has an old value is present.
pub stretch_present : (s before now : Machine) (cs : List Change) (g : Region) (i : ℕ) (os : List (Option ℕ)) (left : List Change) → Overwrites s before cs → Restored before cs now (old_bytes g i os ++ left) → BytesPresent (world_seen now.world) g i os
stretch_present s before now cs g i os left w r k b e =
    let includes = r.includes (place_in g (i + k)) (Some (Byte b)) (named_front (old_bytes g i os) left (place_in g (i + k)) (Some (Byte b)) (named_here g i os k b e)) in
    let here = w.values (place_in g (i + k)) (Some (Byte b)) includes in
    value_there now g (i + k) (Byte b) (seen_can_put s now w.formed (setup_then s before now w.setup r.setup) (w.rows ∙ r.rows) (w.backlog ∙ r.backlog) (place_in g (i + k)) (Byte b) (sym here))

unnamed : (p : Place) → named [] p ≡ None
unfolding named
unnamed p = refl

-- The bytes of a range were restored among the objects and the memory.
pub world_put_back : (m : Machine) (w : WorldState) (g : Region) (i : ℕ) (os : List (Option ℕ)) → OneWorldSetup m.world w → ((p : Place) → world_seen w p ≡ undo (world_seen m.world) (old_bytes g i os) p) → Overwritten m (record m { world = w }) (old_bytes g i os)
world_put_back m w g i os o h = record {
  setup = record { array = refl; slots = refl; completions = refl; world = o; programs = refl; poller = refl; submit_all = refl };
  rows = refl;
  backlog = refl;
  undone = λ p. sym (ap (λ n. unwrap_or n (view (record m { world = w }) p)) (unnamed p)) ∙ lifted.back p refl;
}
  where
    kept : Keeps world_owns (world_seen m.world) (world_seen w) (old_bytes g i os) []
    kept = record { back = λ q _. ap (λ n. unwrap_or n (world_seen w q)) (unnamed q) ∙ h q; others = λ q e. unnamed q ∙ sym (named_in_world g i os q e) }

    lifted : Keeps everywhere (view m) (view (record m { world = w })) (old_bytes g i os) []
    lifted = lift_world m w (old_bytes g i os) [] kept

-- ---- One part of the changes after the other

overwrites : (s m : Machine) (cs : List Change) → Remains s m cs → Overwrites s m cs
overwrites s m cs r = record { formed = r.formed; setup = r.setup; rows = r.rows; backlog = r.backlog; values = λ p x h. sym (ap (λ n. unwrap_or n (view m p)) h) ∙ r.back p }

overwrites_front : (s m : Machine) (cs ds : List Change) → Overwrites s m (cs ++ ds) → Overwrites s m cs
overwrites_front s m cs ds w = record { formed = w.formed; setup = w.setup; rows = w.rows; backlog = w.backlog; values = λ p x h. w.values p x (named_front cs ds p x h) }

overwrites_back : (s m n : Machine) (cs ds : List Change) → NamesOnce (cs ++ ds) → Overwrites s m (cs ++ ds) → Overwritten m n cs → Overwrites s n ds
overwrites_back s m n cs ds once w o = record {
  formed = w.formed;
  setup = setup_then s m n w.setup o.setup;
  rows = w.rows ∙ o.rows;
  backlog = w.backlog ∙ o.backlog;
  values = λ p x h. w.values p x (named_back cs ds p x once h);
}

overwritten_then : (m n o : Machine) (cs ds : List Change) → NamesOnce (cs ++ ds) → Overwritten m n cs → Overwritten n o ds → Overwritten m o (cs ++ ds)
overwritten_then m n o cs ds once a b = record {
  setup = setup_then m n o a.setup b.setup;
  rows = a.rows ∙ b.rows;
  backlog = a.backlog ∙ b.backlog;
  undone = λ p. b.undone p ∙ ap (λ y. unwrap_or (named ds p) y) (a.undone p) ∙ sym (undo-append (view m) cs ds once p);
}

-- The changes of a record, in three parts.
module _ (s m : Machine) (cs a b c : List Change) (e : cs ≡ a ++ (b ++ c)) (once : NamesOnce cs) (r : Remains s m cs) where
  parted : NamesOnce (a ++ (b ++ c))
  parted = subst NamesOnce e once

  all : Overwrites s m (a ++ (b ++ c))
  all = subst (Overwrites s m) e (overwrites s m cs r)

  pub first_part : Overwrites s m a
  first_part = overwrites_front s m a (b ++ c) all

  pub second_part : (n : Machine) → Overwritten m n a → Overwrites s n b
  second_part n x = overwrites_front s n b c (overwrites_back s m n a (b ++ c) parted all x)

  pub third_part : (n o : Machine) → Overwritten m n a → Overwritten n o b → Overwrites s o c
  third_part n o x y = overwrites_back s n o b c (once_back a (b ++ c) parted) (overwrites_back s m n a (b ++ c) parted all x) y

  -- The machine to restore.
  pub went_back : (n o q : Machine) → Overwritten m n a → Overwritten n o b → Overwritten o q c → q ≡ s
  went_back n o q x y z =
      let w = overwritten_then m n q a (b ++ c) parted x (overwritten_then n o q b c (once_back a (b ++ c) parted) y z) in
      sym (same_machine s q (setup_then s m q r.setup w.setup) (λ p. sym (w.undone p ∙ ap (λ ds. undo (view m) ds p) (sym e) ∙ r.back p)))

pub some_of : {X : Type 0} (o : Option X) → is_some o ≡ true → (v : X) × (o ≡ Some v)
some_of None h = absurd cc
some_of (Some v) h = (v, refl)

pub none_of : {X : Type 0} (o : Option X) → is_some o ≡ false → o ≡ None
none_of None h = refl
none_of (Some v) h = absurd cc
