-- How many requests and overflowed completions remain when a step is undone.
use Rattle.machine.proofs.Common.{◌≡◌, ℕ, sym, subst, ◌∙◌, List, length, take, map, length-take-le, Place, Request, Backlog, Completed, Requested, Change, undo, LeadsBack, fixed_of, stay_cut, Machine}
use Rattle.places.{specs.declared.listed.Listed.TheVariants.Requests, specs.declared.listed.Listed.TheVariants.Overflowed, specs.Notes.IsLeft, proofs.Restored.left_all, proofs.Restored.left_back}
use Rattle.machine.specs.Whole.{view, GoesBack, OneSetup, WellFormed}

-- The machine with fewer requests and fewer items of the backlog.
abbrev pub cut : ℕ → ℕ → Machine → Machine
cut rows items m = record m { table = take rows m.table; backlog = record m.backlog { items = take items m.backlog.items } }

-- The changes lead back to a machine with as many requests and items.
pub record Remains (s m : Machine) (cs : List Change) : Type 0 where
  pub formed : WellFormed s
  pub setup : OneSetup s m
  pub rows : map fixed_of s.table ≡ map fixed_of m.table
  pub backlog : length s.backlog.items ≡ length m.backlog.items
  pub back : LeadsBack (view s) (view m) cs

-- This holds once the places that were absent are removed.
pub remains : (s m : Machine) (cs : List Change) (few some rows items : ℕ) → few ≡ length m.table → some ≡ length m.backlog.items → IsLeft Requests cs few rows → IsLeft Overflowed cs some items
    → GoesBack s m cs → Remains s (cut rows items m) cs
remains s m cs few some left kept e f fewer less g = record {
  formed = g.formed;
  setup = record { array = g.grows.setup.array; slots = g.grows.setup.slots; completions = g.grows.setup.completions; world = g.grows.setup.world; programs = g.grows.setup.programs; poller = g.grows.setup.poller; submit_all = g.grows.setup.submit_all };
  rows = stay_cut s.table m.table left rows g.grows.stay;
  backlog = sym items ∙ sym (length-take-le kept m.backlog.items k.most);
  back = back;
}
  where
    l : IsLeft Requests cs (length m.table) left
    l = subst (λ n. IsLeft Requests cs n left) e fewer

    k : IsLeft Overflowed cs (length m.backlog.items) kept
    k = subst (λ n. IsLeft Overflowed cs n kept) f less

    rows : left ≡ length s.table
    rows = left_all Requested Requests s.table m.table cs left l g.grows.rows (λ i. g.back (Request i))

    items : kept ≡ length s.backlog.items
    items = left_all Completed Overflowed s.backlog.items m.backlog.items cs kept k g.grows.backlog (λ i. g.back (Backlog i))

    back : (p : Place) → undo (view (cut left kept m)) cs p ≡ view s p
    back (Request i) = left_back Requested Requests s.table m.table cs left l g.grows.rows (λ j. g.back (Request j)) i
    back (Backlog i) = left_back Completed Overflowed s.backlog.items m.backlog.items cs kept k g.grows.backlog (λ j. g.back (Backlog j)) i
    back p = g.back p
