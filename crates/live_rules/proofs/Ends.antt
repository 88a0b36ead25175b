-- What a kernel worker does to issued requests.
use Rattle.std.proofs.Common.{◌≡◌, ℕ, Bool, true, false, refl, sym, ap, ◌∙◌, if◌then◌else◌}
use Rattle.std.specs.Prelude.{◌&&◌, Option, Some, None, is_none, is_some, slice_get}
use Rattle.std.specs.Option.{option_map_or}
use Rattle.entries.specs.declared.row.Row.{Row}
use Rattle.links_drains.specs.Holding.{is_held_by}
use Rattle.links_drains.specs.Phases.{is_issued}
use Rattle.model_files.specs.Worlds.{WorldState}
use Rattle.opcodes.specs.Opcodes.{is_timer}
use Rattle.entries.specs.declared.choice.Choice.TheVariants.{Full}
use Rattle.timeouts_cancel.specs.Timers.{is_due}
use Rattle.machine.specs.declared.whole.Machine.{Machine}
use Rattle.machine.specs.Deadlines.{issued_deadline, deadline_at}
use Rattle.machine.specs.Steps.{finish_refusal}
use Rattle.machine.specs.Whole.{WellFormed}
use Rattle.machine.proofs.FormedRows.{unfinished_issued}
use Rattle.live_rules.specs.declared.offering.Action.TheVariants.{Finishing, Expiring}
use Rattle.live_rules.specs.Least.{or_else}
use Rattle.live_rules.specs.Offers.{may_do, event_on, on_row, least_row, least_deadline, ticks, ticks_to, ends}
use Rattle.live_rules.specs.Passing.{is_reached}
use Rattle.live_rules.proofs.OfferLemmas.{expired_due}

-- An issued request has a deadline exactly if it is a TIMEOUT or a LINK_TIMEOUT.
timer_due : (m : Machine) (r : ℕ) (row : Row) → WellFormed m → slice_get m.table r ≡ Some row → is_issued row.phase ≡ true → is_some row.deadline ≡ is_timer row.entry.opcode
timer_due m r row f e i = let x = f.rows r row e in x.due i ∙ x.timed (unfinished_issued row.phase i)

-- ---- A request with a deadline may not finish

timer_by : (t i : Bool) (o : Option ℕ) (d : ℕ) → (i ≡ true → is_some o ≡ t) → (if i then o else None) ≡ Some d → t ≡ true
timer_by t true (Some x) d h e = sym (h refl)
timer_by t true None d h e = absurd (cc)
timer_by t false o d h e = absurd (cc)

waits : (held : ℕ → Bool) (w : WorldState) (row : Row) → is_timer row.entry.opcode ≡ true → is_none (finish_refusal held w (Some row) Full) ≡ false
waits held w row e = rw e refl

waits_there : (m : Machine) (r d : ℕ) (o : Option Row) → WellFormed m → slice_get m.table r ≡ o → option_map_or issued_deadline o None ≡ Some d → is_none (finish_refusal (is_held_by m.table) m.world o Full) ≡ false
waits_there m r d None f g e = refl
waits_there m r d (Some row) f g e = waits (is_held_by m.table) m.world row (timer_by (is_timer row.entry.opcode) (is_issued row.phase) row.deadline d (timer_due m r row f g) e)

pub timer_unfinished : (m : Machine) (r d : ℕ) → WellFormed m → deadline_at m.table r ≡ Some d → may_do m Finishing r ≡ false
timer_unfinished m r d f e = waits_there m r d (slice_get m.table r) f refl e

-- ---- It may expire exactly if the clock has reached the deadline

due_by : (clock : ℕ) (t i : Bool) (o : Option ℕ) → (i ≡ true → is_some o ≡ t) → (t && (i && is_reached clock o)) ≡ is_reached clock (if i then o else None)
due_by clock true true (Some d) h = refl
due_by clock true true None h = refl
due_by clock false true (Some d) h = absurd (let k = h refl in cc)
due_by clock false true None h = refl
due_by clock true false o h = refl
due_by clock false false o h = refl

due_there : (m : Machine) (r : ℕ) (o : Option Row) → WellFormed m → slice_get m.table r ≡ o
    → option_map_or (λ (row : Row). is_timer row.entry.opcode && (is_issued row.phase && is_due m.clock row)) o false ≡ is_reached m.clock (option_map_or issued_deadline o None)
due_there m r None f g = refl
due_there m r (Some row) f g = due_by m.clock (is_timer row.entry.opcode) (is_issued row.phase) row.deadline (timer_due m r row f g)

pub expires_reached : (m : Machine) (r : ℕ) → WellFormed m → may_do m Expiring r ≡ is_reached m.clock (deadline_at m.table r)
expires_reached m r f = expired_due m r ∙ due_there m r (slice_get m.table r) f refl

-- ---- The result of the search

pub finish_ends : (m : Machine) (r : ℕ) → least_row m Finishing ≡ Some r → Some (event_on Finishing r) ≡ ends m
finish_ends m r e = sym (ap (λ (o : Option ℕ). or_else (on_row Finishing o) (or_else (on_row Expiring (least_row m Expiring)) (ticks m))) e)

pub rest_ends : (m : Machine) (due least : Option ℕ) → least_row m Finishing ≡ None → due ≡ least_row m Expiring → least ≡ least_deadline m → or_else (on_row Expiring due) (ticks_to m.clock least) ≡ ends m
rest_ends m due least none e d =
    ap (λ (o : Option ℕ). or_else (on_row Expiring o) (ticks_to m.clock least)) e
    ∙ ap (λ (o : Option ℕ). or_else (on_row Expiring (least_row m Expiring)) (ticks_to m.clock o)) d
    ∙ sym (ap (λ (o : Option ℕ). or_else (on_row Finishing o) (or_else (on_row Expiring (least_row m Expiring)) (ticks m))) none)
