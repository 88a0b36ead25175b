-- In a schedule without zero-byte transfers, each transfer moves at least one byte.
use Rattle.std.proofs.Common.{◌≡◌, zero, suc, true, false, refl, List, [], ◌∷◌, arith}
use Rattle.std.specs.List.{list_all, list_any}
use Rattle.std.proofs.lemmas.Bool.{and_from, or_parts, lt-ltb}
use Rattle.entries.specs.declared.choice.Choice.TheVariants.{Full, Short, Eio}
use Rattle.scenario.specs.declared.event.Event.{Event}
use Rattle.scenario.specs.declared.event.Event.TheVariants.{Step, Take, Sleep, Issue, Finish, Expire, Tick}
use Rattle.script.specs.Scripts.{is_short_of_nothing}
use Rattle.traces.specs.Spelling.{has_transfer}

moves : (e : Event) → is_short_of_nothing e ≡ false → has_transfer e ≡ true
moves (Step n) h = refl
moves (Take n) h = refl
moves Sleep h = refl
moves (Issue n) h = refl
moves (Finish n Full) h = refl
moves (Finish n (Short zero)) h = absurd cc
moves (Finish n (Short (suc m))) h = lt-ltb 0 (suc m) (omega arith)
moves (Finish n Eio) h = refl
moves (Expire n) h = refl
moves (Tick d) h = refl

pub all_move : (es : List Event) → list_any is_short_of_nothing es ≡ false → list_all has_transfer es ≡ true
all_move [] h = refl
all_move (e ∷ es) h = let b = or_parts _ _ h in and_from _ _ (moves e b.0) (all_move es b.1)
