-- Runs and sessions give the same results for the original setup and for the setup stored in its
-- trace.
use Rattle.std.proofs.Common.{◌≡◌, ℕ, Bool, true, false, List, [], ◌∷◌, length, take, drop, Option, Some, None, Result, Ok, Err, refl, ap, subst, ◌+◌}
use Rattle.std.specs.Prelude.{nat_lt, if◌then◌else◌}
use Rattle.places.specs.declared.place.Place.{Place}
use Rattle.scenario.specs.Setups.{setup_refusal}
use Rattle.scenario.specs.Names.{is_member, member_of, number_of, pair_named, place_in, place_named, kind_named}
use Rattle.scenario.specs.declared.names.PlaceFault.{PlaceFault}
use Rattle.scenario.specs.declared.names.PlaceFault.TheVariants as missing
use Rattle.scenario.specs.declared.numbered.PlaceKind.{PlaceKind}
use Rattle.scenario.specs.declared.numbered.PlaceKind.TheVariants as kind
use Rattle.scenario.specs.declared.event.Event.{Event}
use Rattle.scenario.specs.declared.event.Refusal.{Refusal}
use Rattle.scenario.specs.declared.setup.Setup.{Setup}
use Rattle.machine.specs.declared.whole.Machine.{Machine}
use Rattle.machine.specs.Steps.{refusal}
use Rattle.machine.specs.Runs.{start, run, Accepts, IsRefused}
use Rattle.commands.specs.declared.command.Command.TheVariants.{Show, Watch}
use Rattle.commands.specs.declared.command.CommandFault.TheVariants as fault
use Rattle.commands.specs.declared.verb.Verb.{Verb}
use Rattle.commands.specs.declared.verb.Verb.TheVariants as verb
use Rattle.commands.specs.Commands.{breaking_by, command_by, command_of, command_of_words, mark_of, placed, stopping_at, value_in, verb_of, words_of}
use Rattle.traces.specs.Setups.{canonical}
use Rattle.traces.proofs.Kept.{completion_size_kept, memory_few, submission_size_kept, trimmed_filled}

-- ---- The start

pub start_again : (s : Setup) → setup_refusal s ≡ None → start (canonical s) ≡ start s
start_again s h = rw (submission_size_kept s h, completion_size_kept s h, trimmed_filled 65536 s.memory (memory_few s h)) refl

pub accepts_again : (s : Setup) (es : List Event) → setup_refusal s ≡ None → Accepts (start (canonical s)) es → Accepts (start s) es
accepts_again s es h a = subst (λ (m : Machine). Accepts m es) (start_again s h) a

pub refused_again : (s : Setup) (es : List Event) (i : ℕ) (n : Refusal) → setup_refusal s ≡ None → IsRefused (canonical s) es i n → IsRefused s es i n
refused_again s es i n h r = record {
  runs = accepts_again s (take i es) h r.runs;
  event = r.event;
  there = r.there;
  refused = subst (λ (m : Machine). refusal (run m (take i es)) r.event ≡ Some n) (start_again s h) r.refused;
}

-- ---- The commands

member_again : (s : Setup) → setup_refusal s ≡ None → (k : PlaceKind) (i : ℕ) → is_member (canonical s) k i ≡ is_member s k i
member_again s h kind.Array i = ap (λ (n : ℕ). nat_lt i n) (submission_size_kept s h)
member_again s h kind.Slots i = ap (λ (n : ℕ). nat_lt i n) (submission_size_kept s h)
member_again s h kind.Completions i = ap (λ (n : ℕ). nat_lt i n) (completion_size_kept s h)
member_again s h kind.MemoryBytes i = refl
member_again s h kind.Positions i = refl
member_again s h kind.OpenMarks i = refl
member_again s h kind.Requests i = refl
member_again s h kind.Backlogs i = refl
member_again s h kind.ProgramCounters i = refl
member_again s h kind.Stages i = refl
member_again s h kind.Lasts i = refl
member_again s h kind.Gots i = refl

pair_again : (s : Setup) → setup_refusal s ≡ None → (k : Option PlaceKind) (w x : List ℕ) → pair_named (canonical s) k w x ≡ pair_named s k w x
pair_again s h None w x = refl
pair_again s h (Some k) w x = by (number_of x)
  where
    by : (o : Option ℕ) → member_of (canonical s) k o ≡ member_of s k o
    by None = refl
    by (Some i) = ap (λ (b : Bool). member b i) (member_again s h k i)
      where
        member : Bool → ℕ → Result Place PlaceFault
        member b i = if b then Ok (place_in k i) else Err missing.Place

place_again : (s : Setup) → setup_refusal s ≡ None → (ws : List (List ℕ)) → place_named (canonical s) ws ≡ place_named s ws
place_again s h [] = refl
place_again s h (w ∷ []) = refl
place_again s h (w ∷ x ∷ []) = pair_again s h (kind_named w) w x
place_again s h (w ∷ o ∷ i ∷ []) = refl
place_again s h (w ∷ o ∷ i ∷ x ∷ more) = refl

break_again : (s : Setup) → setup_refusal s ≡ None → (ws : List (List ℕ)) (o : Option ℕ) → breaking_by (canonical s) ws o ≡ breaking_by s ws o
break_again s h ws None = refl
break_again s h ws (Some i) = ap (λ (r : Result Place PlaceFault). placed r (λ p. stopping_at p (value_in p (drop (i + 1) ws)))) (place_again s h (take i ws))

verb_again : (s : Setup) → setup_refusal s ≡ None → (v : Verb) (ws : List (List ℕ)) → command_by (canonical s) v ws ≡ command_by s v ws
verb_again s h verb.Where ws = refl
verb_again s h verb.Show ws = ap (λ (r : Result Place PlaceFault). placed r (λ p. Ok (Show p))) (place_again s h ws)
verb_again s h verb.Goto ws = refl
verb_again s h verb.Back ws = refl
verb_again s h verb.On ws = refl
verb_again s h verb.Watch ws = ap (λ (r : Result Place PlaceFault). placed r (λ p. Ok (Watch p))) (place_again s h ws)
verb_again s h verb.Break ws = break_again s h ws (mark_of ws)
verb_again s h verb.Unwatch ws = refl
verb_again s h verb.Cont ws = refl
verb_again s h verb.Rcont ws = refl
verb_again s h verb.Sync ws = refl
verb_again s h verb.Quit ws = refl
verb_again s h verb.Other ws = refl

pub command_again : (s : Setup) → setup_refusal s ≡ None → (line : List ℕ) → command_of (canonical s) line ≡ command_of s line
unfolding command_of
command_again s h line = by (nat_lt 256 (length line)) (words_of line)
  where
    by : (b : Bool) (ws : List (List ℕ)) → (if b then Err fault.Long else command_of_words (canonical s) ws) ≡ (if b then Err fault.Long else command_of_words s ws)
    by true ws = refl
    by false [] = refl
    by false (w ∷ ws) = verb_again s h (verb_of w) ws
