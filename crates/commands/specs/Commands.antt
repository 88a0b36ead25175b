-- Parsing a command line, or finding its fault.
use Rattle.std.specs.Prelude.{ℕ, ◌+◌, ◌-◌, ◌==◌, List, [], ◌∷◌, length, take, drop, count_by, codes, nat_lt, Bool, if◌then◌else◌, Option, Some, None, Result, Ok, Err, ok_or}
use Rattle.std.specs.List.{slice_split, position}
use Rattle.std.specs.Str.{bytes_eq}
use Rattle.places.specs.declared.place.Place.{Place}
use Rattle.places.specs.declared.value.Value.{Value}
use Rattle.scenario.specs.declared.setup.Setup.{Setup}
use Rattle.scenario.specs.declared.names.PlaceFault.{PlaceFault}
use Rattle.scenario.specs.declared.names.PlaceFault.TheVariants as missing
use Rattle.scenario.specs.Names.{number_of, place_named}
use Rattle.commands.specs.declared.command.Command.{Command}
use Rattle.commands.specs.declared.command.Command.TheVariants.{Where, Show, Goto, Back, On, Watch, Break, Unwatch, Cont, Rcont, Sync, Quit}
use Rattle.commands.specs.declared.command.CommandFault.{CommandFault}
use Rattle.commands.specs.declared.command.CommandFault.TheVariants as fault
use Rattle.commands.specs.declared.verb.Verb.{Verb}
use Rattle.commands.specs.declared.verb.Verb.TheVariants as verb
use Rattle.commands.specs.Values.{value_of}

-- The words of a line, each separated by one space.
abbrev pub words_of : List ℕ → List (List ℕ)
words_of line = slice_split (λ b. b == 32) line

-- The word of a command.
abbrev pub word_of : Verb → List ℕ
word_of verb.Where = codes "where"
word_of verb.Show = codes "show"
word_of verb.Goto = codes "goto"
word_of verb.Back = codes "back"
word_of verb.On = codes "on"
word_of verb.Watch = codes "watch"
word_of verb.Break = codes "break"
word_of verb.Unwatch = codes "unwatch"
word_of verb.Cont = codes "cont"
word_of verb.Rcont = codes "rcont"
word_of verb.Sync = codes "sync"
word_of verb.Quit = codes "quit"
word_of verb.Other = []

-- The command that a word names.
abbrev pub verb_of : List ℕ → Verb
verb_of word =
    if bytes_eq word (codes "where") then verb.Where
    else if bytes_eq word (codes "show") then verb.Show
    else if bytes_eq word (codes "goto") then verb.Goto
    else if bytes_eq word (codes "back") then verb.Back
    else if bytes_eq word (codes "on") then verb.On
    else if bytes_eq word (codes "watch") then verb.Watch
    else if bytes_eq word (codes "break") then verb.Break
    else if bytes_eq word (codes "unwatch") then verb.Unwatch
    else if bytes_eq word (codes "cont") then verb.Cont
    else if bytes_eq word (codes "rcont") then verb.Rcont
    else if bytes_eq word (codes "sync") then verb.Sync
    else if bytes_eq word (codes "quit") then verb.Quit
    else verb.Other

-- A command with a number, or the fault for an invalid number.
abbrev pub numbered : Option ℕ → (ℕ → Command) → Result Command CommandFault
numbered None f = Err fault.Number
numbered (Some n) f = Ok (f n)

-- The number that is the only word.
abbrev pub only_number : List (List ℕ) → Result ℕ CommandFault
only_number (n ∷ []) = ok_or (number_of n) fault.Number
only_number _ = Err fault.Command

-- A command that is its verb alone.
abbrev pub alone : Command → List (List ℕ) → Result Command CommandFault
alone c [] = Ok c
alone c _ = Err fault.Command

-- The fault for words that don't name a place.
abbrev pub fault_at : PlaceFault → CommandFault
fault_at missing.Place = fault.Place
fault_at missing.Number = fault.Number

-- A result for a place, or the fault of its name.
abbrev pub placed : {X : Type 0} → Result Place PlaceFault → (Place → Result X CommandFault) → Result X CommandFault
placed (Ok p) f = f p
placed (Err e) f = Err (fault_at e)

-- ---- the `break` command

-- The mark between a place and a value.
abbrev pub is_mark : List ℕ → Bool
is_mark word = bytes_eq word (codes "=")

-- All words but the last.
abbrev pub followed : List (List ℕ) → List (List ℕ)
followed ws = take (length ws - 1) ws

-- The position of the mark, if exactly one mark is followed by a word.
abbrev pub mark_of : List (List ℕ) → Option ℕ
mark_of ws = if count_by is_mark (followed ws) == 1 then position is_mark (followed ws) else None

-- The value, if it is a single word.
abbrev pub value_in : Place → List (List ℕ) → Option Value
value_in p (w ∷ []) = value_of p w
value_in p _ = None

-- A `break` command, or the fault for an invalid value.
abbrev pub stopping_at : Place → Option Value → Result Command CommandFault
stopping_at p None = Err fault.Value
stopping_at p (Some x) = Ok (Break p x)

-- A `break` command from the words before and after the mark.
abbrev pub break_named : Setup → List (List ℕ) → List (List ℕ) → Result Command CommandFault
break_named setup name ws = placed (place_named setup name) (λ p. stopping_at p (value_in p ws))

-- A `break` command, split at the position of its mark.
abbrev pub breaking_by : Setup → List (List ℕ) → Option ℕ → Result Command CommandFault
breaking_by setup ws None = Err fault.Command
breaking_by setup ws (Some i) = break_named setup (take i ws) (drop (i + 1) ws)

-- A `break` command: a place, a mark and a value.
abbrev pub breaking : Setup → List (List ℕ) → Result Command CommandFault
breaking setup ws = breaking_by setup ws (mark_of ws)

-- ---- lines

-- A command by its first word and the words after it.
abbrev pub command_by : Setup → Verb → List (List ℕ) → Result Command CommandFault
command_by setup verb.Where [] = Ok Where
command_by setup verb.Quit [] = Ok Quit
command_by setup verb.Show ws = placed (place_named setup ws) (λ p. Ok (Show p))
command_by setup verb.Goto (n ∷ []) = numbered (number_of n) Goto
command_by setup verb.Back (n ∷ []) = numbered (number_of n) Back
command_by setup verb.On (n ∷ []) = numbered (number_of n) On
command_by setup verb.Watch ws = placed (place_named setup ws) (λ p. Ok (Watch p))
command_by setup verb.Break ws = breaking setup ws
command_by setup verb.Unwatch [] = Ok Unwatch
command_by setup verb.Cont [] = Ok Cont
command_by setup verb.Rcont [] = Ok Rcont
command_by setup verb.Sync [] = Ok Sync
command_by setup _ _ = Err fault.Command

-- A command by its words.
abbrev pub command_of_words : Setup → List (List ℕ) → Result Command CommandFault
command_of_words setup [] = Err fault.Command
command_of_words setup (w ∷ ws) = command_by setup (verb_of w) ws

-- The command of a line of at most 256 bytes. The setup has the names of the objects.
unfoldable pub command_of : Setup → List ℕ → Result Command CommandFault
command_of setup line = if nat_lt 256 (length line) then Err fault.Long else command_of_words setup (words_of line)
