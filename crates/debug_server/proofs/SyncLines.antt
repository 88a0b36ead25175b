-- A line queries the source exactly if it is the command `sync`.
use Rattle.std.proofs.Common.{◌≡◌, ℕ, ◌+◌, List, [], ◌∷◌, length, take, drop, codes, nat_lt, Bool, true, false, cond, Option, Some, None, Result, Ok, Err, refl, sym, ap, ◌∙◌}
use Rattle.std.specs.List.{join_with_byte}
use Rattle.std.specs.Str.{bytes_eq}
use Rattle.std.specs.Cmp.Lexicographic.{bytes_decides}
use Rattle.std.proofs.lemmas.List.Splits.{join_with_byte-slice_split}
use Rattle.places.specs.declared.place.Place.{Place}
use Rattle.places.specs.declared.value.Value.{Value}
use Rattle.scenario.specs.declared.setup.Setup.{Setup}
use Rattle.scenario.specs.declared.names.PlaceFault.{PlaceFault}
use Rattle.scenario.specs.Names.{number_of, place_named}
use Rattle.commands.specs.declared.command.Command.{Command}
use Rattle.commands.specs.declared.command.Command.TheVariants.{Show, Goto, Back, On, Watch, Sync}
use Rattle.commands.specs.declared.command.CommandFault.{CommandFault}
use Rattle.commands.specs.declared.command.CommandFault.TheVariants.{Long}
use Rattle.commands.specs.declared.verb.Verb.{Verb}
use Rattle.commands.specs.declared.verb.Verb.TheVariants as verb
use Rattle.commands.specs.Commands.{words_of, verb_of, numbered, placed, mark_of, value_in, stopping_at, breaking_by, command_by, command_of_words, command_of}
use Rattle.debug_server.specs.Transcripts.{asks}

-- ---- Lines that query the source

is_sync : (setup : Setup) → command_of setup (codes "sync") ≡ Ok Sync
unfolding command_of
is_sync setup = refl

pub asked_is_sync : (setup : Setup) (line : List ℕ) → asks line ≡ true → command_of setup line ≡ Ok Sync
unfolding asks
asked_is_sync setup line h = ap (command_of setup) ((bytes_decides line (codes "sync")).0 h) ∙ is_sync setup

-- ---- The command `sync`

-- No other command is `sync`.
placed_not : (r : Result Place PlaceFault) (f : Place → Result Command CommandFault) → ((p : Place) → f p ≡ Ok Sync → ⊥) → placed r f ≡ Ok Sync → ⊥
placed_not (Ok p) f n h = n p h
placed_not (Err e) f n h = cc

numbered_not : (o : Option ℕ) (f : ℕ → Command) → ((n : ℕ) → f n ≡ Sync → ⊥) → numbered o f ≡ Ok Sync → ⊥
numbered_not None f n h = cc
numbered_not (Some k) f n h = n k (let same : f k ≡ Sync = cc in same)

stopping_not : (p : Place) (o : Option Value) → stopping_at p o ≡ Ok Sync → ⊥
stopping_not p None h = cc
stopping_not p (Some x) h = cc

breaking_not : (setup : Setup) (ws : List (List ℕ)) (o : Option ℕ) → breaking_by setup ws o ≡ Ok Sync → ⊥
breaking_not setup ws None h = cc
breaking_not setup ws (Some i) h =
    placed_not (place_named setup (take i ws)) (λ p. stopping_at p (value_in p (drop (i + 1) ws)))
    (λ p e. stopping_not p (value_in p (drop (i + 1) ws)) e) h

by_verb : (setup : Setup) (v : Verb) (ws : List (List ℕ)) → command_by setup v ws ≡ Ok Sync → (v ≡ verb.Sync) × (ws ≡ [])
by_verb setup verb.Sync [] h = (refl, refl)
by_verb setup verb.Show ws h = absurd (placed_not (place_named setup ws) (λ p. Ok (Show p)) (λ p e. cc) h)
by_verb setup verb.Watch ws h = absurd (placed_not (place_named setup ws) (λ p. Ok (Watch p)) (λ p e. cc) h)
by_verb setup verb.Break ws h = absurd (breaking_not setup ws (mark_of ws) h)
by_verb setup verb.Goto (n ∷ []) h = absurd (numbered_not (number_of n) Goto (λ k e. cc) h)
by_verb setup verb.Back (n ∷ []) h = absurd (numbered_not (number_of n) Back (λ k e. cc) h)
by_verb setup verb.On (n ∷ []) h = absurd (numbered_not (number_of n) On (λ k e. cc) h)
by_verb setup verb.Where [] h = absurd (cc)
by_verb setup verb.Where (w ∷ ws) h = absurd (cc)
by_verb setup verb.Quit [] h = absurd (cc)
by_verb setup verb.Quit (w ∷ ws) h = absurd (cc)
by_verb setup verb.Unwatch [] h = absurd (cc)
by_verb setup verb.Unwatch (w ∷ ws) h = absurd (cc)
by_verb setup verb.Cont [] h = absurd (cc)
by_verb setup verb.Cont (w ∷ ws) h = absurd (cc)
by_verb setup verb.Rcont [] h = absurd (cc)
by_verb setup verb.Rcont (w ∷ ws) h = absurd (cc)
by_verb setup verb.Other [] h = absurd (cc)
by_verb setup verb.Other (w ∷ ws) h = absurd (cc)
by_verb setup verb.Sync (w ∷ ws) h = absurd (cc)
by_verb setup verb.Goto [] h = absurd (cc)
by_verb setup verb.Goto (n ∷ m ∷ ws) h = absurd (cc)
by_verb setup verb.Back [] h = absurd (cc)
by_verb setup verb.Back (n ∷ m ∷ ws) h = absurd (cc)
by_verb setup verb.On [] h = absurd (cc)
by_verb setup verb.On (n ∷ m ∷ ws) h = absurd (cc)

skip : (q : Bool) (v rest : Verb) → (v ≡ verb.Sync → ⊥) → cond q v rest ≡ verb.Sync → rest ≡ verb.Sync
skip true v rest n h = absurd (n h)
skip false v rest n h = h

here : (q r : Bool) → cond q verb.Sync (cond r verb.Quit verb.Other) ≡ verb.Sync → q ≡ true
here true r h = refl
here false true h = absurd (cc)
here false false h = absurd (cc)

sync_word : (w : List ℕ) → verb_of w ≡ verb.Sync → bytes_eq w (codes "sync") ≡ true
sync_word w h =
    let past_show = skip _ verb.Show _ (λ e. cc) (skip _ verb.Where _ (λ e. cc) h) in
    let past_on = skip _ verb.On _ (λ e. cc) (skip _ verb.Back _ (λ e. cc) (skip _ verb.Goto _ (λ e. cc) past_show)) in
    let past_unwatch = skip _ verb.Unwatch _ (λ e. cc) (skip _ verb.Break _ (λ e. cc) (skip _ verb.Watch _ (λ e. cc) past_on)) in
    here (bytes_eq w (codes "sync")) (bytes_eq w (codes "quit")) (skip _ verb.Rcont _ (λ e. cc) (skip _ verb.Cont _ (λ e. cc) past_unwatch))

words_sync : (setup : Setup) (ws : List (List ℕ)) → command_of_words setup ws ≡ Ok Sync → ws ≡ codes "sync" ∷ []
words_sync setup [] h = absurd (cc)
words_sync setup (w ∷ ws) h =
    let found = by_verb setup (verb_of w) ws h in
    let word = (bytes_decides w (codes "sync")).0 (sync_word w found.0) in
    ap (λ l. l ∷ ws) word ∙ ap (λ l. codes "sync" ∷ l) found.1

line_sync : (line : List ℕ) → words_of line ≡ codes "sync" ∷ [] → line ≡ codes "sync"
line_sync line h = sym (join_with_byte-slice_split 32 line) ∙ ap (join_with_byte 32) h

pub sync_is_asked : (setup : Setup) (line : List ℕ) → command_of setup line ≡ Ok Sync → asks line ≡ true
unfolding asks command_of
sync_is_asked setup line h = by (nat_lt 256 (length line)) h
  where
    by : (q : Bool) → cond q (Err Long) (command_of_words setup (words_of line)) ≡ Ok Sync → bytes_eq line (codes "sync") ≡ true
    by true k = absurd (cc)
    by false k = (bytes_decides line (codes "sync")).1 (line_sync line (words_sync setup (words_of line) k))
