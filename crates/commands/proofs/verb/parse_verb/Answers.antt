use Rattle.std.proofs.Common.{◌≡◌, ◌∙◌, rules, tests, ap, refl, ℕ, Bool, true, false, List, [], ◌∷◌, Option, Some, cond, find, unwrap_or}
use Rattle.std.specs.Str.{bytes_eq}
use Rattle.std.proofs.lemmas.Iterator.{YieldsList-from_slice}
use Rattle.std.proofs.lemmas.Iterator.Search.{find_from_yields_List}
use Rattle.commands.specs.Commands.{word_of}
use Rattle.commands.specs.declared.verb.Verb.{Verb}
use Rattle.commands.specs.declared.verb.Verb.TheVariants.{Where, Show, Goto, Back, On, Watch, Break, Unwatch, Cont, Rcont, Sync, Quit, Other}
use Rattle.commands.proofs.verb.parse_verb.Goals as goal

abbrev verbs : List Verb
verbs = Where ∷ Show ∷ Goto ∷ Back ∷ On ∷ Watch ∷ Break ∷ Unwatch ∷ Cont ∷ Rcont ∷ Sync ∷ Quit ∷ []

-- The first verb of a list that a word names.
abbrev named : List ℕ → List Verb → Verb
named w [] = Other
named w (v ∷ vs) = cond (bytes_eq w (word_of v)) v (named w vs)

this_or_later : (b : Bool) (v : Verb) (o : Option Verb) (later : Verb) → unwrap_or o Other ≡ later → unwrap_or (cond b (Some v) o) Other ≡ cond b v later
this_or_later true v o later e = refl
this_or_later false v o later e = e

named_by_find : (w : List ℕ) (vs : List Verb) → unwrap_or (find (λ v. bytes_eq w (word_of v)) vs) Other ≡ named w vs
named_by_find w [] = refl
named_by_find w (v ∷ vs) = this_or_later (bytes_eq w (word_of v)) v (find (λ u. bytes_eq w (word_of u)) vs) (named w vs) (named_by_find w vs)

pub returns : goal.returns
returns c =
    let found = c.copied.ensures ∙ find_from_yields_List (λ v. bytes_eq c.args.word.now (word_of v)) _ _ c.find.result c.find.ensures.ran (YieldsList-from_slice verbs c.iter.ensures.rest) (λ x b q k. search (rules, tests)) in
    c.unwrap_or.ensures ∙ ap (λ (o : Option Verb). unwrap_or o Other) found ∙ named_by_find c.args.word.now verbs
