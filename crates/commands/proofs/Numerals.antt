-- Parsing a 64-bit number from text.
use Rattle.std.proofs.Common.{◌≡◌, ℕ, List, true, Result, ◌∙◌}
use Rattle.std.specs.Result.{result_ok}
use Rattle.std.specs.Str.Parse.{ParsesUnsigned}
use Rattle.scenario.specs.Names.{is_numeral}
use Rattle.scenario.proofs.Numbers.{numeral_parsed}
use Rattle.commands.specs.Values.{wide_number_of}

-- `parse` returns the number that a numeral denotes.
pub wide_parsed : {E : Type 0} (word : List ℕ) (r : Result ℕ E) → is_numeral word ≡ true → ParsesUnsigned 64 10 word r → result_ok r ≡ wide_number_of word
wide_parsed word r h p = numeral_parsed 64 word r h p ∙ rw h
