-- The numbers of the refusals of an extension.
use Rattle.std.specs.Prelude.{ℕ}
use Rattle.inverse_log.specs.declared.refusal.ExtendRefusal.{ExtendRefusal}
use Rattle.inverse_log.specs.declared.refusal.ExtendRefusal.TheVariants.{TraceFull, Refused}

abbrev pub number_of : ExtendRefusal → ℕ
number_of TraceFull = 1
number_of (Refused i n) = 2
