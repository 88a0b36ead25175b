-- How full the rings and the backlog are (io_uring(7)).
use Rattle.occupancy.specs.Common.{ℕ, length, Option, Some, Value, Number, waiting, kept, Machine, Filling}

-- The number in an optional value, or 0.
abbrev pub number_in : Option Value → ℕ
number_in (Some (Number n)) = n
number_in _ = 0

-- The number of items in each of the two rings and in the backlog, and the clock in nanoseconds.
abbrev pub filling_of : Machine → Filling
filling_of m = record {
  submissions = waiting m.submissions.head m.submissions.tail;
  completions = waiting m.completions.head m.completions.tail;
  kept = length (kept m.backlog);
  clock = m.clock;
}
