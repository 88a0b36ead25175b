-- The first number that passes a test, and the minimum of a partial function.
use Rattle.std.specs.Prelude.{ℕ, zero, suc, Bool, Option, Some, None, if◌then◌else◌, min}

-- The first option that has a value.
abbrev pub or_else : {T : Type 0} → Option T → Option T → Option T
or_else (Some x) o = Some x
or_else None o = o

-- The first number below n that passes.
abbrev pub least : (ℕ → Bool) → ℕ → Option ℕ
least f zero = None
least f (suc n) = or_else (least f n) (if f n then Some n else None)

-- The minimum of two optional numbers.
abbrev pub smaller_of : Option ℕ → Option ℕ → Option ℕ
smaller_of None o = o
smaller_of (Some a) None = Some a
smaller_of (Some a) (Some b) = Some (min a b)

-- The minimum of the values that a function has below n.
abbrev pub least_value : (ℕ → Option ℕ) → ℕ → Option ℕ
least_value f zero = None
least_value f (suc n) = smaller_of (least_value f n) (f n)
