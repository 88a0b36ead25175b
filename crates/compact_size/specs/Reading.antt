-- Reading values one after the other from bytes. `read` returns the value at the start of some
-- bytes, and `left` the bytes after it.
use Rattle.std.specs.Prelude.{◌≡◌, ℕ, zero, suc, List, [], ◌∷◌, ◌++◌}

-- The first n values.
abbrev pub read_all : {X : Type 0} → (List ℕ → X) → (List ℕ → List ℕ) → ℕ → List ℕ → List X
read_all read left zero bytes = []
read_all read left (suc n) bytes = read bytes ∷ read_all read left n (left bytes)

-- The bytes begin with the values `xs`, and after them `rest` is left.
abbrev pub Reads : {X : Type 0} → (List ℕ → X) → (List ℕ → List ℕ) → List ℕ → List X → List ℕ → Type 0
Reads read left bytes [] rest = bytes ≡ rest
Reads read left bytes (x ∷ xs) rest = (read bytes ≡ x) × Reads read left (left bytes) xs rest

-- `new` followed by `rest` is `old` followed by bytes that read as the values `xs` and then `rest`.
pub record Put {X : Type 0} (read : List ℕ → X) (left : List ℕ → List ℕ) (old : List ℕ) (xs : List X) (new rest : List ℕ) : Type 0 where
  pub put : List ℕ
  pub joined : new ++ rest ≡ old ++ put
  pub reads : Reads read left put xs rest

-- `new` is `old` with the values `xs` appended: whatever follows, they are read
-- back, and then what follows.
abbrev pub Puts : {X : Type 0} → (List ℕ → X) → (List ℕ → List ℕ) → List ℕ → List X → List ℕ → Type 0
Puts read left old xs new = (rest : List ℕ) → Put read left old xs new rest
