-- Setting a file position can't fail if there is room for its note.
use Rattle.opcodes.proofs.Common.{◌≡◌, ℕ, arith, Result, IsOk, OnErr, WorldState, IsSome, world_seen, HasPosition}
use Rattle.places.specs.declared.place.Place.TheVariants.{Position}

-- If a result is not an error, any claim about its error holds.
pub moves : {A E : Type 0} (r : Result A E) (P : Type 0) → IsOk r → OnErr r P
moves = grind arith

-- A file position can be set where there is one.
pub position_seen : (w : WorldState) (fd : ℕ) → HasPosition w fd → IsSome (world_seen w (Position fd))
position_seen = grind arith

-- It can be set after the bytes moved.
pub position_still : (w v : WorldState) (fd : ℕ) → v.descriptors ≡ w.descriptors → HasPosition w fd → HasPosition v fd
position_still = grind arith
