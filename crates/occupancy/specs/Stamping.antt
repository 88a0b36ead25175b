-- How request lifetimes are recorded, step by step.
use Rattle.std.specs.Prelude.{ℕ, ◌-◌, ◌++◌, List, [], ◌∷◌, length, replicate, slice_get, Option, Some, None}
use Rattle.occupancy.specs.Common.{Row, Phase, Queued, Issued, Ended, updated, Place, Request, Change, Stamps}

-- The first moment if there is one, else the given one.
abbrev pub first_moment : Option ℕ → ℕ → Option ℕ
first_moment None moment = Some moment
first_moment (Some first) moment = Some first

-- The lifetime of a request that is new at a moment.
abbrev pub new_stamps : ℕ → Stamps
new_stamps moment = record { queued = moment; issued = None; ended = None }

-- A lifetime, updated with the phase of its request at a moment.
abbrev pub stamped : Stamps → Phase → ℕ → Stamps
stamped x Queued moment = x
stamped x Issued moment =
    record { queued = x.queued; issued = first_moment x.issued moment; ended = x.ended }
stamped x (Ended res) moment =
    record { queued = x.queued; issued = x.issued; ended = first_moment x.ended moment }

-- The lifetimes after recording request r, if it exists.
abbrev pub stamp_as : Option Row → ℕ → List Stamps → ℕ → List Stamps
stamp_as None moment xs r = xs
stamp_as (Some row) moment xs r = updated (λ x. stamped x row.phase moment) xs r

-- The lifetimes after recording request r of a table.
abbrev pub stamp_row : List Row → ℕ → List Stamps → ℕ → List Stamps
stamp_row rows moment xs r = stamp_as (slice_get rows r) moment xs r

-- The lifetimes after recording a place, if it is a request.
abbrev pub stamp_place : List Row → ℕ → Place → List Stamps → List Stamps
stamp_place rows moment (Request r) xs = stamp_row rows moment xs r
stamp_place rows moment _ xs = xs

-- The lifetimes after recording all requests that an undo record names.
abbrev pub stamp_changes : List Row → ℕ → List Change → List Stamps → List Stamps
stamp_changes rows moment [] xs = xs
stamp_changes rows moment (c ∷ cs) xs =
    stamp_changes rows moment cs (stamp_place rows moment c.place xs)

-- The lifetimes after adding the new requests and recording those that an undo record names.
abbrev pub stamps_after : List Row → ℕ → List Change → List Stamps → List Stamps
stamps_after rows moment cs xs =
    stamp_changes rows moment cs (xs ++ replicate (length rows - length xs) (new_stamps moment))
