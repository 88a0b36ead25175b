-- The findings of those kinds of a group that pass a test.
use Rattle.findings.proofs.Common.{◌≡◌, ℕ, suc, ◌+◌, ◌<◌, ◌≤◌, Bool, true, false, List, [], ◌∷◌, ◌++◌, length, take, get_or, flat_map, refl, All, Finding, Kind, EndedKind, Failed, Short, Severed, Canceled, TimedOut, Expired, NotFound, TooLate, WentOn, Fault, Note, ConflictKind, BufferInUse, Unordered, SharedPosition, FsyncEarly, StepKind, Busy, TakenShort, NoSuchSlot, SlotInUse, ClosedEarly, ClosedWhileHeld, RefusedFlags, ClosedTwice, QueuedKind, CutOff, NoEffect, SameUserData, CancelKind, NoneFound, Several, LeftRunning, ended_kinds, conflict_kinds, step_kinds, queued_kinds, cancel_kinds, inl, inr, sym, ap, ◌∙◌, take_all, take_at_read, flat_map_more, All-nil, All-cons, All-append, arith, given, of_group, numbers_below}
use Rattle.finding_rules.proofs.Members.{Has, has_flat_map}

abbrev pub the_finding : ℕ → Kind → ℕ → Finding
the_finding i kind n = record { moment = i; kind = kind; subject = n }

pub given_only : (P : Finding → Type 0) (b : Bool) (f : Finding) → (b ≡ true → P f) → All P (given b f)
given_only P true f h = All-cons P f [] (h refl) (All-nil P)
given_only P false f h = All-nil P

pub given_there : (b : Bool) (f : Finding) → b ≡ true → Has (given b f) f
given_there true f e = inl refl
given_there false f e = cc

-- What holds of each kind that passes holds of all findings.
pub group_only : {K : Type 0} (P : Finding → Type 0) (whole : K → Kind) (test : K → Bool) (i n : ℕ) (kinds : List K) → ((kind : K) → test kind ≡ true → P (the_finding i (whole kind) n)) → All P (of_group whole test i n kinds)
group_only P whole test i n [] h = All-nil P
group_only P whole test i n (kind ∷ kinds) h =
    All-append P (given (test kind) (the_finding i (whole kind) n)) (of_group whole test i n kinds) (given_only P (test kind) (the_finding i (whole kind) n) (h kind)) (group_only P whole test i n kinds h)

-- The findings include that of each kind that passes.
pub group_there : {K : Type 0} (whole : K → Kind) (test : K → Bool) (i n : ℕ) (kinds : List K) (kind : K) → Has kinds kind → test kind ≡ true → Has (of_group whole test i n kinds) (the_finding i (whole kind) n)
group_there whole test i n kinds kind h t = has_flat_map (λ k. given (test k) (the_finding i (whole k) n)) kinds kind (the_finding i (whole kind) n) h (given_there (test kind) (the_finding i (whole kind) n) t)

-- ---- one step of a loop

-- The findings about one more element of a list.
pub each_more : {X : Type 0} (f : X → List Finding) (xs : List X) (k : ℕ) (d : X) (start found now : List Finding) → k < length xs → found ≡ start ++ flat_map f (take k xs) → now ≡ found ++ f (get_or xs k d) → now ≡ start ++ flat_map f (take (k + 1) xs)
each_more {X = X} f xs k d start found now l h g =
    g
    ∙ ap (λ (fs : List Finding). fs ++ f (get_or xs k d)) h
    ∙ flat_map_more f start (take k xs) (get_or xs k d)
    ∙ ap (λ (ys : List X). start ++ flat_map f ys) (sym (take_at_read xs k d l).1)

-- After the last element.
pub each_whole : {X : Type 0} (f : X → List Finding) (xs : List X) (k : ℕ) (start found : List Finding) → length xs ≤ k → found ≡ start ++ flat_map f (take k xs) → found ≡ start ++ flat_map f xs
each_whole {X = X} f xs k start found l h = h ∙ ap (λ (ys : List X). start ++ flat_map f ys) (take_all k xs l)

-- The findings about one more number.
pub number_more : (f : ℕ → List Finding) (k : ℕ) (start found now : List Finding) → found ≡ start ++ flat_map f (numbers_below k) → now ≡ found ++ f k → now ≡ start ++ flat_map f (numbers_below (k + 1))
number_more f k start found now h g =
    let up : suc k ≡ k + 1 = omega arith in
    g
    ∙ ap (λ (fs : List Finding). fs ++ f k) h
    ∙ flat_map_more f start (numbers_below k) k
    ∙ ap (λ (n : ℕ). start ++ flat_map f (numbers_below n)) up

-- The findings of one more kind of a list.
pub group_more : {K : Type 0} (whole : K → Kind) (test : K → Bool) (i n : ℕ) (kinds : List K) (k : ℕ) (d : K) (b : Bool) (start found now : List Finding) → k < length kinds → b ≡ test (get_or kinds k d)
    → found ≡ start ++ of_group whole test i n (take k kinds) → now ≡ found ++ given b (the_finding i (whole (get_or kinds k d)) n) → now ≡ start ++ of_group whole test i n (take (k + 1) kinds)
group_more {K = K} whole test i n kinds k d b start found now l t h g =
    each_more (λ (kind : K). given (test kind) (the_finding i (whole kind) n)) kinds k d start found now l h (g ∙ ap (λ (c : Bool). found ++ given c (the_finding i (whole (get_or kinds k d)) n)) t)

-- ---- each list has all kinds of its group

pub is_ended_kind : (kind : EndedKind) → Has ended_kinds kind
is_ended_kind Failed = inl refl
is_ended_kind (Short Fault) = inr (inl refl)
is_ended_kind (Short Note) = inr (inr (inl refl))
is_ended_kind Severed = inr (inr (inr (inl refl)))
is_ended_kind Canceled = inr (inr (inr (inr (inl refl))))
is_ended_kind (TimedOut Fault) = inr (inr (inr (inr (inr (inl refl)))))
is_ended_kind (TimedOut Note) = inr (inr (inr (inr (inr (inr (inl refl))))))
is_ended_kind Expired = inr (inr (inr (inr (inr (inr (inr (inl refl)))))))
is_ended_kind NotFound = inr (inr (inr (inr (inr (inr (inr (inr (inl refl))))))))
is_ended_kind TooLate = inr (inr (inr (inr (inr (inr (inr (inr (inr (inl refl)))))))))
is_ended_kind WentOn = inr (inr (inr (inr (inr (inr (inr (inr (inr (inr (inl refl))))))))))

pub is_conflict_kind : (kind : ConflictKind) → Has conflict_kinds kind
is_conflict_kind BufferInUse = inl refl
is_conflict_kind Unordered = inr (inl refl)
is_conflict_kind SharedPosition = inr (inr (inl refl))
is_conflict_kind (FsyncEarly Fault) = inr (inr (inr (inl refl)))
is_conflict_kind (FsyncEarly Note) = inr (inr (inr (inr (inl refl))))

pub is_step_kind : (kind : StepKind) → Has step_kinds kind
is_step_kind Busy = inl refl
is_step_kind TakenShort = inr (inl refl)
is_step_kind NoSuchSlot = inr (inr (inl refl))
is_step_kind SlotInUse = inr (inr (inr (inl refl)))
is_step_kind ClosedEarly = inr (inr (inr (inr (inl refl))))
is_step_kind ClosedWhileHeld = inr (inr (inr (inr (inr (inl refl)))))
is_step_kind RefusedFlags = inr (inr (inr (inr (inr (inr (inl refl))))))
is_step_kind ClosedTwice = inr (inr (inr (inr (inr (inr (inr (inl refl)))))))

pub is_queued_kind : (kind : QueuedKind) → Has queued_kinds kind
is_queued_kind CutOff = inl refl
is_queued_kind NoEffect = inr (inl refl)
is_queued_kind SameUserData = inr (inr (inl refl))

pub is_cancel_kind : (kind : CancelKind) → Has cancel_kinds kind
is_cancel_kind NoneFound = inl refl
is_cancel_kind Several = inr (inl refl)
is_cancel_kind LeftRunning = inr (inr (inl refl))
