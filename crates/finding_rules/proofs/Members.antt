-- Membership in lists, by recursion.
use Rattle.finding_rules.proofs.Common.{refl, ◌||◌, ◌≡◌, ◌⊎◌, ℕ, Bool, true, zero, suc, ◌<◌, List, [], ◌∷◌, ◌++◌, length, get_or, Contains, flat_map, list_any, inl, inr, sym, ap, ◌∙◌, subst, arith, or_left, or_right}

-- The list contains the element.
abbrev pub Has : {X : Type 0} → List X → X → Type 0
Has [] x = ⊥
Has (y ∷ ys) x = (y ≡ x) ⊎ Has ys x

pub has_left : {X : Type 0} (xs ys : List X) (x : X) → Has xs x → Has (xs ++ ys) x
has_left [] ys x h = absurd h
has_left (y ∷ xs) ys x (inl e) = inl e
has_left (y ∷ xs) ys x (inr h) = inr (has_left xs ys x h)

pub has_right : {X : Type 0} (xs ys : List X) (x : X) → Has ys x → Has (xs ++ ys) x
has_right [] ys x h = h
has_right (y ∷ xs) ys x h = inr (has_right xs ys x h)

pub has_flat_map : {X Y : Type 0} (f : X → List Y) (xs : List X) (x : X) (y : Y) → Has xs x → Has (f x) y → Has (flat_map f xs) y
has_flat_map f [] x y h k = absurd h
has_flat_map f (z ∷ zs) x y (inl e) k = has_left (f z) (flat_map f zs) y (subst (λ w. Has (f w) y) (sym e) k)
has_flat_map f (z ∷ zs) x y (inr h) k = has_right (f z) (flat_map f zs) y (has_flat_map f zs x y h k)

has_at : {X : Type 0} (ys : List X) (x : X) (k : ℕ) → k < length ys → get_or ys k x ≡ x → Has ys x
has_at [] x k l e = absurd (omega arith)
has_at (y ∷ ys) x zero l e = inl e
has_at (y ∷ ys) x (suc k) l e = inr (has_at ys x k (omega arith) e)

pub contains_has : {X : Type 0} (xs : List X) (x : X) → Contains xs x → Has xs x
contains_has xs x c = has_at xs x c.0 c.1 c.2

pub has_contains : {X : Type 0} (xs : List X) (x : X) → Has xs x → Contains xs x
has_contains [] x h = absurd h
has_contains (y ∷ ys) x (inl e) = (zero, omega arith, e)
has_contains (y ∷ ys) x (inr h) =
    let c = has_contains ys x h in
    let l : c.0 < length ys = c.1 in
    (suc c.0, omega arith, c.2)

-- Some element passes if one that the list has does.
pub any_has : {X : Type 0} (test : X → Bool) (xs : List X) (x : X) → Has xs x → test x ≡ true → list_any test xs ≡ true
any_has test [] x h t = absurd h
any_has test (y ∷ ys) x (inl e) t = or_left (test y) (list_any test ys) (ap test e ∙ t)
any_has test (y ∷ ys) x (inr h) t = or_right (test y) (list_any test ys) (any_has test ys x h t)

-- Tests that agree on each element.
pub any_alike : {X : Type 0} (f g : X → Bool) → ((x : X) → f x ≡ g x) → (xs : List X) → list_any f xs ≡ list_any g xs
any_alike f g h [] = refl
any_alike f g h (x ∷ xs) = ap (λ (b : Bool). b || list_any f xs) (h x) ∙ ap (λ (b : Bool). g x || b) (any_alike f g h xs)
