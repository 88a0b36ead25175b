-- The first wanted finding of a report.
use Rattle.std.proofs.Common.{◌≡◌, ℕ, ◌≤◌, Bool, true, false, List, [], ◌∷◌, refl, sym, ap, ◌∙◌, subst, arith}
use Rattle.std.specs.Prelude.{Some, None, find, cond}
use Rattle.std.specs.List.{All}
use Rattle.std.specs.List.Sorted.{IsStrictlySortedBy}
use Rattle.std.specs.declared.cmp.Ordering.{Ordering}
use Rattle.std.specs.declared.cmp.Ordering.TheVariants.{Less}
use Rattle.std.specs.Ordering.{nat_cmp, ordering_then}
use Rattle.std.proofs.lemmas.List.Elements.{All-nil, All-cons, All-head, All-tail, All-weaker, All-from_recursion}
use Rattle.finding_kinds.specs.declared.finding.Finding.{Finding}
use Rattle.finding_kinds.specs.Orders.{order_of}

first_le : (m n : ℕ) (o : Ordering) → ordering_then (nat_cmp m n) o ≡ Less → m ≤ n
first_le m n o h = grind arith

earlier : (f g : Finding) → order_of f g ≡ Less → f.moment ≤ g.moment
earlier f g h = first_le f.moment g.moment _ h

found_in : (p : Finding → Bool) (P : Finding → Type 0) (x : Finding) (xs : List Finding) (f : Finding) (b : Bool) → p x ≡ b → cond b (Some x) (find p xs) ≡ Some f → P x → (find p xs ≡ Some f → P f × (p f ≡ true)) → P f × (p f ≡ true)
found_in p P x xs f true e h first rest = let same : x ≡ f = cc in (subst P same first, ap p (sym same) ∙ e)
found_in p P x xs f false e h first rest = rest h

-- The finding that is found has the property of all, and passes the test.
pub found_among : (p : Finding → Bool) (P : Finding → Type 0) (fs : List Finding) (f : Finding) → find p fs ≡ Some f → All P fs → P f × (p f ≡ true)
found_among p P [] f h all = cc
found_among p P (x ∷ xs) f h all = found_in p P x xs f (p x) refl h (All-head P x xs all) (λ k. found_among p P xs f k (All-tail P x xs all))

none_in : (p : Finding → Bool) (x : Finding) (xs : List Finding) (b : Bool) → p x ≡ b → cond b (Some x) (find p xs) ≡ None → (find p xs ≡ None → All (λ g. p g ≡ true → ⊥) xs) → All (λ g. p g ≡ true → ⊥) (x ∷ xs)
none_in p x xs true e h rest = cc
none_in p x xs false e h rest = All-cons (λ g. p g ≡ true → ⊥) x xs (λ t. cc) (rest h)

-- If none is found, none passes the test.
pub none_among : (p : Finding → Bool) (fs : List Finding) → find p fs ≡ None → All (λ g. p g ≡ true → ⊥) fs
none_among p [] h = All-nil (λ g. p g ≡ true → ⊥)
none_among p (x ∷ xs) h = none_in p x xs (p x) refl h (none_among p xs)

least_in : (p : Finding → Bool) (x : Finding) (xs : List Finding) (f : Finding) (b : Bool) → p x ≡ b → cond b (Some x) (find p xs) ≡ Some f → All (λ y. order_of x y ≡ Less) xs → (find p xs ≡ Some f → All (λ g. p g ≡ true → f.moment ≤ g.moment) xs) → All (λ g. p g ≡ true → f.moment ≤ g.moment) (x ∷ xs)
least_in p x xs f true e h later rest =
    let same : x ≡ f = cc in
    let moment = ap (λ (y : Finding). y.moment) same in
    All-cons (λ g. p g ≡ true → f.moment ≤ g.moment) x xs (λ t. omega (arith, moment))
    (All-weaker (λ y. order_of x y ≡ Less) (λ g. p g ≡ true → f.moment ≤ g.moment) (λ y less t. let le = earlier x y less in omega (arith, le, moment)) xs later)
least_in p x xs f false e h later rest = All-cons (λ g. p g ≡ true → f.moment ≤ g.moment) x xs (λ t. cc) (rest h)

-- No finding that passes the test is earlier than the one that is found.
pub least_found : (p : Finding → Bool) (fs : List Finding) (f : Finding) → find p fs ≡ Some f → IsStrictlySortedBy order_of fs → All (λ g. p g ≡ true → f.moment ≤ g.moment) fs
unfolding IsStrictlySortedBy
least_found p [] f h up = cc
least_found p (x ∷ xs) f h up = least_in p x xs f (p x) refl h (All-from_recursion (λ y. order_of x y ≡ Less) xs up.0) (λ k. least_found p xs f k up.1)
