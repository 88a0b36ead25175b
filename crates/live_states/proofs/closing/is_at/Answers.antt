use Rattle.std.proofs.Common.{rules, ◌≡◌, ◌∙◌, length, true, slice_get, Some, ap, refl, sym}
use Rattle.std.proofs.lemmas.Option.{slice_get_read, slice_get_past, none-some, same_Some}
use Rattle.live_states.proofs.closing.is_at.Goals as goal

equal : (c : goal.After-eq) → c.in-Some.receipt.now ≡ c.args.expected → c.eq.result ≡ true
equal c h = search rules

same : (c : goal.After-eq) → c.eq.result ≡ true → c.in-Some.receipt.now ≡ c.args.expected
same c h = search rules

there : (c : goal.After-eq) → slice_get c.args.receipts.now c.args.place ≡ Some c.in-Some.receipt.now
there c = let a = c.in-Some.ensures.lookup in slice_get_read c.args.receipts.now (length c.args.receipts.now) c.args.place c.in-Some.receipt.now refl a.3.0 (a.3.1 c.in-Some.receipt.now)

pub returns-in-Some : goal.returns-in-Some
returns-in-Some c = (λ h. there c ∙ ap (λ r. Some r) (same c h), λ h. equal c (same_Some _ _ (sym (there c) ∙ h)))

pub returns-in-None : goal.returns-in-None
returns-in-None c =
    let a = c.in-None.ensures.lookup in
    let past = slice_get_past c.args.receipts.now c.args.place a.3 in
    (λ h. absurd (cc), λ h. absurd (none-some c.args.expected (sym past ∙ h)))
