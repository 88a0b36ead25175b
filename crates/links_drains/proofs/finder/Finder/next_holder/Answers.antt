use Rattle.links_drains.proofs.Common.{◌∙◌, refl, sym, length, arith, slice_get_read, slice_get_within, is_issued_row}
use Rattle.links_drains.proofs.{Finding.joined_ranges, Finding.no_holder, Finding.holder_found, Finding.holder_passed, Finding.no_issued, NextRows.next_found, NextRows.none_found}
use Rattle.links_drains.proofs.finder.Finder.next_holder.Goals as goal

pub loop-start-init : goal.loop-start-init
loop-start-init c = record { on = omega arith; none = λ r row l k there. absurd (omega (arith, l, k)) }

pub index-requires : goal.index-requires
index-requires c =
    let next = next_found is_issued_row c.args.rows.now c.args.index.now.issued c.in-Some.start c.in_ok-r.r c.requires.indexed.issued c.in_ok-r.ensures.some in
    let within = slice_get_within c.args.rows.now c.in_ok-r.r next.row next.there in
    (omega arith, within)

pub overflow_add-at : goal.overflow_add-at
overflow_add-at c =
    let next = next_found is_issued_row c.args.rows.now c.args.index.now.issued c.in-Some.start c.in_ok-r.r c.requires.indexed.issued c.in_ok-r.ensures.some in
    let within = slice_get_within c.args.rows.now c.in_ok-r.r next.row next.there in
    let few = c.requires.few in
    omega (arith, within, few)

pub returns-then-holds-clause-some : goal.returns-then-holds-clause-some
returns-then-holds-clause-some c =
    let next = next_found is_issued_row c.args.rows.now c.args.index.now.issued c.in-Some.start c.in_ok-r.r c.requires.indexed.issued c.in_ok-r.ensures.some in
    let within = slice_get_within c.args.rows.now c.in_ok-r.r next.row next.there in
    let a = c.loop-start.invariant.on in
    let b = c.in-Some.ensures.some.0 in
    let none = joined_ranges c.args.fd c.args.rows.now c.args.from c.loop-start.at c.in-Some.start c.loop-start.invariant.none c.in-Some.ensures.some.1 in
    holder_found c.args.fd c.args.rows.now c.args.from c.in-Some.start c.in_ok-r.r _ (omega (arith, a, b)) none next (slice_get_read c.args.rows.now (length c.args.rows.now) c.in_ok-r.r c.index.result.now refl within c.index.ensures) (sym c.holds.ensures ∙ c.if-holds.true)

pub returns-in_err-r-clause-none : goal.returns-in_err-r-clause-none
returns-in_err-r-clause-none c =
    let before = joined_ranges c.args.fd c.args.rows.now c.args.from c.loop-start.at c.in-Some.start c.loop-start.invariant.none c.in-Some.ensures.some.1 in
    let after = none_found is_issued_row c.args.rows.now c.args.index.now.issued c.in-Some.start c.requires.indexed.issued c.in_err-r.ensures.none in
    rw c.from_residual.ensures (no_holder c.args.fd c.args.rows.now c.args.from c.in-Some.start before
    (no_issued c.args.fd c.args.rows.now c.in-Some.start c.in-Some.start (length c.args.rows.now) (λ r row l k there. absurd (omega (arith, l, k))) after))

pub loop-start-preserved : goal.loop-start-preserved
loop-start-preserved c =
    let next = next_found is_issued_row c.args.rows.now c.args.index.now.issued c.in-Some.start c.in_ok-r.r c.requires.indexed.issued c.in_ok-r.ensures.some in
    let within = slice_get_within c.args.rows.now c.in_ok-r.r next.row next.there in
    let a = c.loop-start.invariant.on in
    let b = c.in-Some.ensures.some.0 in
    let d = next.after in
    let none = joined_ranges c.args.fd c.args.rows.now c.args.from c.loop-start.at c.in-Some.start c.loop-start.invariant.none c.in-Some.ensures.some.1 in
    record {
      on = omega (arith, a, b, d);
      none = holder_passed c.args.fd c.args.rows.now c.args.from c.in-Some.start c.in_ok-r.r _ none next (slice_get_read c.args.rows.now (length c.args.rows.now) c.in_ok-r.r c.index.result.now refl within c.index.ensures) (sym c.holds.ensures ∙ c.if-holds.false);
    }

pub returns-clause-none : goal.returns-clause-none
returns-clause-none c = no_holder c.args.fd c.args.rows.now c.args.from c.loop-start.at c.loop-start.invariant.none c.in_default.ensures.none

pub loop-start-smaller : goal.loop-start-smaller
loop-start-smaller c =
    let next = next_found is_issued_row c.args.rows.now c.args.index.now.issued c.in-Some.start c.in_ok-r.r c.requires.indexed.issued c.in_ok-r.ensures.some in
    let within = slice_get_within c.args.rows.now c.in_ok-r.r next.row next.there in
    let few = c.requires.few in
    let b = c.in-Some.ensures.some.0 in
    let after = next.after in
    omega (arith, within, few, b, after)
