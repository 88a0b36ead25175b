use Rattle.links_drains.proofs.Common.{◌≡◌, ◌-◌, List, ℕ, refl, sym, subst, length, take, arith, take_all, slice_get_read, Row, Findable}
use Rattle.links_drains.proofs.Finding.{findable_pops, place_left}
use Rattle.links_drains.proofs.finder.Finder.cut.Goals as goal

pub loop-r-init : goal.loop-r-init
loop-r-init c = record {
  above = omega (arith, c.requires.within, c.len-r.ensures);
  within = omega arith;
  findable = let P : List Row → Type 0 = λ xs. Findable xs c.args.self.now in subst P (sym (take_all c.len-r.result c.args.rows.now (omega arith))) c.requires.findable;
}

pub unlink-requires : goal.unlink-requires
unlink-requires c =
    let within = c.loop-r.invariant.within in
    place_left c.args.rows.now c.loop-r.r c.loop-r.self (omega (arith, c.loop-r-test.true)) within c.loop-r.invariant.findable

pub loop-r-preserved : goal.loop-r-preserved
loop-r-preserved c =
    let within = c.loop-r.invariant.within in
    record {
      above = omega (arith, c.loop-r-test.true);
      within = omega (arith, within);
      findable = findable_pops c.args.rows.now c.loop-r.r _ c.loop-r.self c.unlink.new.self (omega (arith, c.loop-r-test.true)) within (slice_get_read c.args.rows.now (length c.args.rows.now) (c.loop-r.r - 1) c.index.result.now refl (omega (arith, within, c.loop-r-test.true)) c.index.ensures) c.loop-r.invariant.findable c.unlink.ensures.last c.unlink.ensures.previous c.unlink.ensures.holding;
    }

pub returns : goal.returns
returns c =
    let above = c.loop-r.invariant.above in
    let same : c.loop-r.r ≡ c.args.n = omega (arith, above, c.loop-r-test.false) in
    let P : ℕ → Type 0 = λ k. Findable (take k c.args.rows.now) c.loop-r.self in
    subst P same c.loop-r.invariant.findable
