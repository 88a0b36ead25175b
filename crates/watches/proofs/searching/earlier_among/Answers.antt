use Rattle.std.proofs.Common.{◌∙◌, ◌-◌, ◌+◌, sym, arith}
use Rattle.watches.specs.Stops.{seen, Unchanged}
use Rattle.watches.proofs.Naming.{any_named, none_named}
use Rattle.watches.proofs.Landing.{still_more}
use Rattle.watches.proofs.searching.earlier_among.Goals as goal

pub returns-then-names_any : goal.returns-then-names_any
returns-then-names_any c =
    let m = c.loop-moment.moment - 1 in
    (omega arith, any_named (seen c.args.walker.now m) (seen c.args.walker.now (m + 1)) _ c.args.places.now c.record_of.ensures.exact (sym c.names_any.ensures ∙ c.if-names_any.true), λ k a b. c.loop-moment.invariant.still k (omega arith) b)

pub loop-moment-preserved : goal.loop-moment-preserved
loop-moment-preserved c =
    let m = c.loop-moment.moment - 1 in
    record {
      within = omega arith;
      still = still_more (Unchanged c.args.walker.now c.args.places.now) c.loop-moment.moment c.args.walker.now.at c.loop-moment-test.true c.loop-moment.invariant.still
          (none_named (seen c.args.walker.now m) (seen c.args.walker.now (m + 1)) _ c.args.places.now c.record_of.ensures.exact (sym c.names_any.ensures ∙ c.if-names_any.false));
    }

pub returns : goal.returns
returns c = λ k b. c.loop-moment.invariant.still k (omega arith) b
