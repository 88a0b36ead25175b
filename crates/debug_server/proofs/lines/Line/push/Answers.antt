use Rattle.std.proofs.Common.{◌≡◌, length, take, arith, sym, ap, ◌∙◌, length-take}
use Rattle.debug_server.proofs.Bytes.{grown_stored, grown_full}
use Rattle.debug_server.proofs.lines.Line.push.Goals as goal

pub returns-then-self-le-LIMIT-clause-grown : goal.returns-then-self-le-LIMIT-clause-grown
returns-then-self-le-LIMIT-clause-grown c = grown_stored c.self.inside.bytes c.args.self.now c.self.inside.len c.args.byte (sym c.self.view_is) (omega arith) (omega (arith, c.self.told))

pub returns-else-self-le-LIMIT-clause-grown : goal.returns-else-self-le-LIMIT-clause-grown
returns-else-self-le-LIMIT-clause-grown c =
    let full : length (take c.self.inside.len c.self.inside.bytes) ≡ 257 = omega (arith, length-take c.self.inside.len c.self.inside.bytes, c.self.told, c.self.invariant) in
    sym (grown_full c.args.self.now c.args.byte (ap length (sym c.self.view_is) ∙ full))
