use Rattle.std.proofs.Common.{◌≡◌, ◌∙◌, length, ap, sym, refl}
use Rattle.machine.specs.Runs.{moment}
use Rattle.inverse_log.specs.Tracks.{Track, current}
use Rattle.inverse_log.proofs.Copying.{none_due, one_due}
use Rattle.inverse_log.proofs.trail.Trail.copy_at.Goals as goal

pub returns-in_ok-push_copy : goal.returns-in_ok-push_copy
returns-in_ok-push_copy c =
    let at : c.self.inside.at ≡ length c.args.self.now.events = ap (λ (t : Track). t.at) c.self.view_is ∙ c.requires.last in
    let here : current c.args.self.now ≡ moment c.args.self.now.setup c.args.self.now.events c.self.inside.at = ap (λ (t : Track). moment c.args.self.now.setup c.args.self.now.events t.at) (sym c.self.view_is) in
    record { same = c.in_ok-push_copy.ensures.same; covers = one_due c.args.self.now c.self.inside.at c.args.every c.args.copies.now.items c.push_copy.new.copies.items (current c.args.self.now) c.requires.some at c.if-self-every-eq0.true here c.in_ok-push_copy.ensures.ok }

pub returns-else-self-every-eq0 : goal.returns-else-self-every-eq0
returns-else-self-every-eq0 c =
    let at : c.self.inside.at ≡ length c.args.self.now.events = ap (λ (t : Track). t.at) c.self.view_is ∙ c.requires.last in
    record { same = refl; covers = none_due c.args.self.now c.self.inside.at c.args.every c.args.copies.now.items at c.if-self-every-eq0.false }
