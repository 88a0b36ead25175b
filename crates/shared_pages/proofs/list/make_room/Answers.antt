use Rattle.std.proofs.Common.{◌∙◌, sym, ap, [], ◌∷◌, length, arith}
use Rattle.std.proofs.lemmas.List.{length-append}
use Rattle.shared_pages.proofs.Joining.{elements-append, paged_append}
use Rattle.shared_pages.proofs.list.make_room.Goals as goal

pub returns-in_ok-push-clause-room : goal.returns-in_ok-push-clause-room
returns-in_ok-push-clause-room g c =
    let within = c.requires.within in
    let positive = c.requires.positive in
    rw (c.in_ok-push.ensures.items, length-append c.args.pages.now.items (_ ∷ [])) (omega (arith, within, positive))

pub returns-in_ok-push-clause-paged : goal.returns-in_ok-push-clause-paged
returns-in_ok-push-clause-paged g c = rw c.in_ok-push.ensures.items (paged_append c.args.n c.args.len c.args.pages.now.items c.new.result c.requires (ap length c.new.ensures ∙ sym c.in_ok-page.page.ok.0 ∙ c.in_ok-page.ensures.len))

pub returns-in_ok-push-clause-same : goal.returns-in_ok-push-clause-same
returns-in_ok-push-clause-same g c = rw c.in_ok-push.ensures.items (elements-append c.args.n c.args.len c.args.pages.now.items (_ ∷ []) c.requires)
