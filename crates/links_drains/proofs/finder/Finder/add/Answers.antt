use Rattle.links_drains.proofs.Finding.{findable_push}
use Rattle.links_drains.proofs.finder.Finder.add.Goals as goal

pub returns : goal.returns
returns c = λ rows n h. findable_push rows c.args.row.now c.args.r c.args.self.now c.link.new.self c.mark.new.self c.requires.room n h c.link.ensures.last c.link.ensures.previous c.link.ensures.holding c.mark.ensures
