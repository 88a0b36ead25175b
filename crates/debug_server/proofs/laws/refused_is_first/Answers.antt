use Rattle.debug_server.proofs.SyncLaws.{refused_is, refused_whole}
use Rattle.debug_server.proofs.laws.refused_is_first.Goals as goal

pub returns-clause-first : goal.returns-clause-first
returns-clause-first c = λ i j m es h. refused_is i m es j h

pub returns-clause-whole : goal.returns-clause-whole
returns-clause-whole c = refused_whole
