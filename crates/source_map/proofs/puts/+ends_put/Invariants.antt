use Rattle.source_map.proofs.puts.+ends_put.Given as goal

abbrev pub decreases-ends_put : goal.decreases-ends_put
decreases-ends_put l = l.most
