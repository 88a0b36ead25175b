use Rattle.run_log.proofs.logging.log_events.Given as goal

abbrev pub ghosts-log_from : goal.ghosts-log_from
ghosts-log_from g a = record {
  contents = g.W.Write.contents a.logger.now.writer.now;
  name = a.logger.now.writer.ghost_name;
  range = a.logger.now.range;
}
