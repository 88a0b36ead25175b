use Rattle.dap_views.proofs.Decoding.{found_thread}
use Rattle.dap_views.proofs.laws.numbers_name_threads.Goals as goal

pub returns : goal.returns
returns c = found_thread
