use Rattle.eager_runs.proofs.Prompting.{is_prompt}
use Rattle.eager_runs.proofs.laws.is_prompt.Goals as goal

pub returns : goal.returns
returns c = is_prompt
