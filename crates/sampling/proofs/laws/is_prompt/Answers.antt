use Rattle.sampling.proofs.Prompting.{is_prompt}
use Rattle.sampling.proofs.laws.is_prompt.Goals as goal

pub returns : goal.returns
returns c = is_prompt
