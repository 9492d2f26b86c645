-- `label_text::put_percent` meets its contract. Assumes nothing.
use Rattle.vecop_run.proofs.label_text.Texts.{percent_put}
use Rattle.vecop_run.proofs.label_text.put_percent.Goals as goal

pub returns : goal.returns
returns c = search percent_put
