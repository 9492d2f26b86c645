-- `label_text::put_next_tag` meets its contract. Assumes nothing.
use Rattle.vecop_run.proofs.label_text.Texts.{next_tag_put}
use Rattle.vecop_run.proofs.label_text.put_next_tag.Goals as goal

pub returns : goal.returns
returns c = search next_tag_put
