-- `outcome_text::put_unreadable` meets its contract. Assumes nothing.
use borrow.Author.Rules.{rules}
use Rattle.vecop_run.specs.outcome_text.Text.{unreadable_text}
use Rattle.vecop_run.proofs.outcome_text.put_unreadable.Goals as goal

pub returns : goal.returns
unfolding unreadable_text
returns c = search rules
