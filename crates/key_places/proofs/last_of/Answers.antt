-- `last_of` meets its contract. Assumes nothing.
use mathlib.Core.Path.{◌∙◌}
use borrow.Author.Rules.{rules}
use Rattle.key_places.proofs.Searches.{last_told}
use Rattle.key_places.proofs.last_of.Goals as goal

pub returns : goal.returns
returns c = c.unwrap_or.ensures ∙ last_told c.args.keys.now c.args.k c.rposition.result (search rules)
