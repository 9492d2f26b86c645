-- `first_of` meets its contract. Assumes nothing.
use mathlib.Core.Path.{◌∙◌}
use borrow.Author.Rules.{rules}
use Rattle.key_places.proofs.Searches.{first_told}
use Rattle.key_places.proofs.first_of.Goals as goal

pub returns : goal.returns
returns c = c.unwrap_or.ensures ∙ first_told c.args.keys.now c.args.k c.position.result (search rules)
