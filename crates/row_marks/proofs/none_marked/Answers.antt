-- `none_marked` meets its contract. Assumes nothing.
use borrow.Author.Rules.{rules}
use Rattle.row_marks.proofs.Words.{none_told}
use Rattle.row_marks.proofs.none_marked.Goals as goal

pub returns : goal.returns
returns c = none_told c.all.result c.args.marks.now (search rules)
