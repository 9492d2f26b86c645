-- `overwrite` meets its contract. Assumes nothing.
use Rattle.std.proofs.Common.{rules, ◌∙◌}
use Rattle.rows.proofs.Zipping.{zipped}
use Rattle.merge.proofs.Merging.{laid}
use Rattle.merge.proofs.overwrite.Goals as goal

pub returns : goal.returns
returns c =
    zipped _ _ _ _ (search rules) (search rules) (λ k h. search rules)
    ∙ laid c.args.dst.now c.args.src.now c.requires
