-- `put_overwritten` meets its contract. Assumes nothing.
use Rattle.std.proofs.Common.{rules, ◌∙◌, sym}
use Rattle.rows.proofs.Zipping.{zipped}
use Rattle.merge.proofs.Merging.{laid}
use Rattle.merge.proofs.put_overwritten.Goals as goal

pub returns : goal.returns
returns c = let r = c.requires in
    zipped _ _ _ _ (search rules) (search rules) c.zip_rows.ensures
    ∙ laid c.args.dst.now c.args.src.now (r.src_len ∙ sym r.dst_len)
