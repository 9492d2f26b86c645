-- `apply_rows` meets its contract: each closure gives what the operator does of two readings. Assumes nothing.
use Rattle.std.proofs.Common.{rules}
use Rattle.model.specs.Reading.{scalar_op}
use Rattle.rows.proofs.Dispatch.{no_scalar}
use Rattle.rows.proofs.Zipping.{zipped}
use Rattle.rows.proofs.apply_rows.Goals as goal

pub returns-in-Eql : goal.returns-in-Eql
unfolding scalar_op
returns-in-Eql c = rw c.in-Eql.is (zipped _ _ _ _ (search rules) (search rules)
    (λ k h. let e = c.zip_rows-in-Eql.ensures k h in search rules))

pub returns-in-NotEq : goal.returns-in-NotEq
unfolding scalar_op
returns-in-NotEq c = rw c.in-NotEq.is (zipped _ _ _ _ (search rules) (search rules)
    (λ k h. let e = c.zip_rows-in-NotEq.ensures k h in search rules))

pub returns-in-Gt : goal.returns-in-Gt
unfolding scalar_op
returns-in-Gt c = rw c.in-Gt.is (zipped _ _ _ _ (search rules) (search rules)
    (λ k h. let e = c.zip_rows-in-Gt.ensures k h in search rules))

pub returns-in-Gte : goal.returns-in-Gte
unfolding scalar_op
returns-in-Gte c = rw c.in-Gte.is (zipped _ _ _ _ (search rules) (search rules)
    (λ k h. let e = c.zip_rows-in-Gte.ensures k h in search rules))

pub returns-in-Lt : goal.returns-in-Lt
unfolding scalar_op
returns-in-Lt c = rw c.in-Lt.is (zipped _ _ _ _ (search rules) (search rules)
    (λ k h. let e = c.zip_rows-in-Lt.ensures k h in search rules))

pub returns-in-Lte : goal.returns-in-Lte
unfolding scalar_op
returns-in-Lte c = rw c.in-Lte.is (zipped _ _ _ _ (search rules) (search rules)
    (λ k h. let e = c.zip_rows-in-Lte.ensures k h in search rules))

pub returns-in_default : goal.returns-in_default
returns-in_default c = zipped _ _ _ _ (search rules) (search rules)
    (λ k h. let e = c.zip_rows-in_default.ensures k h in
    let f = no_scalar c.args.op (search rules) c.args.as_bool in search rules)
