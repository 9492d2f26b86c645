-- `fields::same_few` meets its contract. Assumes nothing.
use mathlib.Core.Path.{sym}
use Rattle.fields.proofs.Bytes.{same_exit, same_turn, same_exit_end, lengths_differ}
use Rattle.fields.proofs.same_few.Goals as goal

pub returns-then-a-b : goal.returns-then-a-b
returns-then-a-b c = sym (lengths_differ _ _ c.if-a-b.true)

pub returns-then-a-i : goal.returns-then-a-i
returns-then-a-i c = search same_exit

pub loop-i-preserved : goal.loop-i-preserved
loop-i-preserved c = search same_turn

pub returns : goal.returns
returns c = search same_exit_end
