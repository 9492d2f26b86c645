-- `outcome_text::put_lines` meets its contract. Assumes nothing.
use Prim.Native.Nat.{◌-◌}
use Rattle.vecop_run.proofs.outcome_text.Lines.{LinesLeft}
use Rattle.vecop_run.proofs.outcome_text.put_lines.Given as goal

abbrev pub invariant-loop : goal.invariant-loop
invariant-loop l = LinesLeft l.n l.p l.labels l.readings l.initial.out l.at l.out l.o l.from l.row
    (l.n - l.counter)
