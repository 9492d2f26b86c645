-- `is_pair` meets its contract. Assumes nothing.
use mathlib.Core.Path.{◌≡◌, sym, ◌∙◌}
use borrow.Author.Tests.{eqb-true, eqb-false, not-true}
use Rattle.pair_plan.proofs.pairs.Pairing.{pair_dropped, pair_later, pair_told}
use Rattle.key_ends.specs.Ends.{code_at}
use Rattle.pair_plan.proofs.pairs.is_pair.Goals.{then-lkeys-i-ne-DROPPED, else-lkeys-i-ne-DROPPED}
use Rattle.pair_plan.proofs.pairs.is_pair.Goals as goal

pub returns-then-left_first-i : goal.returns-then-left_first-i
returns-then-left_first-i c = elim c.if-lkeys-i-ne-DROPPED.branch [
  | then-lkeys-i-ne-DROPPED w ↦
      let first : w.left_first.result ≡ c.args.i = eqb-true _ _ (sym w.value-is ∙ c.if-left_first-i.true) in
      search (pair_told, code_at, w.if-lkeys-i-ne-DROPPED.true)
  | else-lkeys-i-ne-DROPPED w ↦ absurd (eqb-false _ _ (not-true _ (sym w.value-is ∙ c.if-left_first-i.true)) w.if-lkeys-i-ne-DROPPED.false)
]

pub returns-else-left_first-i : goal.returns-else-left_first-i
returns-else-left_first-i c = elim c.if-lkeys-i-ne-DROPPED.branch [
  | then-lkeys-i-ne-DROPPED w ↦
      let later = eqb-false _ _ (sym w.value-is ∙ c.if-left_first-i.false) in
      c.if-left_first-i.false ∙ search (pair_later, code_at, w.if-lkeys-i-ne-DROPPED.true, later)
  | else-lkeys-i-ne-DROPPED w ↦ c.if-left_first-i.false ∙ search pair_dropped
]
