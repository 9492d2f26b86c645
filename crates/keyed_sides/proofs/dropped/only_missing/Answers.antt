-- `only_missing` meets its contract. Assumes nothing.
use Rattle.std.proofs.Common.{rules, sym, ◌∙◌}
use Rattle.keyed_sides.proofs.dropped.Missing.{all_told, missing_behind, one_there}
use Rattle.keyed_sides.proofs.dropped.only_missing.Goals as goal

pub returns-then-not-eight_missing : goal.returns-then-not-eight_missing
returns-then-not-eight_missing c =
    sym (one_there c.loop-eight.rest.now _ _ (search rules) c.eight_missing.ensures (search rules)) ∙ c.loop-eight.invariant

pub loop-eight-preserved : goal.loop-eight-preserved
loop-eight-preserved c =
    missing_behind c.loop-eight.rest.now _ _ (search rules) c.eight_missing.ensures (search rules) _ (search rules)
    ∙ c.loop-eight.invariant

pub returns : goal.returns
returns c = all_told c.loop-eight.rest.now _ (λ e. search rules) (λ e. search rules) ∙ c.loop-eight.invariant
