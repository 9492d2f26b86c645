-- `case_parts::part_at` meets its contract. Assumes nothing.
use Rattle.std.proofs.Common.{◌∙◌, ap, List, ℕ, Bor}
use Rattle.case_parts.proofs.Reading.{first_of, part_read}
use Rattle.case_parts.proofs.part_at.Goals as goal

pub returns-in-Some-len2-up : goal.returns-in-Some-len2-up
returns-in-Some-len2-up c =
    part_read _ _ _ c.in-Some-len2-up.ensures.lookup.0.2 _ c.number_at.ensures _
    (ap (λ (x : Bor (List ℕ)). x.now) c.unwrap_or.ensures ∙ first_of _ _ _ c.get-in-Some-len2-up.ensures.lookup.0)
