-- `digits` meets its contract. Assumes nothing.
use Rattle.remainder.proofs.Parts.{digits_low, digits_high}
use Rattle.remainder.proofs.digits.Goals as goal

pub returns-then-x-lt-LEAD : goal.returns-then-x-lt-LEAD
returns-then-x-lt-LEAD c = digits_low _ c.if-x-lt-LEAD.true

pub returns-else-x-lt-LEAD : goal.returns-else-x-lt-LEAD
returns-else-x-lt-LEAD c = digits_high _ c.if-x-lt-LEAD.false
