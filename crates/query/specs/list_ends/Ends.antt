-- Where a label list ends, or 01's number. Assumes nothing.
use Rattle.std.specs.Prelude.{ℕ, ◌-◌, length, Option, Some, None}
use Rattle.model.specs.Query as Model

pub data Ended : Type 0 where
  ended : ℕ → Ended
  refused : ℕ → Ended

-- 01: then 2, the query otherwise not as above. In so many bytes
abbrev pub end_of : ℕ → Model.Listed → Ended
end_of n Model.not_listed = refused 2
end_of n (Model.listed ns rest) = ended (n - length rest)

-- how far the code finds a list to go; one that is bad is refused with 01's number 2
abbrev pub end_told : Option ℕ → Ended
end_told (Some at) = ended at
end_told None = refused 2
