-- The code's matching, as the one of the definitions. Assumes nothing.
use Rattle.std.specs.Prelude.{ℕ, ◌≡◌, ◌<◌, ◌≤◌, Result, MatchResult}
use Rattle.model.specs.Query as Q
use Rattle.labels.specs.declared.Matching.{Matching}
use Rattle.labels.specs.declared.Matching.TheVariants.{All, On, Ignoring}
use Rattle.labels.specs.declared.UnknownMatching.{UnknownMatching}

-- 01: matching (none, on, ignoring)
abbrev pub matching_of : Matching → Q.Matching
matching_of All = Q.all
matching_of On = Q.on
matching_of Ignoring = Q.ignoring

-- 01: matching byte (0 none, 1 on, 2 ignoring); an error has a byte that stands for none
abbrev pub MatchingBy : ℕ → Result Matching UnknownMatching → Type 0
MatchingBy b r = MatchResult r (λ m. (b ≤ 2) × (matching_of m ≡ Q.matching_of b)) (λ e. (2 < b) × (e.0 ≡ b))
