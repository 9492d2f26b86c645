-- Places of series, series with their places, and the ranks of answer series. Assumes nothing.
use Rattle.std.specs.Prelude.{ℕ, zero, suc, Bool, true, false, cond, List, [], ◌∷◌, ◌++◌, ltb, eqb}
use Rattle.model.specs.Query.{Side, left, right}
use Rattle.model.specs.Vector.{Series}

-- 01: fields are the input places
pub record Place : Type 0 where
  pub side : Side
  pub number : ℕ

-- a series with its place apart from its labels and row
pub record Placed : Type 0 where
  pub place : Place
  pub series : Series

-- the series of a side, the i-th of them at the number g i
abbrev pub numbered : Side → (ℕ → ℕ) → List Series → List Placed
numbered s g [] = []
numbered s g (b ∷ bs) = record { place = record { side = s; number = g zero }; series = b } ∷ numbered s (λ i. g (suc i)) bs

-- the series of a call: left, then right, each side numbered from 0
abbrev pub placed : List Series → List Series → List Placed
placed ls rs = numbered left (λ i. i) ls ++ numbered right (λ i. i) rs

abbrev pub earlier : Side → Side → Bool → Bool
earlier left left b = b
earlier left right b = true
earlier right left b = false
earlier right right b = b

-- 01: left places, then right
abbrev pub before : Place → Place → Bool
before p q = earlier p.side q.side (ltb p.number q.number)

abbrev pub alongside : Side → Side → Bool → Bool
alongside left left b = b
alongside left right b = false
alongside right left b = false
alongside right right b = b

abbrev pub same_place : Place → Place → Bool
same_place p q = alongside p.side q.side (eqb p.number q.number)

-- 01: Each answer series ranks as in Order, by input places that the rules fix: in a join the one-side place is that of the earliest row of the merge.
-- The place of the series that an answer series comes from, then that of the earliest row of its merge.
pub record Rank : Type 0 where
  pub producer : Place
  pub earliest : Place

-- 01: Joins: many-side place, then one-side place.
abbrev pub rank_before : Rank → Rank → Bool
rank_before r q = cond (before r.producer q.producer) true (cond (before q.producer r.producer) false (before r.earliest q.earliest))
