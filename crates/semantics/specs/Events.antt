-- What rules emit, in answer order, and what it comes to. Assumes nothing.
use Rattle.std.specs.Prelude.{Bool, List, [], ◌∷◌, map}
use Rattle.model.specs.Lists.{keep, gather}
use Rattle.model.specs.Labels.{Labels}
use Rattle.model.specs.Vector.{Series}
use Rattle.semantics.specs.Places.{Place, Placed, Rank}

-- 01: fields are the input places of the series kept and the one that failed to merge
pub record Duplicate : Type 0 where
  pub kept : Place
  pub failed : Place

-- an answer series, or a merge that is refused
pub data Event : Type 0 where
  good : Series → Event
  bad : Duplicate → Event

pub record Ranked (R E : Type 0) : Type 0 where
  pub rank : R
  pub what : E

-- events that all have one rank
abbrev pub mark : {R E : Type 0} → R → List E → List (Ranked R E)
mark r [] = []
mark r (e ∷ es) = record { rank = r; what = e } ∷ mark r es

-- A rule sees a series and the series of its key, both sides, in order, and no more. Each event has the place of its merge's earliest row.
abbrev pub Rule : Type 0
Rule = Placed → List Placed → List (Ranked Place Event)

-- whether the labels of two series have one key: under a query's matching, or under an aggregation's grouping
abbrev pub KeyTest : Type 0
KeyTest = Labels → Labels → Bool

-- the series of the key of these labels, both sides, in order
abbrev pub of_key : KeyTest → Labels → List Placed → List Placed
of_key same l xs = keep (λ x. same l x.series.labels) xs

abbrev pub produced_by : Place → List (Ranked Place Event) → List (Ranked Rank Event)
produced_by p l = map (λ e. record { rank = record { producer = p; earliest = e.rank }; what = e.what }) l

-- what a series emits among xs, ranked
abbrev pub emission : KeyTest → Rule → List Placed → Placed → List (Ranked Rank Event)
emission same f xs s = produced_by s.place (f s (of_key same s.series.labels xs))

abbrev pub events : KeyTest → Rule → List Placed → List (Ranked Rank Event)
events same f xs = gather (emission same f xs) xs

-- the answer series in order, or the first duplicate
pub data Verdict : Type 0 where
  answer : List (Ranked Rank Series) → Verdict
  duplicate : Ranked Rank Duplicate → Verdict

-- an event in front of what comes behind it
abbrev pub front : Rank → Event → Verdict → Verdict
front r (bad d) v = duplicate (record { rank = r; what = d })
front r (good s) (answer l) = answer (record { rank = r; what = s } ∷ l)
front r (good s) (duplicate x) = duplicate x

-- 01: 7 left or 8 right duplicate, the first in answer order
abbrev pub settle : List (Ranked Rank Event) → Verdict
settle [] = answer []
settle (e ∷ l) = front e.rank e.what (settle l)

abbrev pub run : KeyTest → Rule → List Placed → Verdict
run same f xs = settle (events same f xs)
