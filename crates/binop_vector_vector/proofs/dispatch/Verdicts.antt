-- What a query comes to over two sides is what its family's plan comes to, by the kind of its operator. Assumes nothing.
use Prim.Native.Nat.{ℕ}
use mathlib.Core.Path.{◌≡◌, refl, sym}
use mathlib.Core.Bool.{true, false}
use mathlib.Core.List.{List}
use Rattle.operator.specs.Kinds.{Kind, arithmetic, comparison, set_rule, fallback, not_carried, kind_of}
use Rattle.operator.specs.Operators.{joins_sets, runs}
use Rattle.model.proofs.Laws.Booleans.{never}
use Rattle.model.specs.Query as Model
use Rattle.model.specs.Vector.{Series}
use Rattle.plan.specs.Pairs.{pairs_outcome}
use Rattle.plan.specs.Joins.{work_of, join_outcome}
use Rattle.plan.specs.Laws.Keyed.{Numbers}
use Rattle.plan.specs.Laws.Sides.{StandsFor, held_stands}
use Rattle.plan.specs.Laws.Pairs.{comparison_concludes, arithmetic_concludes}
use Rattle.plan.specs.Laws.Joins.{comparison_joins_left, arithmetic_joins_left, comparison_joins_right, arithmetic_joins_right}
use Rattle.side_parts.specs.Lent.{Sides, exchanged, side_series}
use Rattle.keyed_sides.specs.Keyed.{drops_missing, SidesKeyed}
use Rattle.binop_vector_vector.specs.dispatch.Runs.{ran_sides}

module _ (q : Model.Query) (s : Sides) (k : SidesKeyed q (drops_missing (kind_of q.operator)) s) (label_room room : ℕ) where
  abbrev ls : List Series
  ls = side_series s.shape.points s.left

  abbrev rs : List Series
  rs = side_series s.shape.points s.right

  lefts : StandsFor s.shape.points s.left ls
  lefts = held_stands s.shape.points s.left k.both.left

  rights : StandsFor s.shape.points s.right rs
  rights = held_stands s.shape.points s.right k.both.right

  abbrev Numbered : Kind → Type 0
  Numbered c = Numbers q (drops_missing c) ls rs s.left.keys s.right.keys

  pairs : (c : Kind) → kind_of q.operator ≡ c → runs c ≡ true → joins_sets c ≡ false → Numbered c → q.join ≡ Model.one_to_one
      → ran_sides q s label_room room ≡ pairs_outcome q label_room room s
  pairs (arithmetic a) h t m n hj = arithmetic_concludes q s ls rs lefts rights label_room room a h hj n
  pairs (comparison a) h t m n hj = comparison_concludes q s ls rs lefts rights label_room room a h hj n
  pairs (set_rule a) h t m n hj = never (sym m)
  pairs (fallback a) h t m n hj = never (sym m)
  pairs not_carried h t m n hj = never t

  joins_left : (c : Kind) → kind_of q.operator ≡ c → runs c ≡ true → joins_sets c ≡ false → Numbered c → q.join ≡ Model.group Model.left
      → ran_sides q s label_room room ≡ join_outcome (work_of q Model.left) Model.left label_room room s
  joins_left (arithmetic a) h t m n hj = arithmetic_joins_left q s ls rs lefts rights label_room room k.both.right.rows.few hj a h n
  joins_left (comparison a) h t m n hj = comparison_joins_left q s ls rs lefts rights label_room room k.both.right.rows.few hj a h n
  joins_left (set_rule a) h t m n hj = never (sym m)
  joins_left (fallback a) h t m n hj = never (sym m)
  joins_left not_carried h t m n hj = never t

  joins_right : (c : Kind) → kind_of q.operator ≡ c → runs c ≡ true → joins_sets c ≡ false → Numbered c
      → q.join ≡ Model.group Model.right
      → ran_sides q s label_room room ≡ join_outcome (work_of q Model.right) Model.right label_room room (exchanged s)
  joins_right (arithmetic a) h t m n hj = arithmetic_joins_right q s ls rs lefts rights label_room room k.both.left.rows.few hj a h n
  joins_right (comparison a) h t m n hj = comparison_joins_right q s ls rs lefts rights label_room room k.both.left.rows.few hj a h n
  joins_right (set_rule a) h t m n hj = never (sym m)
  joins_right (fallback a) h t m n hj = never (sym m)
  joins_right not_carried h t m n hj = never t

  module _ (carried : runs (kind_of q.operator) ≡ true) (matched : joins_sets (kind_of q.operator) ≡ false) where
    pub pairs_verdict : q.join ≡ Model.one_to_one → ran_sides q s label_room room ≡ pairs_outcome q label_room room s
    pairs_verdict hj = pairs (kind_of q.operator) refl carried matched k.numbers hj

    pub left_verdict : q.join ≡ Model.group Model.left
        → ran_sides q s label_room room ≡ join_outcome (work_of q Model.left) Model.left label_room room s
    left_verdict hj = joins_left (kind_of q.operator) refl carried matched k.numbers hj

    pub right_verdict : q.join ≡ Model.group Model.right
        → ran_sides q s label_room room ≡ join_outcome (work_of q Model.right) Model.right label_room room (exchanged s)
    right_verdict hj = joins_right (kind_of q.operator) refl carried matched k.numbers hj
