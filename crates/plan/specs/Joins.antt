-- Joins by key numbers: which one-side series lead, the first clash, and the answer series. Assumes nothing.
use Rattle.std.specs.Prelude.{ℕ, suc, ◌+◌, ◌*◌, ◌/◌, ◌%◌, Bool, ◌&&◌, cond, List, [], ◌∷◌, ◌++◌, map, eqb, get_or}
use Rattle.std.proofs.Math.Option.{Option, none}
use Rattle.model.specs.Reading.{scalar_op}
use Rattle.model.specs.Labels.{Tag, Labels, same_tags}
use Rattle.model.specs.Query.{Query, Side}
use Rattle.model.specs.Vector.{Series}
use Rattle.semantics.specs.Events.{Duplicate}
use Rattle.semantics.specs.Call.{Outcome}
use Rattle.semantics.specs.Rules.{other}
use Rattle.semantics.specs.Binop.{joined_labels, join_rows}
use Rattle.plan.specs.Keys.{dropped}
use Rattle.side_parts.specs.Sides.{row_at}
use Rattle.side_parts.specs.Lent.{Sides, side_labels}
use Rattle.plan.specs.Merging.{merge_lead, row_of, clash}
use Rattle.plan.specs.Conclude.{or_else, conclude}
use Rattle.plan.specs.Pairs.{no_labels}

-- Of the two sides of a join the first is the many side, the second the one side.

-- what a join makes of a many-side series and a one-side series: its labels, its row; and how many places a merge may overlap
pub record JoinWork : Type 0 where
  pub labels : Labels → Labels → Labels
  pub rows : List ℕ → List ℕ → List ℕ
  pub allowance : ℕ

-- of a query, whose many side is given
abbrev pub work_of : Query → Side → JoinWork
work_of q many = record {
  labels = joined_labels q;
  rows = join_rows many (scalar_op q.operator q.bool);
  allowance = q.allowance;
}

-- the tags that many-side labels have after an edit from one-side labels
abbrev pub Edit : Type 0
Edit = Labels → Labels → List Tag

abbrev pub edit_of : JoinWork → Edit
edit_of w m o = (w.labels m o).tags

-- 01: equal edited tags, name aside. Of the many-side labels m, edited from a and from b.
unfoldable pub same_edited_by : Edit → Labels → Labels → Labels → Bool
same_edited_by e m a b = same_tags (e m a) (e m b)

-- the first place from i on with the key k at which m is edited as from o
unfoldable pub lead_of : Edit → Labels → ℕ → Labels → ℕ → List ℕ → List Labels → ℕ
lead_of e m k o i [] labels = i
lead_of e m k o i (x ∷ keys) [] = i
lead_of e m k o i (x ∷ keys) (l ∷ labels) = cond (eqb x k && same_edited_by e m l o) i (lead_of e m k o (suc i) keys labels)

unfoldable pub leads_among : Edit → Labels → ℕ → List ℕ → List Labels → List ℕ → List Labels → List ℕ
leads_among e m k keys labels [] rest = []
leads_among e m k keys labels (x ∷ xs) [] = []
leads_among e m k keys labels (x ∷ xs) (l ∷ rest) =
    cond (eqb x k) (lead_of e m k l 0 keys labels) dropped ∷ leads_among e m k keys labels xs rest

-- for many-side labels m of the key k: each one-side place of the key has the earliest place that is edited alike, each other is dropped
abbrev pub leads_of : Edit → Labels → ℕ → List ℕ → List Labels → List ℕ
leads_of e m k keys labels = leads_among e m k keys labels keys labels

-- 01: ranked as the answer series whose merge failed; the one-side place is that of the earliest row of the merge.
-- The first clash behind the leaders from o on.
unfoldable pub leads_clash : ℕ → ℕ → List ℕ → Side → List ℕ → ℕ → List ℕ → Option Duplicate
leads_clash allowance p rows side leads o [] = none
leads_clash allowance p rows side leads o (x ∷ rest) =
    or_else (cond (eqb x o) (clash side o (merge_lead allowance p rows leads o)) none) (leads_clash allowance p rows side leads (suc o) rest)

-- a many-side place and a one-side place as one number
abbrev pub row_code : ℕ → ℕ → ℕ
row_code m o = m * 512 + o

abbrev pub many_place : ℕ → ℕ
many_place x = x / 512

abbrev pub one_place : ℕ → ℕ
one_place x = x % 512

-- the answer rows of the many-side place m: one for each leader from o on
unfoldable pub lead_rows : ℕ → ℕ → List ℕ → List ℕ
lead_rows m o [] = []
lead_rows m o (x ∷ rest) = cond (eqb x o) (row_code m o ∷ lead_rows m (suc o) rest) (lead_rows m (suc o) rest)

-- the leaders of the one side for many-side labels m of the key k
abbrev pub leads_for : JoinWork → Sides → Labels → ℕ → List ℕ
leads_for w s m k = leads_of (edit_of w) m k s.right.keys (side_labels s.right)

abbrev pub led_clash : ℕ → Side → Sides → List ℕ → Option Duplicate
led_clash allowance side s leads = leads_clash allowance s.shape.points s.right.rows side leads 0 leads

-- 01: for each many-side series by itself. The first clash of the many-side places whose keys and labels are `ks` and `ls`.
unfoldable pub join_clash : JoinWork → Side → Sides → List ℕ → List Labels → Option Duplicate
join_clash w many s [] ls = none
join_clash w many s (k ∷ ks) [] = none
join_clash w many s (k ∷ ks) (l ∷ ls) =
    or_else
    (cond (eqb k dropped) none (led_clash w.allowance (other many) s (leads_for w s l k)))
    (join_clash w many s ks ls)

-- 01: Joins: many-side place, then one-side place. The answer rows of the many-side places from m on.
unfoldable pub join_rows_from : JoinWork → Sides → ℕ → List ℕ → List Labels → List ℕ
join_rows_from w s m [] ls = []
join_rows_from w s m (k ∷ ks) [] = []
join_rows_from w s m (k ∷ ks) (l ∷ ls) =
    cond (eqb k dropped) [] (lead_rows m 0 (leads_for w s l k)) ++ join_rows_from w s (suc m) ks ls

-- the labels of the answer row of the many-side place m and the one-side place o
unfoldable pub join_labels : JoinWork → Sides → ℕ → ℕ → Labels
join_labels w s m o = w.labels (get_or (side_labels s.left) m no_labels) (get_or (side_labels s.right) o no_labels)

-- and its readings: the operator on the many-side row and the one side's merged behind o
unfoldable pub join_row : JoinWork → Sides → ℕ → ℕ → List ℕ
join_row w s m o =
    w.rows (row_at s.shape.points s.left.rows m)
    (row_of (merge_lead w.allowance s.shape.points s.right.rows
    (leads_for w s (get_or (side_labels s.left) m no_labels) (get_or s.left.keys m 0)) o))

-- the answer series of a row code
unfoldable pub join_series : JoinWork → Sides → ℕ → Series
join_series w s x =
    record { labels = join_labels w s (many_place x) (one_place x); row = join_row w s (many_place x) (one_place x) }

-- the first clash of a join, or its answer series as they fit
abbrev pub join_outcome : JoinWork → Side → ℕ → ℕ → Sides → Outcome
join_outcome w many label_room room s =
    conclude label_room room s.shape
    (join_clash w many s s.left.keys (side_labels s.left))
    (map (join_series w s) (join_rows_from w s 0 s.left.keys (side_labels s.left)))
