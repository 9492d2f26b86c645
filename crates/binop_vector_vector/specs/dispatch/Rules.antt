-- The rule that a query asks for, the two label lists beside it, and the side that it runs on first. Assumes nothing.
use Rattle.std.specs.Prelude.{ℕ, ◌<◌, ◌≡◌, Bool, true, false, cond}
use Rattle.operator.specs.Operators.{is_logical_op}
use Rattle.model.specs.Edits.{Names}
use Rattle.model.specs.Query as Model
use Rattle.model.specs.Query.{resets}
use Rattle.semantics.specs.Binop.{skip_list}
use Rattle.query.specs.declared.Join.{Join}
use Rattle.query.specs.declared.Join.TheVariants.{OneToOne, GroupLeft, GroupRight}
use Rattle.query.specs.declared.Query.{Query}
use Rattle.set_tags.specs.naming.Namings.{naming_of}
use Rattle.join_series.specs.declared.Work.{Work}
use Rattle.answering.specs.declared.families.Rule.{Rule}
use Rattle.answering.specs.declared.families.Rule.TheVariants as R

-- what a join does with each pair of series
abbrev pub asked_work : Names → Names → Bool → Query → Work
asked_work join skip left q = record {
  operator = q.operator;
  as_bool = q.as_bool;
  left = left;
  naming = naming_of join skip (resets q.operator q.keep_names q.as_bool);
  allowance = q.allowance;
}

-- the rule of arithmetic and of comparisons
abbrev pub matched_rule : Join → Names → Names → Query → Rule
matched_rule OneToOne join skip q = R.Pairs q
matched_rule GroupLeft join skip q = R.Join (asked_work join skip true q)
matched_rule GroupRight join skip q = R.Join (asked_work join skip false q)

-- a set operator has its own, whatever the join
abbrev pub asked_rule : Names → Names → Query → Rule
asked_rule join skip q = cond (is_logical_op q.operator) (R.Set q.operator) (matched_rule q.join join skip q)

-- of a matching list and a join list the one that a rule reads first
abbrev pub first_names : Model.Join → Names → Names → Names
first_names Model.one_to_one matching join = matching
first_names (Model.group side) matching join = join

-- the label lists beside the rule of a query
pub record ListsOf (q : Model.Query) (first second : Names) : Type 0 where
  pub reads : first ≡ first_names q.join q.matching_list q.join_list
  pub skips : second ≡ skip_list q.matching q.matching_list

-- the side that a rule runs on first: 01's many side of a join, else the left one
abbrev pub first_side : Rule → ℕ
first_side (R.Pairs q) = 0
first_side (R.Join w) = cond w.left 0 1
first_side (R.Set op) = 0
first_side (R.Groups g) = 0

pub record FirstSide (rule : Rule) (r : ℕ) : Type 0 where
  pub side : r ≡ first_side rule
  pub below : r < 2
