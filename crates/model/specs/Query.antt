-- Sides, a query taken from bytes, and the key of a series under its matching. Assumes nothing.
use Rattle.std.specs.Prelude.{ℕ, zero, suc, Bool, true, false, not, ◌&&◌, ◌||◌, cond, List, [], ◌∷◌, leb, eqb}
use Rattle.std.proofs.Math.Option.{Option, none, some}
use Rattle.operator.specs.declared.Operator.{Operator}
use Rattle.operator.specs.Kinds.{Kind, arithmetic, comparison, set_rule, fallback, not_carried, kind_of}
use Rattle.operator.specs.Operators.{operator_of, is_carried}
use Rattle.model.specs.Limits.{max_listed, max_allowance}
use Rattle.model.specs.Lists.{is_empty}
use Rattle.model.specs.Labels.{Tag, Labels, same_tags}
use Rattle.model.specs.Record.{read_field, on_field}
use Rattle.model.specs.Edits.{Names, tags_on, tags_ignoring}

pub data Side : Type 0 where
  left right : Side

pub data Matching : Type 0 where
  all on ignoring : Matching

-- `group left` is group_left: the many side is the left one
pub data Join : Type 0 where
  one_to_one : Join
  group : Side → Join

pub record Query : Type 0 where
  pub operator : Operator
  pub matching : Matching
  pub join : Join
  pub keep_names : Bool
  pub bool : Bool
  pub matching_list : Names
  pub join_list : Names
  pub allowance : ℕ  -- at how many places a merge of its series may overlap

-- 01: The key is the tags in the `on` list, or outside the `ignoring` list, or all; the name is never in it, `on(__name__)` included.
unfoldable pub key_of : Matching → Names → List Tag → List Tag
key_of all ns ts = ts
key_of on ns ts = tags_on ns ts
key_of ignoring ns ts = tags_ignoring ns ts

unfoldable pub same_key : Query → Labels → Labels → Bool
same_key q l m =
    same_tags (key_of q.matching q.matching_list l.tags) (key_of q.matching q.matching_list m.tags)

-- names of answers

abbrev pub kind_resets : Kind → Bool → Bool → Bool
kind_resets (arithmetic k) keep_names bool = not keep_names
kind_resets (comparison c) keep_names bool = bool && not keep_names
kind_resets (set_rule s) keep_names bool = false
kind_resets (fallback s) keep_names bool = false
kind_resets not_carried keep_names bool = not keep_names

abbrev pub resets : Operator → Bool → Bool → Bool
resets o keep_names bool = kind_resets (kind_of o) keep_names bool

-- 01: its name cleared where `should_reset_metric_group` says. By arithmetic, and by a comparison with bool, unless names are kept.
abbrev pub should_reset_metric_group : Query → Bool
should_reset_metric_group q = resets q.operator q.keep_names q.bool

-- taking

-- 01: 1, operator above 18, or 2 or 8; then 2, the query otherwise not as above, bytes left over included.
-- 02: 13, an allowance above 8, after number 2.
pub data TakenQuery : Type 0 where
  query : Query → TakenQuery
  bad_operator : TakenQuery
  malformed : TakenQuery
  bad_allowance : TakenQuery

-- 01: matching byte (0 none, 1 on, 2 ignoring)
abbrev pub matching_of : ℕ → Matching
matching_of m = cond (eqb m 0) all (cond (eqb m 1) on ignoring)

-- 01: join byte (0 one-to-one, 1 group_left, 2 group_right, 3 many-to-many, run as 0)
abbrev pub join_of : ℕ → Join
join_of j = cond (eqb j 1) (group left) (cond (eqb j 2) (group right) one_to_one)

-- labels, and what follows them
pub data Listed : Type 0 where
  not_listed : Listed
  listed : Names → List ℕ → Listed

-- 01: each a length byte 1 to 255 and its bytes
abbrev pub with_name : List ℕ → Listed → Listed
with_name [] l = not_listed
with_name (x ∷ xs) not_listed = not_listed
with_name (x ∷ xs) (listed ns rest) = listed ((x ∷ xs) ∷ ns) rest

unfoldable pub names_in : ℕ → List ℕ → Listed
names_in zero s = listed [] s
names_in (suc n) s = on_field (read_field s) not_listed (λ x rest. with_name x (names_in n rest))

-- 01: A list is a count byte 0 to 32, then labels.
unfoldable pub list_in : List ℕ → Listed
list_in [] = not_listed
list_in (n ∷ s) = cond (leb n max_listed) (names_in n s) not_listed

abbrev pub on_listed : {A : Type 0} → Listed → A → (Names → List ℕ → A) → A
on_listed not_listed a f = a
on_listed (listed ns rest) a f = f ns rest

abbrev pub is_matched : Matching → Bool
is_matched all = false
is_matched on = true
is_matched ignoring = true

abbrev pub is_group : Join → Bool
is_group one_to_one = false
is_group (group s) = true

-- 01: Matching 0 has an empty matching list, joins 0 and 3 an empty join list.
abbrev pub fitting : Query → Bool
fitting q = (is_matched q.matching || is_empty q.matching_list) && (is_group q.join || is_empty q.join_list)

-- 02: 13, an allowance above 8
abbrev pub allowing : Query → TakenQuery
allowing q = cond (leb q.allowance max_allowance) (query q) bad_allowance

-- 02: The query gains a last byte, behind the join list: the number of overlapping places a merge allows.
abbrev pub ended : (ℕ → Query) → List ℕ → TakenQuery
ended q [] = malformed
ended q (a ∷ rest) = cond (is_empty rest && fitting (q a)) (allowing (q a)) malformed

-- 01: flag byte (0 neither, 1 keep names, 2 bool, 3 both)
abbrev pub query_of : Operator → ℕ → ℕ → ℕ → Names → Names → ℕ → Query
query_of o m j f ns js a = record {
  operator = o;
  matching = matching_of m;
  join = join_of j;
  keep_names = eqb f 1 || eqb f 3;
  bool = leb 2 f;
  matching_list = ns;
  join_list = js;
  allowance = a;
}

-- 01: matching list; join list. 02: a last byte
abbrev pub with_lists : Operator → ℕ → ℕ → ℕ → List ℕ → TakenQuery
with_lists o m j f s =
    on_listed (list_in s) malformed (λ ns s₁. on_listed (list_in s₁) malformed (λ js s₂. ended (query_of o m j f ns js) s₂))

abbrev pub modified : Operator → List ℕ → TakenQuery
modified o [] = malformed
modified o (m ∷ []) = malformed
modified o (m ∷ j ∷ []) = malformed
modified o (m ∷ j ∷ f ∷ s) = cond (leb m 2 && (leb j 3 && leb f 3)) (with_lists o m j f s) malformed

abbrev pub asked : Option Operator → List ℕ → TakenQuery
asked none s = bad_operator
asked (some o) s = cond (is_carried o) (modified o s) bad_operator

-- 01: A query is: operator byte; matching byte; join byte; flag byte; matching list; join list. 02: a last byte, the allowance.
unfoldable pub take_query : List ℕ → TakenQuery
take_query [] = malformed
take_query (o ∷ s) = asked (operator_of o) s
