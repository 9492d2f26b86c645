-- The code's query and its answers, as those of the definitions. Assumes nothing.
use Rattle.std.specs.Prelude.{ℕ, ◌-◌, ◌<◌, ◌≤◌, ◌≡◌, cond, List, [], ◌∷◌, eqb, length, get_or, take, drop}
use Rattle.std.specs.Prelude.{Option, Some, None, Result, Ok, Err, MatchResult}
use Rattle.model.specs.Lists.{is_empty}
use Rattle.model.specs.Edits.{Names}
use Rattle.model.specs.Query as Model
use Rattle.labels.specs.Names.{names_of}
use Rattle.labels.specs.Matchings.{matching_of}
use Rattle.query.specs.declared.Join.{Join}
use Rattle.query.specs.declared.Join.TheVariants.{OneToOne, GroupLeft, GroupRight}
use Rattle.query.specs.declared.UnknownJoin.{UnknownJoin}
use Rattle.query.specs.declared.Query.{Query}
use Rattle.query.specs.declared.QueryError.{QueryError}
use Rattle.query.specs.declared.QueryError.TheVariants.{BadOperator, Malformed, BadAllowance}

abbrev pub join_of : Join → Model.Join
join_of OneToOne = Model.one_to_one
join_of GroupLeft = Model.group Model.left
join_of GroupRight = Model.group Model.right

-- 01: join byte (0 one-to-one, 1 group_left, 2 group_right, 3 many-to-many, run as 0); an error has a byte that stands for none
abbrev pub JoinBy : ℕ → Result Join UnknownJoin → Type 0
JoinBy b r = MatchResult r (λ j. (b ≤ 3) × (join_of j ≡ Model.join_of b)) (λ e. (3 < b) × (e.0 ≡ b))

-- the lists as parts of the query's bytes; what stands behind the join list is not read as labels
abbrev pub matching_part : List ℕ → ℕ → List ℕ
matching_part s join_at = take (join_at - 4) (drop 4 s)

abbrev pub join_part : List ℕ → ℕ → List ℕ
join_part s join_at = drop join_at s

-- the query that the code's stands for, with the bytes of its matching list and of its join list
abbrev pub query_by : List ℕ → List ℕ → Query → Model.Query
query_by names join q = record {
  operator = q.operator;
  matching = matching_of q.matching;
  join = join_of q.join;
  keep_names = q.keep_names;
  bool = q.as_bool;
  matching_list = names_of names;
  join_list = names_of join;
  allowance = q.allowance;
}

-- with the bytes that it was taken from
abbrev pub query_of : List ℕ → Query → Model.Query
query_of s q = query_by (matching_part s q.join_at) (join_part s q.join_at) q

-- a query, or the number of 01 or 02
pub data Answer : Type 0 where
  taken : Model.Query → Answer
  refused : ℕ → Answer

-- 01: Taking a query: 1, operator above 18, or 2 or 8; then 2, the query otherwise not as above. 02: 13, an allowance above 8.
abbrev pub numbered : Model.TakenQuery → Answer
numbered (Model.query q) = taken q
numbered Model.bad_operator = refused 1
numbered Model.malformed = refused 2
numbered Model.bad_allowance = refused 13

-- the number of a refusal
abbrev pub request_number : QueryError → ℕ
request_number BadOperator = 1
request_number Malformed = 2
request_number BadAllowance = 13

abbrev pub answer_of : List ℕ → Result Query QueryError → Answer
answer_of s (Ok q) = taken (query_of s q)
answer_of s (Err e) = refused (request_number e)

-- both lists have a count byte
pub record ListsWithin (s : List ℕ) (join_at : ℕ) : Type 0 where
  pub first : 4 < join_at
  pub second : join_at < length s

-- the code answers r where taking the bytes s gives t
pub record TakenAs (s : List ℕ) (t : Model.TakenQuery) (r : Result Query QueryError) : Type 0 where
  pub answer : answer_of s r ≡ numbered t
  pub within : (q : Query) → r ≡ Ok q → ListsWithin s q.join_at

-- two lists and one byte behind them, or 01's number
pub data Lists : Type 0 where
  refused_lists : ℕ → Lists
  lists : Names → Names → ℕ → Lists

-- 01: then 2, the query otherwise not as above
abbrev pub no_lists : Lists
no_lists = refused_lists 2

abbrev pub closed : Names → Names → List ℕ → Lists
closed ns js [] = no_lists
closed ns js (a ∷ rest) = cond (is_empty rest) (lists ns js a) no_lists

abbrev pub lists_in : List ℕ → Lists
lists_in s = Model.on_listed (Model.list_in s) no_lists (λ ns s₁. Model.on_listed (Model.list_in s₁) no_lists (λ js s₂. closed ns js s₂))

abbrev pub lists_of : List ℕ → Option ℕ → Lists
lists_of s (Some at) = lists (names_of (matching_part s at)) (names_of (join_part s at)) (get_or s (length s - 1) 0)
lists_of s None = no_lists

-- a list is empty where its count byte is 0
pub record Counts (s : List ℕ) (join_at : ℕ) : Type 0 where
  pub within : ListsWithin s join_at
  pub matching : is_empty (names_of (matching_part s join_at)) ≡ eqb (get_or s 4 0) 0
  pub join : is_empty (names_of (join_part s join_at)) ≡ eqb (get_or s join_at 0) 0

-- where the join list stands, if the bytes from 4 on are two lists and one byte more
pub record ListsAt (s : List ℕ) (r : Option ℕ) : Type 0 where
  pub same : lists_of s r ≡ lists_in (drop 4 s)
  pub counts : (at : ℕ) → r ≡ Some at → Counts s at
