-- Instances of taking a query, worked by hand. Assumes nothing.
use Rattle.std.specs.Prelude.{ℕ, zero, suc, ◌≡◌, refl, true, false, List, [], ◌∷◌, length}
use Rattle.operator.specs.declared.Operator.TheVariants.{Add, Div, Unless}
use Rattle.model.specs.Query.{left, right, all, on, ignoring, one_to_one, group, TakenQuery, query, bad_operator, malformed, bad_allowance, take_query}
use Rattle.model.specs.Computing.{computing}

-- n labels, an empty list behind them, and the allowance 2
unfoldable many_names : ℕ → List ℕ
many_names zero = 0 ∷ 2 ∷ []
many_names (suc n) = 1 ∷ 97 ∷ many_names n

unfoldable listed : TakenQuery → ℕ
listed (query q) = length q.matching_list
listed bad_operator = 1000
listed malformed = 1000
listed bad_allowance = 1000

-- an empty query is 2
no_operator : take_query [] ≡ malformed
unfolding computing
no_operator = refl

operator_19 : take_query (19 ∷ []) ≡ bad_operator
unfolding computing
operator_19 = refl

-- a refused operator is 1, though the rest is cut
operator_power : take_query (8 ∷ []) ≡ bad_operator
unfolding computing
operator_power = refl

-- 1 comes before 2
operator_angle : take_query (2 ∷ 9 ∷ []) ≡ bad_operator
unfolding computing
operator_angle = refl

only_operator : take_query (4 ∷ []) ≡ malformed
unfolding computing
only_operator = refl

plain : take_query (4 ∷ 0 ∷ 0 ∷ 0 ∷ 0 ∷ 0 ∷ 2 ∷ []) ≡ query
    (record { operator = Div; matching = all; join = one_to_one; keep_names = false; bool = false; matching_list = []; join_list = []; allowance = 2 })
unfolding computing
plain = refl

-- / on(press) group_left(form) keeping names, with bool
whole : take_query (4 ∷ 1 ∷ 1 ∷ 3 ∷ 1 ∷ 5 ∷ 112 ∷ 114 ∷ 101 ∷ 115 ∷ 115 ∷ 1 ∷ 4 ∷ 102 ∷ 111 ∷ 114 ∷ 109 ∷ 2 ∷ [])
    ≡ query (record {
      operator = Div;
      matching = on;
      join = (group left);
      keep_names = true;
      bool = true;
      matching_list =
          ((112 ∷ 114 ∷ 101 ∷ 115 ∷ 115 ∷ []) ∷ []);
      join_list = ((102 ∷ 111 ∷ 114 ∷ 109 ∷ []) ∷ []);
      allowance = 2;
    })
unfolding computing
whole = refl

group_right : take_query (18 ∷ 2 ∷ 2 ∷ 2 ∷ 1 ∷ 5 ∷ 112 ∷ 114 ∷ 101 ∷ 115 ∷ 115 ∷ 0 ∷ 2 ∷ [])
    ≡ query (record {
      operator = Unless;
      matching = ignoring;
      join = (group right);
      keep_names = false;
      bool = true;
      matching_list =
          ((112 ∷ 114 ∷ 101 ∷ 115 ∷ 115 ∷ []) ∷ []);
      join_list = [];
      allowance = 2;
    })
unfolding computing
group_right = refl

-- many-to-many is run as one-to-one
many_to_many : take_query (0 ∷ 0 ∷ 3 ∷ 1 ∷ 0 ∷ 0 ∷ 2 ∷ [])
    ≡ query (record { operator = Add; matching = all; join = one_to_one; keep_names = true; bool = false; matching_list = []; join_list = []; allowance = 2 })
unfolding computing
many_to_many = refl

-- an empty `on` list is accepted
on_nothing : take_query (0 ∷ 1 ∷ 0 ∷ 0 ∷ 0 ∷ 0 ∷ 2 ∷ []) ≡ query
    (record { operator = Add; matching = on; join = one_to_one; keep_names = false; bool = false; matching_list = []; join_list = []; allowance = 2 })
unfolding computing
on_nothing = refl

-- repeated and unsorted labels are accepted
repeated : take_query (0 ∷ 1 ∷ 0 ∷ 0 ∷ 3 ∷ 1 ∷ 98 ∷ 1 ∷ 97 ∷ 1 ∷ 98 ∷ 0 ∷ 2 ∷ [])
    ≡ query (record {
      operator = Add;
      matching = on;
      join = one_to_one;
      keep_names = false;
      bool = false;
      matching_list =
          ((98 ∷ []) ∷ (97 ∷ []) ∷ (98 ∷ []) ∷ []);
      join_list = [];
      allowance = 2;
    })
unfolding computing
repeated = refl

matching_3 : take_query (0 ∷ 3 ∷ 0 ∷ 0 ∷ 0 ∷ 0 ∷ 2 ∷ []) ≡ malformed
unfolding computing
matching_3 = refl

join_4 : take_query (0 ∷ 0 ∷ 4 ∷ 0 ∷ 0 ∷ 0 ∷ 2 ∷ []) ≡ malformed
unfolding computing
join_4 = refl

flag_4 : take_query (0 ∷ 0 ∷ 0 ∷ 4 ∷ 0 ∷ 0 ∷ 2 ∷ []) ≡ malformed
unfolding computing
flag_4 = refl

-- a list has at most 32 labels
list_32 : listed (take_query (0 ∷ 1 ∷ 0 ∷ 0 ∷ 32 ∷ many_names 32)) ≡ 32
unfolding computing many_names listed
list_32 = refl

list_33 : take_query (0 ∷ 1 ∷ 0 ∷ 0 ∷ 33 ∷ many_names 33) ≡ malformed
unfolding computing many_names
list_33 = refl

empty_label : take_query (0 ∷ 1 ∷ 0 ∷ 0 ∷ 1 ∷ 0 ∷ 0 ∷ 2 ∷ []) ≡ malformed
unfolding computing
empty_label = refl

label_cut : take_query (0 ∷ 1 ∷ 0 ∷ 0 ∷ 1 ∷ 2 ∷ 97 ∷ []) ≡ malformed
unfolding computing
label_cut = refl

no_join_list : take_query (0 ∷ 1 ∷ 0 ∷ 0 ∷ 1 ∷ 1 ∷ 97 ∷ []) ≡ malformed
unfolding computing
no_join_list = refl

-- bytes left over
left_over : take_query (0 ∷ 0 ∷ 0 ∷ 0 ∷ 0 ∷ 0 ∷ 0 ∷ 2 ∷ []) ≡ malformed
unfolding computing
left_over = refl

-- matching 0 has an empty matching list
list_unmatched : take_query (0 ∷ 0 ∷ 0 ∷ 0 ∷ 1 ∷ 1 ∷ 97 ∷ 0 ∷ 2 ∷ []) ≡ malformed
unfolding computing
list_unmatched = refl

-- joins 0 and 3 have an empty join list
list_unjoined : take_query (0 ∷ 1 ∷ 0 ∷ 0 ∷ 0 ∷ 1 ∷ 1 ∷ 97 ∷ 2 ∷ []) ≡ malformed
unfolding computing
list_unjoined = refl

list_many_to_many : take_query (0 ∷ 1 ∷ 3 ∷ 0 ∷ 0 ∷ 1 ∷ 1 ∷ 97 ∷ 2 ∷ []) ≡ malformed
unfolding computing
list_many_to_many = refl

-- 02: a last byte, behind the join list: 0 to 8
allowance_0 : take_query (0 ∷ 0 ∷ 0 ∷ 0 ∷ 0 ∷ 0 ∷ 0 ∷ []) ≡ query (record {
  operator = Add;
  matching = all;
  join = one_to_one;
  keep_names = false;
  bool = false;
  matching_list = [];
  join_list = [];
  allowance = 0;
})
unfolding computing
allowance_0 = refl

allowance_8 : take_query (0 ∷ 0 ∷ 1 ∷ 0 ∷ 0 ∷ 1 ∷ 1 ∷ 97 ∷ 8 ∷ []) ≡ query (record {
  operator = Add;
  matching = all;
  join = group left;
  keep_names = false;
  bool = false;
  matching_list = [];
  join_list = (97 ∷ []) ∷ [];
  allowance = 8;
})
unfolding computing
allowance_8 = refl

no_allowance : take_query (0 ∷ 0 ∷ 0 ∷ 0 ∷ 0 ∷ 0 ∷ []) ≡ malformed
unfolding computing
no_allowance = refl

-- 02: 13, an allowance above 8, under set rules too
allowance_9 : take_query (0 ∷ 0 ∷ 0 ∷ 0 ∷ 0 ∷ 0 ∷ 9 ∷ []) ≡ bad_allowance
unfolding computing
allowance_9 = refl

allowance_255 : take_query (18 ∷ 1 ∷ 2 ∷ 3 ∷ 1 ∷ 1 ∷ 97 ∷ 0 ∷ 255 ∷ []) ≡ bad_allowance
unfolding computing
allowance_255 = refl

-- after number 2: bytes left over, a list that is not used, a list cut
left_over_9 : take_query (0 ∷ 0 ∷ 0 ∷ 0 ∷ 0 ∷ 0 ∷ 9 ∷ 0 ∷ []) ≡ malformed
unfolding computing
left_over_9 = refl

list_unmatched_9 : take_query (0 ∷ 0 ∷ 0 ∷ 0 ∷ 1 ∷ 1 ∷ 97 ∷ 0 ∷ 9 ∷ []) ≡ malformed
unfolding computing
list_unmatched_9 = refl

list_cut_9 : take_query (0 ∷ 1 ∷ 0 ∷ 0 ∷ 0 ∷ 1 ∷ 9 ∷ []) ≡ malformed
unfolding computing
list_cut_9 = refl

-- and after number 1
operator_9 : take_query (8 ∷ 0 ∷ 0 ∷ 0 ∷ 0 ∷ 0 ∷ 9 ∷ []) ≡ bad_operator
unfolding computing
operator_9 = refl
