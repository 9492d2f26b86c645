-- Demand 3 on decoded sides, for every query: the whole verdict is the piles', in whole places, merged. Assumes nothing.
use Rattle.std.specs.Prelude.{◌≡◌, refl, ◌&&◌, List}
use Rattle.operator.specs.Kinds.{Kind, arithmetic, comparison, set_rule, fallback, not_carried, kind_of}
use Rattle.model.specs.Query.{Query, same_key, left, right, Join, one_to_one, group}
use Rattle.model.specs.Vector.{Series}
use Rattle.semantics.specs.Places.{placed, Rank, rank_before}
use Rattle.semantics.specs.Events.{Ranked, Verdict, answer, run, emission}
use Rattle.semantics.specs.Rules as Rules
use Rattle.semantics.specs.Binop.{paired, joined_pair, join_work, matched_rule, met, unmatched, adds, Seen, rule_of, look}
use Rattle.semantics.specs.Call.{verdict}
use Rattle.theorems.proofs.Laws.Order.{Steady, one_to_one_steady, set_rule_steady, dropping_steady, joined_steady, placed_ascending, events_orderly}
use Rattle.theorems.proofs.Laws.Renumber.{Natural, dropping_natural, one_to_one_natural, joined_natural, set_rule_natural, met_moved}
use Rattle.theorems.specs.Claims.Dealing.{Rising, moved_verdict, Deal, second_pile, pile, whole_places, Apart, FallsAlikeIf, Dealt, merged_verdict}
use Rattle.theorems.proofs.Dealing.Merging.{answer_rising}
use Rattle.theorems.proofs.Dealing.Numbers.{pile_placed, apart_second, dealt_verdict}
use Rattle.theorems.proofs.Dealing.Fallback.{falls_same}

matched_natural : (q : Query) (j : Join) → Natural (matched_rule q j)
matched_natural q one_to_one = one_to_one_natural q.allowance (paired q)
matched_natural q (group many) = joined_natural q.allowance (joined_pair q) (join_work q many) many

matched_steady : (q : Query) (j : Join) → Steady (matched_rule q j)
matched_steady q one_to_one = one_to_one_steady q.allowance (paired q)
matched_steady q (group many) = joined_steady q.allowance (joined_pair q) (join_work q many) many

rule_natural : (q : Query) (k : Kind) (c : Seen) → Natural (rule_of q k c)
rule_natural q (arithmetic a) c = dropping_natural (matched_natural q q.join)
rule_natural q (comparison t) c = matched_natural q q.join
rule_natural q (set_rule k) c = set_rule_natural (adds k && c.adds_right) (unmatched k c.fallback_to) (met k) (met_moved k)
rule_natural q (fallback k) c = set_rule_natural (adds k && c.adds_right) (unmatched k c.fallback_to) (met k) (met_moved k)
rule_natural q not_carried c = record { moves = λ ρ exact s xs. refl }

rule_steady : (q : Query) (k : Kind) (c : Seen) → Steady (rule_of q k c)
rule_steady q (arithmetic a) c = dropping_steady (matched_steady q q.join)
rule_steady q (comparison t) c = matched_steady q q.join
rule_steady q (set_rule k) c = set_rule_steady (adds k && c.adds_right) (unmatched k c.fallback_to) (met k)
rule_steady q (fallback k) c = set_rule_steady (adds k && c.adds_right) (unmatched k c.fallback_to) (met k)
rule_steady q not_carried c = record { rises = λ s xs a. tt }

-- a pile's verdict does not turn on whether its rule sees the pile's sides or the whole's
rule_same : (q : Query) (k : Kind) (deal : Deal) (ls rs : List Series) → Apart (same_key q) deal (placed ls rs)
    → FallsAlikeIf q k (pile deal left ls) (pile deal right rs) ls rs
    → run (same_key q) (rule_of q k (look k (pile deal left ls) (pile deal right rs))) (pile_placed deal ls rs)
    ≡ run (same_key q) (rule_of q k (look k ls rs)) (pile_placed deal ls rs)
rule_same q (arithmetic a) deal ls rs h l = refl
rule_same q (comparison t) deal ls rs h l = refl
rule_same q (set_rule k) deal ls rs h l = refl
rule_same q (fallback k) deal ls rs h l = falls_same q k deal ls rs h l
rule_same q not_carried deal ls rs h l = refl

-- a pile's verdict
abbrev pub pile_verdict : Query → Deal → List Series → List Series → Verdict
pile_verdict q deal ls rs = verdict q (pile deal left ls) (pile deal right rs)

pub verdicts : (q : Query) (deal : Deal) (ls rs : List Series) → Dealt q deal ls rs
    → verdict q ls rs
    ≡ merged_verdict (moved_verdict (whole_places deal ls rs) (pile_verdict q deal ls rs))
    (moved_verdict (whole_places (second_pile deal) ls rs) (pile_verdict q (second_pile deal) ls rs))
unfolding verdict
verdicts q deal ls rs d =
    rw (
      rule_same q (kind_of q.operator) deal ls rs d.apart d.first,
      rule_same q (kind_of q.operator) (second_pile deal) ls rs
          (apart_second (same_key q) deal (placed ls rs) d.apart) d.second,
    )
    (dealt_verdict (same_key q) (rule_of q (kind_of q.operator) (look (kind_of q.operator) ls rs))
    (rule_natural q (kind_of q.operator) _)
    (rule_steady q (kind_of q.operator) _) deal ls rs d.apart)

-- answers are in order of rank
pub verdict_rising : (q : Query) (ls rs : List Series) (l : List (Ranked Rank Series)) → verdict q ls rs ≡ answer l → Rising rank_before l
unfolding verdict
verdict_rising q ls rs l e =
    let f = rule_of q (kind_of q.operator) (look (kind_of q.operator) ls rs) in
    answer_rising (emission (same_key q) f (placed ls rs)) (placed ls rs) l
    (events_orderly (same_key q) f (rule_steady q (kind_of q.operator) _) (placed ls rs) (placed ls rs)
    (placed_ascending ls rs) (placed_ascending ls rs)) e
