-- Group joins use up no one-side series: the claims are in Claims.Prometheus. Assumes nothing.
use Rattle.std.specs.Prelude.{ℕ, zero, suc, ◌<◌, ◌≡◌, refl, true, false, cond, List, [], ◌∷◌, length, get_or}
use Rattle.std.proofs.Common.{sym, ap, ◌∙◌, arith}
use Rattle.std.proofs.lemmas.Bool.{false≢true}
use mathlib.Core.List.Memᴰ
use Rattle.operator.specs.Kinds.{Kind, arithmetic, comparison, set_rule, fallback, not_carried, kind_of}
use Rattle.operator.specs.Operators.{joins_sets, runs}
use Rattle.model.specs.Lists.{keep}
use Rattle.model.specs.Reading.{no_reading, scalar_op}
use Rattle.model.specs.Row.{zip_with}
use Rattle.model.specs.Query.{Query, same_key, Side, left, right, group}
use Rattle.model.specs.Vector.{Series, Shape}
use Rattle.model.proofs.Laws.Booleans.{never_so}
use Rattle.model.proofs.Laws.Lists.{keep_swap}
use Rattle.semantics.specs.Places.{Place, Placed, placed, Rank}
use Rattle.semantics.specs.Events.{Event, good, bad, Ranked, Rule, Verdict, answer, duplicate, of_key, produced_by, emission, events, settle}
use Rattle.semantics.specs.Rules.{other, of_side, pairs, groups, has_readings}
use Rattle.semantics.specs.Binop.{joined_pair, join_rows, join_work, matched_rule, Seen, rule_of, look}
use Rattle.semantics.specs.Call.{verdict, concluded, fit}
use Rattle.semantics.specs.Laws.Places.{on_same}
use Rattle.theorems.specs.Claims.Outcomes.{series_in}
use Rattle.theorems.specs.Claims.Partition.{is_refused}
use Rattle.theorems.specs.Claims.Prometheus.{reading_at, In, after_drop, joined_series, matches_of, IsJoin, ManySide, Served, EveryMatchServed}
use Rattle.theorems.specs.Claims.Prometheus.{on_point, SingleMatchServed, ManySideApart, Answers, AnswersVerdict}
use Rattle.theorems.proofs.Dealing.Fitting.{fits_fit, Way, fine, too_big, no_room, fit_way}
use Rattle.theorems.proofs.Outcomes.{taken_call}
use Rattle.theorems.proofs.Laws.Members.{in_gather, in_map, from_map, from_keep, all_in}
use Rattle.theorems.proofs.Laws.Answered.{IsGood, goods, answered, in_goods, given_is}
use Rattle.theorems.proofs.Laws.Groups.{EventOf, served, failed, group_event, grouped_one}

-- what a many-side series of a join emits

abbrev gives : Query → Side → Placed → List Placed → List (Ranked Rank Event)
gives q many s ms = produced_by s.place (groups q.allowance (join_work q many s.series) (pairs (joined_pair q) s.series ms))

record Emits (q : Query) (many : Side) (k : Kind) (c : Seen) (xs : List Placed) (s : Placed) : Type 0 where
  member : In s xs
  is : emission (same_key q) (rule_of q k c) xs s ≡ gives q many s (matches_of q many s (after_drop k xs))

module _ (q : Query) (many : Side) (grouped : q.join ≡ group many) where
  rule_of_many : (s : Placed) (ys : List Placed) → s.place.side ≡ many
      → matched_rule q q.join s ys ≡ groups q.allowance (join_work q many s.series) (pairs (joined_pair q) s.series (of_side (other many) ys))
  rule_of_many s ys e = rw (grouped, e, on_same many)

  emits : (k : Kind) → joins_sets k ≡ false → runs k ≡ true → (c : Seen) (xs : List Placed) (s : Placed) → s.place.side ≡ many
      → In s (after_drop k xs) → Emits q many k c xs s
  emits (arithmetic a) j r c xs s e h =
      let m = from_keep (λ x. has_readings x.series) s xs h in
      record {
        member = m.member;
        is = ap (produced_by s.place)
            (ap (λ t. cond t (matched_rule q q.join s
            (keep (λ x. has_readings x.series) (of_key (same_key q) s.series.labels xs))) []) m.passes
            ∙ rule_of_many s (keep (λ x. has_readings x.series) (of_key (same_key q) s.series.labels xs)) e
            ∙ ap (λ ys. groups q.allowance (join_work q many s.series) (pairs (joined_pair q) s.series (of_side (other many) ys)))
            (keep_swap _ _ xs));
      }
  emits (comparison t) j r c xs s e h = record {
    member = h;
    is = ap (produced_by s.place)
        (rule_of_many s (of_key (same_key q) s.series.labels xs) e);
  }
  emits (set_rule k) j r c xs s e h = absurd (false≢true (sym j))
  emits (fallback k) j r c xs s e h = absurd (false≢true (sym j))
  emits not_carried j r c xs s e h = absurd (false≢true r)

  -- it turns on the one side alone
  emits_same : (k : Kind) → joins_sets k ≡ false → runs k ≡ true → (c c' : Seen) (xs xs' : List Placed) → of_side (other many) xs ≡ of_side (other many) xs'
      → (s : Placed) → s.place.side ≡ many → emission (same_key q) (rule_of q k c) xs s
      ≡ emission (same_key q) (rule_of q k c') xs' s
  emits_same (arithmetic a) j r c c' xs xs' o s e = ap (λ l. produced_by s.place (cond (has_readings s.series) l [])) (one xs ∙ ap rows o ∙ sym (one xs'))
    where
      rows : List Placed → List (Ranked Place Event)
      rows ys = groups q.allowance (join_work q many s.series)
          (pairs (joined_pair q) s.series (keep (λ x. has_readings x.series)
          (of_key (same_key q) s.series.labels ys)))

      one : (ys : List Placed) → matched_rule q q.join s
          (keep (λ x. has_readings x.series) (of_key (same_key q) s.series.labels ys))
          ≡ rows (of_side (other many) ys)
      one ys =
          rule_of_many s (keep (λ x. has_readings x.series) (of_key (same_key q) s.series.labels ys)) e
          ∙ ap (λ l. groups q.allowance (join_work q many s.series) (pairs (joined_pair q) s.series l))
          (keep_swap _ _ (of_key (same_key q) s.series.labels ys)
          ∙ ap (keep (λ x. has_readings x.series)) (keep_swap _ _ ys))
  emits_same (comparison t) j r c c' xs xs' o s e = ap (produced_by s.place) (one xs ∙ ap rows o ∙ sym (one xs'))
    where
      rows : List Placed → List (Ranked Place Event)
      rows ys = groups q.allowance (join_work q many s.series)
          (pairs (joined_pair q) s.series (of_key (same_key q) s.series.labels ys))

      one : (ys : List Placed) → matched_rule q q.join s (of_key (same_key q) s.series.labels ys)
          ≡ rows (of_side (other many) ys)
      one ys =
          rule_of_many s (of_key (same_key q) s.series.labels ys) e
          ∙ ap (λ l. groups q.allowance (join_work q many s.series) (pairs (joined_pair q) s.series l)) (keep_swap _ _ ys)
  emits_same (set_rule k) j r c c' xs xs' o s e = absurd (false≢true (sym j))
  emits_same (fallback k) j r c c' xs xs' o s e = absurd (false≢true (sym j))
  emits_same not_carried j r c c' xs xs' o s e = absurd (false≢true r)

-- every match is served

ranked_at : (p x y : Place) (b : Series) (l : List (Ranked Rank Series)) → x ≡ y
    → In (record { rank = record { producer = p; earliest = x }; what = b }) l → In (record { rank = record { producer = p; earliest = y }; what = b }) l
ranked_at p x y b l e h = rw e at h

work_labels : (q : Query) (many : Side) (b c : Series) → (join_work q many b c).labels ≡ c.labels
unfolding join_work
work_labels q many b c = refl

record Given (work : Series → Series) (b : Series) (r : Rank) (l : List (Ranked Rank Series)) : Type 0 where
  series : Series
  labels : series.labels ≡ b.labels
  answers : In (record { rank = r; what = work series }) l

-- an event of a call that answers is an answer series
answer_given : (work : Series → Series) (b : Series) (r : Rank) (w : Event) (es : List (Ranked Rank Event)) (l : List (Ranked Rank Series))
    → EventOf work b w → In (record { rank = r; what = w }) es → settle es ≡ answer l → Given work b r l
answer_given work b r w es l (served c h) i e = record { series = c; labels = h; answers = rw (answered es l e).is (in_goods r (work c) es i) }
answer_given work b r w es l (failed d) i e = absurd (all_in (λ x. IsGood x.what) (record { rank = r; what = bad d }) es (answered es l e).sound i)

module _ (q : Query) (many : Side) (j : IsJoin q many) (ls rs : List Series) (l : List (Ranked Rank Series)) (e : verdict q ls rs ≡ answer l)
    (s : Placed) (m : ManySide q many ls rs s) where
  abbrev k : Kind
  k = kind_of q.operator

  abbrev rule : Rule
  rule = rule_of q k (look k ls rs)

  abbrev xs : List Placed
  xs = placed ls rs

  abbrev ms : List Placed
  ms = matches_of q many s (joined_series q ls rs)

  emission_is : Emits q many k (look k ls rs) xs s
  emission_is = emits q many j.grouped k j.scalar j.carried (look k ls rs) xs s m.side m.stands

  in_events : (x : Ranked Place Event) → In x (groups q.allowance (join_work q many s.series) (pairs (joined_pair q) s.series ms))
      → In (record { rank = record { producer = s.place; earliest = x.rank }; what = x.what })
      (events (same_key q) rule xs)
  in_events x h =
      in_gather (emission (same_key q) rule xs) xs emission_is.member
      (rw emission_is.is (in_map (λ (y : Ranked Place Event). record { rank = record { producer = s.place; earliest = y.rank }; what = y.what }) h))

  settled_events : settle (events (same_key q) rule xs) ≡ answer l
  unfolding verdict
  settled_events = e

  served_by : (o : Placed) → In o ms → Served q many (joined_series q ls rs) s o l
  served_by o h =
      let pair : Placed → Placed = λ x. record { place = x.place; series = joined_pair q s.series x.series } in
      let g = group_event q.allowance (join_work q many s.series) (pairs (joined_pair q) s.series ms) (pair o) (in_map pair h) in
      let f = from_map pair g.earliest ms g.member in
      let v = answer_given (join_work q many s.series) g.earliest.series (record { producer = s.place; earliest = g.earliest.place })
      g.event (events (same_key q) rule xs) l g.sort
      (in_events (record { rank = g.earliest.place; what = g.event }) g.emitted) settled_events in
      record {
        earliest = f.source;
        given = join_work q many s.series v.series;
        match = f.member;
        answers = ranked_at s.place g.earliest.place f.source.place _ l (ap (λ (x : Placed). x.place) f.is) v.answers;
        labels = work_labels q many s.series v.series ∙ v.labels ∙ ap (λ (x : Placed). x.series.labels) f.is;
        tags = ap (λ b. b.tags) (work_labels q many s.series v.series ∙ v.labels) ∙ g.tags;
      }

pub every_match_served : EveryMatchServed
every_match_served q many j ls rs l e s m o h = served_by q many j ls rs l e s m o h

-- a single match

zip_at : (op : ℕ → ℕ → ℕ) (x y : List ℕ) (i : ℕ) → i < length x → i < length y
    → get_or (zip_with op x y) i no_reading ≡ op (get_or x i no_reading) (get_or y i no_reading)
unfolding zip_with
zip_at op [] y i h g = absurd (omega (arith, h))
zip_at op (a ∷ x) [] i h g = absurd (omega (arith, g))
zip_at op (a ∷ x) (b ∷ y) zero h g = refl
zip_at op (a ∷ x) (b ∷ y) (suc i) h g = zip_at op x y i (omega (arith, h)) (omega (arith, g))

rows_at : (many : Side) (op : ℕ → ℕ → ℕ) (m o : List ℕ) (i : ℕ) → i < length m → i < length o
    → get_or (join_rows many op m o) i no_reading ≡ on_point many op (get_or m i no_reading) (get_or o i no_reading)
rows_at left op m o i h g = zip_at op m o i h g
rows_at right op m o i h g = zip_at op o m i g h

alone_readings : (q : Query) (many : Side) (b c : Series) (i : ℕ) → i < length b.row → i < length c.row
    → reading_at i (join_work q many b (joined_pair q b c)) ≡ on_point many (scalar_op q.operator q.bool) (reading_at i b) (reading_at i c)
unfolding join_work
alone_readings q many b c i h g = rows_at many (scalar_op q.operator q.bool) b.row c.row i h g

pub single_match_served : SingleMatchServed
single_match_served q many j ls rs l e s m o h =
    let c : Placed = record { place = o.place; series = joined_pair q s.series o.series } in
    let i = in_events q many j ls rs l e s m (record { rank = o.place; what = good (join_work q many s.series c.series) })
    (rw (ap (λ (ms : List Placed). groups q.allowance (join_work q many s.series) (pairs (joined_pair q) s.series ms)) h
    ∙ grouped_one q.allowance (join_work q many s.series) c) (Memᴰ.head refl)) in
    let es = events (same_key q) (rule q many j ls rs l e s m) (placed ls rs) in
    let a = answered es l (settled_events q many j ls rs l e s m) in
    record {
      given = join_work q many s.series c.series;
      answers = rw a.is (in_goods (record { producer = s.place; earliest = o.place }) (join_work q many s.series c.series) es i);
      labels = work_labels q many s.series (joined_pair q s.series o.series);
      readings = alone_readings q many s.series o.series;
    }

pub many_side_apart : ManySideApart
unfolding verdict
many_side_apart q many j ls rs ls' rs' o l l' e e' s side h h' =
    given_is (same_key q) (rule_of q (kind_of q.operator) (look (kind_of q.operator) ls rs)) ls rs l e s h
    ∙ ap goods (emits_same q many j.grouped (kind_of q.operator) j.scalar j.carried _ _ (placed ls rs) (placed ls' rs') o s side)
    ∙ sym (given_is (same_key q) (rule_of q (kind_of q.operator)
    (look (kind_of q.operator) ls' rs')) ls' rs' l' e' s h')

-- calls and verdicts

module _ (a b : ℕ) (q : Query) (ls rs : List Series) (shape : Shape) where
  fitted : (l : List (Ranked Rank Series)) → verdict q ls rs ≡ answer l → Way a b shape (series_in l) (fit a b shape (series_in l))
      → is_refused (fit a b shape (series_in l)) ≡ false → Answers q ls rs shape (fit a b shape (series_in l))
  fitted l v (fine h) e = record { l = l; verdict_is = v; is = fits_fit a b shape (series_in l) h }
  fitted l v (too_big w) e = never_so (rw w at e)
  fitted l v (no_room w) e = never_so (rw w at e)

  concluded_answers : (v : Verdict) → verdict q ls rs ≡ v → is_refused (concluded a b shape v) ≡ false → Answers q ls rs shape (concluded a b shape v)
  concluded_answers (answer l) h e = fitted l h (fit_way a b shape (series_in l)) e
  concluded_answers (duplicate x) h e = never_so e

pub answers_verdict : AnswersVerdict
answers_verdict s ll lr rl rr q shape ls rs t a b e =
    let c = taken_call s ll lr rl rr q shape ls rs t a b in
    rw c (concluded_answers a b q ls rs shape (verdict q ls rs) refl (rw c at e))
