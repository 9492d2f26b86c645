-- The groups of a many-side series: each pair's group has one event, an answer series or a duplicate, by its earliest pair. Assumes nothing.
use Rattle.std.specs.Prelude.{ℕ, ◌≡◌, refl, true, List, [], ◌∷◌}
use Rattle.std.proofs.Common.{sym, ap, ◌∙◌}
use Rattle.std.proofs.Math.Option.{Option, none, some}
use mathlib.Core.List.Memᴰ
use Rattle.model.specs.Lists.{keep}
use Rattle.model.specs.Row.{merged}
use Rattle.model.specs.Labels.{same_tags}
use Rattle.model.specs.Vector.{Series}
use Rattle.model.proofs.Laws.Tags.{same_tags_is, same_tags_refl}
use Rattle.semantics.specs.Places.{Placed}
use Rattle.semantics.specs.Events.{Duplicate, Event, good, bad, mark}
use Rattle.semantics.specs.Rules.{Merged, nothing, one, clash, on_merged, with_row, merged_into, absorbed, same_edited, alike_to, worked, group_of, groups}
use Rattle.theorems.specs.Claims.Prometheus.{In}
use Rattle.theorems.proofs.Laws.Members.{in_gather, first_kept}
use Rattle.theorems.proofs.Laws.Answered.{same_place_refl}

-- merged series with the labels of b
Labelled : Series → Merged → Type 0
Labelled b nothing = ⊥
Labelled b (one c) = c.labels ≡ b.labels
Labelled b (clash d) = Unit {0}

labelled_as : (b c : Series) (m : Merged) → c.labels ≡ b.labels → Labelled c m → Labelled b m
unfolding Labelled
labelled_as b c nothing e h = h
labelled_as b c (one d) e h = h ∙ e
labelled_as b c (clash d) e h = tt

-- merging keeps the labels of the series merged into
absorbed_labelled : (n : ℕ) (k : Placed) (xs : List Placed) (b : Series) → Labelled b (absorbed n k b xs)
unfolding Labelled merged_into
absorbed_labelled n k [] b = refl
absorbed_labelled n k (x ∷ xs) b = into (absorbed_labelled n k xs) (merged n b.row x.series.row)
  where
    into : ((c : Series) → Labelled c (absorbed n k c xs)) → (o : Option (List ℕ))
        → Labelled b (on_merged (with_row b o) (clash (record { kept = k.place; failed = x.place })) (λ c. absorbed n k c xs))
    into ih none = tt
    into ih (some r) = labelled_as b (record { labels = b.labels; row = r }) (absorbed n k (record { labels = b.labels; row = r }) xs) refl
        (ih (record { labels = b.labels; row = r }))

-- an event of a group: an answer series with these labels, or a duplicate
pub data EventOf (work : Series → Series) (b : Series) : Event → Type 0 where
  served : (c : Series) → c.labels ≡ b.labels → EventOf work b (good (work c))
  failed : (d : Duplicate) → EventOf work b (bad d)

record OneEvent (work : Series → Series) (b : Series) (l : List Event) : Type 0 where
  pub event : Event
  pub is : l ≡ event ∷ []
  pub sort : EventOf work b event

worked_event : (work : Series → Series) (b : Series) (m : Merged) → Labelled b m → OneEvent work b (worked work m)
unfolding Labelled
worked_event work b nothing h = absurd h
worked_event work b (one c) h = record { event = good (work c); is = refl; sort = served c h }
worked_event work b (clash d) h = record { event = bad d; is = refl; sort = failed d }

-- the group that a pair belongs to has an event, by its earliest pair, of equal edited tags
pub record GroupEvent (n : ℕ) (work : Series → Series) (cs : List Placed) (c : Placed) : Type 0 where
  pub earliest : Placed
  pub member : In earliest cs
  pub tags : earliest.series.labels.tags ≡ c.series.labels.tags
  pub event : Event
  pub sort : EventOf work earliest.series event
  pub emitted : In (record { rank = earliest.place; what = event }) (groups n work cs)

pub edited_refl : (b : Series) → same_edited b b ≡ true
unfolding same_edited
edited_refl b = same_tags_refl b.labels.tags

edited_is : (b c : Series) → same_edited b c ≡ true → c.labels.tags ≡ b.labels.tags
unfolding same_edited
edited_is b c e = sym (same_tags_is b.labels.tags c.labels.tags e)

alike_same : (c e : Placed) (cs : List Placed) → e.series.labels.tags ≡ c.series.labels.tags → alike_to e cs ≡ alike_to c cs
unfolding same_edited
alike_same c e cs h = ap (λ ts. keep (λ x. same_tags ts x.series.labels.tags) cs) h

pub group_event : (n : ℕ) (work : Series → Series) (cs : List Placed) (c : Placed) → In c cs → GroupEvent n work cs c
unfolding groups
group_event n work cs c h =
    let f = first_kept (λ x. same_edited c.series x.series) c cs h (edited_refl c.series) in
    let e = f.first in
    let tags = edited_is c.series e.series f.passes in
    let group : alike_to e cs ≡ e ∷ f.rest = alike_same c e cs tags ∙ f.is in
    let w = worked_event work e.series (absorbed n e e.series f.rest) (absorbed_labelled n e f.rest e.series) in
    let o : group_of n work cs e ≡ w.event ∷ [] = rw (group, same_place_refl e.place) w.is in
    record {
      earliest = e;
      member = f.member;
      tags = tags;
      event = w.event;
      sort = w.sort;
      emitted = in_gather (λ x. mark x.place (group_of n work cs x)) cs f.member (rw o (Memᴰ.head refl));
    }

pub grouped_one : (n : ℕ) (work : Series → Series) (c : Placed) → groups n work (c ∷ []) ≡ record { rank = c.place; what = good (work c.series) } ∷ []
unfolding groups
grouped_one n work c = rw (edited_refl c.series, same_place_refl c.place)
