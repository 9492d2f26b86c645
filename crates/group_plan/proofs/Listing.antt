-- The codes of groups listed: where the listing stands, a turn, and its end. Assumes nothing.
use Prim.Native.Nat.{ℕ, ◌+◌, ◌≤◌, ◌<◌}
use mathlib.Core.Path.{◌≡◌, sym, ◌∙◌}
use mathlib.Core.Bool.{cond}
use mathlib.Core.List.{List, ◌∷◌, map}
use native.Mathlib.Numerals.{add-one}
use native.Mathlib.Omega.{arith}
use lib.Dec.{eqb}
use lib.ListN.{length, get_or, drop, drop_of_length-le}
use lib.Seq.{drop-cons}
use Rattle.model.specs.Limits.{max_series}
use Rattle.model.specs.Lists.{cases}
use Rattle.plan.specs.Keys.{first_of}
use Rattle.plan.specs.Aggregates.{firsts_from}
use Rattle.end_codes.specs.Codes.{side_first}
use Rattle.key_ends.specs.Ends.{SideEnds, side_first_lem, ends_at}
use Rattle.index_lists.specs.Places.{NotedIf, NotedAll}
use Rattle.index_lists.proofs.Noting.{noted_most, Noting, noting_turn, noting_ends}
use Rattle.group_plan.specs.Codes.{group_code, group_codes}

module _ (keys before : List ℕ) where
  -- the codes of the groups that begin from the place i on
  abbrev codes_left : ℕ → List ℕ
  codes_left i = map (group_code keys) (firsts_from keys i (drop i keys))

  pub record Listing (n i : ℕ) (list : List ℕ) : Type 0 where
    pub reached : i ≤ length keys
    pub few : n ≤ i
    pub noting : Noting (group_codes keys) 0 before (codes_left i) n list

  module _ (n i : ℕ) (list : List ℕ) (inv : Listing n i list) where
    pub listing_ends : length keys ≤ i → NotedAll (group_codes keys) 0 before list n
    unfolding firsts_from
    listing_ends h =
        noting_ends (group_codes keys) 0 before n list (rw (drop_of_length-le keys h) at inv.noting)

    module _ (h : i < length keys) (few : length keys ≤ max_series) (ends : List ℕ) (known : SideEnds keys keys ends)
        (f : ℕ) (told : f ≡ side_first (get_or ends i 0)) where
      abbrev key : ℕ
      key = get_or keys i 0

      first_here : first_of keys key ≡ f
      first_here = sym (told ∙ side_first_lem keys key (get_or ends i 0) (ends_at keys keys ends few known i h))

      next : codes_left i ≡ cond (eqb f i) (get_or ends i 0 ∷ codes_left (i + 1)) (codes_left (i + 1))
      unfolding firsts_from
      next =
          cases (eqb f i)
          (λ t. rw (drop-cons keys i 0 h, first_here, t, known.each i h, add-one))
          (λ t. rw (drop-cons keys i 0 h, first_here, t, add-one))

      pub listing_turn : (later : List ℕ) (r : ℕ) → NotedIf (eqb f i) (get_or ends i 0) n list later r
          → Listing r (i + 1) later
      listing_turn later r q = record {
        reached = omega arith;
        few = noted_most (eqb f i) (get_or ends i 0) n i list later r inv.few q;
        noting =
            noting_turn (group_codes keys) 0 before (eqb f i) (get_or ends i 0) n list later (codes_left (i + 1)) r
            (rw next at inv.noting) q;
      }
