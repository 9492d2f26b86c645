-- The codes of the answer's rows, noted one behind another. Assumes nothing.
use Prim.Native.Nat.{ℕ, suc, ◌+◌, ◌≤◌, ◌<◌}
use mathlib.Core.Path.{◌≡◌, refl}
use mathlib.Core.Bool.{Bool, true, false, cond}
use mathlib.Core.List.{List, [], ◌∷◌}
use native.Mathlib.Numerals.{add-one}
use native.Mathlib.Omega.{arith}
use lib.ListN.{length, get_or, drop, drop_of_length-le}
use lib.Seq.{drop-cons}
use Rattle.model.specs.Lists.{cases}
use Rattle.index_lists.specs.Places.{NotedIf, NotedAll}
use Rattle.index_lists.proofs.Noting.{Noting, noting_turn, noting_ends}
use Rattle.key_ends.specs.Ends.{PairEnds}
use Rattle.plan.specs.Pairs.{is_pair}
use Rattle.pair_plan.specs.pairs.Pairing.{codes_from}

module _ (ks ms : List ℕ) where
  codes_few : (i : ℕ) (rest : List ℕ) → length (codes_from ks ms i rest) ≤ length rest
  unfolding codes_from
  codes_few i [] = omega arith
  codes_few i (k ∷ rest) =
      cases (is_pair ks ms k i)
      (λ e. rw e (omega (arith, codes_few (suc i) rest)))
      (λ e. rw e (omega (arith, codes_few (suc i) rest)))

  -- an answer has no more rows than the left side has series
  pub codes_at_most : length (codes_from ks ms 0 ks) ≤ length ks
  codes_at_most = codes_few 0 ks

-- the loop of `list_codes`: those of the places before i are noted

pub record Listing (ks ms before : List ℕ) (i : ℕ) (list : List ℕ) (n : ℕ) : Type 0 where
  pub few : n ≤ i
  pub noting : Noting (codes_from ks ms 0 ks) 0 before (codes_from ks ms i (drop i ks)) n list

module _ (ks ms before : List ℕ) where
  module _ (i : ℕ) (list : List ℕ) (n : ℕ) (inv : Listing ks ms before i list n) where
    module _ (ends : List ℕ) (he : PairEnds ks ms ends) (h : i < length ks) where
      abbrev behind : List ℕ
      behind = codes_from ks ms (i + 1) (drop (i + 1) ks)

      next : codes_from ks ms i (drop i ks) ≡ cond (is_pair ks ms (get_or ks i 0) i) (get_or ends i 0 ∷ behind) behind
      unfolding codes_from
      next = rw (drop-cons ks i 0 h, add-one, he.each i h)

      few_more : (b : Bool) (x : ℕ) (later : List ℕ) (r : ℕ) → NotedIf b x n list later r → r ≤ i + 1
      few_more true x later r p = omega (arith, inv.few, p.count)
      few_more false x later r p = omega (arith, inv.few, p.count)

      pub list_turn : (b : Bool) → b ≡ is_pair ks ms (get_or ks i 0) i → (later : List ℕ) (r : ℕ)
          → NotedIf b (get_or ends i 0) n list later r → Listing ks ms before (i + 1) later r
      list_turn b hb later r p = record {
        few = few_more b (get_or ends i 0) later r p;
        noting = noting_turn (codes_from ks ms 0 ks) 0 before b (get_or ends i 0) n list later behind r
            (rw (next, ← hb) at inv.noting) p;
      }

    pub list_ends : length ks ≤ i → NotedAll (codes_from ks ms 0 ks) 0 before list n
    list_ends h =
        noting_ends (codes_from ks ms 0 ks) 0 before n list (rw (drop_of_length-le ks h, none) at inv.noting)
      where
        none : codes_from ks ms i [] ≡ []
        none = unfold codes_from in refl
