-- `number_noted` and `number_left`: the keys numbered so far are those of the whole. Assumes nothing.
use Prim.Native.Nat.{ℕ, suc, ◌+◌, ◌≤◌, ◌<◌}
use mathlib.Core.Path.{◌≡◌, sym, ap, ◌∙◌}
use mathlib.Core.Bool.{Bool}
use mathlib.Core.List.{List, [], ◌∷◌, ◌++◌, append_assoc}
use native.Mathlib.Numerals.{add-one}
use native.Mathlib.Omega.{arith}
use lib.ListN.{length, get_or, take, set, length-set, length-append}
use lib.Seq.{take-suc, take-suc-set, take_all, length-take-le}
use Rattle.model.specs.Labels.{Labels}
use Rattle.model.specs.Edits.{Names}
use Rattle.model.specs.Query.{Matching}
use Rattle.model.proofs.Laws.Lists.{map_append}
use Rattle.labels.specs.Names.{names_of}
use Rattle.record_tags.specs.Lenient.{labels_of}
use Rattle.side_parts.specs.Sides.{record_at, labels_in, Positions}
use Rattle.side_parts.specs.SideLaws.{labels_at, labels_count, labels_first, positions_first}
use Rattle.key_numbers.specs.key_lookup.Keys.{first_place, numbers, key_hash, key_hashes, Hashed, Numbered}
use Rattle.key_numbers.specs.key_lookup.KeyLaws.{place_so_far}
use Rattle.key_numbers.specs.key_lookup.Buckets.{noted, Noted}
use Rattle.key_numbers.proofs.key_lookup.Noting.{noting}

-- i keys are numbered
pub record Numbering (named : Bool) (m : Matching) (list : List ℕ) (lefts : List Labels) (left_hashes array at : List ℕ)
    (keys₀ hashes keys table : List ℕ) (i : ℕ) : Type 0 where
  pub positions : Positions array at
  pub count : length at ≡ length keys + 1
  pub long : length hashes ≡ length keys
  pub within : i ≤ length keys
  pub same_keys_lem : length keys ≡ length keys₀
  pub alike : take i hashes ≡ key_hashes named m (names_of list) (take i (labels_in array at))
  pub numbered : take i keys ≡ numbers named m (names_of list) (lefts ++ labels_in array at) (take i (labels_in array at))
  pub noted : Noted table (left_hashes ++ take i hashes)

module _ (named : Bool) (m : Matching) (list : List ℕ) (lefts : List Labels)
    (left_hashes array at keys₀ : List ℕ) where
  module _ (hashes keys table : List ℕ) (i : ℕ)
      (n : Numbering named m list lefts left_hashes array at keys₀ hashes keys table i) where
    labels_long : length (labels_in array at) ≡ length keys
    labels_long = labels_count array at ∙ (omega (arith, n.count))

    module _ (below : i < length keys₀) where
      h : i < length keys
      h = omega (arith, n.same_keys_lem)

      number_inside : i + 1 < length at
      number_inside = omega (arith, n.count)

      number_cut : i + 1 ≡ length (take (i + 1) at)
      number_cut = sym (length-take-le (i + 1) at (omega (arith, n.count)))

      number_hashes : i ≡ length (take i hashes)
      number_hashes = sym (length-take-le i hashes (omega (arith, n.long)))

      -- the records so far, with their hashes
      pub number_so_far : Hashed named m (names_of list) array (take (i + 1) at) (take i hashes)
      number_so_far =
          record {
            positions = positions_first array at (i + 1) n.positions;
            count = omega (arith, number_cut, number_hashes);
            alike = n.alike ∙ ap (key_hashes named m (names_of list)) (sym (labels_first array at i));
          }

      pub number_turn : (rec : List ℕ) → rec ≡ record_at array at i
          → (x : ℕ) → x ≡ key_hash named m (names_of list) (labels_of rec)
          → (k : ℕ) → k ≡ first_place named m (names_of list) (lefts ++ labels_in array (take (i + 1) at)) (labels_of rec)
          → (table' : List ℕ) → table' ≡ noted table x (length left_hashes + i)
          → Numbering named m list lefts left_hashes array at keys₀ (set hashes i x) (set keys i k) table' (i + 1)
      number_turn rec hr x hx k hk table' ht =
          let ls = labels_in array at in
          let d = labels_of [] in
          let l = get_or ls i d in
          let within : i < length ls = omega (arith, labels_long) in
          let here : labels_of rec ≡ l = ap labels_of hr ∙ sym (labels_at array at i d number_inside) in
          let more : take (suc i) ls ≡ take i ls ++ (l ∷ []) = take-suc ls i d within in
          let hash : x ≡ key_hash named m (names_of list) l = hx ∙ ap (key_hash named m (names_of list)) here in
          let number : k ≡ first_place named m (names_of list) (lefts ++ ls) l =
          hk
          ∙ ap (λ (y : List Labels). first_place named m (names_of list) (lefts ++ y) (labels_of rec))
          (labels_first array at i)
          ∙ ap (first_place named m (names_of list) (lefts ++ take i ls)) here
          ∙ place_so_far named m (names_of list) lefts ls i d within in
          let so_far : length (left_hashes ++ take i hashes) ≡ length left_hashes + i =
          length-append left_hashes (take i hashes) ∙ ap (λ (z : ℕ). length left_hashes + z) (sym number_hashes) in
          record {
            positions = n.positions;
            count = simp length-set n.count;
            long = simp length-set n.long;
            within = simp length-set (omega arith);
            same_keys_lem = simp length-set n.same_keys_lem;
            alike = rw (add-one i, take-suc-set hashes i x (omega (arith, n.long)), more, map_append, n.alike, hash);
            numbered = rw (add-one i, take-suc-set keys i k h, more, map_append, n.numbered, number);
            noted =
                rw (ht, add-one i, take-suc-set hashes i x (omega (arith, n.long)), ← append_assoc left_hashes (take i hashes) (x ∷ []))
                (rw so_far at (noting table (left_hashes ++ take i hashes) x n.noted));
          }

    pub number_ends : length keys₀ ≤ i → Numbered named m (names_of list) lefts array at hashes keys
    number_ends above =
        let h : length keys ≤ i = omega (arith, n.same_keys_lem) in
        let all : take i (labels_in array at) ≡ labels_in array at = take_all i (labels_in array at) (omega (arith, labels_long)) in
        record {
          hashed = record {
            positions = n.positions;
            count = omega (arith, n.count, n.long);
            alike = sym (take_all i hashes (omega (arith, n.long))) ∙ n.alike
                ∙ ap (key_hashes named m (names_of list)) all;
          };
          numbered = sym (take_all i keys h) ∙ n.numbered
              ∙ ap (numbers named m (names_of list) (lefts ++ labels_in array at)) all;
        }

-- the left side has nothing before it

pub no_records : (array at : List ℕ) → labels_in array (take 1 at) ≡ []
no_records array at = labels_first array at 0

module _ (array at keys : List ℕ) (h : Positions array at) (k : length at ≡ length keys + 1) where
  one_position : 1 ≡ length (take 1 at)
  one_position = sym (length-take-le 1 at (omega arith))

  pub none_hashed : (named : Bool) (m : Matching) (ns : Names) → Hashed named m ns array (take 1 at) []
  none_hashed named m ns = record {
    positions = positions_first array at 1 h;
    count = sym one_position;
    alike = sym (ap (key_hashes named m ns) (no_records array at));
  }

pub none_before : (named : Bool) (m : Matching) (ns : Names) (array at hashes keys : List ℕ)
    → Numbered named m ns (labels_in array (take 1 at)) array at hashes keys
    → Numbered named m ns [] array at hashes keys
none_before named m ns array at hashes keys n =
    record { hashed = n.hashed; numbered = n.numbered ∙ rw (no_records array at) }
