-- The bytes behind a part's length, and as many of them as it says. Assumes nothing.
use Rattle.std.proofs.Common.{◌≡◌, ℕ, ◌+◌, ◌-◌, ◌≤◌, ◌<◌, ◌⊎◌, List, Option, None, Some, Bor}
use Rattle.std.proofs.Common.{length, take, drop, sym, ◌∙◌, ap, arith}
use Rattle.std.proofs.lemmas.List.{take_all, length-drop, length-take, drop-drop}
use Rattle.std.specs.Option.{MatchOption, unwrap_or}
use Rattle.std.specs.List.{slice_range}
use Rattle.case_parts.specs.Parts.{NumberAt, PartAt}

-- the first n of x, or all where there are fewer
pub first_of : (o : Option (Bor (List ℕ))) (x : Bor (List ℕ)) (n : ℕ)
    → MatchOption o ((n < 0) ⊎ (length x.now < n))
    (λ y. (0 ≤ n) × (n ≤ length x.now) × (y.now ≡ slice_range x.now 0 n) × (length y.now + 0 ≡ n))
    → (unwrap_or o x).now ≡ take n x.now
first_of None x n h = sym (take_all n x.now (omega (arith, h)))
first_of (Some y) x n h = let e : n - 0 ≡ n = omega arith in rw e at h.2

module _ (s : List ℕ) (at : ℕ) (t : List ℕ) (ht : t ≡ slice_range s at (length s)) where
  rest_is : take (length t - 2) (drop 2 t) ≡ drop (at + 2) s
  rest_is =
      let all : t ≡ drop at s = ht ∙ take_all (length s - at) (drop at s) (omega (arith, length-drop at s)) in
      take_all (length t - 2) (drop 2 t) (omega (arith, length-drop 2 t))
      ∙ ap (drop 2) all ∙ drop-drop 2 at s

  pub part_read : (n : ℕ) → NumberAt s at n → (r : List ℕ) → r ≡ take n (take (length t - 2) (drop 2 t)) → PartAt s at r
  part_read n hn r h =
      record {
        bytes = h ∙ rw (rest_is, hn.value);
        small = omega (arith, ap length h, length-take {A = ℕ}, hn.small);
      }
