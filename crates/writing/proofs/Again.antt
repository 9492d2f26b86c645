-- What stands before a place where bytes are written, and what is written once more. Assumes nothing.
use Prim.Native.Nat.{ℕ, ◌≤◌, ◌<◌, ◌+◌}
use mathlib.Core.Path.{◌≡◌, sym, ap, ◌∙◌}
use mathlib.Core.List.{List, ◌++◌}
use native.Mathlib.Omega.{arith}
use Rattle.std.proofs.lemmas.List.{drop-take}
use lib.ListN.{length, get_or, take, drop, set, length-drop}
use lib.Seq.{length-take-le, take_at, drop_at, take-append_seam, take-take, get_or-take, get_or-drop}
use Rattle.writing.specs.Written.{written, Put}
use Rattle.writing.proofs.Written.{put_turn}

-- n bytes from a place on, all before `at`
module _ (from n at : ℕ) (h : from + n ≤ at) where
  part : (d : List ℕ) → take n (drop from d) ≡ drop from (take (from + n) (take at d))
  part d = rw (take-take, drop-take)

  pub written_before : (d w : List ℕ) → at ≤ length d → take n (drop from (written d at w)) ≡ take n (drop from d)
  unfolding written
  written_before d w g =
      let behind : List ℕ = w ++ drop (at + length w) d in
      let long : length (take at d) ≡ at = length-take-le at d g in
      part (take at d ++ behind)
      ∙ ap (λ (l : List ℕ). drop from (take (from + n) l)) (take_at (take at d) behind at long)
      ∙ sym (part d)

  pub put_before : (d w d' : List ℕ) (r : ℕ) → at ≤ length d → Put d at w d' r
      → take n (drop from d') ≡ take n (drop from d)
  put_before d w d' r g p = rw p.out (written_before d w g)

  -- the loop of `put_again`
  pub again_turn : (d d' : List ℕ) (i : ℕ) → at + n ≤ length d → i < n → Put d at (take i (drop from d)) d' (at + i)
      → Put d at (take (i + 1) (drop from d)) (set d' (at + i) (get_or d' (from + i) 0)) (at + (i + 1))
  again_turn d d' i room k p =
      let kept : take n (drop from d') ≡ take n (drop from d) = put_before d (take i (drop from d)) d' (at + i) (omega arith) p in
      let byte : get_or d' (from + i) 0 ≡ get_or (drop from d) i 0 =
      sym (get_or-drop from d' i 0) ∙ sym (get_or-take n (drop from d') i 0 k) ∙ ap (λ (l : List ℕ). get_or l i 0) kept
      ∙ get_or-take n (drop from d) i 0 k in
      rw byte (put_turn d at (drop from d) d' i p n k room (omega (arith, length-drop from d)))

-- what is written stands there
pub put_stands : (d : List ℕ) (at : ℕ) (w d' : List ℕ) (r : ℕ) → at + length w ≤ length d → Put d at w d' r
    → take (length w) (drop at d') ≡ w
unfolding written
put_stands d at w d' r h p =
    let behind : List ℕ = drop (at + length w) d in
    rw (p.out, drop_at (take at d) (w ++ behind) at (length-take-le at d (omega arith))) (take-append_seam w behind)
