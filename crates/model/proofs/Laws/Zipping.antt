-- A loop that writes one row from two: where it stands, how it begins, a turn and the end, for any function of two readings. Assumes nothing.
use Rattle.std.specs.Prelude.{◌≡◌, refl, List, [], ◌∷◌, ◌++◌, ℕ, ◌+◌, ◌≤◌, ◌<◌, length, get_or, drop, take, set}
use Rattle.std.proofs.Common.{sym, ◌∙◌, append-nil, arith, length-set, take_all}
use Rattle.std.proofs.Math.Numerals.{add-one}
use Rattle.std.proofs.Math.ListN.{drop_of_length-le}
use Rattle.std.proofs.Math.Seq.{drop-cons, take-suc-set, append_snoc}
use Rattle.model.specs.Row.{zip_with}

-- i points are written: what is written, then what is left to write, is the whole row
pub record Written (f : ℕ → ℕ → ℕ) (left right before row : List ℕ) (i : ℕ) : Type 0 where
  pub long : length row ≡ length before
  pub within : i ≤ length row
  pub rest : take i row ++ zip_with f (drop i left) (drop i right) ≡ zip_with f left right

module _ (f : ℕ → ℕ → ℕ) (left right before : List ℕ) where
  pub starts : Written f left right before before 0
  starts = record { long = refl; within = omega arith; rest = refl }

  module _ (row : List ℕ) (i : ℕ) (w : Written f left right before row i) where
    step : (v : ℕ) → v ≡ f (get_or left i 0) (get_or right i 0) → i < length left → i < length right → i < length row
        → take (i + 1) (set row i v) ++ zip_with f (drop (i + 1) left) (drop (i + 1) right)
        ≡ take i row ++ zip_with f (drop i left) (drop i right)
    unfolding zip_with
    step v e hl hr ho = rw (e, add-one, take-suc-set, append_snoc, drop-cons left i 0, drop-cons right i 0)

    pub turn : (v : ℕ) → v ≡ f (get_or left i 0) (get_or right i 0) → length left ≡ length before
        → length right ≡ length before → i < length row → Written f left right before (set row i v) (i + 1)
    turn v e hl hr h = record {
      long = simp length-set w.long;
      within = simp length-set (omega arith);
      rest = step v e (omega arith) (omega arith) h ∙ w.rest;
    }

    over : length left ≤ i → length row ≤ i → take i row ++ zip_with f (drop i left) (drop i right) ≡ row
    unfolding zip_with
    over hl ho = rw (take_all, drop_of_length-le left, append-nil)

    pub ends : length left ≡ length before → length row ≤ i → row ≡ zip_with f left right
    ends hl h = sym (over (omega arith) h) ∙ w.rest

-- functions that give the same give the same row
pub same_zip : (f g : ℕ → ℕ → ℕ) → ((a b : ℕ) → f a b ≡ g a b) → (left right : List ℕ) → zip_with f left right ≡ zip_with g left right
unfolding zip_with
same_zip f g h [] right = refl
same_zip f g h (x ∷ xs) [] = refl
same_zip f g h (x ∷ xs) (y ∷ ys) = rw (h x y, same_zip f g h xs ys)
