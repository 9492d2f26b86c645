-- A digit by its number, and digits written from the last to the first. Assumes nothing.
use Prim.Native.Nat.{ℕ, zero, suc, ◌≤◌, ◌<◌, ◌+◌, ◌-◌, ◌/◌, ◌%◌, ◌^◌}
use mathlib.Core.Path.{◌≡◌, refl, sym, ap, ◌∙◌}
use mathlib.Core.List.{List, [], ◌∷◌, ◌++◌}
use native.Mathlib.Omega.{arith}
use native.Mathlib.Numerals.{add-one}
use mir.Syntax.{w64}
use mir.Val.{Fits}
use lib.ListN.{length, take, drop, set, length-append, length-set}
use lib.Seq.{drop-cons, drop-set-lt, take-set-le, get_or-set_same, append_snoc, lt-length-set}
use Rattle.model.specs.Numerals.{digit, digits}
use Rattle.writing.specs.Written.{written, Put}
use Rattle.writing.proofs.Written.{written_none}

pub digits_length : (base k n : ℕ) → length (digits base k n) ≡ k
unfolding digits
digits_length base zero n = refl
digits_length base (suc k) n =
    rw (length-append (digits base k (n / base)) (digit (n % base) ∷ []), digits_length base k (n / base)) (add-one k)

-- bytes and one more behind them: the last may be stored first
written_last : (d : List ℕ) (at : ℕ) (w : List ℕ) (x o : ℕ) → o ≡ at + length w → o < length d
    → written d at (w ++ (x ∷ [])) ≡ written (set d o x) at w
unfolding written
written_last d at w x o ho h =
    let t : take at (set d o x) ≡ take at d = take-set-le at d o x (omega arith) in
    let b : drop (suc o) (set d o x) ≡ drop (suc o) d = drop-set-lt (suc o) d o x (omega arith) in
    let u : drop o (set d o x) ≡ x ∷ drop (suc o) d =
    drop-cons (set d o x) o 0 (lt-length-set d o x h) ∙ rw (get_or-set_same d o x 0 h, b) in
    let n : at + length (w ++ (x ∷ [])) ≡ suc o = omega (arith, length-append w (x ∷ [])) in
    rw (n, append_snoc w x (drop (suc o) d), ← ho, t, u)

-- the loop of `put_digits`: what is left are the first i digits, those of the rest
pub record DigitsLeft (base k n : ℕ) (d₀ : List ℕ) (at : ℕ) (d : List ℕ) (i rest : ℕ) : Type 0 where
  pub some : i ≤ k
  pub size : length d ≡ length d₀
  pub same : written d₀ at (digits base k n) ≡ written d at (digits base i rest)

module _ (base k n : ℕ) (d₀ : List ℕ) (at : ℕ) (d : List ℕ) (i rest : ℕ) (inv : DigitsLeft base k n d₀ at d i rest)
    (room : at + length (digits base k n) ≤ length d₀) where
  fits : at + k ≤ length d₀
  fits = omega (arith, digits_length base k n)

  pub digits_turn : 0 < i → (b : ℕ) → b ≡ digit (rest % base)
      → DigitsLeft base k n d₀ at (set d (at + (i - 1)) b) (i - 1) (rest / base)
  digits_turn h b hb =
      let j : ℕ = i - 1 in
      let e : i ≡ suc j = omega arith in
      let one : written d at (digits base i rest) ≡ written d at (digits base (suc j) rest) =
      ap (λ (m : ℕ). written d at (digits base m rest)) e in
      record {
        some = omega (arith, inv.some);
        size = length-set d (at + j) b ∙ inv.size;
        same = inv.same ∙ one ∙ step j (omega (arith, inv.some, inv.size, fits));
      }
    where
      step : (j : ℕ) → at + j < length d
          → written d at (digits base (suc j) rest) ≡ written (set d (at + j) b) at (digits base j (rest / base))
      step j g = unfold digits in
          let w : List ℕ = digits base j (rest / base) in
          rw hb (written_last d at w (digit (rest % base)) (at + j) (rw (digits_length base j (rest / base))) g)

  pub digits_place : 0 < i → at + (i - 1) < length d
  digits_place h = omega (arith, inv.some, inv.size, fits)

  pub digits_end : length d₀ < 2 ^ 64 → Fits w64 (at + k)
  digits_end h = omega (arith, fits, h)

  pub digits_at : length d₀ < 2 ^ 64 → 0 < i → Fits w64 (at + (i - 1))
  digits_at h g = omega (arith, fits, h, inv.some)

  pub digits_done : i ≤ 0 → Put d₀ at (digits base k n) d (at + k)
  unfolding digits
  digits_done h =
      let e : i ≡ 0 = omega arith in
      record {
        out = sym (inv.same ∙ rw e (written_none d at (omega (arith, inv.size, fits))));
        next = rw (digits_length base k n);
      }
