-- The remainder, the product and the pattern of floats, by the fractions that they equal. Assumes nothing.
use mathlib.Core.Path.{◌≡◌, refl, sym, ap, ◌∙◌, subst}
use mathlib.Core.Bool.{Bool, true, false, cond}
use Prim.Native.Nat.{ℕ, zero, suc, ◌+◌, ◌-◌, ◌*◌, ◌/◌, ◌%◌, ◌^◌, ◌<◌}
use native.Mathlib.Nat.{mul_assoc, mul_comm, mul_right_comm, mul-mul-mul_comm, mul-one, zero-mul, mul-pos, lt_irrefl}
use native.Mathlib.Nat.{mod-lt, div-add-mod', mul-lt-mul_of_pos_right, mul-div_cancel}
use native.Mathlib.Omega.{arith}
use lib.Dec.{eqb-suc-zero}
use lib.Ieee.{Float, nan, inf, fin, Format, prec, low, top, hid, up, down, size, round, rem, mul, to_bits, unlike}
use lib.Ieee.Exact.{HasValue}
use lib.Ieee.Fits.{down_pos}
use lib.Ieee.Scale.{round_same}
use lib.Ieee.Positive.{first_pos}
use Rattle.std.proofs.lemmas.Nat.{mod-mul-add}

-- a remainder of multiples

split : (q b r c : ℕ) → (q * b + r) * c ≡ q * (b * c) + r * c
split q b r c = grind arith

pub mod_times : (a b c : ℕ) → 0 < b → 0 < c → a * c % (b * c) ≡ a % b * c
mod_times a b c B C =
    ap (λ (z : ℕ). z % (b * c)) (ap (λ (z : ℕ). z * c) (sym (div-add-mod' a b)) ∙ split (a / b) b (a % b) c)
    ∙ mod-mul-add (a / b) (b * c) (a % b * c) (mul-lt-mul_of_pos_right (mod-lt a B) C)

module _ (m n a b d l : ℕ) (L : 0 < l) (D : 0 < d) (B : 0 < b) (u : m * l ≡ a * d) (v : n * l ≡ b * d) where
  divisor_pos : 0 < n
  divisor_pos = first_pos n l (subst (λ (z : ℕ). 0 < z) (sym v) (mul-pos B D))

  rest_scaled : m % n * l ≡ a % b * d
  rest_scaled =
      sym (mod_times m n l divisor_pos L)
      ∙ ap (λ (z : ℕ). z % (n * l)) u
      ∙ ap (λ (z : ℕ). a * d % z) v
      ∙ mod_times a b d B D

-- the fraction that `rem` hands to `round`, and the one that `mul` does

rem_crossed : (m up-e down-e n up-d down-d a b l : ℕ) → 0 < l → 0 < down-e → 0 < down-d → 0 < b
    → m * up-e * l ≡ a * down-e → n * up-d * l ≡ b * down-d
    → m * up-e * down-d % (n * up-d * down-e) * l ≡ a % b * (down-e * down-d)
rem_crossed m up-e down-e n up-d down-d a b l L E D B u v =
    rest_scaled (m * up-e * down-d) (n * up-d * down-e) a b (down-e * down-d) l L (mul-pos E D) B
    (mul_right_comm (m * up-e) down-d l ∙ ap (λ (z : ℕ). z * down-d) u ∙ mul_assoc a down-e down-d)
    (mul_right_comm (n * up-d) down-e l
    ∙ ap (λ (z : ℕ). z * down-e) v
    ∙ mul_assoc b down-d down-e
    ∙ ap (λ (z : ℕ). b * z) (mul_comm down-d down-e))

mul_crossed : (m up-e down-e n up-d down-d q u l : ℕ)
    → m * up-e * 1 ≡ q * down-e → n * up-d * l ≡ u * down-d
    → m * up-e * (n * up-d) * l ≡ q * u * (down-e * down-d)
mul_crossed m up-e down-e n up-d down-d q u l h k =
    mul_assoc (m * up-e) (n * up-d) l
    ∙ ap (λ (z : ℕ). z * (n * up-d * l)) (sym (mul-one (m * up-e)) ∙ h)
    ∙ ap (λ (z : ℕ). q * down-e * z) k
    ∙ mul-mul-mul_comm q down-e u down-d

-- a float's n is not 0 where its value is not
no_zero : (u l b d : ℕ) → 0 < b → 0 < d → 0 * u * l ≡ b * d → ⊥
no_zero u l b d B D h =
    let e : b * d ≡ 0 = sym h ∙ ap (λ (z : ℕ). z * l) (zero-mul u) ∙ zero-mul l in
    lt_irrefl 0 (subst (λ (z : ℕ). 0 < z) e (mul-pos B D))

-- the remainder of ±a / l and ±b / l is ±(a % b) / l
pub rem_values : (f : Format) (x y : Float) (s t : Bool) (a b l : ℕ)
    → 0 < l → 0 < b → HasValue x s a l → HasValue y t b l
    → rem f x y ≡ round f s (a % b) l
unfolding rem
rem_values f nan y s t a b l L B h k = elim h [ ]
rem_values f (inf _) y s t a b l L B h k = elim h [ ]
rem_values f (fin s' m e) nan s t a b l L B h k = elim k [ ]
rem_values f (fin s' m e) (inf _) s t a b l L B h k = elim k [ ]
rem_values f (fin s' m e) (fin t' zero d) s t a b l L B h k = absurd (no_zero (up d) l b (down d) B (down_pos d) k.1)
rem_values f (fin s' m e) (fin t' (suc n) d) s t a b l L B h k =
    rw (eqb-suc-zero n, h.0)
    (round_same f s (m * up e * down d % (suc n * up d * down e)) (down e * down d) (a % b) l
    (mul-pos (down_pos e) (down_pos d)) L
    (rem_crossed m (up e) (down e) (suc n) (up d) (down d) a b l L (down_pos e) (down_pos d) B h.1 k.1))

signs : (s : Bool) → unlike false s ≡ s
signs true = refl
signs false = refl

-- the product of q and ±u / l is ±q * u / l
pub mul_values : (f : Format) (x y : Float) (s : Bool) (q u l : ℕ)
    → 0 < l → HasValue x false q 1 → HasValue y s u l
    → mul f x y ≡ round f s (q * u) l
unfolding mul
mul_values f nan y s q u l L h k = elim h [ ]
mul_values f (inf _) y s q u l L h k = elim h [ ]
mul_values f (fin s' m e) nan s q u l L h k = elim k [ ]
mul_values f (fin s' m e) (inf _) s q u l L h k = elim k [ ]
mul_values f (fin s' m e) (fin t n d) s q u l L h k =
    ap (λ (z : Bool). round f (unlike z t) (m * up e * (n * up d)) (down e * down d)) h.0
    ∙ ap (λ (z : Bool). round f z (m * up e * (n * up d)) (down e * down d)) (signs t ∙ k.0)
    ∙ round_same f s (m * up e * (n * up d)) (down e * down d) (q * u) l (mul-pos (down_pos e) (down_pos d)) L
    (mul_crossed m (up e) (down e) n (up d) (down d) q u l h.1 k.1)

-- the pattern of ±a of the format's smallest values, from its sign and its size on
pattern_of : Format → Bool → ℕ → ℕ
pattern_of f s a = cond s (top f) 0 + (size a - prec f) * hid f + a / 2 ^ (size a - prec f)

pattern : (f : Format) (s : Bool) (a : ℕ) (x : Float) → HasValue x s a (2 ^ low f) → to_bits f x ≡ pattern_of f s a
unfolding to_bits pattern_of
pattern f s a nan h = elim h [ ]
pattern f s a (inf _) h = elim h [ ]
pattern f s a (fin t m e) h =
    let n : m * up e * 2 ^ low f / down e ≡ a = ap (λ (z : ℕ). z / down e) h.1 ∙ mul-div_cancel a (down_pos e) in
    ap (λ (z : Bool). pattern_of f z (m * up e * 2 ^ low f / down e)) h.0 ∙ ap (pattern_of f s) n

-- floats of one value have one pattern
pub one_pattern : (f : Format) (s : Bool) (a : ℕ) (x y : Float)
    → HasValue x s a (2 ^ low f) → HasValue y s a (2 ^ low f)
    → to_bits f x ≡ to_bits f y
one_pattern f s a x y h k = pattern f s a x h ∙ sym (pattern f s a y k)
