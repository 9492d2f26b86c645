-- Numbers of two, four and eight bytes, read at a place and behind it. Assumes nothing.
use Prim.Native.Nat.{ℕ, suc, ◌+◌, ◌*◌, ◌<◌, ◌≤◌}
use mathlib.Core.Path.{◌≡◌}
use mathlib.Core.List.{List}
use native.Mathlib.Omega.{arith}
use native.Mathlib.Nat.{mul-le-mul}
use lib.ListN.{drop}
use lib.Seq.{get_or-drop}
use Rattle.model.specs.Vector.{two_bytes_at, four_bytes_at, eight_bytes_at}
use Rattle.vecop_run.specs.frame.Sides.{reading_count}
use Rattle.little_endian.specs.Numbers.{Read}

two_behind : (s : List ℕ) (i j : ℕ) → two_bytes_at (drop i s) j ≡ two_bytes_at s (i + j)
two_behind s i j = let e : i + suc j ≡ suc (i + j) = omega arith in
    rw (get_or-drop i s j 0, get_or-drop i s (suc j) 0, e)

four_behind : (s : List ℕ) (i j : ℕ) → four_bytes_at (drop i s) j ≡ four_bytes_at s (i + j)
four_behind s i j = let e : i + suc (suc j) ≡ suc (suc (i + j)) = omega arith in
    rw (two_behind s i j, two_behind s i (suc (suc j)), e)

pub four_here : (s : List ℕ) (i : ℕ) → four_bytes_at (drop i s) 0 ≡ four_bytes_at s i
four_here s i = let e : i + 0 ≡ i = omega arith in
    rw (four_behind s i 0, e)

pub eight_here : (s : List ℕ) (i : ℕ) → eight_bytes_at (drop i s) 0 ≡ eight_bytes_at s i
eight_here s i = let e : i + 4 ≡ suc (suc (suc (suc i))) = omega arith in
    rw (four_here s i, four_behind s i 4, e)

module _ (v : List ℕ) (n p : ℕ) (hn : Read (two_bytes_at v 0) 65536 n) (hp : Read (two_bytes_at v 2) 65536 p) where
  pub product_small : n * p < 4294967296
  product_small = let m : n * p ≤ 65535 * 65535 = mul-le-mul {n₂ = 65535} {m₂ = 65535} (omega arith) (omega arith) in
      omega arith

  pub product_read : Read (reading_count v) 4294967296 (n * p)
  product_read = record { value = rw (hn.value, hp.value); small = product_small }

  pub product_fits : n * p < 18446744073709551616
  product_fits = omega (arith, product_small)
