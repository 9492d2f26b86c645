-- A vector's part: where its labels end, and its readings. Assumes nothing.
use Prim.Native.Nat.{ℕ, zero, suc, ◌+◌, ◌*◌, ◌-◌, ◌≤◌, ◌<◌, min}
use mathlib.Core.Path.{◌≡◌, refl, sym, ap, ◌∙◌}
use mathlib.Core.Bool.{cond}
use mathlib.Core.List.{List, [], ◌∷◌, ◌++◌}
use native.Mathlib.Omega.{arith}
use lib.ListN.{length, take, drop, set, length-drop, drop_of_length-le}
use lib.Seq.{drop-drop, take_all}
use lib.Dec.{eqb}
use borrow.Author.Tests.{eq-eqb, ne_eqb}
use Rattle.model.specs.Limits.{sizes_length}
use Rattle.model.specs.Vector.{two_bytes_at, eight_bytes_at}
use Rattle.little_endian.specs.Numbers.{Read}
use Rattle.writing.specs.Written.{Put}
use Rattle.writing.proofs.Written.{Rest, rest_start, rest_put, rest_done, put_byte_done, written_none}
use Rattle.std.proofs.lemmas.List.{take_min, drop_min}
use Rattle.vecop_run.specs.frame.Sides.{labels_size, reading_bytes, reading_count, words_in, other_than, readings_in}
use Rattle.vecop_run.specs.frame.SideLaws.{words_length}
use Rattle.vecop_run.specs.frame.Found.{Split}
use Rattle.vecop_run.proofs.frame.Numbers.{eight_here}

split_all : (v : List ℕ) → length v ≤ labels_size v → Split v (length v)
split_all v h =
    record {
      labels = take_all (length v) v (omega arith) ∙ sym (take_all (labels_size v) v h);
      readings = drop_of_length-le v {i = length v} (omega arith) ∙ sym (drop_of_length-le v h);
      within = omega arith;
    }

pub split_short : (v : List ℕ) → length v < sizes_length → Split v (length v)
split_short v h = split_all v (omega arith)

module _ (v : List ℕ) (size : ℕ) (hs : Read (two_bytes_at v 4) 65536 size) where
  pub split_least : (r : ℕ) → r ≡ min (sizes_length + size) (length v) → Split v r
  split_least r h =
      let e : labels_size v ≡ sizes_length + size = omega (arith, hs.value) in
      record {
        labels = rw (h, e) (take_min (sizes_length + size) v);
        readings = rw (h, e) (drop_min (sizes_length + size) v);
        within = omega (arith, h);
      }

-- the loop of `read_words`
pub record WordsLeft (s : List ℕ) (k : ℕ) (d₀ d : List ℕ) (i : ℕ) : Type 0 where
  pub some : i ≤ k
  pub size : length d ≡ length d₀
  pub rest : Rest d₀ 0 (words_in k s) d i (words_in (k - i) (drop (8 * i) s))

pub words_start : (s : List ℕ) (k : ℕ) (d : List ℕ) → k ≤ length d → WordsLeft s k d d 0
words_start s k d h =
    let e : k - 0 ≡ k = omega arith in
    record {
      some = omega arith;
      size = refl;
      rest = rw e (rest_start d 0 (words_in k s) (omega (arith, words_length k s)));
    }

one_word : (s : List ℕ) (k p : ℕ) → words_in (suc k) (drop p s) ≡ (eight_bytes_at s p ∷ []) ++ words_in k (drop (p + 8) s)
unfolding words_in
one_word s k p = rw (eight_here s p, drop-drop 8 p s)

module _ (s : List ℕ) (k : ℕ) (d₀ d : List ℕ) (i : ℕ) (inv : WordsLeft s k d₀ d i) where
  pub words_turn : i < k → k ≤ length d₀ → (x : ℕ) → x ≡ eight_bytes_at s (8 * i) → WordsLeft s k d₀ (set d i x) (i + 1)
  words_turn h room x hx =
      let e : k - i ≡ suc (k - (i + 1)) = omega arith in
      let next : 8 * i + 8 ≡ 8 * (i + 1) = omega arith in
      let later : List ℕ = words_in (k - (i + 1)) (drop (8 * (i + 1)) s) in
      let put : Put d i (x ∷ []) (set d i x) (i + 1) = put_byte_done d i x (omega (arith, inv.size)) in
      let left : Rest d₀ 0 (words_in k s) d i ((x ∷ []) ++ later) =
      rw (e, one_word s (k - (i + 1)) (8 * i), ← hx, next) at inv.rest in
      let r : Rest d₀ 0 (words_in k s) (set d i x) (i + 1) later =
      rest_put d₀ 0 (words_in k s) d i (x ∷ []) later (set d i x) (i + 1) left put in
      record { some = omega arith; size = r.size; rest = r }

  pub words_done : k ≤ i → Put d₀ 0 (words_in k s) d k
  unfolding words_in
  words_done h =
      let e : i ≡ k = omega (arith, inv.some) in
      let none : k - k ≡ 0 = omega arith in
      rest_done d₀ 0 (words_in k s) d k (rw (e, none) at inv.rest)

-- `read_readings`
put_none : (d w : List ℕ) → w ≡ [] → Put d 0 w d 0
put_none d w e = rw e (record { out = sym (written_none d 0 (omega arith)); next = refl })

short_readings : (v : List ℕ) → length v < sizes_length → readings_in v ≡ []
unfolding readings_in words_in
short_readings v h =
    let none : reading_bytes v ≡ [] = drop_of_length-le v {i = labels_size v} (omega arith) in
    rw none (go (reading_count v))
  where
    go : (k : ℕ) → cond (eqb 0 (8 * k)) (words_in k []) (other_than k) ≡ []
    go zero = refl
    go (suc k) = rw (ne_eqb 0 (8 * suc k) (λ h. omega arith), ne_eqb (suc k) 0 (λ h. omega arith))

pub readings_short : (v d : List ℕ) → length v < sizes_length → Put d 0 (readings_in v) d 0
readings_short v d h = put_none d (readings_in v) (short_readings v h)

module _ (v : List ℕ) (k e : ℕ) (hk : Read (reading_count v) 4294967296 k) (he : Split v e) where
  bytes : length (reading_bytes v) ≡ length v - e
  bytes = sym (ap length he.readings) ∙ length-drop e v

  pub readings_whole : length v - e ≡ 8 * k → (d d' : List ℕ) (r : ℕ)
      → Put d 0 (words_in k (take (length v - e) (drop e v))) d' r → Put d 0 (readings_in v) d' r
  unfolding readings_in
  readings_whole h d d' r p = let all : take (length v - e) (drop e v) ≡ drop e v = take_all (length v - e) (drop e v)
      (omega (arith, length-drop e v)) in
      rw (bytes, ← hk.value, eq-eqb (length v - e) (8 * k) h, ← he.readings) (rw all at p)

  other : (length v - e ≡ 8 * k → ⊥) → readings_in v ≡ other_than k
  unfolding readings_in
  other h = rw (bytes, ← hk.value, ne_eqb (length v - e) (8 * k) h)

  pub readings_one : (length v - e ≡ 8 * k → ⊥) → k ≡ 0 → (d : List ℕ) → 8192 ≤ length d → Put d 0 (readings_in v) (set d 0 0) 1
  readings_one h z d room = rw (other h, eq-eqb k 0 z) (put_byte_done d 0 0 (omega arith))

  pub readings_none : (length v - e ≡ 8 * k → ⊥) → (k ≡ 0 → ⊥) → (d : List ℕ) → Put d 0 (readings_in v) d 0
  readings_none h z d = put_none d (readings_in v) (rw (other h, ne_eqb k 0 z))
