-- What is written at a place: a byte, bytes, bytes behind bytes; and what is left to write. Assumes nothing.
use Prim.Native.Nat.{ℕ, suc, ◌≤◌, ◌<◌, ◌+◌}
use mathlib.Core.Path.{◌≡◌, refl, sym, ap, ◌∙◌}
use mathlib.Core.List.{List, [], ◌∷◌, ◌++◌, append_assoc}
use native.Mathlib.Omega.{arith}
use native.Mathlib.Numerals.{add-one}
use native.Mathlib.Nat.{add-zero}
use lib.ListN.{length, get_or, take, drop, set, length-append, length-drop, length-set, take-append-drop}
use lib.Seq.{drop-drop, length-take-le, take_at, drop_at, take-suc, take_all, take-suc-set, drop-set-lt, append_snoc}
use Rattle.writing.specs.Written.{written, Put}

module _ (d : List ℕ) (at : ℕ) where
  pub written_none : at ≤ length d → written d at [] ≡ d
  unfolding written
  written_none h = rw add-zero (take-append-drop at d)

  pub length-written : (w : List ℕ) → at + length w ≤ length d → length (written d at w) ≡ length d
  unfolding written
  length-written w h = simp (length-append, length-drop, length-take-le at d (omega arith)) (omega arith)

  pub written_append : (v w : List ℕ) → at + length (v ++ w) ≤ length d → written (written d at v) (at + length v) w ≡ written d at (v ++ w)
  unfolding written
  written_append v w h =
      let k : at + length v + length w ≡ at + length (v ++ w) = omega (arith, length-append v w) in
      let X : List ℕ = drop (at + length v) d in
      let head : length (take at d ++ v) ≡ at + length v = simp (length-append, length-take-le at d (omega (arith, length-append v w))) in
      let join : take at d ++ (v ++ X) ≡ (take at d ++ v) ++ X = sym (append_assoc (take at d) v X) in
      let t : take (at + length v) (take at d ++ (v ++ X)) ≡ take at d ++ v = rw join (take_at (take at d ++ v) X (at + length v) head) in
      let u : drop (at + length v) (take at d ++ (v ++ X)) ≡ X = rw join (drop_at (take at d ++ v) X (at + length v) head) in
      let e : drop (at + length v + length w) (take at d ++ (v ++ X)) ≡ drop (at + length (v ++ w)) d =
      sym (drop-drop (length w) (at + length v) (take at d ++ (v ++ X))) ∙ ap (drop (length w)) u ∙ drop-drop (length w) (at + length v) d
      ∙ ap (λ (n : ℕ). drop n d) k in
      ap (λ (l : List ℕ). l ++ (w ++ drop (at + length v + length w) (take at d ++ (v ++ X)))) t
      ∙ ap (λ (l : List ℕ). (take at d ++ v) ++ (w ++ l)) e
      ∙ append_assoc (take at d) v (w ++ drop (at + length (v ++ w)) d)
      ∙ ap (λ (l : List ℕ). take at d ++ l) (sym (append_assoc v w (drop (at + length (v ++ w)) d)))

  -- a byte that is stored, and what follows it
  pub written_cons : (b : ℕ) (w : List ℕ) → at < length d → written (set d at b) (at + 1) w ≡ written d at (b ∷ w)
  unfolding written
  written_cons b w h =
      let t : take (at + 1) (set d at b) ≡ take at d ++ (b ∷ []) = rw add-one (take-suc-set d at b h) in
      let k : at + 1 + length w ≡ at + suc (length w) = omega arith in
      let e : drop (at + 1 + length w) (set d at b) ≡ drop (at + suc (length w)) d =
      drop-set-lt (at + 1 + length w) d at b (omega arith) ∙ ap (λ (n : ℕ). drop n d) k in
      rw (t, e) (append_snoc (take at d) b (w ++ drop (at + suc (length w)) d))

  pub put_one : (b : ℕ) → at + 1 ≤ length d → set d at b ≡ written d at (b ∷ [])
  put_one b h = sym (written_none_at (set d at b) (omega (arith, length-set d at b))) ∙ written_cons b [] (omega arith)
    where
      written_none_at : (x : List ℕ) → at + 1 ≤ length x → written x (at + 1) [] ≡ x
      written_none_at x g = unfold written in rw add-zero (take-append-drop (at + 1) x)

pub put_byte_done : (d : List ℕ) (at b : ℕ) → at + 1 ≤ length d → Put d at (b ∷ []) (set d at b) (at + 1)
put_byte_done d at b h = record { out = put_one d at b h; next = refl }

-- a loop that puts the bytes of s one behind another: i of them are put
module _ (d : List ℕ) (at : ℕ) (s : List ℕ) where
  pub put_start : (n : ℕ) → at + n ≤ length d → Put d at (take 0 s) d (at + 0)
  put_start n h = record { out = sym (written_none d at (omega arith)); next = refl }

  module _ (d' : List ℕ) (i : ℕ) (p : Put d at (take i s) d' (at + i)) where
    pub put_turn : (n : ℕ) → i < n → at + n ≤ length d → i < length s
        → Put d at (take (i + 1) s) (set d' (at + i) (get_or s i 0)) (at + (i + 1))
    put_turn n g room h =
        let b : ℕ = get_or s i 0 in
        let fits : at + length (take i s ++ (b ∷ [])) ≤ length d = omega (arith, p.next, length-append (take i s) (b ∷ [])) in
        let size : length d' ≡ length d = ap length p.out ∙ length-written d at (take i s) (omega (arith, p.next)) in
        record {
          out = rw (add-one, take-suc s i 0 h, ← written_append d at (take i s) (b ∷ []) fits, ← p.next, ← p.out) (put_one d' (at + i) b (omega (arith, size)));
          next = omega (arith, length-take-le (i + 1) s (omega arith));
        }

    pub put_till : (n : ℕ) → i ≤ n → n ≤ i → Put d at (take n s) d' (at + n)
    put_till n h g = let e : i ≡ n = omega arith in rw e at p

    pub put_all : i ≤ length s → length s ≤ i → Put d at s d' (at + length s)
    put_all h g = record { out = p.out ∙ ap (written d at) (take_all i s g); next = refl }

-- what is left to write: from d₀ with W at a place, to d with w at q
pub record Rest (d₀ : List ℕ) (at : ℕ) (W d : List ℕ) (q : ℕ) (w : List ℕ) : Type 0 where
  pub same : written d₀ at W ≡ written d q w
  pub sum : q + length w ≡ at + length W
  pub size : length d ≡ length d₀
  pub room : at + length W ≤ length d₀

pub rest_start : (d : List ℕ) (at : ℕ) (w : List ℕ) → at + length w ≤ length d → Rest d at w d at w
rest_start d at w h = record { same = refl; sum = refl; size = refl; room = h }

module _ (d₀ : List ℕ) (at : ℕ) (W d : List ℕ) (q : ℕ) where
  pub rest_room : (v w : List ℕ) → Rest d₀ at W d q (v ++ w) → q + length v ≤ length d
  rest_room v w t = omega (arith, t.sum, t.size, t.room, length-append v w)

  pub rest_put : (v w d' : List ℕ) (r : ℕ) → Rest d₀ at W d q (v ++ w) → Put d q v d' r → Rest d₀ at W d' r w
  rest_put v w d' r t p =
      let fits : q + length (v ++ w) ≤ length d = omega (arith, t.sum, t.size, t.room) in
      record {
        same = rw (p.out, p.next) (t.same ∙ sym (written_append d q v w fits));
        sum = omega (arith, t.sum, p.next, length-append v w);
        size = ap length p.out ∙ length-written d q v (omega (arith, fits, length-append v w)) ∙ t.size;
        room = t.room;
      }

  pub rest_done : Rest d₀ at W d q [] → Put d₀ at W d q
  rest_done t =
      record { out = sym (t.same ∙ written_none d q (omega (arith, t.sum, t.size, t.room))); next = omega (arith, t.sum) }

  pub rest_as : (v w : List ℕ) → Rest d₀ at W d q v → v ≡ w → Rest d₀ at W d q w
  rest_as v w t e = rw e at t

  pub rest_last : (w d' : List ℕ) (r : ℕ) → Rest d₀ at W d q w → Put d q w d' r → Put d₀ at W d' r
  rest_last w d' r t p = record { out = p.out ∙ sym t.same; next = p.next ∙ t.sum }
