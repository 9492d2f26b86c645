-- A field that the code finds at a place is the field that the definition reads there. Assumes nothing.
use Prim.Native.Nat.{ℕ, suc, ◌≤◌, ◌<◌, ◌+◌, ◌-◌}
use mathlib.Core.Path.{◌≡◌, refl, sym, ap, ◌∙◌}
use mathlib.Core.List.{List}
use mathlib.Core.Bool.{Bool, true, false, cond}
use native.Mathlib.Omega.{arith}
use mir.Syntax.{w8, w64}
use mir.Val.{Fits}
use native.Mathlib.Numerals.{add-one}
use lib.ListN.{length, get_or, take, drop, length-drop, drop_of_length-le}
use lib.Seq.{drop-cons, drop-drop}
use lib.Dec.{leb, ltb}
use borrow.Author.Tests.{ltb-true, ltb-false, leb-true, leb-false, le-leb, lt-leb}
use Rattle.std.specs.Prelude.{Some, None}
use Rattle.std.specs.declared.option.Option.{Option}
use Rattle.model.specs.Record.{short, field, read_field}
use Rattle.fields.specs.Fields.{some_span, field_at}
use Rattle.fields.specs.declared.Span.{Span}

-- a field is read at a place, from its length and its bytes
field_read_at : (s : List ℕ) (p : ℕ) → p < length s → get_or s p 0 ≤ length s - (p + 1)
    → read_field (drop p s) ≡ field (take (get_or s p 0) (drop (p + 1) s)) (drop (p + 1 + get_or s p 0) s)
unfolding read_field
field_read_at s p hp hn =
    rw (drop-cons s p 0 hp, add-one) (simp (le-leb (get_or s p 0) (length (drop (suc p) s)) (omega (arith, length-drop (suc p) s)), drop-drop))

field_short_at : (s : List ℕ) (p : ℕ) → p < length s → length s - (p + 1) < get_or s p 0 → read_field (drop p s) ≡ short
unfolding read_field
field_short_at s p hp hn =
    rw (drop-cons s p 0 hp) (simp (lt-leb (get_or s p 0) (length (drop (suc p) s)) (omega (arith, length-drop (suc p) s))))

field_none_at : (s : List ℕ) (p : ℕ) → length s ≤ p → read_field (drop p s) ≡ short
unfolding read_field
field_none_at s p hp = rw (drop_of_length-le s hp)

pub more : (n : ℕ) → 0 < n → n ≡ suc (n - 1)
more n h = omega arith

-- what is known of a field that was found
pub record Placed (s : List ℕ) (p a e : ℕ) : Type 0 where
  pub first : a ≡ p + 1
  pub order : a ≤ e
  pub within : e ≤ length s
  pub read : read_field (drop p s) ≡ field (take (e - a) (drop a s)) (drop e s)

pub placed : (s : List ℕ) (p a e : ℕ) (x : Option Span) → x ≡ field_at s p → x ≡ some_span a e → Placed s p a e
placed s p a e x hx ha = go (ltb p (length s)) refl (leb (get_or s p 0) (length s - (p + 1))) refl (sym ha ∙ hx)
  where
    go : (b : Bool) → ltb p (length s) ≡ b → (d : Bool) → leb (get_or s p 0) (length s - (p + 1)) ≡ d
        → some_span a e ≡ cond b (cond d (some_span (p + 1) (p + 1 + get_or s p 0)) None) None → Placed s p a e
    go true hb true hd h =
        let k : ◌≡◌ {A = Span} (record { start = a; end = e }) (record { start = p + 1; end = p + 1 + get_or s p 0 }) = cc in
        let ea : a ≡ p + 1 = ap (λ (x : Span). x.start) k in
        let ee : e ≡ p + 1 + get_or s p 0 = ap (λ (x : Span). x.end) k in
        let en : e - a ≡ get_or s p 0 = omega arith in
        let hp : p < length s = ltb-true p (length s) hb in
        let hn : get_or s p 0 ≤ length s - (p + 1) = leb-true (get_or s p 0) (length s - (p + 1)) hd in
        record { first = ea; order = omega arith; within = omega arith; read = rw (en, ea, ee) (field_read_at s p hp hn) }
    go true hb false hd h = grind arith
    go false hb d hd h = grind arith

pub unplaced : (s : List ℕ) (p : ℕ) (x : Option Span) → x ≡ field_at s p → x ≡ None → read_field (drop p s) ≡ short
unplaced s p x hx ha = go (ltb p (length s)) refl (leb (get_or s p 0) (length s - (p + 1))) refl (sym ha ∙ hx)
  where
    go : (b : Bool) → ltb p (length s) ≡ b → (d : Bool) → leb (get_or s p 0) (length s - (p + 1)) ≡ d
        → None ≡ cond b (cond d (some_span (p + 1) (p + 1 + get_or s p 0)) None) None → read_field (drop p s) ≡ short
    go true hb true hd h = grind arith
    go true hb false hd h = field_short_at s p (ltb-true p (length s) hb) (leb-false (get_or s p 0) (length s - (p + 1)) hd)
    go false hb d hd h = field_none_at s p (ltb-false p (length s) hb)

-- the bounds, for `search`
module _ (s : List ℕ) (p : ℕ) (x : Option Span) (y : Span) (hx : x ≡ field_at s p) (hy : x ≡ Some y) where
  pub place_order : y.start ≤ y.end
  place_order = (placed s p y.start y.end x hx hy).order

  pub place_within : y.end ≤ length s
  place_within = (placed s p y.start y.end x hx hy).within

-- a byte that was read fits a usize: from the slice's own rule, `c.shared-slice-known.given`
pub byte_fits : (s : List ℕ) (i : ℕ) → ((j : ℕ) → Fits w8 (get_or s j 0)) → Fits w64 (get_or s i 0)
byte_fits s i h = omega (arith, h i)
