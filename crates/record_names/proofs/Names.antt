-- `name_size` and `put_name`: each way out of them. Assumes nothing.
use Prim.Native.Nat.{ℕ, ◌≤◌, ◌+◌, ◌-◌}
use mathlib.Core.Path.{◌≡◌, sym, ap, ◌∙◌}
use mathlib.Core.List.{List, [], ◌∷◌, ◌++◌}
use mathlib.Core.Bool.{Bool, true, false, cond}
use native.Mathlib.Omega.{arith}
use lib.ListN.{length, take, drop, length-append, length-drop}
use lib.Seq.{take_at, length-take-le}
use Rattle.model.specs.Record.{encode_field}
use Rattle.model.proofs.Laws.Record.{field_read}
use Rattle.fields.specs.Fields.{field_at}
use Rattle.record_tags.specs.Lenient.{labels_of}
use Rattle.std.specs.Prelude.{Some, None}
use Rattle.std.specs.declared.option.Option.{Option}
use Rattle.fields.specs.declared.Span.{Span}
use Rattle.fields.proofs.Fields.{placed, unplaced, Placed}
use Rattle.writing.specs.Written.{Put}

-- what is written of a name
abbrev name_bytes : Bool → List ℕ → List ℕ
name_bytes keep s = encode_field (cond keep (labels_of s).name [])

module _ (keep : Bool) (s : List ℕ) where
  pub cleared_name : keep ≡ false → 0 ∷ [] ≡ name_bytes keep s
  cleared_name h = rw h

  module _ (h : keep ≡ true) (x : Option Span) (hx : x ≡ field_at s 0) where
    pub no_name : x ≡ None → 0 ∷ [] ≡ name_bytes keep s
    unfolding labels_of
    no_name ex = rw (h, unplaced s 0 x hx ex)

    module _ (a : Span) (ex : x ≡ Some a) where
      u : Placed s 0 a.start a.end
      u = placed s 0 a.start a.end x hx ex

      named : (labels_of s).name ≡ take (a.end - a.start) (drop a.start s)
      unfolding labels_of
      named = rw u.read

      kept_name : take a.end s ≡ name_bytes keep s
      kept_name =
          let y : List ℕ = take (a.end - a.start) (drop a.start s) in
          let all : s ≡ encode_field y ++ drop a.end s = field_read s y (drop a.end s) u.read in
          let size : length (encode_field y) ≡ a.end = omega (arith, ap length all, length-append (encode_field y) (drop a.end s), length-drop a.end s, u.within) in
          ap (take a.end) all ∙ take_at (encode_field y) (drop a.end s) a.end size ∙ rw (h, named)

      pub name_measured : a.end ≡ length (take a.end s)
      name_measured = sym (length-take-le a.end s u.within)

      pub name_size_kept : a.end ≡ length (name_bytes keep s)
      name_size_kept = name_measured ∙ ap length kept_name

      pub name_room_kept : (d : List ℕ) (at : ℕ) → at + length (name_bytes keep s) ≤ length d → at + length (take a.end s) ≤ length d
      name_room_kept d at r = rw kept_name r

      pub name_put_kept : (d : List ℕ) (at : ℕ) (d' : List ℕ) (r : ℕ) → Put d at (take a.end s) d' r → Put d at (name_bytes keep s) d' r
      name_put_kept d at d' r q = rw kept_name at q

    pub name_size_none : x ≡ None → 1 ≡ length (name_bytes keep s)
    name_size_none ex = ap length (no_name ex)

    pub name_room_none : x ≡ None → (d : List ℕ) (at : ℕ) → at + length (name_bytes keep s) ≤ length d → at + 1 ≤ length d
    name_room_none ex d at r = omega (arith, r, ap length (no_name ex))

    pub name_put_none : x ≡ None → (d : List ℕ) (at : ℕ) (d' : List ℕ) (r : ℕ) → Put d at (0 ∷ []) d' r → Put d at (name_bytes keep s) d' r
    name_put_none ex d at d' r q = rw (no_name ex) at q

  pub name_size_cleared : keep ≡ false → 1 ≡ length (name_bytes keep s)
  name_size_cleared h = ap length (cleared_name h)

  pub name_room_cleared : keep ≡ false → (d : List ℕ) (at : ℕ) → at + length (name_bytes keep s) ≤ length d → at + 1 ≤ length d
  name_room_cleared h d at r = omega (arith, r, ap length (cleared_name h))

  pub name_put_cleared : keep ≡ false → (d : List ℕ) (at : ℕ) (d' : List ℕ) (r : ℕ) → Put d at (0 ∷ []) d' r → Put d at (name_bytes keep s) d' r
  name_put_cleared h d at d' r q = rw (cleared_name h) at q
