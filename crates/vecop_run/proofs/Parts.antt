-- The parts of an input, and what a query over them prints. Assumes nothing.
use Prim.Native.Nat.{ℕ, ◌+◌, ◌-◌, ◌≤◌}
use mathlib.Core.Path.{◌≡◌, sym, ap, ◌∙◌}
use mathlib.Core.List.{List}
use native.Mathlib.Omega.{arith}
use native.Mathlib.Nat.{zero-add}
use mir.Syntax.{w64}
use mir.Val.{Fits}
use lib.ListN.{length, take, drop, length-drop, length-append}
use lib.Seq.{take_all, take_at, length-take-le}
use Rattle.std.specs.Prelude.{Option, None, Some}
use Rattle.writing.specs.Written.{written, Put}
use Rattle.vecop_run.specs.frame.Frames.{max_input}
use Rattle.vecop_run.specs.frame.Sides.{readings_in}
use Rattle.vecop_run.specs.frame.Found.{PartsFound, Split}
use Rattle.vecop_run.specs.declared.frame.Parts.{Parts}
use Rattle.vecop_run.specs.outcome_text.Text.{unreadable_text, printed}
use Rattle.vecop_run.specs.Vecop.{ran, called, vecop_text}

-- readings at the start of the words
module _ (d w d' : List ℕ) (n : ℕ) (p : Put d 0 w d' n) where
  pub words_read : take n d' ≡ w
  unfolding written
  words_read = rw p.out (take_at w (drop (0 + length w) d) n (sym (p.next ∙ zero-add (length w))))

  pub words_within : n ≤ length d'
  unfolding written
  words_within = omega (arith, p.next, ap length p.out, length-append w (drop (0 + length w) d))

  pub words_measured : n ≡ length (take n d')
  words_measured = sym (length-take-le n d' words_within)

pub split_put : (q l r lr rr : List ℕ) (a b : ℕ) → lr ≡ readings_in l → rr ≡ readings_in r → Split l a → Split r b → (d d' : List ℕ) (k : ℕ)
    → Put d 0 (printed (ran q (take a l) lr (take b r) rr)) d' k → Put d 0 (printed (called q l r)) d' k
split_put q l r lr rr a b hl hr sl sr d d' k p = rw (← hl, ← hr, ← sl.labels, ← sr.labels) p

-- `vecop`
module _ (s : List ℕ) (x : Option Parts) (hx : PartsFound s x) (d : List ℕ) where
  pub nothing_read : x ≡ None → (d' : List ℕ) (k : ℕ) → Put d 0 unreadable_text d' k → Put d 0 (vecop_text s) d' k
  nothing_read e d' k p = go (rw e at hx)
    where
      go : PartsFound s None → Put d 0 (vecop_text s) d' k
      go h = rw h.parts p

  module _ (y : Parts) (e : x ≡ Some y) where
    abbrev q : ℕ
    q = y.query

    abbrev l : ℕ
    l = y.left

    here : PartsFound s (Some y)
    here = rw e at hx

    pub query_order : 4 ≤ y.query
    query_order = here.within.0

    pub left_order : y.query + 4 ≤ y.left
    left_order = here.within.1

    pub right_order : y.left + 4 ≤ length s
    right_order = here.within.2

    short : length s ≤ max_input
    short = here.within.3

    pub query_end : y.query ≤ length s
    query_end = omega (arith, left_order, right_order)

    pub left_end : y.left ≤ length s
    left_end = omega (arith, right_order)

    pub left_fits : Fits w64 (y.query + 4)
    left_fits = omega (arith, left_order, right_order, short)

    pub right_fits : Fits w64 (y.left + 4)
    right_fits = omega (arith, right_order, short)

    pub left_short : length (take (y.left - (y.query + 4)) (drop (y.query + 4) s)) ≤ max_input
    left_short = omega (arith, length-take-le (l - (q + 4)) (drop (q + 4) s) (omega (arith, length-drop (q + 4) s, left_order, left_end)), left_end, short)

    right_all : take (length s - (l + 4)) (drop (l + 4) s) ≡ drop (l + 4) s
    right_all = take_all (length s - (l + 4)) (drop (l + 4) s) (omega (arith, length-drop (l + 4) s))

    pub right_short : length (take (length s - (y.left + 4)) (drop (y.left + 4) s)) ≤ max_input
    right_short = rw right_all (omega (arith, length-drop (l + 4) s, short))

    pub parts_put : (d' : List ℕ) (k : ℕ) → Put d 0
        (printed (called (take (y.query - 4) (drop 4 s)) (take (y.left - (y.query + 4)) (drop (y.query + 4) s)) (take (length s - (y.left + 4)) (drop (y.left + 4) s)))) d' k
        → Put d 0 (vecop_text s) d' k
    parts_put d' k p = rw here.parts (rw right_all at p)
