-- The sides of a case, taken from a label part. Assumes nothing.
use Prim.Native.Nat.{ℕ, ◌+◌, ◌-◌, ◌≤◌}
use mathlib.Core.Path.{◌≡◌}
use mathlib.Core.List.{List}
use native.Mathlib.Omega.{arith}
use mir.Syntax.{w64}
use mir.Val.{Fits}
use lib.ListN.{length, take, drop, length-drop}
use lib.Seq.{take_all}
use Rattle.model.specs.Limits.{sizes_length}
use Rattle.std.specs.Prelude.{Result, Ok}
use Rattle.side_parts.specs.Lent.{shape_of}
use Rattle.timeseries.specs.Takes.{TakenInto}
use Rattle.timeseries.specs.TakeLaws.{SideTaken, side_taken, taken_long}
use Rattle.timeseries.specs.declared.VectorFault.{VectorFault}
use Rattle.timeseries.specs.declared.Vector.{Vector}
use Rattle.test_keys.specs.Sides.{Side, SideAt}

module _ (s x before after : List ℕ) (room : length before ≡ 513) (t : Result Vector VectorFault)
    (into : TakenInto s x before t after) (v : Vector) (e : t ≡ Ok v) where
  abbrev n : ℕ
  n = v.series

  side_is : SideTaken 0 s x after n (shape_of v.shape)
  side_is = side_taken 0 s x before after room t into v e

  pub entry_fits : Fits w64 (n + 1)
  entry_fits = let h = side_is.few in omega (arith, h)

  taken_side : Side (take (length s - sizes_length) (drop sizes_length s)) (take (n + 1) after)
  taken_side =
      let whole : take (length s - sizes_length) (drop sizes_length s)
      ≡ drop sizes_length s = take_all (length s - sizes_length) (drop sizes_length s) (omega (arith, length-drop sizes_length s)) in
      let few = side_is.few in
      record { positions = rw whole side_is.positions; end = omega (arith, side_is.entries); few = omega (arith, side_is.entries, few) }

  pub side_at_lem : sizes_length ≤ length s → SideAt s after (n + 1)
  side_at_lem h =
      let few = side_is.few in
      record { noted = omega (arith, few, taken_long s x before after t into, room); sizes = h; side = taken_side }
