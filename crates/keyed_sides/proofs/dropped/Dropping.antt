-- `kept_or_dropped` and `drop_missing`: each key is renumbered by its row. Assumes nothing.
use Rattle.std.proofs.Common.{◌≡◌, ◌∙◌, sym, ℕ, ◌+◌, ◌*◌, ◌<◌, ◌≤◌, Bool, true, false, List, length, get_or, arith}
use Rattle.std.proofs.lemmas.List.{ext_get_or}
use Rattle.model.specs.Row.{only_missing}
use Rattle.side_parts.specs.Sides.{row_at}
use Rattle.side_parts.specs.SideLaws as Rows
use Rattle.keyed_sides.specs.Dropped.{kept_number, dropped_missing, dropped_count, dropped_at}

pub row_gone : (row : List ℕ) (k : ℕ) (b : Bool) → b ≡ only_missing row → b ≡ true → 1024 ≡ kept_number row k
row_gone row k b h e = rw (← h, e)

pub row_stays : (row : List ℕ) (k : ℕ) (b : Bool) → b ≡ only_missing row → b ≡ false → k ≡ kept_number row k
row_stays row k b h e = rw (← h, e)

module _ (rows : List ℕ) (p : ℕ) (before : List ℕ) where
  pub drop-room : (i : ℕ) → i < length before → length rows ≡ length before * p → i * p + p ≤ length rows
  drop-room i h e = rw e (Rows.row_in i (length before) p h)

  -- the keys so far are renumbered
  abbrev pub Dropping : List ℕ → ℕ → Type 0
  Dropping keys i =
      ((k : ℕ) → k < i → get_or keys k 0 ≡ kept_number (row_at p rows k) (get_or before k 0))
      × ((k : ℕ) → i ≤ k → get_or keys k 0 ≡ get_or before k 0)

  pub drop-ends : (keys : List ℕ) → length keys ≡ length before
      → ((k : ℕ) → k < length keys → get_or keys k 0 ≡ kept_number (row_at p rows k) (get_or before k 0))
      → keys ≡ dropped_missing p rows before
  drop-ends keys long each =
      ext_get_or 0 keys (dropped_missing p rows before) (long ∙ sym (dropped_count p rows before))
      (λ k h. each k h ∙ sym (dropped_at p rows before k (omega arith)))
