-- Tallying the records of rows, and the room that an answer has. Assumes nothing.
use Prim.Native.Nat.{ℕ, suc, ◌+◌, ◌*◌, ◌≤◌, ◌<◌}
use mathlib.Core.Path.{◌≡◌, refl, sym, ap, ◌∙◌}
use mathlib.Core.Bool.{Bool, true, false, ◌||◌, cond}
use mathlib.Core.List.{List}
use native.Mathlib.Numerals.{add-one}
use native.Mathlib.Omega.{arith}
use lib.Dec.{ltb}
use lib.ListN.{length, get_or, drop, length-append, drop_of_length-le}
use lib.Seq.{drop-cons}
use borrow.Author.Tests.{ltb-false}
use Rattle.model.specs.Limits.{max_series, max_tags, max_label_bytes}
use Rattle.model.specs.Labels.{Labels}
use Rattle.model.specs.Record.{encode}
use Rattle.kept_labels.specs.declared.Size.{Size}
use Rattle.answers.specs.declared.Tally.{Tally}
use Rattle.std.specs.Prelude.{Result, Ok, ⊤}
use Rattle.answers.specs.declared.NoRoom.{NoRoom}
use Rattle.answers.specs.Tallies.{most_of_record, most_bytes, SizedRecord, no_tally, with_size}
use Rattle.answers.specs.Tallies.{records_of, some_wide, TallyOf, room_number, room_refusal}

-- the room that an answer has is enough for its records and its rows

-- 9, then 10, by tests
abbrev by_tests : Bool → Bool → ℕ
by_tests large long = cond large 9 (cond long 10 0)

not_wide : (w a b : Bool) → by_tests (w || a) b ≡ 0 → w ≡ false
not_wide true a b h = absurd (omega arith)
not_wide false a b h = refl

neither_first : (w a b : Bool) → by_tests w (a || b) ≡ 0 → a ≡ false
neither_first true a b h = absurd (omega arith)
neither_first false true b h = absurd (omega arith)
neither_first false false b h = refl

neither_second : (w a b : Bool) → by_tests w (a || b) ≡ 0 → b ≡ false
neither_second true a b h = absurd (omega arith)
neither_second false true b h = absurd (omega arith)
neither_second false false true h = absurd (omega arith)
neither_second false false false h = refl

module _ (n p : ℕ) (t : Tally) (labels readings : ℕ)
    (room : Result ⊤ NoRoom) (asked : room_number room ≡ room_refusal n p t labels readings) (h : room ≡ Ok tt) where
  large : Bool
  large = t.too_many_tags || ltb max_label_bytes t.bytes

  tests : by_tests large (ltb labels t.bytes || ltb readings (n * p)) ≡ 0
  unfolding large
  tests = sym asked ∙ rw h

  pub records_narrow : (f : ℕ → Labels) (rows : List ℕ) → TallyOf f rows t → some_wide f rows ≡ false
  unfolding large
  records_narrow f rows k =
      sym k.wide ∙ not_wide t.too_many_tags (ltb max_label_bytes t.bytes) (ltb labels t.bytes || ltb readings (n * p)) tests

  pub records_fit : (f : ℕ → Labels) (rows : List ℕ) → TallyOf f rows t → length (records_of f rows) ≤ labels
  records_fit f rows k =
      let few = ltb-false labels t.bytes (neither_first large (ltb labels t.bytes) (ltb readings (n * p)) tests) in
      omega (arith, k.bytes, few)

  pub rows_fit : n * p ≤ readings
  rows_fit = ltb-false readings (n * p) (neither_second large (ltb labels t.bytes) (ltb readings (n * p)) tests)

-- the loop that tallies

-- the rows before r are tallied
pub record Tallying (f : ℕ → Labels) (rows : List ℕ) (r : ℕ) (t : Tally) : Type 0 where
  pub within : r ≤ length rows
  pub few : length rows ≤ max_series
  pub bytes : t.bytes + length (records_of f (drop r rows)) ≡ length (records_of f rows)
  pub wide : (t.too_many_tags || some_wide f (drop r rows)) ≡ some_wide f rows
  pub small : t.bytes ≤ r * most_of_record

either_first : (a b c : Bool) → ((a || b) || c) ≡ (a || (b || c))
either_first true b c = refl
either_first false b c = refl

either_last : (a : Bool) → (a || false) ≡ a
either_last true = refl
either_last false = refl

module _ (f : ℕ → Labels) (rows : List ℕ) where
  pub tally_starts : length rows ≤ max_series → Tallying f rows 0 no_tally
  tally_starts h = record { within = omega arith; few = h; bytes = omega arith; wide = refl; small = omega arith }

  module _ (r : ℕ) (t : Tally) (inv : Tallying f rows r t) where
    module _ (h : r < length rows) (z : Size) (s : SizedRecord (f (get_or rows r 0)) z) where
      records_step : length (records_of f (drop r rows)) ≡ length (encode (f (get_or rows r 0))) + length (records_of f (drop (r + 1) rows))
      records_step = rw (drop-cons rows r 0 h, add-one r) (length-append (encode (f (get_or rows r 0))) (records_of f (drop (suc r) rows)))

      wide_step : some_wide f (drop r rows) ≡ (ltb max_tags z.tags || some_wide f (drop (r + 1) rows))
      unfolding some_wide
      wide_step = rw (drop-cons rows r 0 h, add-one r, s.sized.tags)

      pub tally_turn : (t' : Tally) → t' ≡ with_size t z → Tallying f rows (r + 1) t'
      tally_turn t' e =
          rw e
          (record {
            within = omega arith;
            few = inv.few;
            bytes = omega (arith, inv.bytes, records_step, s.sized.bytes);
            wide =
                either_first t.too_many_tags (ltb max_tags z.tags) (some_wide f (drop (r + 1) rows))
                ∙ ap (λ (b : Bool). t.too_many_tags || b) (sym wide_step)
                ∙ inv.wide;
            small = omega (arith, inv.small, s.small);
          })

    none_wide : length rows ≤ r → some_wide f (drop r rows) ≡ false
    unfolding some_wide
    none_wide h = rw (drop_of_length-le rows h)

    none_left : length rows ≤ r → length (records_of f (drop r rows)) ≡ 0
    none_left h = rw (drop_of_length-le rows h)

    pub tally_ends : length rows ≤ r → TallyOf f rows t
    tally_ends h =
        record {
          bytes = omega (arith, inv.bytes, none_left h);
          wide = sym (either_last t.too_many_tags) ∙ ap (λ (b : Bool). t.too_many_tags || b) (sym (none_wide h)) ∙ inv.wide;
        }
