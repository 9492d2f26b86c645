-- The loop that writes an edited record's tags, turn by turn. Assumes nothing.
use Rattle.std.specs.Prelude.{ℕ, ◌≡◌, ◌+◌, ◌≤◌, ◌<◌, ◌^◌, List, [], ◌∷◌, length}
use Rattle.std.proofs.Common.{ap, arith, Fits, w64}
use Rattle.model.specs.Labels.{Tag}
use Rattle.model.specs.Record.{encode_tags}
use Rattle.record_tags.specs.Cursors.{encode_tag}
use Rattle.kept_labels.proofs.Sizes.{tags_counted_by}
use Rattle.kept_labels.proofs.Puts as Puts
use Rattle.writing.specs.Written.{Put}
use Rattle.writing.proofs.Written.{Rest}
use Rattle.set_tags.specs.Records.{TagsPut}

-- the tags left are still to be counted and to be written
pub record PutLeft (all left : List Tag) (tags : ℕ) (d₀ : List ℕ) (at : ℕ) (d : List ℕ) (o : ℕ) : Type 0 where
  pub count : tags + length left ≡ length all
  pub room : length (encode_tags all) ≤ length d₀
  pub rest : Rest d₀ at (encode_tags all) d o (encode_tags left)

pub put_start : (all left : List Tag) (d : List ℕ) (at : ℕ) → left ≡ all → at + length (encode_tags all) ≤ length d
    → PutLeft all left 0 d at d at
put_start all left d at h room =
    record { count = omega (arith, ap length h); room = omega arith; rest = Puts.put_start all left d at h room }

module _ (all left : List Tag) (tags : ℕ) (d₀ : List ℕ) (at : ℕ) (d : List ℕ) (o : ℕ) (inv : PutLeft all left tags d₀ at d o) where
  pub put_ended : left ≡ [] → TagsPut all d₀ at d (record { tags = tags; end = o })
  put_ended h =
      record { put = Puts.put_ended d₀ at (encode_tags all) d o left inv.rest h; count = omega (arith, inv.count, ap length h) }

  module _ (t : Tag) (rest : List Tag) (h : left ≡ t ∷ rest) (x : List ℕ) (hx : x ≡ encode_tag t) where
    pub put_fits : length d₀ < 2 ^ 64 → Fits w64 (tags + 1)
    put_fits g = omega (arith, inv.count, ap length h, tags_counted_by all, inv.room)

    pub one_room : o + length x ≤ length d
    one_room = Puts.one_room d₀ at (encode_tags all) d o left inv.rest t rest h x hx

    pub put_one : (d' : List ℕ) (r : ℕ) → Put d o x d' r → PutLeft all rest (tags + 1) d₀ at d' r
    put_one d' r hp =
        record {
          count = omega (arith, inv.count, ap length h);
          room = inv.room;
          rest = Puts.put_one_tag d₀ at (encode_tags all) d o left inv.rest t rest h x hx d' r hp;
        }
