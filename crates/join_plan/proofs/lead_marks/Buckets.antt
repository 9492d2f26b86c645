-- `note_bucket`: places noted by the buckets of their hashes, and those of a key with it. Assumes nothing.
use Prim.Native.Nat.{ℕ, ◌+◌, ◌≤◌, ◌<◌}
use mathlib.Core.Path.{◌≡◌, refl, sym, ap, ◌∙◌}
use mathlib.Core.Bool.{Bool, true, false, cond}
use mathlib.Core.List.{List}
use native.Mathlib.Omega.{arith}
use mir.Syntax.{w16, w64}
use mir.Val.{Fits}
use lib.Dec.{eqb, ltb}
use lib.ListN.{length, get_or, set, replicate, length-set, length-replicate, get_or-replicate}
use lib.Seq.{get_or-set_same, get_or-set_other, set-get_or}
use borrow.Author.Tests.{eqb-true, eqb-false, lt-ltb, le-ltb, ltb-true, ltb-false}
use Rattle.model.specs.Lists.{cases}
use Rattle.join_plan.specs.lead_marks.Marks.{buckets, bucket_of, BucketNoted, NoneHashed}

-- a fact about each place from first up to o + 1
pub from_next : {P : ℕ → Type 0} (first o : ℕ) → ((i : ℕ) → first ≤ i → i < o → P i) → P o
    → (i : ℕ) → first ≤ i → i < o + 1 → P i
from_next {P} first o before here i a h =
    cases (eqb i o) (λ e. rw (eqb-true i o e) here)
    (λ e. before i a (let z : i ≡ o → ⊥ = eqb-false i o e in lt_of i o h z))
  where
    lt_of : (i o : ℕ) → i < o + 1 → (i ≡ o → ⊥) → i < o
    lt_of i o h z = omega (arith, z)

-- `note_bucket`

pub place_fits : (t : List ℕ) (b : ℕ) → ((j : ℕ) → Fits w16 (get_or t j 0)) → Fits w64 (get_or t b 0)
place_fits t b h = omega (arith, h b)

pub earlier_fits : (t : List ℕ) (b n : ℕ) → ((j : ℕ) → Fits w16 (get_or t j 0)) → n < get_or t b 0 → Fits w16 n
earlier_fits t b n h l = omega (arith, h b, l)

module _ (t : List ℕ) (h o : ℕ) where
  pub note_earlier : o < get_or t (bucket_of h) 0 → BucketNoted t h o (set t (bucket_of h) o) o
  note_earlier l = record { place = rw (lt-ltb o (get_or t (bucket_of h) 0) l); noted = refl }

  pub note_later : get_or t (bucket_of h) 0 ≤ o → BucketNoted t h o t (get_or t (bucket_of h) 0)
  note_later l = record {
    place = rw (le-ltb o (get_or t (bucket_of h) 0) l);
    noted = sym (set-get_or t (bucket_of h) 0);
  }

  module _ (after : List ℕ) (r : ℕ) (n : BucketNoted t h o after r) where
    picked : (x : Bool) → ltb o (get_or t (bucket_of h) 0) ≡ x → r ≡ cond x o (get_or t (bucket_of h) 0)
    picked x e = rw e at n.place

    pub noted_low : r ≤ o
    noted_low =
        cases (ltb o (get_or t (bucket_of h) 0)) (λ e. omega (arith, picked true e))
        (λ e. omega (arith, picked false e, ltb-false o (get_or t (bucket_of h) 0) e))

    noted_earlier : r ≤ get_or t (bucket_of h) 0
    noted_earlier =
        cases (ltb o (get_or t (bucket_of h) 0))
        (λ e. omega (arith, picked true e, ltb-true o (get_or t (bucket_of h) 0) e))
        (λ e. omega (arith, picked false e))

    noted_after : (first : ℕ) → first ≤ o → first ≤ get_or t (bucket_of h) 0 → first ≤ r
    noted_after first a b =
        cases (ltb o (get_or t (bucket_of h) 0)) (λ e. omega (arith, picked true e)) (λ e. omega (arith, picked false e))

    -- nothing noted moves back
    noted_within : length t ≡ buckets → (b : ℕ) → get_or after b 0 ≤ get_or t b 0
    noted_within z b =
        rw n.noted (cases (eqb b (bucket_of h))
        (λ e. rw (eqb-true b (bucket_of h) e, get_or-set_same t (bucket_of h) r 0 (omega (arith, z))) noted_earlier)
        (λ e. omega (arith, get_or-set_other t (bucket_of h) b r 0 (eqb-false b (bucket_of h) e))))

    noted_here : length t ≡ buckets → get_or after (bucket_of h) 0 ≤ o
    noted_here z =
        rw (n.noted, get_or-set_same t (bucket_of h) r 0 (omega (arith, z))) noted_low

-- of each place of the key from first up to o what stands at its bucket is not behind it
pub record Bucketed (k : ℕ) (keys hashes : List ℕ) (first o : ℕ) (table : List ℕ) : Type 0 where
  pub size : length table ≡ buckets
  pub after : (b : ℕ) → b < buckets → first ≤ get_or table b 0
  pub early : (i : ℕ) → first ≤ i → i < o → get_or keys i 0 ≡ k → get_or table (bucket_of (get_or hashes i 0)) 0 ≤ i

module _ (k : ℕ) (keys hashes : List ℕ) (first : ℕ) where
  pub buckets_start : (n : ℕ) → first ≤ n → Bucketed k keys hashes first first (replicate buckets n)
  buckets_start n h = record {
    size = length-replicate buckets n;
    after = λ b l. rw (get_or-replicate buckets b n 0 l) h;
    early = λ i a g. absurd (omega (arith, a, g));
  }

  module _ (o : ℕ) (table : List ℕ) (s : Bucketed k keys hashes first o table) where
    pub buckets_past : (get_or keys o 0 ≡ k → ⊥) → Bucketed k keys hashes first (o + 1) table
    buckets_past f = record {
      size = s.size;
      after = s.after;
      early = from_next first o s.early (λ e. absurd (f e));
    }

    module _ (h : ℕ) (noted : List ℕ) (r : ℕ) (n : BucketNoted table h o noted r) (a : first ≤ o) where
      pub none_hashed : NoneHashed k keys hashes first r h
      none_hashed = record {
        order = noted_after table h o noted r n first a (s.after (bucket_of h) (omega arith));
        each = λ i b l e g.
            let low = noted_low table h o noted r n in
            let here : get_or table (bucket_of h) 0 ≤ i = rw g at (s.early i b (omega arith) e) in
            omega (arith, noted_earlier table h o noted r n);
      }

      pub buckets_turn : o < length hashes → Bucketed k keys (set hashes o h) first (o + 1) noted
      buckets_turn w = record {
        size = ap length n.noted ∙ length-set table (bucket_of h) r ∙ s.size;
        after = λ b l. rw n.noted (cases (eqb b (bucket_of h))
            (λ e. rw (eqb-true b (bucket_of h) e, get_or-set_same table (bucket_of h) r 0 (omega (arith, s.size)))
            none_hashed.order)
            (λ e. rw (get_or-set_other table (bucket_of h) b r 0 (eqb-false b (bucket_of h) e)) (s.after b l)));
        early = from_next first o
            (λ i b l e. rw (get_or-set_other hashes o i h 0 (λ z. omega (arith, l, z)))
            (omega (arith, noted_within table h o noted r n s.size (bucket_of (get_or hashes i 0)), s.early i b l e)))
            (λ e. rw (get_or-set_same hashes o h 0 w) (noted_here table h o noted r n s.size));
      }
