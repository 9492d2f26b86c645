-- What an operator on floats gives of two readings, by what it gives of floats. Assumes nothing.
use Rattle.std.proofs.Common.{◌≡◌, ◌∙◌, sym, ap, refl, ℕ, zero, suc, Bool, false, ◌+◌, ◌<◌, arith}
use Rattle.std.specs.Float.{binary64}
use Rattle.std.specs.Float.Ieee.{Float, of_bits, to_bits}
use Rattle.operator.specs.Kinds.{Arithmetic, Comparison}
use Rattle.model.specs.Reading.{missing, calculated, holds, compared}
use Rattle.reading.specs.Gaps.{gap_of}
use Rattle.reading.proofs.Nan.{calculated_gap}
use Rattle.rows.specs.Floats.{CalculatedBy, ComparedBy}
use Rattle.rows.proofs.comparisons.Comparing.{none, there}

by_gaps : {A : Type 0} (n : ℕ) → (0 < n → A) → (n ≡ 0 → A) → A
by_gaps zero above at = at refl
by_gaps (suc n) above at = above (omega arith)

module _ (a b r : ℕ) where
  abbrev gaps : ℕ
  gaps = gap_of a + gap_of b

  module _ (post : Float → Float → Float → Type 0) (w : CalculatedBy post a b r) (f : Float → Float → Float)
      (gives : (x y z : Float) → post x y z → z ≡ f x y) where
    pub by_floats : (k : Arithmetic) → to_bits binary64 (f (of_bits binary64 a) (of_bits binary64 b)) ≡ calculated k a b
        → r ≡ calculated k a b
    by_floats k e =
        by_gaps (gap_of a + gap_of b) (λ h. w.gap h ∙ sym (calculated_gap k a b h))
        (λ h. let t = w.there h in t.2 ∙ ap (to_bits binary64) (gives _ _ _ t.1) ∙ e)

  module _ (post : Float → Float → Bool → Type 0) (as_bool : Bool) (w : ComparedBy post as_bool a b r)
      (f : Float → Float → Bool) (gives : (x y : Float) (h : Bool) → post x y h → h ≡ f x y) where
    pub by_test : (k : Comparison) → (gap_of a + gap_of b ≡ 0 → f (of_bits binary64 a) (of_bits binary64 b) ≡ holds k a b)
        → (0 < gap_of a + gap_of b → missing b ≡ false → holds k a b ≡ false) → r ≡ compared as_bool k a b
    by_test k e fails =
        by_gaps (gap_of a + gap_of b) (λ h. w.gap h ∙ sym (none a b h as_bool k (fails h)))
        (λ h. let t = w.there h in there as_bool k a b h t.0 (gives _ _ _ t.1 ∙ e h) r t.2)
