-- The key of a record: its hash, and how two are compared. Assumes nothing.
use Prim.Native.Nat.{ℕ}
use mathlib.Core.Path.{◌≡◌, refl, sym, ap, ◌∙◌}
use mathlib.Core.Bool.{Bool, true, false, ◌&&◌}
use Rattle.model.specs.Lists.{cases}
use Rattle.model.specs.Labels.{Labels, same_tags}
use Rattle.model.specs.Edits.{Names}
use Rattle.model.specs.Query.{Matching, key_of}
use Rattle.key_numbers.specs.key_lookup.Keys.{same_names, same_keys, key_hash}
use Rattle.key_numbers.specs.key_lookup.KeyLaws.{same_named, same_key_hash}

-- `same_key`

module _ (named : Bool) (m : Matching) (ns : Names) (l k : Labels) where
  -- keys of different hashes differ
  pub hashes_differ : (g h : ℕ) → g ≡ key_hash named m ns l → h ≡ key_hash named m ns k → (g ≡ h → ⊥)
      → false ≡ same_keys named m ns l k
  hashes_differ g h e f d =
      cases (same_keys named m ns l k) (λ s. absurd (d (e ∙ same_key_hash named m ns l k s ∙ sym f))) (λ s. sym s)

  abbrev tags_alike : Bool
  tags_alike = same_tags (key_of m ns l.tags) (key_of m ns k.tags)

  apart : (b : Bool) → same_keys b m ns l k ≡ (same_names b l k && tags_alike)
  apart true = same_named m ns l k
  apart false = refl

  module _ (t : Bool) (ht : t ≡ same_names named l k) where
    pub names_differ : t ≡ false → t ≡ same_keys named m ns l k
    names_differ e = e ∙ sym (apart named ∙ ap (λ b. b && tags_alike) (sym ht ∙ e))

    pub names_agree : t ≡ true → (r : Bool) → r ≡ same_tags (key_of m ns l.tags) (key_of m ns k.tags)
        → r ≡ same_keys named m ns l k
    names_agree e r hr = hr ∙ sym (apart named ∙ ap (λ b. b && tags_alike) (sym ht ∙ e))
