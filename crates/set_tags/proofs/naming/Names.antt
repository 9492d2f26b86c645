-- `naming_of`, `naming_size` and `put_naming`, way by way. Assumes nothing.
use Prim.Native.Nat.{ℕ, ◌+◌, ◌≤◌}
use mathlib.Core.Path.{◌≡◌}
use mathlib.Core.Bool.{Bool, true, false, cond}
use mathlib.Core.List.{List, [], ◌∷◌}
use lib.ListN.{length}
use Rattle.model.specs.Labels.{name_label}
use Rattle.model.specs.Record.{encode_field}
use Rattle.model.specs.Edits.{Names, is_listed}
use Rattle.record_tags.specs.Lenient.{labels_of}
use Rattle.writing.specs.Written.{Put}
use Rattle.set_tags.specs.naming.Namings.{naming_of, name_of}
use Rattle.set_tags.specs.declared.naming.Naming.{Naming}
use Rattle.set_tags.specs.declared.naming.Naming.TheVariants.{Nobody, Many, Source}

module _ (join skip : Names) (reset : Bool) (r : Bool) (hr : r ≡ is_listed skip name_label) where
  pub skipped_name : r ≡ true → (n : Naming) → n ≡ cond reset Nobody Many → n ≡ naming_of join skip reset
  skipped_name e n hn = rw (← hr, e) hn

  module _ (er : r ≡ false) (s : Bool) (hs : s ≡ is_listed join name_label) where
    pub source_name : s ≡ true → Source ≡ naming_of join skip reset
    source_name e = rw (← hr, er, ← hs, e)

    pub own_name : s ≡ false → (n : Naming) → n ≡ cond reset Nobody Many → n ≡ naming_of join skip reset
    own_name e n hn = rw (← hr, er, ← hs, e) hn

module _ (naming : Naming) (many source : List ℕ) where
  pub nobody_size : naming ≡ Nobody → 1 ≡ length (encode_field (name_of naming many source))
  nobody_size e = rw e

  pub many_size : naming ≡ Many → (n : ℕ) → n ≡ length (encode_field (labels_of many).name) → n ≡ length (encode_field (name_of naming many source))
  many_size e n h = rw e h

  pub source_size : naming ≡ Source → (n : ℕ) → n ≡ length (encode_field (labels_of source).name) → n ≡ length (encode_field (name_of naming many source))
  source_size e n h = rw e h

  module _ (d : List ℕ) (at : ℕ) where
    module _ (room : at + length (encode_field (name_of naming many source)) ≤ length d) where
      pub nobody_room : naming ≡ Nobody → at + 1 ≤ length d
      nobody_room e = rw e at room

      pub many_room : naming ≡ Many → at + length (encode_field (labels_of many).name) ≤ length d
      many_room e = rw e at room

      pub source_room : naming ≡ Source → at + length (encode_field (labels_of source).name) ≤ length d
      source_room e = rw e at room

    module _ (d' : List ℕ) (r : ℕ) where
      pub nobody_put : naming ≡ Nobody → Put d at (0 ∷ []) d' r → Put d at (encode_field (name_of naming many source)) d' r
      nobody_put e p = rw e p

      pub many_put : naming ≡ Many → Put d at (encode_field (labels_of many).name) d' r → Put d at (encode_field (name_of naming many source)) d' r
      many_put e p = rw e p

      pub source_put : naming ≡ Source → Put d at (encode_field (labels_of source).name) d' r → Put d at (encode_field (name_of naming many source)) d' r
      source_put e p = rw e p
