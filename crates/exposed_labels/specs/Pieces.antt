-- Pieces of the text: what stands behind a backslash, and a tag behind its brace or comma. Assumes nothing.
use Rattle.std.specs.Prelude.{ℕ, cond, List, [], ◌∷◌, ◌++◌, eqb}
use Rattle.exposition.specs.Text.{tag_text}

-- n for a line feed, else the byte itself
abbrev pub letter : ℕ → ℕ
letter b = cond (eqb b 10) 110 b

abbrev pub led_tag : ℕ → List ℕ → List ℕ → List ℕ
led_tag lead key value = (lead ∷ []) ++ tag_text (record { key = key; value = value })
