-- The texts as runs of writes: room for each piece, and all of them written. Assumes nothing.
use Prim.Native.Nat.{ℕ, ◌≤◌, ◌+◌}
use native.Mathlib.Nat.{zero-add}
use mathlib.Core.List.{List, [], ◌∷◌, ◌++◌}
use lib.ListN.{length}
use Rattle.model.specs.Labels.{Labels}
use Rattle.side_parts.specs.declared.Shape.{Shape}
use Rattle.side_parts.specs.Lent.{shape_of}
use Rattle.writing.specs.Written.{Put}
use Rattle.writing.proofs.Written.{Rest, rest_start}
use Rattle.model.specs.Numerals.{digits, decimal}
use Rattle.vecop_run.specs.label_text.LabelText.{labels_text}
use Rattle.vecop_run.specs.outcome_text.Text.{reading_text, row_text, line_text, lines_text, two_numbers}
use Rattle.vecop_run.specs.outcome_text.Text.{number_text, sizes_text, answer_text, refusal_text}
use Rattle.writing.proofs.Runs.{piece_room, piece_put, last_room, last_put}

-- a reading
module _ (x : ℕ) (d : List ℕ) (at : ℕ) (room : at + length (reading_text x) ≤ length d) where
  reading_left_1 : Rest d at (reading_text x) d at ((32 ∷ []) ++ (digits 16 16 x))
  unfolding reading_text
  reading_left_1 = rest_start d at (reading_text x) room

  pub reading_1 : at + 1 ≤ length d
  reading_1 = piece_room d at (reading_text x) d at (32 ∷ []) (digits 16 16 x) reading_left_1

  module _ (d₁ : List ℕ) (o₁ : ℕ) (p₁ : Put d at (32 ∷ []) d₁ o₁) where
    reading_left_2 : Rest d at (reading_text x) d₁ o₁ (digits 16 16 x)
    reading_left_2 = piece_put d at (reading_text x) d at (32 ∷ []) (digits 16 16 x) reading_left_1 d₁ o₁ p₁

    pub reading_2 : o₁ + length (digits 16 16 x) ≤ length d₁
    reading_2 = last_room d at (reading_text x) d₁ o₁ (digits 16 16 x) reading_left_2

    pub reading_put : (e : List ℕ) (r : ℕ) → Put d₁ o₁ (digits 16 16 x) e r → Put d at (reading_text x) e r
    reading_put e r q = last_put d at (reading_text x) d₁ o₁ (digits 16 16 x) reading_left_2 e r q

-- a line
module _ (l : Labels) (row : List ℕ) (d : List ℕ) (at : ℕ) (room : at + length (line_text l row) ≤ length d) where
  line_left_1 : Rest d at (line_text l row) d at ((labels_text l) ++ ((row_text row) ++ (10 ∷ [])))
  unfolding line_text
  line_left_1 = rest_start d at (line_text l row) room

  pub line_1 : at + length (labels_text l) ≤ length d
  line_1 = piece_room d at (line_text l row) d at (labels_text l) ((row_text row) ++ (10 ∷ [])) line_left_1

  module _ (d₁ : List ℕ) (o₁ : ℕ) (p₁ : Put d at (labels_text l) d₁ o₁) where
    line_left_2 : Rest d at (line_text l row) d₁ o₁ ((row_text row) ++ (10 ∷ []))
    line_left_2 = piece_put d at (line_text l row) d at (labels_text l) ((row_text row) ++ (10 ∷ [])) line_left_1 d₁ o₁ p₁

    pub line_2 : o₁ + length (row_text row) ≤ length d₁
    line_2 = piece_room d at (line_text l row) d₁ o₁ (row_text row) (10 ∷ []) line_left_2

    module _ (d₂ : List ℕ) (o₂ : ℕ) (p₂ : Put d₁ o₁ (row_text row) d₂ o₂) where
      line_left_3 : Rest d at (line_text l row) d₂ o₂ (10 ∷ [])
      line_left_3 = piece_put d at (line_text l row) d₁ o₁ (row_text row) (10 ∷ []) line_left_2 d₂ o₂ p₂

      pub line_3 : o₂ + 1 ≤ length d₂
      line_3 = last_room d at (line_text l row) d₂ o₂ (10 ∷ []) line_left_3

      pub line_put : (e : List ℕ) (r : ℕ) → Put d₂ o₂ (10 ∷ []) e r → Put d at (line_text l row) e r
      line_put e r q = last_put d at (line_text l row) d₂ o₂ (10 ∷ []) line_left_3 e r q

-- two numbers
module _ (a b : ℕ) (d : List ℕ) (at : ℕ) (room : at + length (two_numbers a b) ≤ length d) where
  two_numbers_left_1 : Rest d at (two_numbers a b) d at ((decimal a) ++ ((32 ∷ []) ++ ((decimal b) ++ (10 ∷ []))))
  unfolding two_numbers
  two_numbers_left_1 = rest_start d at (two_numbers a b) room

  pub two_numbers_1 : at + length (decimal a) ≤ length d
  two_numbers_1 = piece_room d at (two_numbers a b) d at (decimal a) ((32 ∷ []) ++ ((decimal b) ++ (10 ∷ []))) two_numbers_left_1

  module _ (d₁ : List ℕ) (o₁ : ℕ) (p₁ : Put d at (decimal a) d₁ o₁) where
    two_numbers_left_2 : Rest d at (two_numbers a b) d₁ o₁ ((32 ∷ []) ++ ((decimal b) ++ (10 ∷ [])))
    two_numbers_left_2 = piece_put d at (two_numbers a b) d at (decimal a) ((32 ∷ []) ++ ((decimal b) ++ (10 ∷ []))) two_numbers_left_1 d₁ o₁ p₁

    pub two_numbers_2 : o₁ + 1 ≤ length d₁
    two_numbers_2 = piece_room d at (two_numbers a b) d₁ o₁ (32 ∷ []) ((decimal b) ++ (10 ∷ [])) two_numbers_left_2

    module _ (d₂ : List ℕ) (o₂ : ℕ) (p₂ : Put d₁ o₁ (32 ∷ []) d₂ o₂) where
      two_numbers_left_3 : Rest d at (two_numbers a b) d₂ o₂ ((decimal b) ++ (10 ∷ []))
      two_numbers_left_3 = piece_put d at (two_numbers a b) d₁ o₁ (32 ∷ []) ((decimal b) ++ (10 ∷ [])) two_numbers_left_2 d₂ o₂ p₂

      pub two_numbers_3 : o₂ + length (decimal b) ≤ length d₂
      two_numbers_3 = piece_room d at (two_numbers a b) d₂ o₂ (decimal b) (10 ∷ []) two_numbers_left_3

      module _ (d₃ : List ℕ) (o₃ : ℕ) (p₃ : Put d₂ o₂ (decimal b) d₃ o₃) where
        two_numbers_left_4 : Rest d at (two_numbers a b) d₃ o₃ (10 ∷ [])
        two_numbers_left_4 = piece_put d at (two_numbers a b) d₂ o₂ (decimal b) (10 ∷ []) two_numbers_left_3 d₃ o₃ p₃

        pub two_numbers_4 : o₃ + 1 ≤ length d₃
        two_numbers_4 = last_room d at (two_numbers a b) d₃ o₃ (10 ∷ []) two_numbers_left_4

        pub two_numbers_put : (e : List ℕ) (r : ℕ) → Put d₃ o₃ (10 ∷ []) e r → Put d at (two_numbers a b) e r
        two_numbers_put e r q = last_put d at (two_numbers a b) d₃ o₃ (10 ∷ []) two_numbers_left_4 e r q

-- a number and a space
module _ (a : ℕ) (d : List ℕ) (at : ℕ) (room : at + length (number_text a) ≤ length d) where
  number_left_1 : Rest d at (number_text a) d at ((decimal a) ++ (32 ∷ []))
  unfolding number_text
  number_left_1 = rest_start d at (number_text a) room

  pub number_1 : at + length (decimal a) ≤ length d
  number_1 = piece_room d at (number_text a) d at (decimal a) (32 ∷ []) number_left_1

  module _ (d₁ : List ℕ) (o₁ : ℕ) (p₁ : Put d at (decimal a) d₁ o₁) where
    number_left_2 : Rest d at (number_text a) d₁ o₁ (32 ∷ [])
    number_left_2 = piece_put d at (number_text a) d at (decimal a) (32 ∷ []) number_left_1 d₁ o₁ p₁

    pub number_2 : o₁ + 1 ≤ length d₁
    number_2 = last_room d at (number_text a) d₁ o₁ (32 ∷ []) number_left_2

    pub number_put : (e : List ℕ) (r : ℕ) → Put d₁ o₁ (32 ∷ []) e r → Put d at (number_text a) e r
    number_put e r q = last_put d at (number_text a) d₁ o₁ (32 ∷ []) number_left_2 e r q

-- what an answer is
module _ (n : ℕ) (shape : Shape) (d : List ℕ) (at : ℕ) (room : at + length (sizes_text n (shape_of shape)) ≤ length d) where
  sizes_left_1 : Rest d at (sizes_text n (shape_of shape)) d at
      ((number_text n) ++ ((number_text shape.points) ++ (two_numbers shape.start shape.step)))
  unfolding sizes_text
  sizes_left_1 = rest_start d at (sizes_text n (shape_of shape)) room

  pub sizes_1 : at + length (number_text n) ≤ length d
  sizes_1 = piece_room d at (sizes_text n (shape_of shape)) d at (number_text n)
      ((number_text shape.points) ++ (two_numbers shape.start shape.step)) sizes_left_1

  module _ (d₁ : List ℕ) (o₁ : ℕ) (p₁ : Put d at (number_text n) d₁ o₁) where
    sizes_left_2 : Rest d at (sizes_text n (shape_of shape)) d₁ o₁ ((number_text shape.points) ++ (two_numbers shape.start shape.step))
    sizes_left_2 = piece_put d at (sizes_text n (shape_of shape)) d at (number_text n)
        ((number_text shape.points) ++ (two_numbers shape.start shape.step)) sizes_left_1 d₁ o₁ p₁

    pub sizes_2 : o₁ + length (number_text shape.points) ≤ length d₁
    sizes_2 = piece_room d at (sizes_text n (shape_of shape)) d₁ o₁ (number_text shape.points) (two_numbers shape.start shape.step) sizes_left_2

    module _ (d₂ : List ℕ) (o₂ : ℕ) (p₂ : Put d₁ o₁ (number_text shape.points) d₂ o₂) where
      sizes_left_3 : Rest d at (sizes_text n (shape_of shape)) d₂ o₂ (two_numbers shape.start shape.step)
      sizes_left_3 = piece_put d at (sizes_text n (shape_of shape)) d₁ o₁ (number_text shape.points)
          (two_numbers shape.start shape.step) sizes_left_2 d₂ o₂ p₂

      pub sizes_3 : o₂ + length (two_numbers shape.start shape.step) ≤ length d₂
      sizes_3 = last_room d at (sizes_text n (shape_of shape)) d₂ o₂ (two_numbers shape.start shape.step) sizes_left_3

      pub sizes_put : (e : List ℕ) (r : ℕ) → Put d₂ o₂ (two_numbers shape.start shape.step) e r → Put d at (sizes_text n (shape_of shape)) e r
      sizes_put e r q = last_put d at (sizes_text n (shape_of shape)) d₂ o₂ (two_numbers shape.start shape.step) sizes_left_3 e r q

-- an answer
module _ (n : ℕ) (shape : Shape) (x y : List ℕ) (d : List ℕ) (room : length (answer_text n (shape_of shape) x y) ≤ length d) where
  answer_left_1 : Rest d 0 (answer_text n (shape_of shape) x y) d 0
      ((97 ∷ 110 ∷ 115 ∷ 119 ∷ 101 ∷ 114 ∷ 32 ∷ []) ++ ((sizes_text n (shape_of shape)) ++ (lines_text n shape.points x y)))
  unfolding answer_text
  answer_left_1 = rest_start d 0 (answer_text n (shape_of shape) x y) (rw zero-add room)

  pub answer_1 : 0 + 7 ≤ length d
  answer_1 = piece_room d 0 (answer_text n (shape_of shape) x y) d 0 (97 ∷ 110 ∷ 115 ∷ 119 ∷ 101 ∷ 114 ∷ 32 ∷ [])
      ((sizes_text n (shape_of shape)) ++ (lines_text n shape.points x y)) answer_left_1

  module _ (d₁ : List ℕ) (o₁ : ℕ) (p₁ : Put d 0 (97 ∷ 110 ∷ 115 ∷ 119 ∷ 101 ∷ 114 ∷ 32 ∷ []) d₁ o₁) where
    answer_left_2 : Rest d 0 (answer_text n (shape_of shape) x y) d₁ o₁ ((sizes_text n (shape_of shape)) ++ (lines_text n shape.points x y))
    answer_left_2 = piece_put d 0 (answer_text n (shape_of shape) x y) d 0 (97 ∷ 110 ∷ 115 ∷ 119 ∷ 101 ∷ 114 ∷ 32 ∷ [])
        ((sizes_text n (shape_of shape)) ++ (lines_text n shape.points x y)) answer_left_1 d₁ o₁ p₁

    pub answer_2 : o₁ + length (sizes_text n (shape_of shape)) ≤ length d₁
    answer_2 = piece_room d 0 (answer_text n (shape_of shape) x y) d₁ o₁ (sizes_text n (shape_of shape)) (lines_text n shape.points x y) answer_left_2

    module _ (d₂ : List ℕ) (o₂ : ℕ) (p₂ : Put d₁ o₁ (sizes_text n (shape_of shape)) d₂ o₂) where
      answer_left_3 : Rest d 0 (answer_text n (shape_of shape) x y) d₂ o₂ (lines_text n shape.points x y)
      answer_left_3 = piece_put d 0 (answer_text n (shape_of shape) x y) d₁ o₁ (sizes_text n (shape_of shape))
          (lines_text n shape.points x y) answer_left_2 d₂ o₂ p₂

      pub answer_3 : o₂ + length (lines_text n shape.points x y) ≤ length d₂
      answer_3 = last_room d 0 (answer_text n (shape_of shape) x y) d₂ o₂ (lines_text n shape.points x y) answer_left_3

      pub answer_put : (e : List ℕ) (r : ℕ) → Put d₂ o₂ (lines_text n shape.points x y) e r → Put d 0 (answer_text n (shape_of shape) x y) e r
      answer_put e r q = last_put d 0 (answer_text n (shape_of shape) x y) d₂ o₂ (lines_text n shape.points x y) answer_left_3 e r q

-- a refusal
module _ (k a b : ℕ) (d : List ℕ) (room : length (refusal_text k a b) ≤ length d) where
  refusal_left_1 : Rest d 0 (refusal_text k a b) d 0 ((114 ∷ 101 ∷ 102 ∷ 117 ∷ 115 ∷ 101 ∷ 100 ∷ 32 ∷ []) ++ ((number_text k) ++ (two_numbers a b)))
  unfolding refusal_text
  refusal_left_1 = rest_start d 0 (refusal_text k a b) (rw zero-add room)

  pub refusal_1 : 0 + 8 ≤ length d
  refusal_1 = piece_room d 0 (refusal_text k a b) d 0 (114 ∷ 101 ∷ 102 ∷ 117 ∷ 115 ∷ 101 ∷ 100 ∷ 32 ∷ [])
      ((number_text k) ++ (two_numbers a b)) refusal_left_1

  module _ (d₁ : List ℕ) (o₁ : ℕ) (p₁ : Put d 0 (114 ∷ 101 ∷ 102 ∷ 117 ∷ 115 ∷ 101 ∷ 100 ∷ 32 ∷ []) d₁ o₁) where
    refusal_left_2 : Rest d 0 (refusal_text k a b) d₁ o₁ ((number_text k) ++ (two_numbers a b))
    refusal_left_2 = piece_put d 0 (refusal_text k a b) d 0 (114 ∷ 101 ∷ 102 ∷ 117 ∷ 115 ∷ 101 ∷ 100 ∷ 32 ∷ [])
        ((number_text k) ++ (two_numbers a b)) refusal_left_1 d₁ o₁ p₁

    pub refusal_2 : o₁ + length (number_text k) ≤ length d₁
    refusal_2 = piece_room d 0 (refusal_text k a b) d₁ o₁ (number_text k) (two_numbers a b) refusal_left_2

    module _ (d₂ : List ℕ) (o₂ : ℕ) (p₂ : Put d₁ o₁ (number_text k) d₂ o₂) where
      refusal_left_3 : Rest d 0 (refusal_text k a b) d₂ o₂ (two_numbers a b)
      refusal_left_3 = piece_put d 0 (refusal_text k a b) d₁ o₁ (number_text k) (two_numbers a b) refusal_left_2 d₂ o₂ p₂

      pub refusal_3 : o₂ + length (two_numbers a b) ≤ length d₂
      refusal_3 = last_room d 0 (refusal_text k a b) d₂ o₂ (two_numbers a b) refusal_left_3

      pub refusal_put : (e : List ℕ) (r : ℕ) → Put d₂ o₂ (two_numbers a b) e r → Put d 0 (refusal_text k a b) e r
      refusal_put e r q = last_put d 0 (refusal_text k a b) d₂ o₂ (two_numbers a b) refusal_left_3 e r q
