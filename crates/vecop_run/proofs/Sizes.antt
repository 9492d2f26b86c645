-- How long a text is at most: 3 bytes a label byte, 17 a reading, and the first line. Assumes nothing.
use Prim.Native.Nat.{ℕ, zero, suc, ◌+◌, ◌*◌, ◌≤◌}
use mathlib.Core.Path.{◌≡◌, refl, sym, ap, ◌∙◌}
use mathlib.Core.List.{List, [], ◌∷◌, ◌++◌}
use native.Mathlib.Omega.{arith}
use lib.ListN.{length, take, drop, length-append, take-append-drop}
use Rattle.model.specs.Lists.{cases}
use Rattle.model.specs.Labels.{Tag, Labels}
use Rattle.model.specs.Vector.{Shape}
use Rattle.model.specs.Record.{Decoded, decoded, cut, bad_key, decode, encode_field, encode_tags, encode}
use Rattle.model.proofs.Laws.Record.{decode_is}
use Rattle.model.specs.Numerals.{decimal}
use Rattle.numerals.proofs.Digits.{digits_length}
use Rattle.numerals.proofs.Counts.{decimal_most}
use Rattle.vecop_run.specs.label_text.LabelText.{is_plain, escaped, escaped_all, tag_text, more_tags, tags_text, braced_tags, labels_text}
use Rattle.vecop_run.specs.outcome_text.Text.{reading_text, row_text, line_text, on_record, lines_text, two_numbers}
use Rattle.vecop_run.specs.outcome_text.Text.{number_text, sizes_text, answer_text, refusal_text}

escaped_size : (b : ℕ) → length (escaped b) ≤ 3
unfolding escaped
escaped_size b =
    cases (is_plain b)
    (λ e. rw e (omega arith))
    (λ e. rw e (omega (arith, digits_length 16 2 b)))

field_size : (s : List ℕ) → length (escaped_all s) ≤ 3 * length s
field_size [] = omega arith
field_size (b ∷ s) = omega (arith, length-append (escaped b) (escaped_all s), escaped_size b, field_size s)

tag_size : (t : Tag) → length (tag_text t) ≤ 3 * (length t.key + length t.value) + 3
unfolding tag_text
tag_size t =
    omega (
      arith,
      length-append (escaped_all t.key) ((61 ∷ 34 ∷ []) ++ (escaped_all t.value ++ (34 ∷ []))),
      length-append (escaped_all t.value)
          (34 ∷ []),
      field_size t.key,
      field_size t.value,
    )

encoded_size : (t : Tag) (ts : List Tag) → length (encode_tags (t ∷ ts)) ≡ 2 + (length t.key + length t.value) + length (encode_tags ts)
unfolding encode_tags
encoded_size t ts =
    omega (
      arith,
      length-append (encode_field t.key) (encode_field t.value ++ encode_tags ts),
      length-append
          (encode_field t.value) (encode_tags ts),
    )

more_size : (ts : List Tag) → length (more_tags ts) ≤ 3 * length (encode_tags ts)
unfolding more_tags
more_size [] = omega arith
more_size (t ∷ ts) =
    omega (arith, length-append ((44 ∷ []) ++ tag_text t) (more_tags ts), tag_size t, encoded_size t ts, more_size ts)

tags_size : (ts : List Tag) → length (tags_text ts) ≤ 3 * length (encode_tags ts)
tags_size [] = omega arith
tags_size (t ∷ ts) = omega (arith, length-append (tag_text t) (more_tags ts), tag_size t, encoded_size t ts, more_size ts)

labels_size_lem : (l : Labels) → length (labels_text l) + 1 ≤ 3 * length (encode l)
unfolding labels_text braced_tags encode
labels_size_lem l =
    omega (
      arith,
      length-append (escaped_all l.name) ((123 ∷ []) ++ (tags_text l.tags ++ (125 ∷ []))),
      length-append (tags_text l.tags)
          (125 ∷ []),
      field_size l.name,
      tags_size l.tags,
      length-append (encode_field l.name) (length l.tags ∷ encode_tags l.tags),
    )

reading_size : (x : ℕ) → length (reading_text x) ≡ 17
unfolding reading_text
reading_size x = omega (arith, digits_length 16 16 x)

row_size : (row : List ℕ) → length (row_text row) ≡ 17 * length row
row_size [] = refl
row_size (x ∷ row) = omega (arith, length-append (reading_text x) (row_text row), reading_size x, row_size row)

line_size : (l : Labels) (row : List ℕ) → length (line_text l row) ≤ 3 * length (encode l) + 17 * length row
unfolding line_text
line_size l row =
    omega (arith, length-append (labels_text l) (row_text row ++ (10 ∷ [])), length-append (row_text row) (10 ∷ []), labels_size_lem l, row_size row)

parted : (p : ℕ) (y : List ℕ) → length (take p y) + length (drop p y) ≡ length y
parted p y = sym (length-append (take p y) (drop p y)) ∙ ap length (take-append-drop p y)

lines_size : (n p : ℕ) (x y : List ℕ) → length (lines_text n p x y) ≤ 3 * length x + 17 * length y
unfolding lines_text
lines_size zero p x y = omega arith
lines_size (suc n) p x y = go (decode x) refl (λ rest. lines_size n p rest (drop p y))
  where
    go : (d : Decoded) → decode x ≡ d → ((rest : List ℕ) → length (lines_text n p rest (drop p y)) ≤ 3 * length rest + 17 * length (drop p y))
        → length (on_record d (λ l rest. line_text l (take p y) ++ lines_text n p rest (drop p y))) ≤ 3 * length x + 17 * length y
    go (decoded l rest) e h =
        let b : x ≡ encode l ++ rest = (decode_is x l rest e).bytes in
        omega (
          arith,
          ap length b,
          length-append (encode l) rest,
          length-append (line_text l (take p y)) (lines_text n p rest (drop p y)),
          line_size l
              (take p y),
          h rest,
          parted p y,
        )
    go cut e h = omega arith
    go bad_key e h = omega arith

two_size : (a b : ℕ) → length (two_numbers a b) ≤ 42
unfolding two_numbers
two_size a b =
    omega (
      arith,
      length-append (decimal a) ((32 ∷ []) ++ (decimal b ++ (10 ∷ []))),
      length-append (decimal b) (10 ∷ []),
      decimal_most a,
      decimal_most b,
    )

number_size : (a : ℕ) → length (number_text a) ≤ 21
unfolding number_text
number_size a = omega (arith, length-append (decimal a) (32 ∷ []), decimal_most a)

sizes_size : (n : ℕ) (shape : Shape) → length (sizes_text n shape) ≤ 84
unfolding sizes_text
sizes_size n shape =
    omega (
      arith,
      length-append (number_text n) (number_text shape.points ++ two_numbers shape.start shape.step),
      length-append (number_text shape.points) (two_numbers shape.start shape.step),
      number_size n,
      number_size shape.points,
      two_size shape.start shape.step,
    )

pub answer_size : (n : ℕ) (shape : Shape) (x y : List ℕ) → length (answer_text n shape x y) ≤ 91 + 3 * length x + 17 * length y
unfolding answer_text
answer_size n shape x y =
    omega (
      arith,
      length-append (sizes_text n shape) (lines_text n shape.points x y),
      sizes_size n shape,
      lines_size n shape.points x y,
    )

pub refusal_size : (k a b : ℕ) → length (refusal_text k a b) ≤ 71
unfolding refusal_text
refusal_size k a b =
    omega (arith, length-append (number_text k) (two_numbers a b), number_size k, two_size a b)
