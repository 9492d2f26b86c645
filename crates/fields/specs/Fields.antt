-- Where a field stands in bytes. Assumes nothing.
use Rattle.std.specs.Prelude.{ℕ, ◌+◌, ◌-◌, List, cond, length, get_or, ltb, leb, Some, None}
use Rattle.std.specs.declared.option.Option.{Option}
use Rattle.fields.specs.declared.Span.{Span}

-- the field from a start to an end
abbrev pub some_span : ℕ → ℕ → Option Span
some_span start end = Some (record { start = start; end = end })

-- the field whose length byte stands at a place
abbrev pub field_at : List ℕ → ℕ → Option Span
field_at s at =
    cond (ltb at (length s))
    (cond (leb (get_or s at 0) (length s - (at + 1))) (some_span (at + 1) (at + 1 + get_or s at 0)) None)
    None
