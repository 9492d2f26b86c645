-- What the program `vecop` prints for an input. Assumes nothing.
use Rattle.std.specs.Prelude.{ℕ, List}
use Rattle.semantics.specs.Call.{Outcome, call}
use Rattle.vecop_run.specs.frame.Frames.{Framed, unreadable, three, framed}
use Rattle.vecop_run.specs.frame.Sides.{labels_in, readings_in}
use Rattle.vecop_run.specs.outcome_text.Text.{unreadable_text, printed}

-- 01: Its output parts hold 65,535 label bytes and 8,192 readings.
abbrev pub ran : List ℕ → List ℕ → List ℕ → List ℕ → List ℕ → Outcome
ran query left_labels left_readings right_labels right_readings =
    call query left_labels left_readings right_labels right_readings 65535 8192

abbrev pub called : List ℕ → List ℕ → List ℕ → Outcome
called query left right = ran query (labels_in left) (readings_in left) (labels_in right) (readings_in right)

abbrev pub text_of : Framed → List ℕ
text_of unreadable = unreadable_text
text_of (three query left right) = printed (called query left right)

-- 01: `unreadable`, before any refusal
abbrev pub vecop_text : List ℕ → List ℕ
vecop_text input = text_of (framed input)

-- room for every text: 91 bytes of the first line, 3 a label byte, 17 a reading
abbrev pub max_text : ℕ
max_text = 335960
