-- What reading a record at a place answers, with 01's numbers. Assumes nothing.
use Rattle.std.specs.Prelude.{ℕ, ◌-◌, List, Bool, ◌&&◌, cond, length}
use Rattle.std.specs.declared.result.Result.{Result}
use Rattle.std.specs.declared.result.Result.TheVariants.{Ok, Err}
use Rattle.model.specs.Labels.{ascending}
use Rattle.model.specs.Record.{RawTags, cut_tags, raw_tags, Decoded, decoded, cut, bad_key}
use Rattle.label_records.specs.declared.RecordFault.{RecordFault}
use Rattle.label_records.specs.declared.RecordFault.TheVariants.{Cut, BadKey}

-- where the bytes behind a record start, or 01's number
pub data RecordAnswer : Type 0 where
  behind : ℕ → RecordAnswer
  refusal : ℕ → RecordAnswer

-- the code's answers. 01: 3, a record cut or over 32 tags; 4, an empty key, key order or `__name__`.
abbrev pub record_answer : Result ℕ RecordFault → RecordAnswer
record_answer (Ok next) = behind next
record_answer (Err Cut) = refusal 3
record_answer (Err BadKey) = refusal 4

-- the answer for a record among `size` bytes, by what is decoded there
abbrev pub decoded_answer : ℕ → Decoded → RecordAnswer
decoded_answer size (decoded l rest) = behind (size - length rest)
decoded_answer size cut = refusal 3
decoded_answer size bad_key = refusal 4

-- tags behind the key p, where those up to p were found good or not
abbrev pub tags_judged : ℕ → Bool → List ℕ → RawTags → Result ℕ RecordFault
tags_judged size good p cut_tags = Err Cut
tags_judged size good p (raw_tags ts rest) = cond (good && ascending p ts) (Ok (size - length rest)) (Err BadKey)
