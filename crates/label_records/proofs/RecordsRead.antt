-- `read_record`: each way out of it. Assumes nothing.
use Prim.Native.Nat.{ℕ, ◌≤◌, ◌<◌, ◌+◌, ◌-◌}
use mathlib.Core.Path.{◌≡◌, refl, sym, ap, ◌∙◌}
use mathlib.Core.List.{List, []}
use mathlib.Core.Bool.{Bool, true, false, cond}
use native.Mathlib.Numerals.{add-one}
use lib.ListN.{length, get_or, take, drop, drop_of_length-le}
use lib.Seq.{drop-cons}
use borrow.Author.Tests.{le-leb, lt-leb}
use Rattle.std.specs.Prelude.{Some, None}
use Rattle.std.specs.declared.option.Option.{Option}
use Rattle.std.specs.declared.result.Result.{Result}
use Rattle.std.specs.declared.result.Result.TheVariants.{Ok, Err}
use Rattle.model.specs.Labels.{ascending}
use Rattle.model.specs.Record.{RawTags, cut_tags, raw_tags, decode_tags, judged, decode, decoded, bad_key}
use Rattle.fields.specs.Fields.{field_at}
use Rattle.label_records.specs.Records.{record_answer, decoded_answer, tags_judged}
use Rattle.fields.specs.declared.Span.{Span}
use Rattle.label_records.specs.declared.RecordFault.{RecordFault}
use Rattle.label_records.specs.declared.RecordFault.TheVariants.{Cut, BadKey}
use Rattle.fields.proofs.Fields.{placed, unplaced}

-- a record comes to what its tags come to
judged_as : (size : ℕ) (x : List ℕ) (w : RawTags) → decoded_answer size (judged x w) ≡ record_answer (tags_judged size true [] w)
judged_as size x cut_tags = refl
judged_as size x (raw_tags ts r) = go (ascending [] ts)
  where
    go : (b : Bool) → decoded_answer size (cond b (decoded (record { name = x; tags = ts }) r) bad_key)
        ≡ record_answer (cond b (Ok (size - length r)) (Err BadKey))
    go true = refl
    go false = refl

module _ (s : List ℕ) (at : ℕ) where
  -- r is the answer for the record at the place
  abbrev Answers : Result ℕ RecordFault → Type 0
  Answers r = record_answer r ≡ decoded_answer (length s) (decode (drop at s))

  pub record_unnamed : (x : Option Span) → x ≡ field_at s at → x ≡ None → Answers (Err Cut)
  unfolding decode
  record_unnamed x hx e = rw (unplaced s at x hx e)

  module _ (x : Option Span) (a : Span) (hx : x ≡ field_at s at) (ex : x ≡ Some a) where
    pub record_uncounted : length s ≤ a.end → Answers (Err Cut)
    unfolding decode
    record_uncounted h = rw ((placed s at a.start a.end x hx ex).read, drop_of_length-le s h)

    pub record_many : a.end < length s → 32 < get_or s a.end 0 → Answers (Err Cut)
    unfolding decode
    record_many h m = rw ((placed s at a.start a.end x hx ex).read, drop-cons s a.end 0 h, lt-leb (get_or s a.end 0) 32 m)

    tagged : a.end < length s → get_or s a.end 0 ≤ 32
        → decode (drop at s) ≡ judged (take (a.end - a.start) (drop a.start s)) (decode_tags (get_or s a.end 0) (drop (a.end + 1) s))
    unfolding decode
    tagged h m = rw ((placed s at a.start a.end x hx ex).read, drop-cons s a.end 0 h, le-leb (get_or s a.end 0) 32 m, add-one)

    pub record_judged : (r : Result ℕ RecordFault) (n : ℕ) → a.end < length s → n ≡ get_or s a.end 0 → n ≤ 32
        → r ≡ tags_judged (length s) true [] (decode_tags n (drop (a.end + 1) s)) → Answers r
    record_judged r n h hn m hr =
        let tags = decode_tags (get_or s a.end 0) (drop (a.end + 1) s) in
        let judged : r ≡ tags_judged (length s) true [] tags = rw hn at hr in
        ap record_answer judged ∙ sym (rw (tagged h (rw hn at m)) (judged_as (length s) (take (a.end - a.start) (drop a.start s)) tags))
