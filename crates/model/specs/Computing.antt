-- What opens for the definitions to compute on numerals: a declaration with `computing` on its `unfolding` line sees through all that it
-- names. Assumes nothing.
use Rattle.std.specs.Float.Ieee.{nan_bits, to_bits, of_bits, of_int, add, sub, mul, div, rem, lt, le, eq}
use Rattle.model.specs.Reading.{missing, calculated, equals, holds, compared, scalar_op}
use Rattle.model.specs.Row.{only_missing, zip_with, overlaps, overwritten, merged}
use Rattle.model.specs.Numerals.{digits, digit_count}
use Rattle.model.specs.Labels.{same_bytes, below, ascending, value_of, same_tags, same_labels}
use Rattle.model.specs.Record.{read_field, decode_tags, decode, encode_tags, encode, lookup}
use Rattle.model.specs.Edits.{is_listed, tags_on, tags_ignoring, remove_tags_on, remove_tags_ignoring, insert_tag, without_tag, set_listed, copy_tags, set_tags}
use Rattle.model.specs.Query.{key_of, same_key, names_in, list_in, take_query}
use Rattle.model.specs.Vector.{label_bytes, readings_of, label_part, records_in, series_of, take_vector}
use Rattle.model.specs.Aggregate.{nothing_yet, started, extended, included, with_reading, running_over, value_in, reading_in, aggregated}
use Rattle.model.specs.Aggregation.{remove_group_tags, same_group, take_aggregation}

unfoldable pub computing : Unit {0}
unfolding nan_bits to_bits of_bits of_int add sub mul div rem lt le eq missing calculated equals holds compared scalar_op
    only_missing zip_with overlaps overwritten merged digits digit_count same_bytes below ascending value_of same_tags
    same_labels read_field decode_tags decode encode_tags encode lookup is_listed tags_on tags_ignoring remove_tags_on
    remove_tags_ignoring insert_tag without_tag set_listed copy_tags set_tags key_of same_key names_in list_in take_query label_bytes
    readings_of label_part records_in series_of take_vector nothing_yet started extended included with_reading running_over
    value_in reading_in aggregated remove_group_tags same_group take_aggregation
computing = tt
