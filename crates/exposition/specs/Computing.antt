-- What opens for the text to compute on numerals: a declaration with `computing` on its `unfolding` line sees through all that this names,
-- and all that model's names. Assumes nothing.
use Rattle.model.specs.Computing as Model
use Rattle.exposition.specs.Values.{mantissa, scale, too_large, half_up, rounded, thousandths, thousandths_text, value_text}
use Rattle.exposition.specs.Faults.{is_letter, begins, continues, is_word, leads, more_bytes, lowest, highest, utf8_from}
use Rattle.exposition.specs.Faults.{good_tags, good_labels, some_too_large, fault_of, first_fault}
use Rattle.exposition.specs.Text.{escaped, tag_text, more_tags, braced_tags, labels_text, time_text, sample_text, line_text}
use Rattle.exposition.specs.Text.{lines_text, series_text}

unfoldable pub computing : Unit {0}
unfolding Model.computing mantissa scale too_large half_up rounded thousandths thousandths_text value_text is_letter begins continues
    is_word leads more_bytes lowest highest utf8_from good_tags good_labels some_too_large fault_of first_fault escaped tag_text more_tags
    braced_tags labels_text time_text sample_text line_text lines_text series_text
computing = tt
