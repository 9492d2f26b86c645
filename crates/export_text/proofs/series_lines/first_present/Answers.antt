-- `series_lines::first_present` meets its contract. Assumes nothing.
use Rattle.std.proofs.Common.{rules, tests}
use Rattle.std.proofs.lemmas.Iterator.{YieldsList-from_slice}
use Rattle.std.proofs.lemmas.Iterator.Search.{position_from_yields_List}
use Rattle.export_text.proofs.series_lines.Lines.{is_present, first_found}
use Rattle.export_text.proofs.series_lines.first_present.Goals as goal

pub returns : goal.returns
returns c =
    let row = c.args.row.now in
    rw (position_from_yields_List is_present _ _ c.position.result c.position.ensures.ran (YieldsList-from_slice row cc)
    (λ x b q k. search (rules, tests)))
    (first_found row)
