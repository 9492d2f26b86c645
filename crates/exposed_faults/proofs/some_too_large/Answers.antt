-- `exposed_faults::some_too_large` meets its contract. Assumes nothing.
use Rattle.std.proofs.Common.{◌∙◌, rules, tests}
use Rattle.std.proofs.lemmas.Iterator.{YieldsList-from_slice}
use Rattle.std.proofs.lemmas.Iterator.Search.{any_from_yields_List}
use Rattle.exposition.specs.Values.{too_large}
use Rattle.exposed_faults.proofs.Readings.{any_large}
use Rattle.exposed_faults.proofs.some_too_large.Goals as goal

pub returns : goal.returns
returns c =
    let row = c.args.row.now in
    let slice = YieldsList-from_slice row cc in
    any_from_yields_List too_large _ _ _ c.any.ensures.ran slice (λ x b q k. search (rules, tests)) ∙ any_large row
