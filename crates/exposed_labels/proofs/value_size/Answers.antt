-- `exposed_labels::value_size` meets its contract. Assumes nothing.
use Rattle.std.proofs.Common.{◌≡◌, rules, tests}
use Rattle.std.specs.List.{sum_by}
use Rattle.std.proofs.lemmas.Iterator.{YieldsList-from_slice, YieldsList-from_map}
use Rattle.std.proofs.lemmas.Iterator.Consumers.{sum_by_from_yields_List}
use Rattle.exposed_labels.proofs.Values.{escaped_size, value_measured}
use Rattle.exposed_labels.proofs.value_size.Goals as goal

pub returns : goal.returns
returns c =
    let s = c.args.s.now in
    let total : c.sum.result ≡ sum_by escaped_size s =
    sum_by_from_yields_List escaped_size s c.map.result _ c.sum.ensures.ran
    (YieldsList-from_map _ escaped_size (YieldsList-from_slice s cc) c.map.ensures.closure
    (λ x r q k. search (rules, tests))) in
    value_measured s c.sum.result total c.requires
