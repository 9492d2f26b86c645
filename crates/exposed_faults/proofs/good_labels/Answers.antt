-- `exposed_faults::good_labels` meets its contract. Assumes nothing.
use Rattle.std.proofs.Common.{rules, tests}
use Rattle.std.proofs.lemmas.Iterator.Consumers.{YieldsList-from_first}
use Rattle.std.proofs.lemmas.Iterator.Search.{all_from_yields_List}
use Rattle.record_tags.specs.Lenient.{labels_of}
use Rattle.record_tags.specs.Cursors.{tag_of, tags_left}
use Rattle.exposition.specs.Faults.{good_tag}
use Rattle.exposed_faults.proofs.Labels.{labels_judged}
use Rattle.exposed_faults.proofs.good_labels.Goals as goal

pub returns-then-is_word : goal.returns-then-is_word
returns-then-is_word c =
    let tags = YieldsList-from_first tag_of tags_left (labels_of c.args.rec.now).tags c.tags_of.ensures.tags in
    let all = all_from_yields_List good_tag c.all.new.self _ c.all.result c.all.ensures.ran tags (λ x b q k. search (rules, tests)) in
    rw (labels_judged (labels_of c.args.rec.now), ← c.name_of.ensures, ← c.is_word.ensures, c.if-is_word.true, all)

pub returns-else-is_word : goal.returns-else-is_word
returns-else-is_word c =
    rw (labels_judged (labels_of c.args.rec.now), ← c.name_of.ensures, ← c.is_word.ensures, c.if-is_word.false)
