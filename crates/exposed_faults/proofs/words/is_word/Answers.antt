-- `words::is_word` meets its contract. Assumes nothing.
use Rattle.std.proofs.Common.{rules, tests}
use Rattle.std.proofs.lemmas.Iterator.{YieldsList-from_slice}
use Rattle.std.proofs.lemmas.Iterator.Search.{all_from_yields_List}
use Rattle.exposed_faults.proofs.words.Laws.{follows, behind_first, is_word-empty, is_word-parts}
use Rattle.exposed_faults.proofs.words.is_word.Goals as goal

pub returns-in-empty : goal.returns-in-empty
returns-in-empty c = search is_word-empty

pub returns-else-can_begin : goal.returns-else-can_begin
returns-else-can_begin c =
    let parts = is_word-parts c.args.colon c.args.s.now c.in-len1-up.len_at_least in
    rw (parts, ← c.can_begin.ensures, c.if-can_begin.false)

pub returns-then-can_begin : goal.returns-then-can_begin
returns-then-can_begin c =
    let parts = is_word-parts c.args.colon c.args.s.now c.in-len1-up.len_at_least in
    let slice = YieldsList-from_slice (behind_first c.args.s.now) cc in
    let all = all_from_yields_List (follows c.args.colon) _ _ c.all.result c.all.ensures.ran slice
    (λ x b q k. search (rules, tests)) in
    rw (parts, ← c.can_begin.ensures, c.if-can_begin.true, all)
