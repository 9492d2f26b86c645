-- `long_labels::in_list` meets its contract. Assumes nothing.
use Rattle.std.proofs.Common.{◌≡◌, ◌-◌, drop}
use Rattle.model.specs.Edits.{is_listed}
use Rattle.labels.specs.Names.{names_up_to, names_of}
use Rattle.labels.proofs.long_labels.in_list.Given as goal

abbrev pub invariant-loop : goal.invariant-loop
invariant-loop l = is_listed (names_of l.list) l.label ≡ is_listed (names_up_to (l.end - l.counter) (drop l.p l.list)) l.label
