-- `one_of` meets its contract. Assumes nothing.
use Rattle.group_series.proofs.running.Readings.{parts_chosen}
use Rattle.group_series.proofs.running.one_of.Goals as goal

pub returns : goal.returns
returns c = rw (c.pick-4.ensures, c.pick-3.ensures, c.pick-2.ensures, c.pick.ensures)
    (parts_chosen c.args.c c.args.s c.args.t)
