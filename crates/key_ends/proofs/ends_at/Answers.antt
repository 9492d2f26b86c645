-- `ends_at` meets its contract. Assumes nothing.
use native.Mathlib.Omega.{arith}
use Rattle.key_ends.specs.Ends.{first_small, last_small}
use Rattle.key_ends.specs.Tables.{beyond}
use Rattle.key_ends.proofs.Tables.{first_fine, last_fine}
use Rattle.key_ends.proofs.ends_at.Goals as goal

pub side_code-requires-clause-first_bound : goal.side_code-requires-clause-first_bound
side_code-requires-clause-first_bound c =
    let there = c.in-Some.ensures.lookup.3 in
    first_fine _ c.requires.keys_len_bound _ c.requires.table c.args.k there.0 c.in-Some.ends.now (there.1 beyond)

pub side_code-requires-clause-last_bound : goal.side_code-requires-clause-last_bound
side_code-requires-clause-last_bound c =
    let there = c.in-Some.ensures.lookup.3 in
    last_fine _ c.requires.keys_len_bound _ c.requires.table c.args.k there.0 c.in-Some.ends.now (there.1 beyond)

pub side_code-requires-in-None-clause-first_bound : goal.side_code-requires-in-None-clause-first_bound
side_code-requires-in-None-clause-first_bound c = omega (arith, first_small c.args.keys.now c.requires.keys_len_bound c.args.k)

pub side_code-requires-in-None-clause-last_bound : goal.side_code-requires-in-None-clause-last_bound
side_code-requires-in-None-clause-last_bound c = omega (arith, last_small c.args.keys.now c.requires.keys_len_bound c.args.k)
