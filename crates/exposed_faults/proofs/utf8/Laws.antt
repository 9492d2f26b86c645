-- UTF-8, byte by byte. Assumes nothing.
use Rattle.std.proofs.Common.{◌≡◌, ℕ, zero, suc, ◌+◌, ◌-◌, ◌≤◌, ◌<◌, ◌&&◌}
use Rattle.std.proofs.Common.{cond, eqb, ne_eqb, List, length, get_or, drop, add-one, arith}
use Rattle.std.proofs.lemmas.List.{drop_all}
use Rattle.std.proofs.Math.Seq.{drop-cons}
use Rattle.exposition.specs.Faults.{within, leads, more_bytes, lowest, highest, utf8_from}

pub next_byte : (due low high i : ℕ) (s : List ℕ) → i < length s
    → utf8_from due low high (drop i s)
    ≡ (let b = get_or s i 0 in let rest = drop (i + 1) s in
    cond (eqb due 0)
    (leads b && utf8_from (more_bytes b) (lowest b) (highest b) rest)
    (within low high b && utf8_from (due - 1) 0x80 0xbf rest))
unfolding utf8_from
next_byte zero low high i s h = rw (drop-cons s i 0, add-one)
next_byte (suc due) low high i s h =
    let e : suc due - 1 ≡ due = omega arith in
    rw (drop-cons s i 0, add-one, e, ne_eqb (suc due) 0 (λ q. omega arith))

pub no_byte : (due low high i : ℕ) (s : List ℕ) → length s ≤ i → utf8_from due low high (drop i s) ≡ eqb due 0
unfolding utf8_from
no_byte zero low high i s h = rw (drop_all i s h)
no_byte (suc due) low high i s h = rw (drop_all i s h, ne_eqb (suc due) 0 (λ q. omega arith))
