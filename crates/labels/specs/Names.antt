-- The labels of a list's bytes, as far as they can be read. Assumes nothing.
use Rattle.std.specs.Prelude.{ℕ, zero, suc, ◌-◌, ◌≡◌, refl, List, [], ◌∷◌, ◌++◌, length, take}
use Rattle.std.proofs.Common.{sym, ap, ◌∙◌, append_assoc, append-nil, arith, length-append, take_at}
use Rattle.model.specs.Record.{read_field, on_field}
use Rattle.model.specs.Edits.{Names}
use Rattle.model.specs.Query.{listed, list_in}
use Rattle.model.proofs.Laws.Record.{read_field_lem}
use Rattle.model.proofs.Laws.Query.{list_is}
use Rattle.model.specs.Encoded.{encode_names, encode_list}

-- the first n labels; a label that is cut ends them
unfoldable pub names_up_to : ℕ → List ℕ → Names
names_up_to zero s = []
names_up_to (suc n) s = on_field (read_field s) [] (λ x rest. x ∷ names_up_to n rest)

-- the labels of a list, whatever its bytes: functions on lists then need no condition on them
unfoldable pub names_of : List ℕ → Names
names_of [] = []
names_of (n ∷ s) = names_up_to n s

-- labels that were written are read, whatever follows them

names_up_to_lem : (ns : Names) (r : List ℕ) → names_up_to (length ns) (encode_names ns ++ r) ≡ ns
unfolding names_up_to
names_up_to_lem [] r = refl
names_up_to_lem (n ∷ ns) r = simp (append_assoc, read_field_lem n, names_up_to_lem ns r)

pub names_encoded : (ns : Names) (r : List ℕ) → names_of (encode_list ns ++ r) ≡ ns
unfolding names_of
names_encoded ns r = names_up_to_lem ns r

-- what stands before the rest
pub front : (s x rest : List ℕ) → s ≡ x ++ rest → take (length s - length rest) s ≡ x
front s x rest h =
    let n : length x ≡ length s - length rest = omega (arith, ap length h, length-append x rest) in
    ap (take (length s - length rest)) h ∙ take_at x rest (length s - length rest) n

-- a list that is taken has these labels; so have the bytes of the list alone, and with others behind them

module _ (s : List ℕ) (ns : Names) (rest : List ℕ) (e : list_in s ≡ listed ns rest) where
  bytes : s ≡ encode_list ns ++ rest
  bytes = (list_is s ns rest e).bytes

  pub names_listed : names_of s ≡ ns
  names_listed = rw bytes (names_encoded ns rest)

  pub names_before : (t : List ℕ) → names_of (s ++ t) ≡ ns
  names_before t = rw (bytes, append_assoc) (names_encoded ns (rest ++ t))

  pub names_alone : names_of (take (length s - length rest) s) ≡ ns
  names_alone =
      rw (front s (encode_list ns) rest bytes) (ap names_of (sym (append-nil (encode_list ns))) ∙ names_encoded ns [])
