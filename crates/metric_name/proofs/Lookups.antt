-- The loop of `find_tag`, and lookup: each way out of them. Assumes nothing.
use Rattle.std.specs.Prelude.{ℕ, ◌≡◌, List, [], ◌∷◌, Bool, true, false, length}
use Rattle.std.specs.declared.option.Option as S
use Rattle.std.specs.declared.result.Result.{Result}
use Rattle.std.specs.declared.result.Result.TheVariants.{Ok, Err}
use Rattle.std.proofs.Common.{refl, sym, ◌∙◌, arith, Bor}
use Rattle.std.proofs.Math.Option.{Option, none, some}
use Rattle.model.specs.Labels.{Tag, same_bytes, name_label, value_of}
use Rattle.model.specs.Record.{Decoded, decoded, cut, bad_key, decode, present, found_as, lookup_in, lookup}
use Rattle.record_tags.specs.Lenient.{labels_of, labels_decoded}
use Rattle.label_records.specs.Records as L
use Rattle.label_records.specs.Records.{record_answer, decoded_answer}
use Rattle.label_records.specs.declared.RecordFault.{RecordFault}
use Rattle.label_records.specs.declared.RecordFault.TheVariants.{Cut, BadKey}
use Rattle.metric_name.specs.Lookups.{found_lookup}

-- `find_tag`, where `ts` are left
module _ (k : List ℕ) (want : Option (List ℕ)) (ts : List Tag) (inv : want ≡ value_of k ts) where
  pub find_end : ts ≡ [] → none ≡ want
  unfolding value_of
  find_end h = sym (inv ∙ rw h)

  module _ (t : Tag) (rest : List Tag) (h : ts ≡ t ∷ rest) (b : Bool) (hb : b ≡ same_bytes t.key k) where
    pub find_hit : b ≡ true → some t.value ≡ want
    unfolding value_of
    find_hit e = sym (inv ∙ rw (h, ← hb, e))

    pub find_turn : b ≡ false → want ≡ value_of k rest
    unfolding value_of
    find_turn e = inv ∙ rw (h, ← hb, e)

-- `find_value`
module _ (k s : List ℕ) (x : Result ℕ RecordFault) (hx : record_answer x ≡ decoded_answer (length s) (decode s)) where
  pub value_refused : (f : RecordFault) → x ≡ Err f → (r : Result (S.Option (Bor (List ℕ))) RecordFault) → r ≡ Err f
      → found_lookup r ≡ lookup s k
  unfolding lookup
  value_refused f e r er = rw er (go f (decode s) (rw e at hx))
    where
      go : (f : RecordFault) (d : Decoded) → record_answer (Err f) ≡ decoded_answer (length s) d
          → found_lookup (Err f) ≡ lookup_in k d
      go Cut cut h = refl
      go BadKey bad_key h = refl
      go Cut (decoded l r) h = grind arith
      go Cut bad_key h = grind arith
      go BadKey (decoded l r) h = grind arith
      go BadKey cut h = grind arith

  module _ (q : ℕ) (ex : x ≡ Ok q) (b : Bool) (hb : b ≡ same_bytes k name_label) where
    pub value_named : b ≡ true → (v : List ℕ) → v ≡ (labels_of s).name → present v ≡ lookup s k
    unfolding lookup
    value_named e v hv = go (decode s) refl (rw ex at hx)
      where
        go : (d : Decoded) → decode s ≡ d → L.behind q ≡ decoded_answer (length s) d → present v ≡ lookup_in k d
        go (decoded l r) h f = rw (hv, ← hb, e, labels_decoded s l r h)
        go cut h f = grind arith
        go bad_key h f = grind arith

    pub value_tagged : b ≡ false → (o : Option (List ℕ)) → o ≡ value_of k (labels_of s).tags → found_as o ≡ lookup s k
    unfolding lookup
    value_tagged e o ho = go (decode s) refl (rw ex at hx)
      where
        go : (d : Decoded) → decode s ≡ d → L.behind q ≡ decoded_answer (length s) d → found_as o ≡ lookup_in k d
        go (decoded l r) h f = rw (ho, ← hb, e, labels_decoded s l r h)
        go cut h f = grind arith
        go bad_key h f = grind arith
