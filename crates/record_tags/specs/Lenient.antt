-- The labels of a record's bytes, as far as they can be read. Assumes nothing.
use Rattle.std.specs.Prelude.{ℕ, zero, suc, ◌+◌, ◌-◌, ◌≤◌, ◌<◌, ◌≡◌, refl, List, [], ◌∷◌, ◌++◌, length, take, drop}
use Rattle.std.proofs.Common.{sym, ap, ◌∙◌, append_assoc, append-nil, arith, add_comm, length-append, length-drop, drop-drop}
use Rattle.std.proofs.Math.Seq.{drop-append_seam}
use Rattle.model.specs.Labels.{Tag, Labels}
use Rattle.model.specs.Record.{read_field, on_field, Decoded, decoded, cut, bad_key, decode, encode_field, encode_tags, encode}
use Rattle.model.proofs.Laws.Record.{read_field_lem, encode_split, decode_is}
use Rattle.labels.specs.Names.{front}
use Rattle.label_records.specs.Records.{behind, record_answer, decoded_answer}
use Rattle.std.specs.declared.result.Result.{Result}
use Rattle.std.specs.declared.result.Result.TheVariants.{Ok}
use Rattle.label_records.specs.declared.RecordFault.{RecordFault}

-- the first n tags; a tag that is cut ends them
unfoldable pub tags_up_to : ℕ → List ℕ → List Tag
tags_up_to zero s = []
tags_up_to (suc n) s =
    on_field (read_field s) [] (λ k s₁. on_field (read_field s₁) [] (λ v s₂. record { key = k; value = v } ∷ tags_up_to n s₂))

pub no_tags_up_to : (s : List ℕ) → tags_up_to 0 s ≡ []
unfolding tags_up_to
no_tags_up_to s = refl

-- the tags behind their count
abbrev pub tags_counted : List ℕ → List Tag
tags_counted [] = []
tags_counted (n ∷ s) = tags_up_to n s

-- the labels of a record, whatever its bytes: functions on records then need no condition on them
unfoldable pub labels_of : List ℕ → Labels
labels_of s =
    on_field (read_field s) (record { name = []; tags = [] }) (λ x rest. record { name = x; tags = tags_counted rest })

-- labels that were written are read, whatever follows them

pub tags_encoded : (ts : List Tag) (r : List ℕ) → tags_up_to (length ts) (encode_tags ts ++ r) ≡ ts
unfolding tags_up_to encode_tags
tags_encoded [] r = refl
tags_encoded (t ∷ ts) r = simp (append_assoc, read_field_lem t.key, read_field_lem t.value, tags_encoded ts r)

pub labels_encoded : (l : Labels) (r : List ℕ) → labels_of (encode l ++ r) ≡ l
unfolding labels_of
labels_encoded l r = rw (encode_split l r, read_field_lem l.name, tags_encoded l.tags r)

-- a record that is taken has these labels; so have the bytes of the record alone, and with others behind them

module _ (s : List ℕ) (l : Labels) (rest : List ℕ) (e : decode s ≡ decoded l rest) where
  bytes : s ≡ encode l ++ rest
  bytes = (decode_is s l rest e).bytes

  pub labels_decoded : labels_of s ≡ l
  labels_decoded = rw bytes (labels_encoded l rest)

  pub labels_before : (t : List ℕ) → labels_of (s ++ t) ≡ l
  labels_before t = rw (bytes, append_assoc) (labels_encoded l (rest ++ t))

  pub labels_alone : labels_of (take (length s - length rest) s) ≡ l
  labels_alone = rw (front s (encode l) rest bytes) (ap labels_of (sym (append-nil (encode l))) ∙ labels_encoded l [])

-- a record that `read_record` found, up to the place behind it
pub record RecordAt (s : List ℕ) (at next : ℕ) : Type 0 where
  pub labels : Labels
  pub decoded_as : decode (drop at s) ≡ decoded labels (drop next s)
  pub alone : labels_of (take (next - at) (drop at s)) ≡ labels
  pub order : at < next
  pub within : next ≤ length s

some_bytes : (l : Labels) → 0 < length (encode l)
unfolding encode
some_bytes l = omega (arith, length-append (encode_field l.name) (length l.tags ∷ encode_tags l.tags))

record_here : (s : List ℕ) (at next : ℕ) (l : Labels) (rest : List ℕ)
    → decode (drop at s) ≡ decoded l rest → next ≡ length s - length rest → RecordAt s at next
record_here s at next l rest e hn =
    let b : drop at s ≡ encode l ++ rest = (decode_is (drop at s) l rest e).bytes in
    let n : length (encode l) + length rest ≡ length s - at =
    sym (length-append (encode l) rest) ∙ sym (ap length b) ∙ length-drop at s in
    let k : length (encode l) + at ≡ next = omega (arith, n, hn, some_bytes l) in
    let behind : rest ≡ drop next s =
    sym (drop-append_seam (encode l) rest) ∙ ap (drop (length (encode l))) (sym b) ∙ drop-drop (length (encode l)) at s
    ∙ ap (λ (i : ℕ). drop i s) (add_comm at (length (encode l)) ∙ k) in
    let size : length (drop at s) - length rest ≡ next - at = omega (arith, length-drop at s, hn, n, some_bytes l) in
    record {
      labels = l;
      decoded_as = e ∙ ap (decoded l) behind;
      alone = rw (← size) (labels_alone (drop at s) l rest e);
      order = omega (arith, k, some_bytes l);
      within = omega (arith, hn);
    }

pub record_found : (s : List ℕ) (at next : ℕ) (x : Result ℕ RecordFault)
    → record_answer x ≡ decoded_answer (length s) (decode (drop at s)) → x ≡ Ok next → RecordAt s at next
record_found s at next x hx ex = go (decode (drop at s)) refl (rw ex at hx)
  where
    go : (d : Decoded) → decode (drop at s) ≡ d → behind next ≡ decoded_answer (length s) d → RecordAt s at next
    go (decoded l rest) h f = record_here s at next l rest h (cc)
    go cut h f = absurd (let z : ◌≡◌ {A = ℕ} 0 1 = cc in omega arith)
    go bad_key h f = absurd (let z : ◌≡◌ {A = ℕ} 0 1 = cc in omega arith)
