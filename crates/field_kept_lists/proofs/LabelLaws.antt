-- The label of a list, read and written. Assumes nothing.
use mathlib.Core.Bool.{Bool, true}
use mathlib.Core.List.{List, ◌++◌, append_assoc}
use mathlib.Core.Path.{◌≡◌, sym, ◌∙◌, ap, subst}
use native.Mathlib.Nat.{add-zero}
use native.Mathlib.Omega.{arith}
use Prim.Native.Nat.{ℕ, ◌+◌, ◌/◌, ◌%◌, ◌<◌, ◌≤◌}
use lib.ListN.{length, get_or, set, take, drop, length-set, length-drop, get_or-append}
use lib.Seq.{length-take-le, take-length, take-append_seam, drop_at, take-take, drop-drop, get_or-take, get_or-drop, get_or-set_same, get_or-set_other, ext_get_or, sets, sets-eq}
use Rattle.terms_bytes.specs.FieldPlaces.{size_at}
use Rattle.terms.specs.Limits.{longest_term}
use Rattle.terms_bytes.proofs.Stores.{get_d_span}
use Rattle.steps_entries.specs.Entries.{AlikeIs}
use Rattle.field_slots.specs.Chains.{put_number}
use Rattle.field_kept_lists.specs.ListArea.{label_bytes, label_at, LabelIs, count_in, Elsewhere, PutsLabel}
use Rattle.field_slots.proofs.ChainLaws.{length-put, byte_put, size-put, size_same}
use Rattle.field_kept_lists.proofs.ElsewhereLaws.{window, wider, after, one_set, run_set}

-- What stands at p, said of the label there.
module _ (area : List ℕ) (p : ℕ) where
  label_of : (part : List ℕ) (x : ℕ) → length part ≤ longest_term → get_or area p 0 ≡ x → get_or area (p + 1) 0 ≡ length part
      → take (length part) (drop (p + 4) area) ≡ part → LabelIs (label_at area p) part x
  label_of part x fits name size bytes = record {
    name = get_d_span area p label_bytes 0 (omega arith) ∙ ap (λ k. get_or area k 0) (add-zero p) ∙ name;
    size = get_d_span area p label_bytes 1 (omega arith) ∙ size;
    bytes =
        ap (take (length part)) (window 4 112 (drop p area) ∙ ap (take 112) (drop-drop 4 p area)) ∙ take-take (length part) 112 (drop (p + 4) area) fits ∙ bytes;
  }

  pub count_of : count_in (label_at area p) ≡ size_at area (p + 2)
  unfolding size_at
  count_of =
      let z : p + 3 ≡ p + 2 + 1 = omega arith in
      rw (get_d_span area p label_bytes 2 (omega arith), get_d_span area p label_bytes 3 (omega arith), z)

  pub label_is : (part : List ℕ) (x : ℕ) → p + label_bytes ≤ length area → length part ≤ longest_term → get_or area p 0 ≡ x
      → get_or area (p + 1) 0 ≡ length part → (r : Bool) → AlikeIs area (p + 4) part 0 (length part) r → r ≡ true → LabelIs (label_at area p) part x
  label_is part x room fits name size r alike t =
      let l : length (take (length part) (drop (p + 4) area)) ≡ length part =
      length-take-le (length part) (drop (p + 4) area) (omega (arith, length-drop (p + 4) area)) in
      label_of part x fits name size
      (ext_get_or 0 (take (length part) (drop (p + 4) area)) part l
      (λ i h.
      let m : i < length part = omega arith in
      let z : 0 + i ≡ i = omega arith in
      get_or-take (length part) (drop (p + 4) area) i 0 m ∙ get_or-drop (p + 4) area i 0 ∙ alike.0 t i m ∙ ap (λ k. get_or part k 0) z))

-- The label written.
module _ (area : List ℕ) (p : ℕ) (part : List ℕ) (x n : ℕ) (room : p + label_bytes ≤ length area) (fits : length part ≤ longest_term) where
  abbrev named : List ℕ
  named = set area p x

  abbrev sized : List ℕ
  sized = set named (p + 1) (length part)

  abbrev counted : List ℕ
  counted = put_number sized (p + 2) n

  same_size : length counted ≡ length area
  same_size = length-put sized (p + 2) n ∙ length-set named (p + 1) (length part) ∙ length-set area p x

  abbrev written : List ℕ
  written = sets counted (p + 4) part

  split : written ≡ take (p + 4) counted ++ (part ++ drop (p + 4 + length part) counted)
  split =
      sets-eq part counted (p + 4) (omega (arith, same_size)) ∙ append_assoc (take (p + 4) counted) part (drop (p + 4 + length part) counted)

  front : length (take (p + 4) counted) ≡ p + 4
  front = length-take-le (p + 4) counted (omega (arith, same_size))

  before : (k : ℕ) → k < p + 4 → get_or written k 0 ≡ get_or counted k 0
  before k h =
      ap (λ l. get_or l k 0) split
      ∙ get_or-append (take (p + 4) counted) (part ++ drop (p + 4 + length part) counted) 0 k (omega (arith, front))
      ∙ get_or-take (p + 4) counted k 0 h

  behind : take (length part) (drop (p + 4) written) ≡ part
  behind =
      ap (λ l. take (length part) (drop (p + 4) l)) split
      ∙ ap (take (length part)) (drop_at (take (p + 4) counted) (part ++ drop (p + 4 + length part) counted) (p + 4) front)
      ∙ take-append_seam part (drop (p + 4 + length part) counted)

  elsewhere : Elsewhere p label_bytes area written
  unfolding put_number
  elsewhere =
      after p label_bytes area counted written
      (after p label_bytes area sized counted
      (after p label_bytes area named sized (one_set area p x p label_bytes (omega arith) (omega arith))
      (one_set named (p + 1) (length part) p label_bytes (omega arith) (omega arith)))
      (after p label_bytes sized (set sized (p + 2) (n / 256)) counted
      (one_set sized (p + 2) (n / 256) p label_bytes (omega arith) (omega arith))
      (one_set (set sized (p + 2) (n / 256)) (p + 2 + 1) (n % 256) p label_bytes (omega arith) (omega arith))))
      (wider (p + 4) (length part) counted written (run_set counted part (p + 4) (omega (arith, same_size))) p label_bytes (omega arith) (omega arith))

  name-put : get_or written p 0 ≡ x
  name-put =
      before p (omega arith)
      ∙ byte_put sized (p + 2) n p (λ z. omega arith) (λ z. omega arith)
      ∙ get_or-set_other named (p + 1) p (length part) 0 (λ z. omega arith)
      ∙ get_or-set_same area p x 0 (omega arith)

  size_is : get_or written (p + 1) 0 ≡ length part
  size_is =
      before (p + 1) (omega arith)
      ∙ byte_put sized (p + 2) n (p + 1) (λ z. omega arith) (λ z. omega arith)
      ∙ get_or-set_same named (p + 1) (length part) 0 (omega (arith, length-set area p x))

  count_put : size_at written (p + 2) ≡ n
  count_put =
      size_same counted written (p + 2) (before (p + 2) (omega arith)) (before (p + 2 + 1) (omega arith))
      ∙ size-put sized (p + 2) n (omega (arith, length-set named (p + 1) (length part), length-set area p x))

  pub label_put : (area' : List ℕ) → area' ≡ sets counted (p + 4) (take (length part) (drop 0 part)) → PutsLabel area p part x n area'
  label_put area' e =
      let w : area' ≡ written = e ∙ ap (sets counted (p + 4)) (take-length part) in
      subst (λ l. PutsLabel area p part x n l) (sym w) (record {
        label = label_of written p part x fits name-put size_is behind;
        count = count_of written p ∙ count_put;
        kept = elsewhere;
      })
