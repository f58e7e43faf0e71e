-- The key of the start: the parts of a question put into zeros, and its apart list as flags. Assumes nothing.
use mathlib.Core.Path.{◌≡◌, refl, sym, ap, ap₂, ◌∙◌}
use mathlib.Core.Bool.{Bool, true, false, cond}
use mathlib.Core.List.{List, [], ◌∷◌, ◌++◌, append_assoc, append-nil}
use Prim.Native.Nat.{ℕ, suc, ◌+◌, ◌-◌, ◌%◌, ◌≤◌}
use native.Mathlib.Numerals.{add-one}
use native.Mathlib.Omega.{arith}
use lib.ListN.{length, get_or, take, drop, set, replicate, length-drop, length-replicate, replicate-append-replicate}
use lib.Seq.{sets, drop-cons, take-append_seam}
use Rattle.calculus.specs.Cond.{Pairs}
use Rattle.calculus.specs.Term.{Term}
use Rattle.calculus.specs.Tidy.{tidy}
use Rattle.terms.specs.Encoding.{encode, InScope}
use Rattle.terms_bytes.specs.FieldPlaces.{definitions_of, arities_of, after_field, field_at, field_place}
use Rattle.terms.specs.Limits.{name_count, longest_term}
use Rattle.terms.specs.Question.{pair_bytes}
use Rattle.terms_bytes.proofs.QuestionPlaces.{accepted_apart, accepted_arities}
use Rattle.terms_bytes.proofs.Heights.{height-bytes}
use Rattle.terms_bytes.proofs.Stores.{sets_middle}
use Rattle.terms.proofs.TidyShorter.{tidy_shorter}
use Rattle.terms.proofs.WellFormed.{accepted_well_formed}
use Rattle.terms_tidying.specs.Tidying.{Tidied, TidiedIs}
use Rattle.terms_tidying.specs.declared.tidy.Ends.{Ends}
use Rattle.steps.specs.Forms.{result_form}
use Rattle.steps.proofs.FormLaws.{form_scope, tidied_form}
use Rattle.steps_lister.proofs.OperationLaws.{first_stands, second_stands}
use Rattle.field_successors.specs.Leading.{CompletesKey, StartIs}
use Rattle.field_pairs.specs.PairFlags.{pair_count, AddsPair}
use Rattle.field.specs.Situation.{start_of}
use Rattle.field_pairs.specs.Slot.{part_bytes, flags_of, octets, key_bytes}
use Rattle.field_successors.specs.Starting.{PutsPart, MarksList, StartPairs}
use Rattle.field_slots.proofs.KeyLaws.{length_part}
use Rattle.field_slots.proofs.UpdateLaws.{no_pairs}

-- A part, tidied aside, in the place of zeros.
pub puts_part : (part arities key : List ℕ) (put : ℕ) (e : Ends) (tidied key' : List ℕ) → TidiedIs part 0 arities (replicate longest_term 0) 0 e tidied
    → key' ≡ sets (set key put e.written) (put + 1) (take e.written (drop 0 tidied)) → PutsPart part arities key put key'
unfolding PutsPart part_bytes Tidied
puts_part part arities key put e tidied key' t w P front rest scope is l f k =
    let bs : List ℕ = encode 0 (tidy P) in
    let n : ℕ = length bs in
    let fill : List ℕ = replicate (longest_term - n) 0 in
    let short : n ≤ length (encode 0 P) = tidy_shorter 0 P in
    let zeroes : length (replicate {A = ℕ} longest_term 0) ≡ longest_term = length-replicate {A = ℕ} longest_term 0 in
    let is' : drop 0 part ≡ encode 0 P ++ [] = is ∙ sym (append-nil (encode 0 P)) in
    let d = t.is name_count 0 P [] (omega arith) scope is' (omega (arith, height-bytes 0 P)) (omega arith) (omega arith) in
    let m : 1 + n + (longest_term - n) ≡ 1 + longest_term = omega arith in
    let zeros : replicate (1 + longest_term) 0 ≡ replicate (1 + n) 0 ++ fill =
    sym (replicate-append-replicate (1 + n) (longest_term - n) 0 ∙ ap (λ j. replicate j 0) m) in
    let sum : n + (longest_term - n) ≡ longest_term = omega arith in
    let whole : replicate {A = ℕ} longest_term 0 ≡ [] ++ (replicate n 0 ++ fill) =
    sym (replicate-append-replicate n (longest_term - n) 0 ∙ ap (λ j. replicate j 0) sum) in
    let stored : tidied ≡ bs ++ fill =
    d.2 ∙ ap (λ (o : List ℕ). sets o 0 bs) whole
    ∙ sets_middle [] (replicate n 0) fill bs 0 refl (omega (arith, length-replicate {A = ℕ} n 0)) in
    let written : e.written ≡ n = omega (arith, d.1) in
    let taken : take e.written (drop 0 tidied) ≡ bs = ap₂ take written stored ∙ take-append_seam bs fill in
    let t₁ : key ≡ front ++ (replicate (1 + n) 0 ++ (fill ++ rest)) =
    k ∙ ap (λ l. front ++ (l ++ rest)) zeros ∙ ap (λ l. front ++ l) (append_assoc (replicate (1 + n) 0) fill rest) in
    let v : key' ≡ sets key put (n ∷ bs) =
    w ∙ ap (λ (l : List ℕ). sets (set key put e.written) (put + 1) l) taken ∙ ap (λ (i : ℕ). sets (set key put i) (put + 1) bs) written ∙ rw add-one in
    v ∙ ap (λ l. sets l put (n ∷ bs)) t₁
    ∙ sets_middle front (replicate (1 + n) 0) (fill ++ rest) (n ∷ bs) put (sym f) (omega (arith, length-replicate {A = ℕ} (1 + n) 0))
    ∙ ap (λ l. front ++ (n ∷ l)) (sym (append_assoc bs fill rest))

-- The pairs of an apart list from place i on.
unfoldable pub Marking : List ℕ → List ℕ → List ℕ → ℕ → Type 0
Marking list flags₀ flags i = (D : Pairs) → drop i list ≡ pair_bytes D → flags₀ ≡ flags_of [] → flags ≡ flags_of D

pub marking_start : (list flags : List ℕ) (i : ℕ) → i ≡ length list → Marking list flags flags i
unfolding Marking pair_bytes
marking_start list flags i h [] e z = z
marking_start list flags i h (p ∷ D) e z = absurd (omega (arith, ap length e, length-drop i list))

two_front : (list : List ℕ) (i : ℕ) → i + 2 ≤ length list → drop i list ≡ get_or list i 0 ∷ get_or list (i + 1) 0 ∷ drop (i + 2) list
two_front list i h =
    let m : i + 2 ≡ suc (suc i) = omega arith in
    drop-cons list i 0 (omega arith) ∙ ap (λ l. get_or list i 0 ∷ l) (drop-cons list (suc i) 0 (omega arith)) ∙ rw (add-one, m)

pub marking_next : (list flags₀ flags : List ℕ) (i j a b : ℕ) (flags' : List ℕ) → j ≡ i + 2 → j ≤ length list → a ≡ get_or list i 0 → b ≡ get_or list (i + 1) 0
    → Marking list flags₀ flags j → AddsPair flags a b flags' → Marking list flags₀ flags' i
unfolding Marking pair_bytes AddsPair
marking_next list flags₀ flags i j a b flags' n h x y so add [] e z = absurd (omega (arith, ap length e, length-drop i list))
marking_next list flags₀ flags i j a b flags' n h x y so add (p ∷ D) e z =
    let t = sym (two_front list i (omega arith)) ∙ e in
    let u : a ≡ p.0 = x ∙ ap (λ l. get_or l 0 0) t in
    let v : b ≡ p.1 = y ∙ ap (λ l. get_or l 1 0) t in
    add D (so D (ap (λ k. drop k list) n ∙ ap (drop 2) t) z) ∙ (λ k. flags_of ((u k, v k) ∷ D))

pairs_even : (D : Pairs) → length (pair_bytes D) % 2 ≡ 0
unfolding pair_bytes
pairs_even [] = refl
pairs_even (p ∷ D) = omega (arith, pairs_even D)

pub marking_whole : (list flags flags' : List ℕ) (i : ℕ) → i ≤ 1 → i % 2 ≡ length list % 2 → Marking list flags flags' i → MarksList list flags flags'
unfolding Marking MarksList
marking_whole list flags flags' i h m so D e z =
    let n : i ≡ 0 = omega (arith, ap length e, pairs_even D) in
    so D (ap (λ k. drop k list) n ∙ e) z

-- No pairs, or those of the list.
pub start_none : (list : List ℕ) (differ : Bool) → differ ≡ true → StartPairs list differ (replicate pair_count 0)
unfolding StartPairs
start_none list differ q D e = rw q no_pairs

pub start-listed : (list flags : List ℕ) (differ : Bool) → differ ≡ false → MarksList list (replicate pair_count 0) flags → StartPairs list differ flags
unfolding StartPairs MarksList
start-listed list flags differ q m D e = rw q (m D e no_pairs)

-- Both parts and the pairs of an accepted question.
module _ (s : List ℕ) (first second apart : ℕ) (x : first ≡ field_place s (definitions_of s)) (y : second ≡ after_field s first)
    (z : apart ≡ after_field s second) where
  pub start_is : (part₁ part₂ list arities : List ℕ) → part₁ ≡ field_at s first → part₂ ≡ field_at s second → list ≡ field_at s apart → arities ≡ arities_of s
      → (key₁ key₂ key₃ : List ℕ) (differ : Bool) (flags : List ℕ) → PutsPart part₁ arities (replicate key_bytes 0) 0 key₁ → PutsPart part₂ arities key₁ 113 key₂
      → StartPairs list differ flags → CompletesKey arities flags key₂ key₃ → StartIs s differ key₃
  unfolding PutsPart StartPairs CompletesKey StartIs start_of result_form
  start_is part₁ part₂ list arities e f g h key₁ key₂ key₃ differ flags p₁ p₂ m k q a =
      let w = accepted_well_formed s q a in
      let P : Term = q.first in
      let Q : Term = q.second in
      let zeros : List ℕ = replicate octets 0 in
      let u : part₁ ≡ encode 0 P = e ∙ ap (field_at s) x ∙ first_stands s q a in
      let v : part₂ ≡ encode 0 Q = f ∙ ap (field_at s) (y ∙ ap (after_field s) x) ∙ second_stands s q a in
      let d : flags ≡ flags_of (cond differ [] q.apart) = m q.apart (g ∙ accepted_apart s q a first second apart x y z) in
      let c : arities ≡ q.arities = h ∙ accepted_arities s q a in
      let i : InScope name_count arities 0 P = rw c w.first.scope in
      let j : InScope name_count arities 0 Q = rw c w.second.scope in
      let short : length (encode 0 (tidy P)) ≤ longest_term = (let l = w.first.size in omega (arith, tidy_shorter 0 P)) in
      let short₂ : length (encode 0 (tidy Q)) ≤ longest_term = (let l = w.second.size in omega (arith, tidy_shorter 0 Q)) in
      let t : key₂ ≡ part_bytes (tidy P) ++ (part_bytes (tidy Q) ++ zeros) =
      p₂ Q (part_bytes (tidy P)) zeros j v w.second.size (length_part (tidy P) short)
      (p₁ P [] (replicate (1 + longest_term) 0 ++ zeros) i u w.first.size refl refl) in
      k (tidy P) (tidy Q) (cond differ [] q.apart)
      (record {
        rest = zeros;
        there = t;
        bits = refl;
        scope = form_scope tidied_form name_count arities 0 P i;
        scope₂ = form_scope tidied_form name_count arities 0 Q j;
        fits = short;
        fits₂ = short₂;
      }) d
