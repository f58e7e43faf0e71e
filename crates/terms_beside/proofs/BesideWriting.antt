-- What the writing half of beside stores is the question with the third part on each side. Assumes nothing.
use mathlib.Core.Path.{◌≡◌, sym, ap, ap₂, subst, ◌∙◌}
use mathlib.Core.List.{List, [], ◌∷◌, ◌++◌, append_assoc}
use Prim.Native.Nat.{ℕ, suc, ◌+◌, ◌-◌, ◌/◌, ◌%◌, ◌≤◌}
use native.Mathlib.Omega.{arith}
use lib.ListN.{length, take, drop, set, length-append}
use lib.Seq.{sets, take_all, take-append_seam}
use Rattle.calculus.specs.Term.{Term}
use Rattle.terms.specs.Edition.{Edition, encode_in}
use Rattle.terms_bytes.specs.FieldPlaces.{definitions_of, after_field, field_place}
use Rattle.terms.specs.Framing.{Fields, sized, joined}
use Rattle.terms.specs.Operations.{beside_question, area_after}
use Rattle.terms.specs.Question.{Question, edition_of, pair_bytes, fields_in, write_in, fits_in}
use Rattle.terms_bytes.specs.Writing.{Writes, WritesBeside}
use Rattle.terms.proofs.FramingLaws.{Framable}
use Rattle.terms_bytes.proofs.QuestionPlaces.{before_parts, joined_split, first_place, second_place, apart_place, first-bytes, second-bytes, at_apart, first_is, second_is, apart_is, joined_length, halves}
use Rattle.terms_bytes.proofs.Stores.{span, length-span, sets-join, sets-start}
use Rattle.terms.proofs.OwnEdition.{own_well_formed, own-fits, own-written}
use Rattle.terms.proofs.WellFormed.{WellFormed, framable_in}
use mathlib.Core.Bool.{true}

-- One side: three stores and two runs are one run.
pub side_stored : (question : List ℕ) (at size : ℕ) (third area : List ℕ) (put n : ℕ) (area₁ area₂ : List ℕ)
    → at + size ≤ length question → n ≡ 1 + size + length third
    → area₁ ≡ sets (set (set (set area put (n / 256)) (put + 1) (n % 256)) (put + 2) 7) (put + 3) (span question at size)
    → area₂ ≡ sets area₁ (put + 3 + size) (span third 0 (length third))
    → area₂ ≡ sets area put (sized (7 ∷ (span question at size ++ third)))
unfolding sized
side_stored question at size third area put n area₁ area₂ h e x y =
    let X = span question at size in
    let l : length X ≡ size = length-span question at size h in
    let m : length (7 ∷ (X ++ third)) ≡ n = omega (arith, length-append X third) in
    let a : put + 1 ≡ suc put = omega arith in
    let b : put + 2 ≡ suc (suc put) = omega arith in
    let c : put + 3 ≡ suc (suc (suc put)) = omega arith in
    let t : span third 0 (length third) ≡ third = take_all (length third) third (omega arith) in
    y ∙ rw (x, t, sets-join _ (put + 3) (put + 3 + size) X third (ap (λ (k : ℕ). put + 3 + k) (sym l)), m, c, b, a)

-- The bytes of a question before its parts, and a question with the third part on each side.
pub before-bytes : (ed : Edition) (f : Fields) → take (length (before_parts ed f)) (joined ed f) ≡ before_parts ed f
before-bytes ed f = rw (joined_split ed f, take-append_seam)

pub beside_split : (ed : Edition) (R : Term) (q : Question) → write_in ed (beside_question R q)
    ≡ before_parts ed (fields_in ed q) ++ (sized (7 ∷ (encode_in ed 0 q.first ++ encode_in ed 0 R)) ++ (sized (7 ∷ (encode_in ed 0 q.second ++ encode_in ed 0 R)) ++ sized (pair_bytes q.apart)))
unfolding write_in joined fields_in beside_question before_parts encode_in
beside_split ed R q = rw append_assoc

length-sized : (xs : List ℕ) → length (sized xs) ≡ 2 + length xs
unfolding sized
length-sized xs = omega arith

length-joined : (ed : Edition) (q : Question) → length (joined ed (fields_in ed q))
    ≡ length (before_parts ed (fields_in ed q)) + (2 + length (encode_in ed 0 q.first) + (2 + length (encode_in ed 0 q.second) + (2 + length (pair_bytes q.apart))))
unfolding fields_in halves
length-joined ed q = let u = simp length-append at (ap length (joined_split ed (fields_in ed q))) in omega (arith, u)

pub beside-length : (ed : Edition) (R : Term) (q : Question)
    → length (write_in ed (beside_question R q)) ≡ length (joined ed (fields_in ed q)) + (1 + length (encode_in ed 0 R) + (1 + length (encode_in ed 0 R)))
beside-length ed R q =
    let X = encode_in ed 0 q.first ++ encode_in ed 0 R in
    let Y = encode_in ed 0 q.second ++ encode_in ed 0 R in
    let u = ap length (beside_split ed R q) ∙ length-append (before_parts ed (fields_in ed q)) (sized (7 ∷ X) ++ (sized (7 ∷ Y) ++ sized (pair_bytes q.apart))) in
    let v = length-append (sized (7 ∷ X)) (sized (7 ∷ Y) ++ sized (pair_bytes q.apart)) in
    let w = length-append (sized (7 ∷ Y)) (sized (pair_bytes q.apart)) in
    omega (
      arith,
      u,
      v,
      w,
      length-joined ed q,
      length-sized (7 ∷ X),
      length-sized (7 ∷ Y),
      length-sized (pair_bytes q.apart),
      length-append (encode_in ed 0 q.first) (encode_in ed 0 R),
      length-append (encode_in ed 0 q.second) (encode_in ed 0 R),
    )

-- The run of the writing half over the bytes s of a question: what each of its steps is known to do.
pub record Run (s third area area' : List ℕ) (r : ℕ) : Type 0 where
  pub first : ℕ
  pub second : ℕ
  pub apart : ℕ
  pub one : ℕ
  pub two : ℕ
  pub copied : List ℕ
  pub on_first : List ℕ
  pub on_second : List ℕ
  pub first_at : first ≡ field_place s (definitions_of s)
  pub second_at : second ≡ after_field s first
  pub apart_at : apart ≡ after_field s second
  pub copying : copied ≡ sets area 0 (span s 0 first)
  pub first_ends : one ≡ first + (3 + (second - first - 2) + length third)
  pub writing_first : on_first ≡ sets copied first (sized (7 ∷ (span s (first + 2) (second - first - 2) ++ third)))
  pub second_ends : two ≡ one + (3 + (apart - second - 2) + length third)
  pub writing_second : on_second ≡ sets on_first one (sized (7 ∷ (span s (second + 2) (apart - second - 2) ++ third)))
  pub copying_rest : area' ≡ sets on_second two (span s apart (length s - apart))
  pub answer : r ≡ two + (length s - apart)

-- The number answered: a, b and c are the lengths of the two sides and of the rest, as the code computes them.
answered : (r first one two a b c A B C t L : ℕ) {before : ℕ} → r ≡ two + c → one ≡ first + (3 + a + t) → two ≡ one + (3 + b + t) → a ≡ A → b ≡ B → c ≡ C
    → first ≡ before → L ≡ before + (A + 2 + (B + 2 + C)) → r ≡ L + (1 + t + (1 + t))
answered r first one two a b c A B C t L e₁ e₂ e₃ e₄ e₅ e₆ e₇ e₈ = omega arith

module _ (ed : Edition) (q : Question) (w : WellFormed q) (fit : fits_in ed q ≡ true) (R : Term) (area area' : List ℕ) (r : ℕ)
    (room : length (joined ed (fields_in ed q)) + (1 + length (encode_in ed 0 R) + (1 + length (encode_in ed 0 R))) ≤ length area)
    (run : Run (joined ed (fields_in ed q)) (encode_in ed 0 R) area area' r) where
  f : Fields
  f = fields_in ed q

  fr : Framable f
  unfolding f
  fr = framable_in ed q w fit

  s : List ℕ
  s = joined ed f

  first-e : run.first ≡ first_place ed f fr
  unfolding f
  first-e = run.first_at

  second-e : run.second ≡ second_place ed f fr
  unfolding f
  second-e = run.second_at ∙ ap (after_field (joined ed (fields_in ed q))) first-e

  apart_e : run.apart ≡ apart_place ed f fr
  unfolding f
  apart_e = run.apart_at ∙ ap (after_field (joined ed (fields_in ed q))) second-e

  sizes : (run.second - run.first - 2 ≡ length f.first) × (run.apart - run.second - 2 ≡ length f.second)
      × (length s - run.apart ≡ length (sized f.apart))
  unfolding sized s
  sizes =
      let x = second_is ed f fr in
      let y = apart_is ed f fr in
      let z = joined_length ed f fr in
      (omega (arith, first-e, second-e), omega (arith, second-e, apart_e), omega (arith, apart_e))

  before_is : span s 0 run.first ≡ before_parts ed f
  unfolding s
  before_is = ap (λ (k : ℕ). span s 0 k) (first-e ∙ first_is ed f fr) ∙ before-bytes ed f

  first_piece : span s (run.first + 2) (run.second - run.first - 2) ≡ f.first
  unfolding s
  first_piece =
      ap₂ (λ (k n : ℕ). span s (k + 2) n) first-e sizes.0 ∙ ap (take (length f.first)) (first-bytes ed f fr)
      ∙ take-append_seam f.first (sized f.second ++ sized f.apart)

  second_piece : span s (run.second + 2) (run.apart - run.second - 2) ≡ f.second
  unfolding s
  second_piece =
      ap₂ (λ (k n : ℕ). span s (k + 2) n) second-e sizes.1 ∙ ap (take (length f.second)) (second-bytes ed f fr)
      ∙ take-append_seam f.second (sized f.apart)

  rest_piece : span s run.apart (length s - run.apart) ≡ sized f.apart
  unfolding s
  rest_piece =
      ap₂ (λ (k n : ℕ). span s k n) apart_e sizes.2 ∙ ap (take (length (sized f.apart))) (at_apart ed f fr)
      ∙ take-append_seam (sized f.apart) []

  third : List ℕ
  third = encode_in ed 0 R

  side_bytes : List ℕ → List ℕ
  side_bytes X = sized (7 ∷ (X ++ third))

  length_side : (X : List ℕ) → length (side_bytes X) ≡ 3 + length X + length third
  unfolding side_bytes sized
  length_side X = omega (arith, length-append X third)

  -- The four runs are one, from the start.
  stored : area' ≡ sets area 0 (before_parts ed f ++ (side_bytes f.first ++ (side_bytes f.second ++ sized f.apart)))
  unfolding side_bytes third s f
  stored =
      let B = before_parts ed f in
      let X = side_bytes f.first in
      let Y = side_bytes f.second in
      let Z = sized f.apart in
      let p : run.first ≡ 0 + length B = omega (arith, first-e, first_is ed f fr) in
      let lx = length_side f.first in
      let ly = length_side f.second in
      let lBX = length-append B X in
      let lBXY = length-append (B ++ X) Y in
      let c : run.copied ≡ sets area 0 B = run.copying ∙ ap (sets area 0) before_is in
      let d : run.on_first ≡ sets area 0 (B ++ X) =
      run.writing_first ∙ ap₂ (λ (l x : List ℕ). sets l run.first (side_bytes x)) c first_piece ∙ sets-join area 0 run.first B X p in
      let e : run.on_second ≡ sets area 0 ((B ++ X) ++ Y) =
      run.writing_second ∙ ap₂ (λ (l x : List ℕ). sets l run.one (side_bytes x)) d second_piece
      ∙ sets-join area 0 run.one (B ++ X) Y (omega (arith, run.first_ends, sizes.0, p)) in
      run.copying_rest ∙ ap₂ (λ (l x : List ℕ). sets l run.two x) e rest_piece
      ∙ sets-join area 0 run.two ((B ++ X) ++ Y) Z (omega (arith, run.first_ends, run.second_ends, sizes.0, sizes.1, p))
      ∙ ap (sets area 0) (append_assoc (B ++ X) Y Z ∙ append_assoc B X (Y ++ Z))

  whole : List ℕ
  whole = before_parts ed f ++ (side_bytes f.first ++ (side_bytes f.second ++ sized f.apart))

  whole_is : write_in ed (beside_question R q) ≡ whole
  unfolding whole side_bytes third f fields_in
  whole_is = beside_split ed R q

  length_whole : length whole ≡ length s + (1 + length third + (1 + length third))
  unfolding s f third
  length_whole = sym (ap length whole_is) ∙ beside-length ed R q

  length-parts : length s ≡ length (before_parts ed f) + (length f.first + 2 + (length f.second + 2 + length (sized f.apart)))
  unfolding s sized
  length-parts =
      let x = second_is ed f fr in
      let y = apart_is ed f fr in
      let z = joined_length ed f fr in
      omega (arith, first_is ed f fr)

  pub beside-written : Writes ed (beside_question R q) area r area'
  unfolding Writes area_after third s f whole
  beside-written =
      let b : area' ≡ whole ++ drop (length whole) area = stored ∙ sets-start area whole (omega (arith, length_whole)) in (
        answered r run.first run.one run.two _ _ _ (length f.first) (length f.second) (length (sized f.apart)) (length third) (length s)
            run.answer run.first_ends run.second_ends sizes.0 sizes.1 sizes.2
            (first-e ∙ first_is ed f fr) length-parts
            ∙ sym length_whole ∙ sym (ap length whole_is),
        b ∙ ap (λ (bs : List ℕ). bs ++ drop (length bs) area) (sym whole_is),
      )

pub writes_beside : (s third area area' : List ℕ) (r : ℕ) → length s + (1 + length third + (1 + length third)) ≤ length area
    → Run s third area area' r → WritesBeside s third area r area'
unfolding WritesBeside write_in
writes_beside s third area area' r room run q R h t =
    let ed = edition_of s in
    let j : s ≡ joined ed (fields_in ed q) = sym (own-written s q h) in
    let k = ap length j in
    let l = ap length t in
    beside-written ed q (own_well_formed s q h) (own-fits s q h) R area area' r (omega arith)
    (subst (λ (s : List ℕ). Run s (encode_in ed 0 R) area area' r) j (subst (λ (third : List ℕ). Run s third area area' r) t run))
