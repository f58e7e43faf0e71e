-- The bytes before the apart list, and the question with another list behind them. Assumes nothing.
use mathlib.Core.List.{List, [], ◌∷◌, ◌++◌}
use mathlib.Core.Path.{◌≡◌, refl, sym, ap, subst, ◌∙◌}
use native.Mathlib.Omega.{arith}
use Prim.Native.Nat.{ℕ, suc, ◌+◌, ◌-◌, ◌/◌, ◌%◌, ◌<◌, ◌≤◌}
use lib.ListN.{length, set, take, drop, length-append}
use lib.Seq.{sets, set_comm, take-append_seam}
use Rattle.calculus.specs.Cond.{Pairs}
use Rattle.terms.specs.Answer.{result}
use Rattle.terms.specs.Edition.{Edition}
use Rattle.terms.specs.Framing.{sized, before_apart}
use Rattle.terms.specs.Limits.{name_count, longest_apart, longest_question}
use Rattle.terms.specs.Question.{Question, edition_of, question_of, question_with, pair_bytes, fields_in, write_in}
use Rattle.terms.proofs.LiteralBytes.{joined_apart, declared_bytes}
use Rattle.terms.proofs.OwnEdition.{own_well_formed, own-fits}
use Rattle.terms.proofs.WellFormed.{written-length}
use Rattle.terms_bytes.specs.FieldPlaces.{definitions_of, after_field, field_place}
use Rattle.terms_bytes.specs.Writing.{IsAccepted}
use Rattle.terms_bytes.proofs.QuestionPlaces.{framable_of, joined_in, joined_length}
use Rattle.terms_bytes.proofs.Stores.{span, sets-join, sets-start}
use Rattle.fewest.specs.Choices.{in_order, under_list}
use Rattle.fewest.proofs.ListLaws.{pairs-allowed, pairs-fill, under_well_formed, under-fits}
use Rattle.fewest_lists.specs.Lists.{flagged, PairsWritten, QuestionWritten}
use Rattle.fewest_lists.proofs.FlagLaws.{flagged_apart}
use Rattle.fewest_lists.proofs.PairWriting.{flagged-bytes}
use Rattle.field.specs.Situation.{all_pairs}

under-bytes : (e : Edition) (q : Question) (D : Pairs) → write_in e (under_list q D) ≡ before_apart e (fields_in e q) ++ sized (pair_bytes D)
unfolding write_in fields_in under_list before_apart
under-bytes e q D = joined_apart e (fields_in e (under_list q D))

length-sized : (xs : List ℕ) → length (sized xs) ≡ 2 + length xs
unfolding sized
length-sized xs = omega arith

-- what stands before the list, in the question's own edition
abbrev before : List ℕ → Question → List ℕ
before s q = before_apart (edition_of s) (fields_in (edition_of s) q)

-- the list may be as long as check 12 allows
before_short : (s : List ℕ) (q : Question) → question_of s ≡ result q → length (before s q) + (2 + longest_apart) ≤ longest_question
before_short s q h =
    let e = edition_of s in
    let r = under_list q (all_pairs name_count) in
    let w = under_well_formed q (own_well_formed s q h) (all_pairs name_count) pairs-allowed (omega (arith, pairs-fill)) in
    let l = written-length e r w (under-fits e q (all_pairs name_count) ∙ own-fits s q h) in
    omega (
      arith,
      l,
      ap length (under-bytes e q (all_pairs name_count)),
      length-append (before s q) (sized (pair_bytes (all_pairs name_count))),
      length-sized (pair_bytes (all_pairs name_count)),
      pairs-fill,
    )

-- The place of the apart list, as the code computes it.
module _ (s : List ℕ) (first second apart : ℕ) (first_at : first ≡ field_place s (definitions_of s)) (second_at : second ≡ after_field s first)
    (apart_at : apart ≡ after_field s second) where
  place_is : (q : Question) → question_of s ≡ result q → length s ≡ apart + (length (pair_bytes q.apart) + 2)
  unfolding question_with fields_in
  place_is q h =
      let e = edition_of s in
      let y : second ≡ after_field s (field_place s (definitions_of s)) = second_at ∙ ap (after_field s) first_at in
      let z : apart ≡ after_field s (after_field s (field_place s (definitions_of s))) = apart_at ∙ ap (after_field s) y in
      rw z
      (subst (λ (s : List ℕ). length s ≡ after_field s (after_field s (field_place s (definitions_of s))) + (length (pair_bytes q.apart) + 2)) (joined_in e s q h)
      (joined_length e (fields_in e q) (framable_of e s q h)))

  before_is : (q : Question) → question_of s ≡ result q → (apart ≡ length (before s q)) × (span s 0 apart ≡ before s q)
  before_is q e =
      let b = (declared_bytes s q e 0 0).0 in
      let F = before s q in
      let l : apart ≡ length F = omega (
        arith,
        place_is q e,
        ap length b,
        length-append F (sized (pair_bytes q.apart)),
        length-sized (pair_bytes q.apart),
      ) in
      (l, ap (λ (n : ℕ). take n s) l ∙ ap (take (length F)) b ∙ take-append_seam F (sized (pair_bytes q.apart)))

  pub apart_inside : IsAccepted s → apart + 2 ≤ length s
  unfolding IsAccepted
  apart_inside (q, e) = omega (arith, place_is q e)

  pub apart_room : IsAccepted s → apart + 2 + longest_apart ≤ longest_question
  unfolding IsAccepted
  apart_room (q, e) = omega (arith, (before_is q e).0, before_short s q e)

-- a store before a run may come after it
set_before : (l : List ℕ) (p q a : ℕ) (xs : List ℕ) → p < q → set (sets l q xs) p a ≡ sets (set l p a) q xs
set_before l p q a [] h = refl
set_before l p q a (x ∷ xs) h =
    set_before (set l q x) p (suc q) a xs (omega arith) ∙ ap (λ m. sets m (suc q) xs) (set_comm l q p x a (λ e. omega arith))

-- A list behind two bytes that are stored last.
sized-stored : (l : List ℕ) (p size : ℕ) (xs : List ℕ) → size ≡ length xs
    → set (set (sets l (p + 2) xs) p (size / 256)) (p + 1) (size % 256) ≡ sets l p (sized xs)
unfolding sized
sized-stored l p size xs e =
    let a : p + 1 ≡ suc p = omega arith in
    let b : p + 2 ≡ suc (suc p) = omega arith in
    ap (λ m. set m (p + 1) (size % 256)) (set_before l p (p + 2) (size / 256) xs (omega arith))
    ∙ set_before (set l p (size / 256)) (p + 1) (p + 2) (size % 256) xs (omega arith)
    ∙ rw (e, a, b) refl

-- The whole question.
module _ (s flags out out₁ out₂ : List ℕ) (first second apart end size : ℕ) (first_at : first ≡ field_place s (definitions_of s))
    (second_at : second ≡ after_field s first) (apart_at : apart ≡ after_field s second) (accepted : IsAccepted s) (room : longest_question ≤ length out)
    (copied : out₁ ≡ sets out 0 (span s 0 apart)) (put : PairsWritten flags out₁ (apart + 2) end out₂) (sizes : size ≡ end - apart - 2) where
  L : List ℕ
  L = pair_bytes (flagged flags (all_pairs name_count))

  end_is : end ≡ apart + 2 + length L
  unfolding PairsWritten L
  end_is = put.ends

  run : set (set out₂ apart (size / 256)) (apart + 1) (size % 256) ≡ sets out₁ apart (sized L)
  unfolding PairsWritten L
  run =
      ap (λ o. set (set o apart (size / 256)) (apart + 1) (size % 256)) put.written
      ∙ sized-stored out₁ apart size L (omega (arith, sizes, end_is))

  pub question_written : QuestionWritten s flags out end (set (set out₂ apart (size / 256)) (apart + 1) (size % 256))
  unfolding L
  question_written = record {
    within = omega (arith, end_is, flagged-bytes flags, apart_room s first second apart first_at second_at apart_at accepted);
    is = λ q D e f.
        let (l, b) = before_is s first second apart first_at second_at apart_at q e in
        let F = before s q in
        let o : out₁ ≡ sets out 0 F = copied ∙ ap (sets out 0) b in
        let W = F ++ sized L in
        let n : length W ≡ end = omega (arith, end_is, l, length-append F (sized L), length-sized L) in
        let x : set (set out₂ apart (size / 256)) (apart + 1) (size % 256) ≡ sets out 0 W =
        run ∙ ap (λ m. sets m apart (sized L)) o ∙ sets-join out 0 apart F (sized L) (omega (arith, l)) in
        let y : sets out 0 W ≡ W ++ drop (length W) out =
        sets-start out W (omega (arith, n, end_is, flagged-bytes flags, apart_room s first second apart first_at second_at apart_at accepted)) in
        let z : W ≡ write_in (edition_of s) (under_list q (in_order name_count D)) =
        ap (λ D. F ++ sized (pair_bytes D)) (ap (λ fs. flagged fs (all_pairs name_count)) f ∙ flagged_apart D)
        ∙ sym (under-bytes (edition_of s) q (in_order name_count D)) in
        ap (take end) (x ∙ y) ∙ ap (λ (k : ℕ). take k (W ++ drop (length W) out)) (sym n) ∙ take-append_seam W (drop (length W) out) ∙ z;
  }
