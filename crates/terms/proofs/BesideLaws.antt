-- A third part set beside both sides: the question written is accepted, in the same edition, and its parts are the old ones in parallel with the
-- third.
use mathlib.Core.Path.{◌≡◌, sym, ap, ◌∙◌}
use mathlib.Core.List.{List, ◌∷◌, ◌++◌}
use mathlib.Core.Bool.{true, ◌&&◌}
use Prim.Native.Nat.{ℕ, ◌+◌, ◌≤◌}
use native.Mathlib.Omega.{arith}
use lib.ListN.{length, length-append}
use lib.Dec.{leb}
use borrow.Author.Tests.{leb-true, le-leb}
use Rattle.calculus.specs.Term.{Term, par}
use Rattle.terms.specs.Limits.{longest_term}
use Rattle.terms.specs.Answer.{result}
use Rattle.terms.specs.Edition.{Edition, encode_in}
use Rattle.terms.specs.Encoding.{encode, InScope}
use Rattle.terms.specs.Reading.{numbered}
use Rattle.terms.specs.Grammar.{parallel_outermost}
use Rattle.terms.specs.Operations.{beside_question, fits_beside, placed_beside, beside_of}
use Rattle.terms.specs.Question.{Question, every, fits, read_part, edition_of, question_of, body_fields_in, write_in, fits_in}
use Rattle.terms.proofs.Answers.{result_injective, bind-result, need-result, both_true, true_both}
use Rattle.terms.proofs.EditionOne.{encode_shorter}
use Rattle.terms.proofs.OwnEdition.{edition_written, own_well_formed, own-fits, written_accepted}
use Rattle.terms.proofs.WellFormed.{PartAllowed, WellFormed, part_allowed}
use Rattle.terms.proofs.WrittenLaws.{written_within_lem}

-- Two parts in parallel, if they fit.
pub parallel_allowed : (arities : List ℕ) (P R : Term) → PartAllowed arities P → PartAllowed arities R →
    1 + length (encode 0 P) + length (encode 0 R) ≤ longest_term → PartAllowed arities (par P R)
unfolding InScope encode parallel_outermost
parallel_allowed arities P R p r l =
    record {
      scope = (p.scope, r.scope);
      size = omega (arith, length-append (encode 0 P) (encode 0 R));
      parallels_outermost = true_both (parallel_outermost P) (parallel_outermost R) p.parallels_outermost r.parallels_outermost;
    }

pub beside_well_formed : (q : Question) (R : Term) → WellFormed q → PartAllowed q.arities R →
    1 + length (encode 0 q.first) + length (encode 0 R) ≤ longest_term →
    1 + length (encode 0 q.second) + length (encode 0 R) ≤ longest_term → WellFormed (beside_question R q)
unfolding beside_question
beside_well_formed q R w r l m =
    record {
      definitions = w.definitions;
      parameters = w.parameters;
      bodies = w.bodies;
      first = parallel_allowed q.arities q.first R w.first r l;
      second = parallel_allowed q.arities q.second R w.second r m;
      apart = w.apart;
      apart_size = w.apart_size;
    }

-- A side with the third part, in either edition.
beside-fits : (e : Edition) (third : List ℕ) (R P : Term) → third ≡ encode_in e 0 R → fits_beside e third P ≡ true →
    (fits (encode_in e 0 (par P R)) ≡ true) × (1 + length (encode_in e 0 P) + length (encode_in e 0 R) ≤ longest_term)
unfolding fits_beside fits encode_in
beside-fits e third R P t f =
    let l : 1 + length (encode_in e 0 P) + length (encode_in e 0 R) ≤ longest_term = rw (← t) (leb-true (1 + length (encode_in e 0 P) + length third) longest_term f) in
    let a = length-append (encode_in e 0 P) (encode_in e 0 R) in
    let bs : List ℕ = 7 ∷ (encode_in e 0 P ++ encode_in e 0 R) in
    (true_both (leb 1 (length bs)) (leb (length bs) longest_term) (le-leb 1 (length bs) (omega arith)) (le-leb (length bs) longest_term (omega arith)), l)

fits-beside : (e : Edition) (q : Question) (R : Term) → fits_in e q ≡ true → fits (encode_in e 0 (par q.first R)) ≡ true →
    fits (encode_in e 0 (par q.second R)) ≡ true → fits_in e (beside_question R q) ≡ true
unfolding fits_in beside_question
fits-beside e q R f a b =
    let x = both_true (every fits (body_fields_in e q.arities q.bodies) && fits (encode_in e 0 q.first)) (fits (encode_in e 0 q.second)) f in
    let y = both_true (every fits (body_fields_in e q.arities q.bodies)) (fits (encode_in e 0 q.first)) x.0 in
    true_both _ _ (true_both _ _ y.0 a) b

-- What a beside that no check turns back was given, and what it makes.
pub record PlacedBeside (question third : List ℕ) (r : Question) : Type 0 where
  pub old : Question
  pub accepted : question_of question ≡ result old
  pub part : Term
  pub third_bytes : third ≡ encode_in (edition_of question) 0 part
  pub allowed : PartAllowed old.arities part
  pub is : r ≡ beside_question part old
  pub well_formed : WellFormed r
  pub fitting : fits_in (edition_of question) r ≡ true

pub placed-beside : (question third : List ℕ) (r : Question) → placed_beside question third ≡ result r → PlacedBeside question third r
unfolding placed_beside
placed-beside question third r h =
    let q = bind-result (question_of question) _ r h in
    let s = need-result 6 (fits third && fits_beside e third q.0.first && fits_beside e third q.0.second) _ r q.2 in
    let R = bind-result (read_part e (numbered q.0.arities) third) _ r s.1 in
    let g = need-result 10 (parallel_outermost R.0) _ r R.2 in
    made q.0 R.0 q.1 s.0 R.1 g.0 (result_injective {a = beside_question R.0 q.0} g.1)
  where
    e : Edition
    e = edition_of question

    made : (q : Question) (R : Term) → question_of question ≡ result q → (fits third && fits_beside e third q.first && fits_beside e third q.second) ≡ true →
        read_part e (numbered q.arities) third ≡ result R → parallel_outermost R ≡ true → beside_question R q ≡ r → PlacedBeside question third r
    made q R c s t g h =
        let x = both_true (fits third && fits_beside e third q.first) (fits_beside e third q.second) s in
        let y = both_true (fits third) (fits_beside e third q.first) x.0 in
        let p = part_allowed e q.arities third R y.0 t g in
        let f₁ = beside-fits e third R q.first p.0 y.1 in
        let f₂ = beside-fits e third R q.second p.0 x.1 in
        let s₁ = f₁.1 in
        let s₂ = f₂.1 in
        let w = beside_well_formed q R (own_well_formed question q c) p.1
        (omega (arith, encode_shorter e 0 q.first, encode_shorter e 0 R)) (omega (arith, encode_shorter e 0 q.second, encode_shorter e 0 R)) in
        let f = fits-beside e q R (own-fits question q c) f₁.0 f₂.0 in
        record { old = q; accepted = c; part = R; third_bytes = p.0; allowed = p.1; is = sym h; well_formed = rw (← h) w; fitting = rw (← h) f }

-- The question that beside writes is accepted.
pub beside_accepted : (question third : List ℕ) (r : Question) → placed_beside question third ≡ result r
    → question_of (write_in (edition_of question) r) ≡ result r
beside_accepted question third r h = let p = placed-beside question third r h in written_accepted (edition_of question) r p.well_formed p.fitting

-- Beside keeps the edition: the third part came in the question's own, and what is written is of it.
pub beside_keeps : (question third : List ℕ) (room : ℕ) (next : List ℕ) → beside_of question third room ≡ result next
    → (q : Question) × (R : Term) × (question_of question ≡ result q) × (third ≡ encode_in (edition_of question) 0 R)
    × (edition_of next ≡ edition_of question) × (question_of next ≡ result (beside_question R q))
unfolding beside_of
beside_keeps question third room next h =
    let w = written_within_lem (edition_of question) (placed_beside question third) room next h in
    let p = placed-beside question third w.question w.made in (
      p.old,
      p.part,
      p.accepted,
      p.third_bytes,
      ap edition_of w.bytes ∙ edition_written (edition_of question) w.question,
      ap question_of w.bytes ∙ beside_accepted question third w.question w.made ∙ ap result p.is,
    )
