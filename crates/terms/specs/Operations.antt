-- What check, merge, beside and the converters answer, and what they leave in the lent result area: document 01, "Turned back" and the end of
-- "Steps"; document 02, request 2026-05. A question may be of either edition, and what is made of it is written in its own.
use Rattle.std.specs.Prelude.{Bool, false, ◌&&◌, ◌||◌, not, List, [], ◌∷◌, ◌++◌, ℕ, ◌+◌, length, drop, ltb, leb, eqb}
use Rattle.calculus.specs.Cond.{Pairs, map_p, join}
use Rattle.calculus.specs.Term.{Term, par, ren}
use Rattle.terms.specs.Limits.{name_count, longest_term, longest_apart}
use Rattle.terms.specs.Answer.{Answer, refused, result, ◌>>=◌, ◌>>◌, need}
use Rattle.terms.specs.Edition.{Edition, other, encode_in}
use Rattle.terms.specs.Reading.{numbered}
use Rattle.terms.specs.Framing.{Fields}
use Rattle.terms.specs.Grammar.{parallel_outermost}
use Rattle.terms.specs.Question.{Question, fits, read_part, different_names, check_in, edition_of, question_of, pair_bytes, write_in, fits_in}

-- Check answers 0 where it turns nothing back.
unfoldable pub check_answer : List ℕ → Answer ℕ
check_answer question = do
  q ← question_of question
  result 0

-- The apart list holds a and b apart; the order of a pair means nothing.
unfoldable pub holds_apart : Pairs → ℕ → ℕ → Bool
holds_apart [] a b = false
holds_apart (p ∷ D) a b = (eqb p.0 a && eqb p.1 b) || (eqb p.0 b && eqb p.1 a) || holds_apart D a b

-- The larger of a and b replaced by the smaller, free in both parts and in the apart list.
unfoldable pub merged_question : ℕ → ℕ → Question → Question
merged_question a b q =
    record {
      arities = q.arities;
      bodies = q.bodies;
      first = ren (join a b) q.first;
      second = ren (join a b) q.second;
      apart = map_p (join a b) q.apart;
    }

-- Checks 3 to 12, then 14.
unfoldable pub merged : List ℕ → ℕ → ℕ → Answer Question
merged question a b = do
  q ← question_of question
  need 14 (ltb a name_count && ltb b name_count && not (holds_apart q.apart a b))
  result (merged_question a b q)

-- A third part beside both sides.
unfoldable pub beside_question : Term → Question → Question
beside_question R q =
    record {
      arities = q.arities;
      bodies = q.bodies;
      first = par q.first R;
      second = par q.second R;
      apart = q.apart;
    }

-- A side as long as P, byte 07 before it and the third part behind it, does not pass the limit of check 6.
unfoldable pub fits_beside : Edition → List ℕ → Term → Bool
fits_beside e third P = leb (1 + length (encode_in e 0 P) + length third) longest_term

-- Checks 3 to 12, then 6 to 10 of the third part, which comes in the question's own edition.
unfoldable pub placed_beside : List ℕ → List ℕ → Answer Question
placed_beside question third = do
  q ← question_of question
  need 6 (fits third && fits_beside (edition_of question) third q.first && fits_beside (edition_of question) third q.second)
  R ← read_part (edition_of question) (numbered q.arities) third
  need 10 (parallel_outermost R)
  result (beside_question R q)

-- The same in bytes: 07, the side and the third part on each side. That this is what beside writes is a theorem (proofs/LiteralBytes).
unfoldable pub beside_fields : List ℕ → Fields → Fields
beside_fields third f =
    record {
      arities = f.arities;
      bodies = f.bodies;
      first = 7 ∷ (f.first ++ third);
      second = 7 ∷ (f.second ++ third);
      apart = f.apart;
    }

-- Declaring two names apart is no operation: document 01, "A list of changes". The two bytes go to the end of the apart list, whose length
-- grows by 2, and the question so made is checked.
unfoldable pub declared_fields : ℕ → ℕ → Fields → Fields
declared_fields a b f =
    record { arities = f.arities; bodies = f.bodies; first = f.first; second = f.second; apart = f.apart ++ (a ∷ b ∷ []) }

unfoldable pub declared_question : ℕ → ℕ → Question → Question
declared_question a b q =
    record { arities = q.arities; bodies = q.bodies; first = q.first; second = q.second; apart = q.apart ++ ((a, b) ∷ []) }

-- What check 12 asks of the declaration: the list does not grow too long, and the bytes are two different names.
unfoldable pub may_declare : ℕ → ℕ → Question → Bool
may_declare a b q = leb (length (pair_bytes q.apart) + 2) longest_apart && different_names a b

-- Check 15, last: the question is written, in an edition, if the result area holds it.
unfoldable pub written_within : Edition → ℕ → Question → Answer (List ℕ)
written_within e room q = need 15 (leb (length (write_in e q)) room) >> result (write_in e q)

-- The bytes that merge and beside write into a result area of `room` bytes, in the question's own edition.
unfoldable pub merge_of : List ℕ → ℕ → ℕ → ℕ → Answer (List ℕ)
merge_of question a b room = merged question a b >>= written_within (edition_of question) room

unfoldable pub beside_of : List ℕ → List ℕ → ℕ → Answer (List ℕ)
beside_of question third room = placed_beside question third >>= written_within (edition_of question) room

-- The converter that writes edition e: check 3 fires for this edition too, then 4 to 12; 17 where a body or part is above 112 bytes once
-- converted; 15.
unfoldable pub convert_of : Edition → List ℕ → ℕ → Answer (List ℕ)
convert_of e question room = do
  q ← check_in (other e) question
  need 17 (fits_in e q)
  written_within e room q

-- What merge, beside and the converters answer: the length written.
unfoldable pub length_written : Answer (List ℕ) → Answer ℕ
length_written r = do
  bs ← r
  result (length bs)

-- The result area afterwards: as it was if the operation is turned back, and the bytes past the written question as they were.
unfoldable pub area_after : Answer (List ℕ) → List ℕ → List ℕ
area_after (refused k) area = area
area_after (result bs) area = bs ++ drop (length bs) area
