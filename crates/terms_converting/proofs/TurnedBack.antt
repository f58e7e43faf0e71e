-- What checks 3 to 12 answer decides merge and beside: turned back by the same check, or the question is accepted. Assumes nothing.
use mathlib.Core.Path.{◌≡◌}
use mathlib.Core.List.{List}
use Prim.Native.Nat.{ℕ}
use Rattle.terms.specs.Answer.{refused, result}
use Rattle.terms.specs.Operations.{check_answer, merged, merge_of, placed_beside, beside_of, written_within}
use Rattle.terms.specs.Question.{edition_of, question_of}
use Rattle.terms_bytes.specs.Writing.{IsAccepted}
use Rattle.terms_converting.proofs.FittingLaws.{made-refused}
use Rattle.terms.proofs.Answers.{bind-result, bind-refused}

pub check_accepted : (s : List ℕ) → check_answer s ≡ result 0 → IsAccepted s
unfolding check_answer IsAccepted
check_accepted s e = let t = bind-result (question_of s) _ 0 e in (t.0, t.1)

turned_back_lem : (s : List ℕ) (k : ℕ) → check_answer s ≡ refused k → question_of s ≡ refused k
unfolding check_answer
turned_back_lem s k e = made-refused (question_of s) (λ q. 0) k e

pub merge_turned_back : (s : List ℕ) (a b room k : ℕ) → check_answer s ≡ refused k → merge_of s a b room ≡ refused k
unfolding merge_of merged
merge_turned_back s a b room k e = bind-refused (written_within (edition_of s) room) (bind-refused _ (turned_back_lem s k e))

pub beside_turned_back : (s third : List ℕ) (room k : ℕ) → check_answer s ≡ refused k → beside_of s third room ≡ refused k
unfolding beside_of placed_beside
beside_turned_back s third room k e = bind-refused (written_within (edition_of s) room) (bind-refused _ (turned_back_lem s k e))
