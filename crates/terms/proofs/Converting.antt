-- The converters: down and up again, or up and down again, gives the original bytes, and both forms are one question, so that every verdict and
-- every list of steps is the same.
use mathlib.Core.Path.{◌≡◌, refl, sym, ap, subst, ◌∙◌}
use mathlib.Core.List.{List}
use mathlib.Core.Bool.{true}
use Prim.Native.Nat.{ℕ, ◌≤◌}
use lib.ListN.{length}
use lib.Dec.{leb}
use borrow.Author.Tests.{le-leb}
use Rattle.terms.specs.Answer.{result, ◌>>=◌}
use Rattle.terms.specs.Edition.{Edition, one, two, other}
use Rattle.terms.specs.Operations.{written_within, convert_of}
use Rattle.terms.specs.Question.{Question, check_in, question_of, write_in, fits_in, write}
use Rattle.terms.proofs.Answers.{bind-result, bind_to, need-result, need-passed}
use Rattle.terms.proofs.EditionOne.{write-first}
use Rattle.terms.proofs.OwnEdition.{in_own}
use Rattle.terms.proofs.WellFormed.{accepted_in, written_in, in_accepted, fits-first}
use Rattle.terms.proofs.WrittenLaws.{written_within_lem}

other-other : (e : Edition) → other (other e) ≡ e
other-other one = refl
other-other two = refl

-- What a converter did: the question is one that is accepted in the other edition, and fits this one.
pub record Converted (e : Edition) (question next : List ℕ) : Type 0 where
  pub read : Question
  pub accepted : check_in (other e) question ≡ result read
  pub fitting : fits_in e read ≡ true
  pub written : write_in e read ≡ next

pub converted : (e : Edition) (question : List ℕ) (room : ℕ) (next : List ℕ) → convert_of e question room ≡ result next → Converted e question next
unfolding convert_of ◌>>=◌
converted e question room next h =
    let u = bind-result (check_in (other e) question) _ next h in
    let f = need-result 17 (fits_in e u.0) _ next u.2 in
    let w = written_within_lem e (result u.0) room next f.1 in
    record { read = u.0; accepted = u.1; fitting = f.0; written = ap (write_in e) (cc) ∙ sym w.bytes }

-- What is written is accepted, as the same question.
pub converted_read : (e : Edition) (question next : List ℕ) (c : Converted e question next) → check_in e next ≡ result c.read
converted_read e question next c =
    subst (λ (bs : List ℕ). check_in e bs ≡ result c.read) c.written
    (in_accepted e c.read (accepted_in (other e) question c.read c.accepted).0 c.fitting)

-- There and back gives the original bytes, wherever they have room.
pub there_and_back : (e : Edition) (question next : List ℕ) (room room' : ℕ) → convert_of e question room ≡ result next → length question ≤ room'
    → convert_of (other e) next room' ≡ result question
unfolding convert_of written_within
there_and_back e question next room room' h l =
    let c = converted e question room next h in
    let q = c.read in
    let back : write_in (other e) q ≡ question = written_in (other e) question q c.accepted in
    let r : check_in (other (other e)) next ≡ result q =
    subst (λ (x : Edition). check_in x next ≡ result q) (sym (other-other e)) (converted_read e question next c) in
    bind_to _ r
    ∙ need-passed 17 (fits_in (other e) q) _ (accepted_in (other e) question q c.accepted).1
    ∙ need-passed 15 (leb (length (write_in (other e) q)) room') _ (rw back (le-leb (length question) room' l))
    ∙ ap result back

-- Either form is one question, for every operation that takes one.
pub one_question : (e : Edition) (question next : List ℕ) (room : ℕ) → convert_of e question room ≡ result next
    → question_of next ≡ question_of question
one_question e question next room h =
    let c = converted e question room next h in
    in_own e next c.read (converted_read e question next c) ∙ sym (in_own (other e) question c.read c.accepted)

-- The way down: exactly the accepted questions of edition two that have room. Check 17 never fires, for edition one is never longer.
pub down_is : (question : List ℕ) (q : Question) (room : ℕ) → check_in two question ≡ result q → length (write q) ≤ room
    → convert_of one question room ≡ result (write q)
unfolding convert_of written_within
down_is question q room h l =
    bind_to _ h
    ∙ need-passed 17 (fits_in one q) _ (fits-first q (accepted_in two question q h).0)
    ∙ need-passed 15 (leb (length (write_in one q)) room) _ (rw write-first (le-leb (length (write q)) room l))
    ∙ ap result (write-first q)
