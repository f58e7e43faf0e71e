-- A question written into a result area (check 15): what was written, and where.
use mathlib.Core.Path.{◌≡◌, sym}
use mathlib.Core.List.{List}
use Prim.Native.Nat.{ℕ, ◌≤◌}
use lib.ListN.{length}
use lib.Dec.{leb}
use borrow.Author.Tests.{leb-true}
use Rattle.terms.specs.Answer.{Answer, result, ◌>>=◌}
use Rattle.terms.specs.Edition.{Edition}
use Rattle.terms.specs.Operations.{written_within}
use Rattle.terms.specs.Question.{Question, write_in}
use Rattle.terms.proofs.Answers.{result_injective, bind-result, need-result}

pub record Written (e : Edition) (m : Answer Question) (room : ℕ) (bs : List ℕ) : Type 0 where
  pub question : Question
  pub made : m ≡ result question
  pub bytes : bs ≡ write_in e question
  pub fits : length bs ≤ room

pub written_within_lem : (e : Edition) (m : Answer Question) (room : ℕ) (bs : List ℕ) → (m >>= written_within e room) ≡ result bs → Written e m room bs
unfolding written_within
written_within_lem e m room bs h =
    let q = bind-result m (written_within e room) bs h in
    let s = need-result 15 (leb (length (write_in e q.0)) room) (result (write_in e q.0)) bs q.2 in
    let b = sym (result_injective {a = write_in e q.0} s.1) in
    record { question = q.0; made = q.1; bytes = b; fits = rw b (leb-true (length (write_in e q.0)) room s.0) }
