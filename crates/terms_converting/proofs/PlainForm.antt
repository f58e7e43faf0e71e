-- The edition-one form of an accepted question of edition two, made aside: what merge, the lister and the judge go on with.
use mathlib.Core.Path.{◌≡◌, sym, ap, ◌∙◌}
use mathlib.Core.Bool.{Bool, true, false}
use mathlib.Core.List.{List}
use Prim.Native.Nat.{ℕ, ◌≤◌}
use native.Mathlib.Omega.{arith}
use lib.ListN.{length, take}
use Rattle.terms.specs.Answer.{result}
use Rattle.terms.specs.Edition.{Edition, one, two}
use Rattle.terms.specs.Limits.{longest_question}
use Rattle.terms.specs.Question.{Question, check_in, check_of, edition_of, question_of, question_with, write}
use Rattle.terms.proofs.EditionOne.{write-first}
use Rattle.terms.proofs.WellFormed.{accepted_in, well_formed_accepted}
use Rattle.terms_bytes.specs.Counted.{edition_from}
use Rattle.terms_bytes.specs.Writing.{Writes}
use Rattle.terms_converting.specs.Questions.{MayConvert, ConvertsQuestion}
use Rattle.terms_converting.proofs.FittingLaws.{may_convert, aside_room, aside_bytes}

-- A question in its own edition, once it is known whether its calls are counted.
pub own-counted : (question : List ℕ) (q : Question) (counted : Bool) → edition_from counted ≡ edition_of question → counted ≡ true → question_of question ≡ result q
    → check_in two question ≡ result q
unfolding question_with edition_from
own-counted question q counted e t h = ap (λ (x : Edition). check_in x question) (sym (ap edition_from t) ∙ e) ∙ h

pub own_plain : (question : List ℕ) (q : Question) (counted : Bool) → edition_from counted ≡ edition_of question → counted ≡ false → question_of question ≡ result q
    → check_of question ≡ result q
unfolding question_with check_of edition_from
own_plain question q counted e t h = ap (λ (x : Edition). check_in x question) (sym (ap edition_from t) ∙ e) ∙ h

module _ (question : List ℕ) (q : Question) (a : check_in two question ≡ result q) where
  pub plain_may : (out : List ℕ) → length out ≡ longest_question → MayConvert question true out
  unfolding edition_from
  plain_may out l = may_convert question true q a out l

  pub plain_checked : (s : List ℕ) → s ≡ write q → check_of s ≡ result q
  plain_checked s h = ap check_of h ∙ well_formed_accepted q (accepted_in two question q a).0

  module _ (out out' : List ℕ) (n : ℕ) (w : ConvertsQuestion question true out n out') where
    written : Writes one q out n out'
    unfolding ConvertsQuestion edition_from
    written = w q a

    pub plain_room : n ≤ longest_question
    unfolding Writes edition_from
    plain_room = let l = written.0 in omega (arith, aside_room question true q a)

    pub plain_taken : take n out' ≡ write q
    unfolding edition_from
    plain_taken = aside_bytes question true q a out out' n written ∙ write-first q

    pub plain_size : n ≡ length (take n out')
    unfolding Writes
    plain_size = written.0 ∙ ap length (write-first q ∙ sym plain_taken)
