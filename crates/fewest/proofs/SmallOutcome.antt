-- Every answer leaves room for its kind, so that the number which carries it says no other. Assumes nothing.
use mathlib.Core.List.{List, ◌++◌}
use mathlib.Core.Path.{◌≡◌, refl, subst}
use native.Mathlib.Omega.{arith}
use Prim.Native.Nat.{ℕ, ◌*◌, ◌≤◌}
use lib.Dec.{leb}
use lib.ListN.{length}
use Rattle.calculus.specs.Cond.{Pairs}
use Rattle.terms.specs.Answer.{Answer, refused, result}
use Rattle.terms.specs.Limits.{name_count, longest_apart}
use Rattle.terms.specs.Question.{question_of, pair_bytes}
use Rattle.terms.proofs.Answers.{result_injective, bind-result, need-result}
use Rattle.terms.proofs.RefusalNumbers.{Numbered, numbered-bind, numbered-need, check_numbered}
use Rattle.verdict.specs.Judge.{slot_bytes}
use Rattle.verdict.specs.Outcome.{Small}
use Rattle.verdict.proofs.CapacityLaws.{passed_within, within_numbered}
use Rattle.fewest.specs.Apart.{names_given, list_for, apart_of, of_fewest}
use Rattle.fewest.specs.Choices.{enlarged}
use Rattle.fewest.specs.Fewest.{Fewest, undecided, none, chosen, fewest_of}
use Rattle.fewest.proofs.ListLaws.{list_length}

list_short : (apart : Pairs) (f : Fewest) (D : Pairs) → list_for apart f ≡ chosen D → length (pair_bytes D) ≤ longest_apart
unfolding list_for enlarged
list_short apart undecided D e = let z : ◌≡◌ {A = ℕ} 0 1 = cc in absurd (omega arith)
list_short apart none D e = let z : ◌≡◌ {A = ℕ} 0 1 = cc in absurd (omega arith)
list_short apart (chosen c) D e =
    let i : enlarged name_count apart c ≡ D = cc in subst (λ D. length (pair_bytes D) ≤ longest_apart) i (list_length (apart ++ c))

apart_numbered : (question : List ℕ) (capacity : ℕ) (names : List ℕ) (room space : ℕ) → Numbered (apart_of question capacity names room space)
unfolding apart_of Numbered
apart_numbered question capacity names room space =
    within_numbered capacity (slot_bytes * capacity) room _
    (numbered-bind (question_of question) _ (check_numbered question) (λ q.
    numbered-need 18 (names_given names) _ (omega arith) (numbered-need 15 (leb longest_apart space) _ (omega arith) tt)))

pub apart_small : (question : List ℕ) (capacity : ℕ) (names : List ℕ) (room space : ℕ) → Small (of_fewest (apart_of question capacity names room space))
unfolding apart_of of_fewest Small Numbered
apart_small question capacity names room space =
    go (apart_of question capacity names room space) refl (apart_numbered question capacity names room space)
  where
    go : (m : Answer Fewest) → apart_of question capacity names room space ≡ m → Numbered m → Small (of_fewest m)
    go (refused k) e h = h
    go (result undecided) e h = tt
    go (result none) e h = tt
    go (result (chosen D)) e h =
        let (_, e₁) = passed_within capacity (slot_bytes * capacity) room _ (chosen D) e in
        let (q, _, e₂) = bind-result (question_of question) _ (chosen D) e₁ in
        let (_, e₃) = need-result 18 (names_given names) _ (chosen D) e₂ in
        let (_, e₄) = need-result 15 (leb longest_apart space) _ (chosen D) e₃ in
        let few = list_short q.apart (fewest_of q capacity names) D (result_injective {a = list_for q.apart (fewest_of q capacity names)} e₄) in
        omega arith
