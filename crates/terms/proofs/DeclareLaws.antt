-- Declaring two names apart: the question so made is accepted exactly if check 12 allows the pair, and then differs in that pair alone.
use mathlib.Core.Path.{◌≡◌, refl, ◌∙◌}
use mathlib.Core.List.{[], ◌∷◌, ◌++◌}
use mathlib.Core.Bool.{Bool, true, false}
use Prim.Native.Nat.{ℕ, ◌+◌}
use native.Mathlib.Omega.{arith}
use lib.ListN.{length, length-append}
use lib.Dec.{leb}
use Rattle.calculus.specs.Cond.{Pairs}
use Rattle.terms.specs.Limits.{longest_apart}
use Rattle.terms.specs.Answer.{result, ◌>>=◌, ◌>>◌, need}
use Rattle.terms.specs.Edition.{Edition}
use Rattle.terms.specs.Framing.{joined}
use Rattle.terms.specs.Operations.{declared_fields, declared_question, may_declare}
use Rattle.terms.specs.Question.{Question, different_names, read_pairs, read_pairs_with, read_apart_with, check_in, pair_bytes, fields_in, fits_in}
use Rattle.terms.proofs.Answers.{Every, need-both}
use Rattle.terms.proofs.WellFormed.{WellFormed, PairAllowed, with_apart, decided_by_apart, pairs_read_before}

last_pair : (D : Pairs) (a b : ℕ) → Every PairAllowed D →
    read_pairs (pair_bytes D ++ (a ∷ b ∷ [])) ≡ (need 12 (different_names a b) >> result (D ++ ((a, b) ∷ [])))
unfolding read_pairs_with need ◌>>◌ ◌>>=◌
last_pair D a b h = pairs_read_before D (a ∷ b ∷ []) h ∙ go (different_names a b)
  where
    go : (t : Bool) →
        ((need 12 t >> (read_pairs [] >>= λ E. result ((a, b) ∷ E))) >>= λ E. result (D ++ E)) ≡ (need 12 t >> result (D ++ ((a, b) ∷ [])))
    go true = refl
    go false = refl

pub declared_answer : (e : Edition) (q : Question) → WellFormed q → fits_in e q ≡ true → (a b : ℕ) →
    check_in e (joined e (declared_fields a b (fields_in e q))) ≡ (need 12 (may_declare a b q) >> result (declared_question a b q))
unfolding declared_fields declared_question may_declare fields_in with_apart read_apart_with
declared_answer e q w fit a b =
    let xs = pair_bytes q.apart ++ (a ∷ b ∷ []) in
    let l : length xs ≡ length (pair_bytes q.apart) + 2 = length-append (pair_bytes q.apart) (a ∷ b ∷ []) in
    let few = w.apart_size in
    decided_by_apart e q w fit xs (omega arith)
    ∙ rw
    (last_pair q.apart a b w.apart, l)
    (need-both
    12
    (leb (length (pair_bytes q.apart) + 2) longest_apart)
    (different_names a b)
    (q.apart ++ ((a, b) ∷ []))
    (λ D. record { arities = q.arities; bodies = q.bodies; first = q.first; second = q.second; apart = D }))
