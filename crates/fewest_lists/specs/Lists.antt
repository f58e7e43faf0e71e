-- Sets of pairs as flags, as bytes and as the apart list of a question: what the code over them promises.
use Rattle.std.specs.Prelude.{cond, List, [], ◌∷◌, map, ◌≡◌, ℕ, ◌+◌, ◌≤◌, eqb, length, get_or, take}
use Rattle.std.proofs.lemmas.List.Edits.{sets}
use Rattle.calculus.specs.Cond.{Pairs}
use Rattle.terms.specs.Answer.{result}
use Rattle.terms.specs.Limits.{name_count}
use Rattle.terms.specs.Operations.{holds_apart}
use Rattle.terms.specs.Question.{Question, edition_of, question_of, pair_bytes, write_in}
use Rattle.field_pairs.specs.Slot.{flag, flags_of}
use Rattle.fewest.specs.Choices.{may_choose, in_order, under_list}
use Rattle.field.specs.Situation.{all_pairs}
use Rattle.field_pairs.specs.PairNumbers.{pair_at}

-- of an apart list's bytes
unfoldable pub ApartFlagIs : List ℕ → ℕ → ℕ → Type 0
ApartFlagIs list k r = (D : Pairs) → list ≡ pair_bytes D → r ≡ flag (holds_apart D (pair_at name_count k).0 (pair_at name_count k).1)

unfoldable pub ApartFlagsAre : List ℕ → List ℕ → Type 0
ApartFlagsAre list r = (D : Pairs) → list ≡ pair_bytes D → r ≡ flags_of D

-- the pairs that may be chosen, where the flags say which are apart
unfoldable pub open_flags : List ℕ → Pairs → List ℕ
open_flags names D = map (λ p. flag (may_choose names D p.0 p.1)) (all_pairs name_count)

unfoldable pub OpenFlagIs : List ℕ → List ℕ → ℕ → ℕ → Type 0
OpenFlagIs names flags k r = (D : Pairs) → flags ≡ flags_of D → r ≡ flag (may_choose names D (pair_at name_count k).0 (pair_at name_count k).1)

unfoldable pub OpenFlagsAre : List ℕ → List ℕ → List ℕ → Type 0
OpenFlagsAre names flags r = (D : Pairs) → flags ≡ flags_of D → r ≡ open_flags names D

-- the pairs whose flags are set
unfoldable pub flagged : List ℕ → Pairs → Pairs
flagged [] ps = []
flagged (f ∷ fs) [] = []
flagged (f ∷ fs) (p ∷ ps) = cond (eqb f 0) (flagged fs ps) (p ∷ flagged fs ps)

-- pair k, if its flag is set
unfoldable pub flagged_at : List ℕ → ℕ → Pairs
flagged_at flags k = cond (eqb (get_or flags k 0) 0) [] (pair_at name_count k ∷ [])

-- The pairs D are written at a place, and where they end is answered.
pub record PairsPut (D : Pairs) (out : List ℕ) (put r : ℕ) (out' : List ℕ) : Type 0 where
  pub ends : r ≡ put + length (pair_bytes D)
  pub written : out' ≡ sets out put (pair_bytes D)

unfoldable pub PairWritten : List ℕ → ℕ → List ℕ → ℕ → ℕ → List ℕ → Type 0
PairWritten flags k out end r out' = PairsPut (flagged_at flags k) out end r out'

unfoldable pub PairsWritten : List ℕ → List ℕ → ℕ → ℕ → List ℕ → Type 0
PairsWritten flags out put r out' = PairsPut (flagged flags (all_pairs name_count)) out put r out'

-- The question under the list that the flags say stands at the front, in its own edition.
pub record QuestionWritten (question flags out : List ℕ) (r : ℕ) (out' : List ℕ) : Type 0 where
  pub within : r ≤ length out
  pub is : (q : Question) (D : Pairs) → question_of question ≡ result q → flags ≡ flags_of D
      → take r out' ≡ write_in (edition_of question) (under_list q (in_order name_count D))
