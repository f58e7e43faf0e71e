-- Well-formed questions: what checks 5 to 12 ask, said of a question's terms. That check accepts exactly the writing of these is a theorem
-- (proofs/WellFormed, accepted-iff-written).
use Rattle.std.specs.Prelude.{◌≡◌, true, List, [], ◌∷◌, ℕ, ◌≤◌, ◌<◌, length}
use Rattle.calculus.specs.Term.{Term}
use Rattle.terms.specs.Limits.{name_count, most_definitions, greatest_arity, longest_term, longest_apart_of}
use Rattle.terms.specs.Encoding.{encode, InScope}
use Rattle.terms.specs.Grammar.{sequential, parallel_outermost, guarded}
use Rattle.terms.specs.Question.{Question, pair_bytes}

module _ {A : Type 0} where
  -- T holds of every member
  unfoldable pub Every : (A → Type 0) → List A → Type 0
  Every T [] = Unit {0}
  Every T (x ∷ xs) = T x × Every T xs

-- What checks 6 to 11 ask of a body with a parameters.
pub record BodyAllowed (arities : List ℕ) (a : ℕ) (P : Term) : Type 0 where
  pub scope : InScope 0 arities a P
  pub size : length (encode a P) ≤ longest_term
  pub no_parallel : sequential P ≡ true
  pub calls_guarded : guarded P ≡ true

-- A body for each arity, each allowed.
unfoldable pub BodiesAllowed : List ℕ → List ℕ → List Term → Type 0
BodiesAllowed arities (a ∷ as') (P ∷ Ps) = BodyAllowed arities a P × BodiesAllowed arities as' Ps
BodiesAllowed arities (a ∷ as') [] = ⊥
BodiesAllowed arities [] (P ∷ Ps) = ⊥
BodiesAllowed arities [] [] = Unit {0}

module _ (names : ℕ) where
  -- What checks 6 to 10 ask of a part.
  pub record PartAllowedWith (arities : List ℕ) (P : Term) : Type 0 where
    pub scope : InScope names arities 0 P
    pub size : length (encode 0 P) ≤ longest_term
    pub parallels_outermost : parallel_outermost P ≡ true

  -- What check 12 asks of a pair of the apart list.
  pub record PairAllowedWith (p : ℕ × ℕ) : Type 0 where
    pub left : p.0 < names
    pub right : p.1 < names
    pub differ : p.0 ≡ p.1 → ⊥

  -- A well-formed question over so many names.
  pub record WellFormedWith (q : Question) : Type 0 where
    pub definitions : length q.arities ≤ most_definitions
    pub parameters : Every (λ a. a ≤ greatest_arity) q.arities
    pub bodies : BodiesAllowed q.arities q.arities q.bodies
    pub first : PartAllowedWith q.arities q.first
    pub second : PartAllowedWith q.arities q.second
    pub apart : Every PairAllowedWith q.apart
    pub apart_size : length (pair_bytes q.apart) ≤ longest_apart_of names

-- The same for the names that a part may have.
abbrev pub PartAllowed : List ℕ → Term → Type 0
PartAllowed = PartAllowedWith name_count

abbrev pub PairAllowed : ℕ × ℕ → Type 0
PairAllowed = PairAllowedWith name_count

abbrev pub WellFormed : Question → Type 0
WellFormed = WellFormedWith name_count
