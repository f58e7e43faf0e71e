-- Where neither the part nor a body has a restriction, the results of its candidates have none. The canonical form has the tidied result.
-- Assumes nothing.
use mathlib.Core.Bool.{Bool, true, false}
use mathlib.Core.List.{List, [], ◌∷◌, ◌++◌}
use mathlib.Core.Path.{◌≡◌, refl, subst}
use Prim.Native.Nat.{ℕ}
use lib.ListN.{get_or}
use Rattle.calculus.specs.Abstraction.{Act, tau_a, inp_a, out_a, bout_a}
use Rattle.calculus.specs.Cond.{Cond, cls}
use Rattle.calculus.specs.Term.{Term, ren}
use Rattle.calculus.specs.Tidy.{tidy}
use Rattle.terms.specs.Encoding.{encode}
use Rattle.terms.specs.Limits.{name_count}
use Rattle.terms.specs.Question.{Question, body_of}
use Rattle.terms_restrictions.specs.Restrictions.{Unrestricted}
use Rattle.steps.specs.Forms.{result_form}
use Rattle.steps.specs.Listed.{listed_as, canon_step, result_bytes}
use Rattle.calculus.specs.Lists.{All}
use Rattle.steps.specs.Raw.{Candidate, step, blocked, visible, silent}
use Rattle.steps_plans.specs.Plans.{receiving}
use Rattle.steps_tallies.specs.Candidates.{candidates}
use Rattle.steps_tallies.proofs.Unrestricted.{Plain, plain_candidates}
use Rattle.steps_splicing.specs.ListedParts.{Lists}
use Rattle.steps_splicing.specs.Ready.{PartUnrestricted}
use Rattle.steps_placing.specs.Taking.{candidates_of}
use Rattle.steps_placing.proofs.ResultScope.{all-at, within}

-- The canonical form has the tidied result.
pub tidied-canonical : (x : ℕ) (M : Cond) (α : Act) (A : Term)
    → result_bytes (canon_step result_form name_count x M α A) ≡ encode 0 (tidy (ren (receiving x (cls M) α) A))
unfolding result_form result_bytes canon_step listed_as receiving
tidied-canonical x M tau_a A = refl
tidied-canonical x M (inp_a a) A = refl
tidied-canonical x M (out_a a b) A = refl
tidied-canonical x M (bout_a a) A = refl

all_split : (S : Candidate → Type 0) (cs ds : List Candidate) → All S (cs ++ ds) → All S cs × All S ds
all_split S [] ds a = (tt, a)
all_split S (c ∷ cs) ds a = let (b, d) = all_split S cs ds a.1 in ((a.0, b), d)

-- The candidates of a term without restrictions.
plain_term : (body : ℕ → Term) → ((k : ℕ) → Unrestricted (body k)) → (C : Term) → Unrestricted C → (silently : Bool) (i : ℕ) (M : Cond) (α : Act) (A : Term)
    → get_or (candidates silently body 1 C) i blocked ≡ step M α A → Plain (step M α A)
unfolding candidates
plain_term body bodies C u true i M α A e =
    let cs : List Candidate = silent body 1 C in
    subst Plain e (all-at Plain cs (all_split Plain (visible body 1 C) cs (plain_candidates body bodies C u)).1 i (within cs i M α A e))
plain_term body bodies C u false i M α A e =
    let cs : List Candidate = visible body 1 C in
    subst Plain e (all-at Plain cs (all_split Plain cs (silent body 1 C) (plain_candidates body bodies C u)).0 i (within cs i M α A e))

module _ (question part : List ℕ) (U : PartUnrestricted question part) (x : ℕ) (q : Question) (P : Term) (l : Lists question part x q P) where
  plain_part : Unrestricted P
  plain_part = U.1 q P (l.accepted, l.scope, l.bytes)

  pub plain_at : (silently : Bool) (i : ℕ) (M : Cond) (α : Act) (A : Term) → get_or (candidates_of silently q P) i blocked ≡ step M α A → Plain (step M α A)
  unfolding candidates_of
  plain_at = plain_term (body_of q.bodies) (U.0 q l.accepted) P plain_part
