-- The result of a silent candidate of a part is in scope as the part is. Assumes nothing.
use mathlib.Core.List.{List, [], ◌∷◌}
use mathlib.Core.Path.{◌≡◌, refl, subst}
use native.Mathlib.Omega.{arith}
use Prim.Native.Nat.{ℕ, zero, suc, ◌<◌}
use lib.ListN.{length, get_or}
use Rattle.calculus.specs.Abstraction.{Act, tau_a}
use Rattle.calculus.specs.Cond.{Cond}
use Rattle.calculus.specs.Definitions.{Defs}
use Rattle.calculus.specs.Term.{Term}
use Rattle.calculus.proofs.Working.{Trans}
use Rattle.calculus.proofs.WorkingNames.{resid_free}
use Rattle.terms.specs.Answer.{result}
use Rattle.terms.specs.Encoding.{InScope}
use Rattle.terms.specs.Limits.{name_count}
use Rattle.terms.specs.Question.{Question, check_of}
use Rattle.terms.proofs.ScopeLaws.{free_below}
use Rattle.terms.proofs.WellFormed.{accepted_well_formed}
use Rattle.terms.specs.Question.{body_of}
use Rattle.calculus.specs.Lists.{All}
use Rattle.steps.specs.Raw.{Candidate, step, blocked, silent}
use Rattle.steps_tallies.proofs.Premises.{never}
use Rattle.steps.proofs.QuestionDefinitions.{definitions, bodies_in_scope, opens_one}
use Rattle.steps.proofs.Scope.{scope_calls, in_scope, calls_residual}
use Rattle.steps.proofs.RawSound.{Sound, silent_sound}

pub all-at : (S : Candidate → Type 0) (cs : List Candidate) → All S cs → (i : ℕ) → i < length cs → S (get_or cs i blocked)
all-at S [] a i h = elim h [ ]
all-at S (c ∷ cs) a zero h = a.0
all-at S (c ∷ cs) a (suc i) h = all-at S cs a.1 i (omega arith)

pub within : (cs : List Candidate) (i : ℕ) (M : Cond) (α : Act) (A : Term) → get_or cs i blocked ≡ step M α A → i < length cs
within [] i M α A e = never M α A e
within (c ∷ cs) zero M α A e = omega arith
within (c ∷ cs) (suc i) M α A e = let h = within cs i M α A e in omega arith

pub silent_scope : (question : List ℕ) (q : Question) (P : Term) → check_of question ≡ result q → InScope name_count q.arities 0 P
    → (i : ℕ) (M : Cond) (W : Term)
    → get_or (silent (body_of q.bodies) 1 P) i blocked ≡ step M tau_a W → InScope name_count q.arities 0 W
unfolding definitions
silent_scope question q P ok scope i M W e =
    let bodies = (accepted_well_formed question q ok).bodies in
    let Δ : Defs = definitions q.arities q.bodies bodies in
    let calls = scope_calls name_count q.arities 0 P scope in
    let opens = opens_one q.arities q.bodies bodies Δ (λ k. refl) refl P calls in
    let cs : List Candidate = silent (body_of q.bodies) 1 P in
    let t : Trans Δ P M tau_a W = subst (Sound Δ P) e (all-at (Sound Δ P) cs (silent_sound Δ 1 P opens) i (within cs i M tau_a W e)) in
    in_scope name_count q.arities 0 W (λ n f. free_below name_count q.arities 0 P scope n (resid_free Δ t n f))
    (calls_residual q.arities Δ (bodies_in_scope q.arities q.bodies bodies Δ (λ k. refl) refl) t calls)
