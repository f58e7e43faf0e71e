-- Theorem `raw_room`: where the part and the bodies are tidied, the result of each candidate, before it is tidied, fits the raw buffer, and each index of a
-- binder has a byte. Assumes nothing.
use mathlib.Core.Bool.{Bool, true, false}
use mathlib.Core.List.{List, [], ◌∷◌, map}
use mathlib.Core.Path.{◌≡◌, refl, sym, ◌∙◌, ap, ap₂, subst}
use native.Mathlib.Omega.{arith}
use Prim.Native.Nat.{ℕ, zero, suc, ◌+◌, ◌≤◌, max}
use lib.ListN.{length, get_or}
use Rattle.calculus.specs.Abstraction.{Act}
use Rattle.calculus.specs.Cond.{Cond}
use Rattle.calculus.specs.Term.{Term, nil, tau, inp, out, bout, mat, sum, par, res, call}
use Rattle.calculus.specs.Tidy.{tidy}
use Rattle.calculus.proofs.Tidying.{tidy-tidy}
use Rattle.terms.specs.Encoding.{encode, InScope}
use Rattle.terms.specs.Limits.{name_count, longest_term, greatest_arity}
use Rattle.terms.specs.Question.{Question, body_of}
use Rattle.terms.specs.WellFormed.{Every, BodiesAllowed, WellFormed}
use Rattle.terms_bytes.specs.Shape.{height}
use Rattle.terms_tidying.specs.Tidying.{longest_raw}
use Rattle.terms_tidying.proofs.TidyCounts.{restrictions, FewNames, few_restrictions, low}
use Rattle.calculus.specs.Lists.{All}
use Rattle.steps.specs.Raw.{Candidate, step, blocked, visible, silent}
use Rattle.calculus.proofs.Membership.{all_imp}
use Rattle.steps_tallies.specs.Candidates.{candidates}
use Rattle.steps_placing.specs.Taking.{candidates_of}
use Rattle.steps_placing.proofs.ResultScope.{all-at, within}
use Rattle.steps_placing.proofs.RawBounds.{size, size-at, Within, within_more, Visibly, Silently, visible_within, silent_within}
use Rattle.steps.proofs.TidyLists.{body-tidied}

-- Tidied bodies stay as they are.
pub bodies_again : (bodies : List Term) → map tidy (map tidy bodies) ≡ map tidy bodies
bodies_again [] = refl
bodies_again (P ∷ Ps) = ap₂ ◌∷◌ (tidy-tidy P) (bodies_again Ps)

-- A call in scope has at most 8 names, as its definition has.
module _ (arities : List ℕ) (parameters : Every (λ a. a ≤ greatest_arity) arities) where
  arity_few : (as' : List ℕ) → Every (λ a. a ≤ greatest_arity) as' → (k : ℕ) → get_or as' k 0 ≤ greatest_arity
  unfolding Every
  arity_few [] e k = omega arith
  arity_few (a ∷ as') e zero = e.0
  arity_few (a ∷ as') e (suc k) = arity_few as' e.1 k

  few_names : (free d : ℕ) (P : Term) → InScope free arities d P → FewNames P
  unfolding InScope FewNames
  few_names free d nil s = tt
  few_names free d (tau P) s = few_names free d P s
  few_names free d (inp a P) s = few_names free (1 + d) P s.1
  few_names free d (out a b P) s = few_names free d P s.2
  few_names free d (bout a P) s = few_names free (1 + d) P s.1
  few_names free d (mat a b P) s = few_names free d P s.2
  few_names free d (sum P Q) s = (few_names free d P s.0, few_names free d Q s.1)
  few_names free d (par P Q) s = (few_names free d P s.0, few_names free d Q s.1)
  few_names free d (res P) s = few_names free (1 + d) P s
  few_names free d (call k ns) s = omega (arith, s.1, arity_few arities parameters k)

  -- At most 49 restrictions, and 74 binders one within the other.
  tidied_few : (free d : ℕ) (P : Term) → InScope free arities d P → tidy P ≡ P → size P ≤ longest_term → (restrictions P ≤ 49) × (height P ≤ 74)
  tidied_few free d P s t l =
      let short : size (tidy P) ≤ 112 = subst (λ (Q : Term). size Q ≤ 112) (sym t) l in
      let f : FewNames (tidy P) = subst FewNames (sym t) (few_names free d P s) in
      (subst (λ (Q : Term). restrictions Q ≤ 49) t (few_restrictions P short f), subst (λ (Q : Term). height Q ≤ 74) t (low P short))

-- A body is in scope and short; where there is none, it is inaction.
body-allowed : (arities sizes : List ℕ) (bodies : List Term) → BodiesAllowed arities sizes bodies → (k : ℕ)
    → (a : ℕ) × InScope 0 arities a (body_of bodies k) × (size (body_of bodies k) ≤ longest_term)
unfolding BodiesAllowed body_of InScope encode
body-allowed arities [] (P ∷ Ps) w k = elim w [ ]
body-allowed arities (a ∷ sizes) [] w k = elim w [ ]
body-allowed arities [] [] w k = (0, tt, omega arith)
body-allowed arities (a ∷ sizes) (P ∷ Ps) w zero = (a, w.0.scope, (let h = w.0.size in omega (arith, size-at a P)))
body-allowed arities (a ∷ sizes) (P ∷ Ps) w (suc k) = body-allowed arities sizes Ps w.1 k

module _ (q : Question) (well : WellFormed q) (bodies : map tidy q.bodies ≡ q.bodies) (P : Term) (scope : InScope name_count q.arities 0 P)
    (tidied : tidy P ≡ P) (short : length (encode 0 P) ≤ longest_term) where
  body_few : (k : ℕ) → (restrictions (body_of q.bodies k) ≤ 49) × (height (body_of q.bodies k) ≤ 74)
  body_few k =
      let b = body-allowed q.arities q.arities q.bodies well.bodies k in
      let t : tidy (body_of q.bodies k) ≡ body_of q.bodies k = sym (body-tidied q.bodies k) ∙ ap (λ (l : List Term). body_of l k) bodies in
      tidied_few q.arities well.parameters 0 b.0 (body_of q.bodies k) b.1 t b.2

  body_short : (k : ℕ) → size (body_of q.bodies k) ≤ 112
  body_short k = (body-allowed q.arities q.arities q.bodies well.bodies k).2

  part_few : (restrictions P ≤ 49) × (height P ≤ 74)
  part_few = tidied_few q.arities well.parameters name_count 0 P scope tidied short

  pub visible_room : All (Within longest_raw 128) (visible (body_of q.bodies) 1 P)
  visible_room =
      let f = part_few in
      all_imp (Visibly 110 74 P) (Within longest_raw 128) (visible (body_of q.bodies) 1 P)
      (within_more (size P + 110) longest_raw (max (height P) (restrictions P + 74)) 128 (omega arith) (omega (arith, f.0, f.1)))
      (visible_within (body_of q.bodies) 74 body_short (λ k. (body_few k).1) (λ k. let r = (body_few k).0 in omega arith) P)

  pub silent_room : All (Within longest_raw 128) (silent (body_of q.bodies) 1 P)
  silent_room =
      let f = part_few in
      all_imp (Silently 110 74 P) (Within longest_raw 128) (silent (body_of q.bodies) 1 P)
      (within_more (size P + 221) longest_raw (1 + max (height P) (restrictions P + 74)) 128 (omega arith) (omega (arith, f.0, f.1)))
      (silent_within (body_of q.bodies) 74 body_short (λ k. (body_few k).1) (λ k. let r = (body_few k).0 in omega arith) P)

  room : (silently : Bool) → All (Within longest_raw 128) (candidates_of silently q P)
  unfolding candidates_of candidates
  room true = silent_room
  room false = visible_room

  pub raw_room : (silently : Bool) (i : ℕ) (M : Cond) (α : Act) (A : Term) → get_or (candidates_of silently q P) i blocked ≡ step M α A
      → (height A ≤ 128) × (length (encode 0 A) ≤ longest_raw)
  raw_room silently i M α A e =
      let cs : List Candidate = candidates_of silently q P in
      let w : Within longest_raw 128 (step M α A) =
      subst (Within longest_raw 128) e (all-at (Within longest_raw 128) cs (room silently) i (within cs i M α A e)) in
      (w.1, w.0)
