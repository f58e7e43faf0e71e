-- The tidied result of a candidate: written into the raw buffer, and from there. Assumes nothing.
use mathlib.Core.Bool.{Bool, true, false}
use mathlib.Core.List.{List, ◌++◌}
use mathlib.Core.Path.{◌≡◌, refl, sym, ◌∙◌, subst}
use native.Mathlib.Omega.{arith}
use Prim.Native.Nat.{ℕ, suc, ◌≤◌}
use lib.ListN.{length, get_or, drop}
use Rattle.calculus.specs.Abstraction.{Act, tau_a, inp_a, out_a, bout_a}
use Rattle.calculus.specs.Cond.{Cond, cls}
use Rattle.calculus.specs.Definitions.{Defs}
use Rattle.calculus.specs.Term.{Term, ren}
use Rattle.calculus.proofs.Conditions.{cls_le}
use Rattle.calculus.proofs.Working.{Trans}
use Rattle.terms.specs.Encoding.{encode, InScope}
use Rattle.terms.specs.Limits.{name_count}
use Rattle.terms.specs.Question.{Question, body_of}
use Rattle.terms.proofs.RenamingKeeps.{length-ren}
use Rattle.terms.proofs.WellFormed.{accepted_well_formed}
use Rattle.terms_bytes.specs.Shape.{height}
use Rattle.terms_bytes.proofs.Heights.{height-ren}
use Rattle.terms_bytes.proofs.Stores.{sets-start}
use Rattle.terms_tidying.specs.Tidying.{longest_raw, Tidied, TidiedIs}
use Rattle.terms_tidying.specs.declared.tidy.Ends.{Ends}
use Rattle.steps.specs.Forms.{as_it_is}
use Rattle.calculus.specs.Lists.{All}
use Rattle.steps.specs.Listed.{listed_as, canon_step}
use Rattle.steps.specs.Raw.{Candidate, step, blocked}
use Rattle.steps.proofs.Calls.{Opens}
use Rattle.steps.proofs.FormLaws.{as_it_is_lem}
use Rattle.steps.proofs.ListingLaws.{well_listed}
use Rattle.steps.proofs.QuestionDefinitions.{definitions, bodies_in_scope, opens_one}
use Rattle.steps.proofs.RawSound.{Sound, visible_sound, silent_sound}
use Rattle.steps.proofs.Scope.{scope_calls}
use Rattle.steps_tallies.specs.Bodies.{AritiesIs}
use Rattle.steps_tallies.specs.Candidates.{candidates}
use Rattle.steps_plans.specs.Plans.{receiving}
use Rattle.steps_splicing.specs.ListedParts.{Lists}
use Rattle.steps_placing.specs.Taking.{candidates_of, ResultIs}
use Rattle.steps_placing.proofs.ResultScope.{all-at, within}
use Rattle.steps_placing.specs.TidiedResults.{TidiedResultIs}

-- The result of a candidate in canonical form is in scope, the new name counted.
canon_scope : (arities : List ℕ) (x : ℕ) (M : Cond) (α : Act) (A : Term) → InScope (suc name_count) arities 0 (canon_step as_it_is name_count x M α A).result
    → InScope (suc name_count) arities 0 (ren (receiving x (cls M) α) A)
unfolding canon_step listed_as receiving
canon_scope arities x M tau_a A s = s
canon_scope arities x M (inp_a a) A s = s
canon_scope arities x M (out_a a b) A s = s
canon_scope arities x M (bout_a a) A s = s

pub result_scope : (question part : List ℕ) (x : ℕ) (q : Question) (P : Term) → Lists question part x q P → (silently : Bool) (i : ℕ) (M : Cond) (α : Act) (A : Term)
    → get_or (candidates_of silently q P) i blocked ≡ step M α A → InScope (suc name_count) q.arities 0 (ren (receiving x (cls M) α) A)
unfolding definitions candidates_of candidates
result_scope question part x q P l silently i M α A e =
    let bodies = (accepted_well_formed question q l.accepted).bodies in
    let Δ : Defs = definitions q.arities q.bodies bodies in
    let calls = scope_calls name_count q.arities 0 P l.scope in
    let opens = opens_one q.arities q.bodies bodies Δ (λ k. refl) refl P calls in
    let cs : List Candidate = candidates silently (body_of q.bodies) 1 P in
    let t : Trans Δ P M α A = subst (Sound Δ P) e (all-at (Sound Δ P) cs (sound Δ silently opens) i (within cs i M α A e)) in
    let h = l.new in
    canon_scope q.arities x M α A
    (well_listed as_it_is_lem Δ name_count (suc name_count) (omega arith) q.arities (bodies_in_scope q.arities q.bodies bodies Δ (λ k. refl) refl) x (omega arith) P
    l.scope M α A t).scope
  where
    sound : (Δ : Defs) (b : Bool) → Opens Δ 1 P → All (Sound Δ P) (candidates b Δ.body 1 P)
    sound Δ true o = silent_sound Δ 1 P o
    sound Δ false o = visible_sound Δ 1 P o

pub tidied-written : (question part : List ℕ) (silently : Bool) (i : ℕ) (class : List ℕ) (x : ℕ) (raw raw' out out' arities : List ℕ) (n : ℕ) (r : Ends)
    → length raw ≡ longest_raw → longest_raw ≤ length out → ResultIs question part silently i class x raw n raw' → AritiesIs question arities
    → TidiedIs raw' 0 arities out 0 r out' → TidiedResultIs question part silently i class x out r.written out'
unfolding ResultIs TidiedResultIs Tidied AritiesIs
tidied-written question part silently i class x raw raw' out out' arities n r size room w ar t q P l M α A e classes low short =
    let R : Term = ren (receiving x (cls M) α) A in
    let s : length (encode 0 R) ≡ length (encode 0 A) = length-ren 0 0 (receiving x (cls M) α) A in
    let h : height R ≡ height A = height-ren (receiving x (cls M) α) A in
    let f = (w true q P l M α A e (cls M) (λ k j. (classes k j, omega (arith, cls_le M k))) (λ _. low)).fits refl (omega arith) in
    let st : raw' ≡ encode 0 R ++ drop (length (encode 0 R)) raw = f.1 ∙ sets-start raw (encode 0 R) (omega arith) in
    let g = t.is (suc name_count) 0 R (drop (length (encode 0 R)) raw) (omega arith)
    (subst (λ (l : List ℕ). InScope (suc name_count) l 0 R) (sym (ar q l.accepted)) (result_scope question part x q P l silently i M α A e))
    st (omega arith) (omega arith) (omega arith) in
    (omega (arith, g.1), g.2)
