-- A part with restrictions is listed as the tidied part is, and under bodies with restrictions as under the tidied ones (document 02, request 2026-04).
-- Assumes nothing.
use mathlib.Core.Bool.{Bool, true, false}
use mathlib.Core.List.{List, [], ◌++◌, append-nil}
use mathlib.Core.Path.{◌≡◌, refl, sym, ap, ap₂, subst, ◌∙◌}
use native.Mathlib.Omega.{arith}
use Prim.Native.Nat.{ℕ, ◌+◌, ◌-◌, ◌≤◌}
use lib.ListN.{length, take, replicate, length-take, length-replicate, replicate-append-replicate}
use lib.Seq.{sets, take-append_seam}
use Rattle.calculus.specs.Free.{Free}
use Rattle.calculus.specs.Term.{Term}
use Rattle.calculus.specs.Tidy.{tidy}
use Rattle.calculus.proofs.Tidying.{tidy-tidy}
use Rattle.terms.specs.Answer.{result}
use Rattle.terms.specs.Encoding.{encode, InScope}
use Rattle.terms.specs.Limits.{name_count, longest_term}
use Rattle.terms.specs.Question.{Question, check_of}
use Rattle.terms.proofs.TidyShorter.{tidy_shorter}
use Rattle.terms.proofs.WellFormed.{accepted_well_formed}
use Rattle.terms_bytes.proofs.Heights.{height-bytes}
use Rattle.terms_bytes.proofs.Stores.{sets_middle}
use Rattle.terms_restrictions.specs.Restrictions.{HasRestrictionIs}
use Rattle.terms_tidying.specs.TidiedTerms.{IsTidiedIs}
use Rattle.terms_tidying.specs.Tidying.{Tidied, TidiedIs}
use Rattle.terms_tidying.specs.declared.tidy.Ends.{Ends}
use Rattle.terms_restrictions.proofs.RestrictionWalk.{unrestricted}
use Rattle.terms_tidied.specs.TidiedBodies.{tidied_bodies, WritesTidied}
use Rattle.steps.specs.Forms.{result_form}
use Rattle.steps.specs.Listing.{steps_of}
use Rattle.steps.proofs.FormLaws.{form_scope, tidied_form}
use Rattle.steps.proofs.TidiedQuestions.{bodies_alike}
use Rattle.steps.proofs.TidyLists.{bodies_tidied_lem, alike_list}
use Rattle.steps_tallies.specs.Bodies.{AritiesIs}
use Rattle.steps_tallies.specs.Tally.{BodiesUnrestricted}
use Rattle.steps_tallies.proofs.Unrestricted.{unrestricted_tidied}
use Rattle.steps_lister.specs.PartLister.{PartTidied, AnswersListing, ListPartIs, ListTidiedIs, Restricted}
use Rattle.std.specs.Prelude.{Option}
use Rattle.steps_lister.proofs.TidiedBodies.{tidied_checked}

-- The front of what was tidied aside is short enough.
pub short_front : (part arities : List ℕ) (e : Ends) (aside : List ℕ) → TidiedIs part 0 arities (replicate longest_term 0) 0 e aside
    → length (take e.written aside) ≤ longest_term
short_front part arities e aside t = omega (arith, length-take e.written aside, t.room, length-replicate {A = ℕ} longest_term 0)

-- Neither the part nor a body has a restriction.
pub not_restricted : (question part arities : List ℕ) → AritiesIs question arities → BodiesUnrestricted question → (r : Bool)
    → HasRestrictionIs part arities r → Restricted question part r
unfolding AritiesIs HasRestrictionIs
not_restricted question part arities own bodies r has = record {
  plain = λ e. (
    bodies,
    λ q P h. unrestricted P (sym (has name_count 0 P (subst (λ (a : List ℕ). InScope name_count a 0 P) (sym (own q h.0)) h.1) h.2) ∙ e),
  );
}

-- It may be said of any part.
pub restricted : (question part : List ℕ) → Restricted question part true
restricted question part = record { plain = λ e. absurd (let z : ◌≡◌ {A = ℕ} 0 1 = cc in omega arith) }

-- A part without restrictions is tidied.
pub plain_tidied : (question part : List ℕ) → Restricted question part false → PartTidied question part
plain_tidied question part plain q P is = unrestricted_tidied P ((plain.plain refl).1 q P is)

-- So is one of which the walk says so.
pub walked-tidied : (question part arities : List ℕ) → AritiesIs question arities → IsTidiedIs part arities true → PartTidied question part
unfolding AritiesIs IsTidiedIs
walked-tidied question part arities own t q P (accepted, scope, bytes) =
    t refl name_count 0 P (omega arith) (subst (λ (a : List ℕ). InScope name_count a 0 P) (sym (own q accepted)) scope) bytes

-- A part that is tidied as it is.
pub list_as_it_is : (question part : List ℕ) (x : ℕ) (r : Option ℕ) (area' : List ℕ) → PartTidied question part → ListTidiedIs question part x r area'
    → ListPartIs question part x r area'
list_as_it_is question part x r area' tidied is = record {
  few = is.few;
  is = λ q P l new.
      is.is q P (record {
        accepted = l.accepted;
        scope = l.scope;
        bytes = l.bytes;
        size = l.size;
        new = l.new;
        tidied = tidied q P (l.accepted, l.scope, l.bytes);
      });
}

-- Parts of one tidied form have the same list.
steps_alike : (q : Question) (question : List ℕ) → check_of question ≡ result q → (x : ℕ) → x ≤ name_count → (P Q : Term) → InScope name_count q.arities 0 P
    → InScope name_count q.arities 0 Q → tidy P ≡ tidy Q → ¬ Free x P → steps_of q.bodies x P ≡ steps_of q.bodies x Q
unfolding steps_of result_form
steps_alike q question a x within P Q s t e new =
    let w = (accepted_well_formed question q a).bodies in
    alike_list q.arities q.bodies q.bodies w w refl x within P Q s t e new

-- The part is tidied aside, and its bytes are listed.
pub list_restricted : (question part arities : List ℕ) (x : ℕ) → AritiesIs question arities → (e : Ends) (aside : List ℕ)
    → TidiedIs part 0 arities (replicate longest_term 0) 0 e aside → (r : Option ℕ) (area' : List ℕ) → ListTidiedIs question (take e.written aside) x r area'
    → ListPartIs question part x r area'
unfolding AritiesIs Tidied
list_restricted question part arities x own e aside t r area' is = record {
  few = is.few;
  is = λ q P l new.
      let s : InScope name_count arities 0 P = subst (λ (a : List ℕ). InScope name_count a 0 P) (sym (own q l.accepted)) l.scope in
      let bs : List ℕ = encode 0 (tidy P) in
      let n : ℕ = length bs in
      let fill : List ℕ = replicate (longest_term - n) 0 in
      let size = l.size in
      let short : n ≤ length (encode 0 P) = tidy_shorter 0 P in
      let zeroes : length (replicate {A = ℕ} longest_term 0) ≡ longest_term = length-replicate {A = ℕ} longest_term 0 in
      let sum : n + (longest_term - n) ≡ longest_term = omega arith in
      let whole : replicate {A = ℕ} longest_term 0 ≡ [] ++ (replicate n 0 ++ fill) =
      sym (replicate-append-replicate n (longest_term - n) 0 ∙ ap (λ j. replicate j 0) sum) in
      let d = t.is name_count 0 P [] (omega arith) s (l.bytes ∙ sym (append-nil (encode 0 P))) (omega (arith, height-bytes 0 P)) (omega arith) (omega arith) in
      let stored : aside ≡ bs ++ fill =
      d.2 ∙ ap (λ (o : List ℕ). sets o 0 bs) whole ∙ sets_middle [] (replicate n 0) fill bs 0 refl (omega (arith, length-replicate {A = ℕ} n 0)) in
      let written : e.written ≡ n = omega (arith, d.1) in
      let there : take e.written aside ≡ bs = ap₂ take written stored ∙ take-append_seam bs fill in
      let scope : InScope name_count q.arities 0 (tidy P) = form_scope tidied_form name_count q.arities 0 P l.scope in
      subst (λ k. AnswersListing k r area') (sym (steps_alike q question l.accepted x l.new P (tidy P) l.scope scope (sym (tidy-tidy P)) new))
      (is.is q (tidy P) (record {
        accepted = l.accepted;
        scope = scope;
        bytes = there;
        size = omega arith;
        new = l.new;
        tidied = tidy-tidy P;
      }));
}

-- Under the tidied bodies of a question.
pub list_under_tidied : (question out : List ℕ) (n : ℕ) (out' : List ℕ) → WritesTidied question out n out' → (part : List ℕ) (x : ℕ) (r : Option ℕ) (area' : List ℕ)
    → ListPartIs (take n out') part x r area' → ListPartIs question part x r area'
unfolding steps_of result_form tidied_bodies
list_under_tidied question out n out' w part x r area' is = record {
  few = is.few;
  is = λ q P l new.
      let allowed = (accepted_well_formed question q l.accepted).bodies in
      subst (λ k. AnswersListing k r area')
      (sym (alike_list q.arities q.bodies (tidied_bodies q).bodies allowed (bodies_tidied_lem q.arities q.arities q.bodies allowed) (bodies_alike q).bodies x l.new P P
      l.scope l.scope refl new))
      (is.is (tidied_bodies q) P (record {
        accepted = tidied_checked question q l.accepted out out' n w;
        scope = l.scope;
        bytes = l.bytes;
        size = l.size;
        new = l.new;
      }) new);
}
