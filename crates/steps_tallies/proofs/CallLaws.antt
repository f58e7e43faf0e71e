-- A call and the body that it opens: where its names stand, what they stand for in the body, and its candidates. Assumes nothing.
use mathlib.Core.Path.{◌≡◌, refl, sym, ap, subst, ◌∙◌}
use mathlib.Core.Bool.{Bool, true, false}
use mathlib.Core.List.{List, [], ◌∷◌}
use Prim.Native.Nat.{ℕ, zero, suc, ◌+◌, ◌<◌, ◌≤◌}
use native.Mathlib.Omega.{arith}
use lib.ListN.{length, get_or}
use Rattle.calculus.specs.Definitions.{opened}
use Rattle.calculus.specs.Term.{call}
use Rattle.terms.specs.Answer.{result}
use Rattle.terms.specs.Encoding.{encode, InScope}
use Rattle.terms.specs.Grammar.{guarded}
use Rattle.terms_bytes.specs.FieldPlaces.{field_place}
use Rattle.terms.specs.Limits.{greatest_arity, longest_term}
use Rattle.terms.specs.Question.{Question, check_of}
use Rattle.terms.proofs.Answers.{Every}
use Rattle.terms.proofs.WellFormed.{WellFormed, accepted_well_formed}
use Rattle.steps_tallies.specs.Candidates.{candidates}
use Rattle.steps_tallies.proofs.CandidateForms.{candidates-call}
use Rattle.std.specs.Prelude.{Ok, Err}
use Rattle.steps_tallies.specs.declared.bodies.Opening.{Opening}
use Rattle.steps_tallies.specs.Bodies.{AritiesIs, BodyIs, MayOpenIs, CalledIs, OpeningIs, Unopened, CallIs}
use Rattle.terms.specs.Question.{body_of}
use Rattle.steps.proofs.QuestionDefinitions.{body_at}

-- The body of a definition of an accepted question.
each_below : (b : ℕ) (ns : List ℕ) → Every (λ a. a ≤ b) ns → (k : ℕ) → get_or ns k 0 ≤ b
unfolding Every
each_below b [] h k = omega arith
each_below b (n ∷ ns) h zero = h.0
each_below b (n ∷ ns) h (suc k) = each_below b ns h.1 k

module _ (question : List ℕ) (q : Question) (ok : check_of question ≡ result q) (k : ℕ) where
  well : WellFormed q
  well = accepted_well_formed question q ok

  pub body_scope : InScope 0 q.arities (get_or q.arities k 0) (body_of q.bodies k)
  unfolding InScope
  body_scope = body_at (λ a P. InScope 0 q.arities a P) q.arities q.arities q.bodies well.bodies (λ a P b. b.scope) tt k

  pub body-size : length (encode (get_or q.arities k 0) (body_of q.bodies k)) ≤ longest_term
  unfolding encode
  body-size = body_at (λ a P. length (encode a P) ≤ longest_term) q.arities q.arities q.bodies well.bodies (λ a P b. b.size) (omega arith) k

  pub few_parameters : get_or q.arities k 0 ≤ greatest_arity
  few_parameters = each_below greatest_arity q.arities well.parameters k

  body-guarded : guarded (body_of q.bodies k) ≡ true
  unfolding guarded
  body-guarded = body_at (λ a P. guarded P ≡ true) q.arities q.arities q.bodies well.bodies (λ a P b. b.calls_guarded) refl k

  -- [Con]: the candidates of a call are those of its body, where no call is opened.
  pub opened-candidates : (calls c : ℕ) → calls ≤ 1 → calls ≡ suc c → (t : Bool) (xs : List ℕ)
      → candidates t (body_of q.bodies) calls (call k xs) ≡ candidates t (body_of q.bodies) c (opened xs (body_of q.bodies k))
  opened-candidates calls c once z t xs =
      let body = body_of q.bodies in
      let one : calls ≡ 1 = omega arith in
      let none : 0 ≡ c = omega arith in
      ap (λ (n : ℕ). candidates t body n (call k xs)) one ∙ candidates-call body t k xs body-guarded
      ∙ ap (λ (n : ℕ). candidates t body n (opened xs (body k))) none

-- A call that may be opened, and one that may not.
module _ (question s : List ℕ) (at calls : ℕ) (arities body : List ℕ) (k n place : ℕ) (may : Bool) (ar : AritiesIs question arities) (B : BodyIs question k body)
    (ek : k ≡ get_or s (at + 1) 0) (en : n ≡ get_or arities k 0) (there : place ≡ field_place question k) (M : MayOpenIs calls k n (length body) may) where
  called_is : CalledIs question s at (record { definition = k; arity = n; end = at + 2 + n; place = place })
  unfolding AritiesIs
  called_is = record {
    definition = ek;
    arity = λ q ok. en ∙ ap (λ (l : List ℕ). get_or l k 0) (ar q ok);
    end = refl;
    place = there;
  }

  opening_is : may ≡ true → OpeningIs question s at calls (record { definition = k; arity = n; end = at + 2 + n; place = place })
  opening_is t = record {
    called = called_is;
    may = let m = M.may t in (m.0, m.1, subst (λ (l : List ℕ). length l ≤ longest_term) B.piece m.2, m.3);
  }

  unopened : may ≡ false → Unopened question s at calls
  unfolding AritiesIs
  unopened t q ok l = go calls refl
    where
      go : (c : ℕ) → calls ≡ c → calls ≡ 0
      go zero z = z
      go (suc c) z =
          let a : n ≡ get_or q.arities k 0 = en ∙ ap (λ (l : List ℕ). get_or l k 0) (ar q ok) in
          let h : k < length q.arities = omega arith in
          absurd (M.not t (omega arith) (omega (arith, few_parameters question q ok k)) (omega (arith, ap length (B.is q ok h), body-size question q ok k)) (omega (arith, (accepted_well_formed question q ok).definitions)))

  pub call_opened : may ≡ true → (o : Opening) → o ≡ record { definition = k; arity = n; end = at + 2 + n; place = place } → CallIs question s at calls (Ok o)
  call_opened t o e = record {
    ok = λ p h.
        let z : ◌≡◌ {A = Opening} o p = cc in
        subst (OpeningIs question s at calls) (sym e ∙ z) (opening_is t);
    err = λ p h. let z : ◌≡◌ {A = ℕ} 0 1 = cc in absurd (omega arith);
  }

  pub call_closed : may ≡ false → (o : Opening) → o ≡ record { definition = k; arity = n; end = at + 2 + n; place = place } → CallIs question s at calls (Err o)
  call_closed t o e = record {
    ok = λ p h. let z : ◌≡◌ {A = ℕ} 0 1 = cc in absurd (omega arith);
    err = λ p h.
        let z : ◌≡◌ {A = Opening} o p = cc in
        (subst (CalledIs question s at) (sym e ∙ z) called_is, unopened t);
  }
