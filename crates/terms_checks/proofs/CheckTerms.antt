-- Checks 5 to 12 as the code makes them: the walk of all terms first, then the tests that it gathered.
use mathlib.Core.Path.{◌≡◌, refl, sym, ap, ap₂, ◌∙◌}
use mathlib.Core.Bool.{Bool, true, false, ◌&&◌}
use mathlib.Core.List.{List, [], ◌∷◌}
use Prim.Native.Nat.{ℕ, ◌≤◌, ◌<◌}
use lib.ListN.{length}
use lib.Dec.{leb}
use borrow.Author.Tests.{le-leb, lt-leb}
use Rattle.calculus.specs.Cond.{Pairs}
use Rattle.calculus.specs.Term.{Term}
use Rattle.terms.specs.Edition.{Edition}
use Rattle.terms.specs.Answer.{Answer, refused, result, ◌>>=◌, ◌>>◌, need}
use Rattle.terms_checks.specs.Checking.{checked_answer, zero_for, all_fit, joint_of, control_of_all, bodies_scanned, parts_scanned, of_both, terms_scanned}
use Rattle.terms.specs.Framing.{Fields}
use Rattle.terms.specs.Grammar.{sequential, parallel_outermost, guarded}
use Rattle.terms.specs.Limits.{name_count, most_definitions, greatest_arity}
use Rattle.terms.specs.Question.{Question, every, fits, read_bodies, read_part, read_part_with, read_apart, check_terms, check_terms_with, check_fields, check_fields_with}
use Rattle.terms.specs.Reading.{numbered, read_whole}
use Rattle.terms_scanning.specs.Scanning.{control_of, passing, scanned_whole, whole_answer}
use Rattle.terms_scanning.specs.declared.scan.Control.{Control}
use Rattle.std.specs.Prelude.{Ok, Err}
use Rattle.terms_bytes.specs.Refusals.{number_of}
use Rattle.terms_bytes.specs.declared.answer.Refusal.{Refusal}
use Rattle.terms_bytes.specs.declared.answer.Refusal.TheVariants.{Definitions, TermLength, Parallel, Unguarded, ApartList}
use Rattle.terms.proofs.Answers.{bind_to, bind-refused}

-- Both parts.
module _ (ed : Edition) (arities first second : List ℕ) where
  parts-step : parts_scanned ed arities first second
      ≡ (scanned_whole ed name_count arities 0 first >>= λ p. (scanned_whole ed name_count arities 0 second >>= λ q. result (joint_of p q)))
  unfolding parts_scanned scanned_whole read_part_with ◌>>=◌
  parts-step = go (read_whole ed (numbered arities) name_count 0 first) (read_whole ed (numbered arities) name_count 0 second)
    where
      go : (m n : Answer Term) → (m >>= λ P. (n >>= λ Q. result (joint_of (control_of P) (control_of Q))))
          ≡ ((m >>= λ P. result (control_of P)) >>= λ p. ((n >>= λ Q. result (control_of Q)) >>= λ q. result (joint_of p q)))
      go (refused k) n = refl
      go (result P) (refused k) = refl
      go (result P) (result Q) = refl

  pub first_fault : (k : Refusal) → scanned_whole ed name_count arities 0 first ≡ whole_answer (Err k) → parts_scanned ed arities first second ≡ whole_answer (Err k)
  unfolding whole_answer
  first_fault k e = parts-step ∙ bind-refused _ e

  module _ (p : Control) (one : scanned_whole ed name_count arities 0 first ≡ whole_answer (Ok p)) where
    pub second_fault : (k : Refusal) → scanned_whole ed name_count arities 0 second ≡ whole_answer (Err k) →
        parts_scanned ed arities first second ≡ whole_answer (Err k)
    unfolding whole_answer
    second_fault k e = parts-step ∙ bind_to _ one ∙ bind-refused _ e

    pub parts-both : (q c : Control) → scanned_whole ed name_count arities 0 second ≡ whole_answer (Ok q) → c ≡ joint_of p q →
        parts_scanned ed arities first second ≡ whole_answer (Ok c)
    unfolding whole_answer
    parts-both q c e m = parts-step ∙ bind_to _ one ∙ bind_to _ e ∙ rw m

-- All terms.
module _ (ed : Edition) (f : Fields) where
  pub bodies_wrong : (k : Refusal) → bodies_scanned ed f.arities f.arities f.bodies ≡ whole_answer (Err k) → terms_scanned ed f ≡ whole_answer (Err k)
  unfolding terms_scanned whole_answer
  bodies_wrong k e = bind-refused _ e

  module _ (p : Control) (bodies : bodies_scanned ed f.arities f.arities f.bodies ≡ whole_answer (Ok p)) where
    pub parts_wrong : (k : Refusal) → parts_scanned ed f.arities f.first f.second ≡ whole_answer (Err k) → terms_scanned ed f ≡ whole_answer (Err k)
    unfolding terms_scanned whole_answer
    parts_wrong k e = bind_to _ bodies ∙ bind-refused _ e

    pub terms_right : (q : Control) → parts_scanned ed f.arities f.first f.second ≡ whole_answer (Ok q) →
        terms_scanned ed f ≡ whole_answer (Ok (record { sequential = p.sequential; outermost = q.outermost; guarded = p.guarded }))
    unfolding terms_scanned whole_answer of_both
    terms_right q e = bind_to _ bodies ∙ bind_to _ e

-- The tests over all bodies.
all-sequential : (Ps : List Term) → (control_of_all Ps).sequential ≡ every sequential Ps
unfolding control_of_all joint_of control_of passing every
all-sequential [] = refl
all-sequential (P ∷ Ps) = ap (λ b. sequential P && b) (all-sequential Ps)

all-guarded : (Ps : List Term) → (control_of_all Ps).guarded ≡ every guarded Ps
unfolding control_of_all joint_of control_of passing every
all-guarded [] = refl
all-guarded (P ∷ Ps) = ap (λ b. guarded P && b) (all-guarded Ps)

and_assoc : (x y z : Bool) → ((x && y) && z) ≡ (x && (y && z))
and_assoc true y z = refl
and_assoc false y z = refl

-- What is left once all terms are walked.
unfoldable pub behind_terms : List ℕ → Control → Answer ℕ
behind_terms apart c = need 10 (c.sequential && c.outermost) >> (need 11 c.guarded >> zero_for (read_apart apart))

module _ (ed : Edition) (f : Fields) where
  abbrev made : List Term → Term → Term → Pairs → Answer Question
  made B P Q D = result (record { arities = f.arities; bodies = B; first = P; second = Q; apart = D })

  tests_same : (t u : Bool) (m : Answer Pairs) (B : List Term) (P Q : Term) →
      zero_for (need 10 t >> (need 11 u >> (m >>= made B P Q))) ≡ (need 10 t >> (need 11 u >> zero_for m))
  unfolding zero_for need ◌>>◌ ◌>>=◌
  tests_same false u m B P Q = refl
  tests_same true false m B P Q = refl
  tests_same true true (refused k) B P Q = refl
  tests_same true true (result D) B P Q = refl

  pub terms_first : zero_for (check_terms ed f) ≡ (terms_scanned ed f >>= behind_terms f.apart)
  unfolding check_terms_with terms_scanned bodies_scanned parts_scanned behind_terms of_both joint_of control_of zero_for ◌>>=◌
  terms_first = go (read_bodies ed (numbered f.arities) f.arities f.bodies) (read_part ed (numbered f.arities) f.first) (read_part ed (numbered f.arities) f.second)
    where
      go : (m : Answer (List Term)) (n o : Answer Term) →
          zero_for
          (m >>= λ B. (n >>= λ P. (o >>= λ Q.
          (need 10 (every sequential B && parallel_outermost P && parallel_outermost Q)
          >> (need 11 (every guarded B) >> (read_apart f.apart >>= made B P Q))))))
          ≡ (((m >>= λ Ps. result (control_of_all Ps))
          >>= λ b. ((n >>= λ P. (o >>= λ Q. result (joint_of (control_of P) (control_of Q)))) >>= λ p. result (of_both b p)))
          >>= behind_terms f.apart)
      go (refused k) n o = refl
      go (result B) (refused k) o = refl
      go (result B) (result P) (refused k) = refl
      go (result B) (result P) (result Q) =
          tests_same (every sequential B && parallel_outermost P && parallel_outermost Q) (every guarded B) (read_apart f.apart) B P Q
          ∙ ap₂ (λ t u. need 10 t >> (need 11 u >> zero_for (read_apart f.apart)))
          (and_assoc (every sequential B) (parallel_outermost P) (parallel_outermost Q)
          ∙ ap (λ b. b && (parallel_outermost P && parallel_outermost Q)) (sym (all-sequential B)))
          (sym (all-guarded B))

  -- The ways out behind the walk.
  pub terms_fault : (k : Refusal) → terms_scanned ed f ≡ whole_answer (Err k) → zero_for (check_terms ed f) ≡ checked_answer (Err k)
  unfolding whole_answer checked_answer number_of
  terms_fault k e = terms_first ∙ bind-refused _ e

  module _ (c : Control) (walked : terms_scanned ed f ≡ whole_answer (Ok c)) where
    behind : zero_for (check_terms ed f) ≡ behind_terms f.apart c
    unfolding whole_answer
    behind = terms_first ∙ bind_to _ walked

    pub parallel_refused : (c.sequential && c.outermost) ≡ false → zero_for (check_terms ed f) ≡ checked_answer (Err Parallel)
    unfolding behind_terms checked_answer number_of need ◌>>◌
    parallel_refused e = behind ∙ rw e

    module _ (t : (c.sequential && c.outermost) ≡ true) where
      pub call-refused : c.guarded ≡ false → zero_for (check_terms ed f) ≡ checked_answer (Err Unguarded)
      unfolding behind_terms checked_answer number_of need ◌>>◌
      call-refused e = behind ∙ rw (t, e)

      module _ (g : c.guarded ≡ true) where
        last_check : zero_for (check_terms ed f) ≡ zero_for (read_apart f.apart)
        unfolding behind_terms need ◌>>◌
        last_check = behind ∙ rw (t, g)

        pub apart_refused : zero_for (read_apart f.apart) ≡ zero_for (need 12 false) → zero_for (check_terms ed f) ≡ checked_answer (Err ApartList)
        unfolding checked_answer number_of need zero_for ◌>>=◌
        apart_refused e = last_check ∙ e

        pub all_accepted : zero_for (read_apart f.apart) ≡ zero_for (need 12 true) → zero_for (check_terms ed f) ≡ checked_answer (Ok tt)
        unfolding checked_answer number_of need zero_for ◌>>=◌
        all_accepted e = last_check ∙ e

-- Checks 5 and 6.
module _ (ed : Edition) (f : Fields) where
  pub many-refused : most_definitions < length f.arities → zero_for (check_fields ed f) ≡ checked_answer (Err Definitions)
  unfolding check_fields_with checked_answer number_of zero_for need ◌>>◌ ◌>>=◌
  many-refused h = rw (lt-leb (length f.arities) most_definitions h)

  module _ (few : length f.arities ≤ most_definitions) where
    pub arity_refused : every (λ a. leb a greatest_arity) f.arities ≡ false → zero_for (check_fields ed f) ≡ checked_answer (Err Definitions)
    unfolding check_fields_with checked_answer number_of zero_for need ◌>>◌ ◌>>=◌
    arity_refused e = rw (le-leb (length f.arities) most_definitions few, e)

    module _ (small : every (λ a. leb a greatest_arity) f.arities ≡ true) where
      pub size-refused : all_fit f ≡ false → zero_for (check_fields ed f) ≡ checked_answer (Err TermLength)
      unfolding all_fit check_fields_with checked_answer number_of zero_for need ◌>>◌ ◌>>=◌
      size-refused e = rw (le-leb (length f.arities) most_definitions few, small, e)

      pub fields_right : all_fit f ≡ true → zero_for (check_fields ed f) ≡ zero_for (check_terms ed f)
      unfolding all_fit check_fields_with need ◌>>◌
      fields_right e = rw (le-leb (length f.arities) most_definitions few, small, e)

-- Check 6, part by part.
module _ (f : Fields) where
  pub body_long : every fits f.bodies ≡ false → false ≡ all_fit f
  unfolding all_fit
  body_long e = rw e

  module _ (bodies : every fits f.bodies ≡ true) where
    pub first_long : fits f.first ≡ false → false ≡ all_fit f
    unfolding all_fit
    first_long e = rw (bodies, e)

    pub second_decides : fits f.first ≡ true → (t : Bool) → t ≡ fits f.second → t ≡ all_fit f
    unfolding all_fit
    second_decides e t h = rw (bodies, e) h
