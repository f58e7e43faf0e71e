-- A step put into the list from what was written for its result before it is tidied. Assumes nothing.
use borrow.Author.Tests.{leb-true, leb-false}
use mathlib.Core.Bool.{Bool, true, false}
use mathlib.Core.List.{List, ◌++◌}
use mathlib.Core.Path.{◌≡◌, refl, sym, ◌∙◌, ap, subst, fun_ext}
use native.Mathlib.Omega.{arith}
use Prim.Native.Nat.{ℕ, suc, ◌≤◌, ◌<◌}
use lib.Dec.{leb}
use lib.ListN.{length, take, drop}
use lib.Seq.{take_at}
use Rattle.calculus.specs.Abstraction.{tau_a}
use Rattle.calculus.specs.Cond.{Cond, cls}
use Rattle.calculus.specs.Term.{Term, ren}
use Rattle.calculus.specs.Tidy.{tidy}
use Rattle.calculus.proofs.Conditions.{cls_le}
use Rattle.calculus.proofs.Renaming.{ren_id}
use Rattle.calculus.proofs.Tidying.{tidy-ren}
use Rattle.terms.specs.Answer.{result}
use Rattle.terms.specs.Encoding.{encode, InScope}
use Rattle.terms.specs.Limits.{name_count, longest_term}
use Rattle.terms.specs.Question.{Question, check_of}
use Rattle.terms.proofs.RenamingKeeps.{length-ren, scope_ren}
use Rattle.terms_bytes.proofs.Heights.{height-bytes}
use Rattle.terms_bytes.proofs.Stores.{sets-start}
use Rattle.terms_tidying.specs.Tidying.{Tidied, TidiedIs}
use Rattle.terms_tidying.specs.TidiedTerms.{IsTidiedIs}
use Rattle.terms_tidying.specs.declared.tidy.Ends.{Ends}
use Rattle.steps_tallies.specs.Bodies.{AritiesIs}
use Rattle.steps_plans.specs.Plans.{receiving, Written}
use Rattle.steps_entries.specs.StepActions.{step_action}
use Rattle.steps_entries.specs.declared.listed.ActionBytes.{ActionBytes}
use Rattle.steps_splicing.specs.Locating.{Classed}
use Rattle.steps_splicing.specs.Merging.{MergedIs}
use Rattle.steps_splicing.specs.PlacedResults.{Trivial}
use Rattle.steps_placing.specs.Placing.{PutResultIs, PutWrittenIs, PutSilentIs}
use Rattle.steps_placing.proofs.PlainResults.{tidied-canonical}

-- What was written with room for it is all there.
module _ (R : Term) (n : ℕ) (out written : List ℕ) (size : length out ≡ longest_term) (w : Written out 0 (encode 0 R) n written) (short : n ≤ longest_term) where
  pub whole_length : length (encode 0 R) ≡ n
  whole_length = go (leb (length (encode 0 R)) longest_term) refl
    where
      go : (t : Bool) → leb (length (encode 0 R)) longest_term ≡ t → length (encode 0 R) ≡ n
      go true d = let k = leb-true (length (encode 0 R)) longest_term d in omega (arith, (w.fits (omega arith)).0)
      go false d = let k = leb-false (length (encode 0 R)) longest_term d in absurd (omega (arith, w.over (omega arith)))

  pub whole-written : written ≡ encode 0 R ++ drop (length (encode 0 R)) out
  whole-written = let l = whole_length in (w.fits (omega arith)).1 ∙ sets-start out (encode 0 R) (omega arith)

  pub whole-bytes : take n written ≡ encode 0 R
  whole-bytes = ap (take n) whole-written ∙ take_at (encode 0 R) (drop (length (encode 0 R)) out) n whole_length

module _ (question class : List ℕ) (action : ActionBytes) (written : List ℕ) (n : ℕ) (restricted : Bool) (area : List ℕ) (count r : ℕ) (area' : List ℕ) where
  -- As it is, where it is tidied:
  written-put : ((q : Question) (out : List ℕ) (R : Term) → check_of question ≡ result q → length out ≡ longest_term → InScope (suc name_count) q.arities 0 R
      → Written out 0 (encode 0 R) n written → (restricted ≡ false → tidy R ≡ R) → tidy R ≡ R)
      → PutResultIs class action written n area count r area' → PutWrittenIs question class action written n restricted area count r area'
  written-put tidied p = record {
    is = λ q out x M α A R ok size scope w same u classes acts.
        p.is out x M α A (omega arith)
        (rw (tidied-canonical x M α A ∙ ap (encode 0) (sym same ∙ tidied q out R ok size scope w u)) w) classes acts;
  }

  -- there are no restrictions,
  pub written_plain : restricted ≡ false → PutResultIs class action written n area count r area' → PutWrittenIs question class action written n restricted area count r area'
  written_plain f = written-put (λ q out R ok size scope w u. u f)

  module _ (short : n ≤ longest_term) (arities : List ℕ) (ar : AritiesIs question arities) where
    scoped : (q : Question) (R : Term) → check_of question ≡ result q → InScope (suc name_count) q.arities 0 R → InScope (suc name_count) arities 0 R
    unfolding AritiesIs
    scoped q R ok scope = subst (λ (l : List ℕ). InScope (suc name_count) l 0 R) (sym (ar q ok)) scope

    -- or it was tested;
    pub written-tested : (b : Bool) → b ≡ true → IsTidiedIs (take n written) arities b → PutResultIs class action written n area count r area'
        → PutWrittenIs question class action written n restricted area count r area'
    unfolding IsTidiedIs
    written-tested b e t =
        written-put (λ q out R ok size scope w u. t e (suc name_count) 0 R (omega arith) (scoped q R ok scope) (whole-bytes R n out written size w short))

    -- and else it is tidied.
    pub written-tidied : (out' tidied : List ℕ) (e : Ends) → length out' ≡ longest_term → TidiedIs written 0 arities out' 0 e tidied
        → PutResultIs class action tidied e.written area count r area' → PutWrittenIs question class action written n restricted area count r area'
    unfolding Tidied
    written-tidied out' tidied e room t p = record {
      is = λ q out x M α A R ok size scope w same u classes acts.
          let l = whole_length R n out written size w short in
          let (_, m, s) =
          t.is (suc name_count) 0 R (drop (length (encode 0 R)) out) (omega arith) (scoped q R ok scope) (whole-written R n out written size w short)
          (omega (arith, height-bytes 0 R)) (omega arith) (omega arith) in
          p.is out' x M α A (omega arith)
          (rw (tidied-canonical x M α A ∙ ap (encode 0) (sym same)) (record { fits = λ h. (m, s); over = λ h. omega arith })) classes acts;
    }

-- A silent step whose result was written but for the names that are merged.
module _ (question class written : List ℕ) (n : ℕ) (merges restricted : Bool) (area : List ℕ) (count r : ℕ) (area' : List ℕ) where
  abbrev Renamed : List ℕ → Type 0
  Renamed renamed =
      (q : Question) (out : List ℕ) (M : Cond) (B : Term) → check_of question ≡ result q → length out ≡ longest_term → Classed merges class M
      → InScope name_count q.arities 0 B → Written out 0 (encode 0 B) n written → Written out 0 (encode 0 (ren (cls M) B)) n renamed

  silent-put : (renamed : List ℕ) → Renamed renamed → PutWrittenIs question class (record { kind = 0; channel = 0; object = 0 }) renamed n restricted area count r area'
      → PutSilentIs question class written n merges restricted area count r area'
  unfolding step_action receiving
  silent-put renamed v p = record {
    is = λ q out x M B A ok size c scope w same u.
        p.is q out x M tau_a A (ren (cls M) B) ok size
        (scope_ren name_count (suc name_count) q.arities 0 0 (cls M) (λ k h. omega (arith, cls_le M k)) B scope)
        (v q out M B ok size c scope w) (tidy-ren (cls M) B ∙ ap (ren (cls M)) same ∙ sym (tidy-ren (cls M) A))
        (λ f. tidy-ren (cls M) B ∙ ap (ren (cls M)) (u f)) c.classes refl;
  }

  pub silent_apart : merges ≡ false → PutWrittenIs question class (record { kind = 0; channel = 0; object = 0 }) written n restricted area count r area'
      → PutSilentIs question class written n merges restricted area count r area'
  unfolding Trivial
  silent_apart f =
      silent-put written
      (λ q out M B ok size c scope w.
      subst (λ (R : Term). Written out 0 (encode 0 R) n written) (sym (ap (λ (ρ : ℕ → ℕ). ren ρ B) (fun_ext (c.trivial f)) ∙ ren_id B)) w)

  -- Where there was no room for it, merged or not, nothing was.
  pub silent_long : longest_term < n → PutWrittenIs question class (record { kind = 0; channel = 0; object = 0 }) written n restricted area count r area'
      → PutSilentIs question class written n merges restricted area count r area'
  silent_long long =
      silent-put written
      (λ q out M B ok size c scope w.
      let same : length (encode 0 (ren (cls M) B)) ≡ length (encode 0 B) = length-ren 0 0 (cls M) B in
      record {
        fits = λ h. absurd (omega (arith, (w.fits (omega (arith, same))).0, same));
        over = λ h. w.over (omega (arith, same));
      })

  pub silent-merged : (arities : List ℕ) → AritiesIs question arities → (merged : List ℕ) → MergedIs written n arities class merged
      → PutWrittenIs question class (record { kind = 0; channel = 0; object = 0 }) merged n restricted area count r area'
      → PutSilentIs question class written n merges restricted area count r area'
  unfolding AritiesIs
  silent-merged arities ar merged m =
      silent-put merged
      (λ q out M B ok size c scope w.
      let same : length (encode 0 (ren (cls M) B)) ≡ length (encode 0 B) = length-ren 0 0 (cls M) B in
      record {
        fits = λ h.
            let f = w.fits (omega (arith, same)) in (
              omega (arith, f.0, same),
              m.is (cls M) B (drop (length (encode 0 B)) out) (λ k l. (c.classes k l, omega (arith, cls_le M k)))
                  (subst (λ (l : List ℕ). InScope name_count l 0 B) (sym (ar q ok)) scope) (f.1 ∙ sets-start out (encode 0 B) (omega (arith, same)))
                  (omega (arith, f.0))
                  ∙ ap (λ (k : ℕ). encode 0 (ren (cls M) B) ++ drop k out) (sym same) ∙ sym (sets-start out (encode 0 (ren (cls M) B)) (omega arith)),
            );
        over = λ h. w.over (omega (arith, same));
      })
