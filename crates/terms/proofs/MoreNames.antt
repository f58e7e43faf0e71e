-- A question that is accepted over some number of names is accepted over more, and is the same question (towards request 2026-11). Names above 127
-- are binders. Assumes nothing.
use mathlib.Core.Path.{◌≡◌, ap, ◌∙◌}
use mathlib.Core.List.{List, [], ◌∷◌}
use mathlib.Core.Bool.{true, ◌&&◌, not}
use Prim.Native.Nat.{ℕ, ◌+◌, ◌-◌, ◌≤◌}
use native.Mathlib.Nat.{mul-le-mul}
use native.Mathlib.Omega.{arith}
use lib.ListN.{length}
use lib.Dec.{ltb, leb, eqb}
use borrow.Author.Tests.{leb-true, le-leb, ltb-true, lt-ltb}
use Rattle.calculus.specs.Cond.{Pairs}
use Rattle.calculus.specs.Term.{Term, nil, tau, inp, out, bout, mat, sum, par, res, call}
use Rattle.terms.specs.Answer.{result}
use Rattle.terms.specs.Edition.{Edition}
use Rattle.terms.specs.Encoding.{NamesInScope}
use Rattle.terms.specs.Framing.{Fields, framed}
use Rattle.terms.specs.Grammar.{sequential, parallel_outermost, guarded}
use Rattle.terms.specs.Limits.{longest_question, most_definitions, greatest_arity, longest_apart_of}
use Rattle.terms.specs.Question.{
  Question,
  every,
  version,
  fits,
  read_bodies,
  read_part_with,
  different_names_with,
  read_pairs_with,
  read_apart_with,
  check_terms_with,
  check_fields_with,
  check_with,
  edition_of,
  question_with,
}
use Rattle.terms.specs.Reading.{Callees, numbered, read_whole}
use Rattle.terms.proofs.Answers.{refused_not_result, bind-result, bind_to, need-result, need-passed, both_true}
use Rattle.terms.proofs.EncodeRead.{whole_read}
use Rattle.terms.proofs.ReadEncoded.{read_whole_lem}
use Rattle.terms.proofs.ScopeLaws.{InScopeBy}

module _ (names extra : ℕ) where
  names_more : (d : ℕ) (ns : List ℕ) → NamesInScope names d ns → NamesInScope (names + extra) d ns
  unfolding NamesInScope
  names_more d [] s = tt
  names_more d (n ∷ ns) s = let l = s.0 in (omega arith, names_more d ns s.1)

  scope_more : (callees : Callees) (d : ℕ) (P : Term) → InScopeBy callees names d P → InScopeBy callees (names + extra) d P
  unfolding InScopeBy
  scope_more c d nil s = tt
  scope_more c d (tau P) s = scope_more c d P s
  scope_more c d (inp a P) s = let l = s.0 in (omega arith, scope_more c (1 + d) P s.1)
  scope_more c d (out a b P) s = let l = s.0 in let m = s.1 in (omega arith, omega arith, scope_more c d P s.2)
  scope_more c d (bout a P) s = let l = s.0 in (omega arith, scope_more c (1 + d) P s.1)
  scope_more c d (mat a b P) s = let l = s.0 in let m = s.1 in (omega arith, omega arith, scope_more c d P s.2)
  scope_more c d (sum P Q) s = (scope_more c d P s.0, scope_more c d Q s.1)
  scope_more c d (par P Q) s = (scope_more c d P s.0, scope_more c d Q s.1)
  scope_more c d (res P) s = scope_more c (1 + d) P s
  scope_more c d (call k ns) s = (s.0, names_more d ns s.1)

  differ-more : (a b : ℕ) → different_names_with names a b ≡ true → different_names_with (names + extra) a b ≡ true
  unfolding different_names_with
  differ-more a b h =
      let x = both_true (ltb a names && ltb b names) (not (eqb a b)) h in
      let y = both_true (ltb a names) (ltb b names) x.0 in
      let l = ltb-true a names y.0 in
      let m = ltb-true b names y.1 in
      rw (lt-ltb a (names + extra) (omega arith), lt-ltb b (names + extra) (omega arith)) x.1

  pairs-more : (bs : List ℕ) (D : Pairs) → read_pairs_with names bs ≡ result D → read_pairs_with (names + extra) bs ≡ result D
  unfolding read_pairs_with
  pairs-more [] D h = h
  pairs-more (a ∷ []) D h = refused_not_result h
  pairs-more (a ∷ b ∷ bs) D h =
      let t = need-result 12 (different_names_with names a b) _ D h in
      let u = bind-result (read_pairs_with names bs) _ D t.1 in
      need-passed 12 (different_names_with (names + extra) a b) _ (differ-more a b t.0) ∙ bind_to _ (pairs-more bs u.0 u.1) ∙ u.2

  longer : longest_apart_of names ≤ longest_apart_of (names + extra)
  longer = let l : names ≤ names + extra = omega arith in let m : names - 1 ≤ names + extra - 1 = omega arith in mul-le-mul l m

  apart_more : (bs : List ℕ) (D : Pairs) → read_apart_with names bs ≡ result D → read_apart_with (names + extra) bs ≡ result D
  unfolding read_apart_with
  apart_more bs D h =
      let t = need-result 12 (leb (length bs) (longest_apart_of names)) _ D h in
      let l = leb-true (length bs) (longest_apart_of names) t.0 in
      need-passed 12 (leb (length bs) (longest_apart_of (names + extra))) _ (le-leb (length bs) (longest_apart_of (names + extra)) (omega (arith, l, longer)))
      ∙ pairs-more bs D t.1

  module _ (few : names + extra ≤ 128) (e : Edition) where
    part_more : (callees : Callees) (bs : List ℕ) (P : Term) → read_part_with names e callees bs ≡ result P → read_part_with (names + extra) e callees bs ≡ result P
    unfolding read_part_with
    part_more callees bs P h =
        let r = whole_read names e callees 0 bs P h in
        ap (read_whole e callees (names + extra) 0) r.0 ∙ read_whole_lem (names + extra) few e callees 0 P (scope_more callees 0 P r.1)

    terms_more : (f : Fields) (q : Question) → check_terms_with names e f ≡ result q → check_terms_with (names + extra) e f ≡ result q
    unfolding check_terms_with
    terms_more f q h =
        let B = bind-result (read_bodies e (numbered f.arities) f.arities f.bodies) _ q h in
        let P = bind-result (read_part_with names e (numbered f.arities) f.first) _ q B.2 in
        let Q = bind-result (read_part_with names e (numbered f.arities) f.second) _ q P.2 in
        let c₁₀ = need-result 10 (every sequential B.0 && parallel_outermost P.0 && parallel_outermost Q.0) _ q Q.2 in
        let c₁₁ = need-result 11 (every guarded B.0) _ q c₁₀.1 in
        let D = bind-result (read_apart_with names f.apart) _ q c₁₁.1 in
        bind_to _ B.1
        ∙ bind_to _ (part_more (numbered f.arities) f.first P.0 P.1)
        ∙ bind_to _ (part_more (numbered f.arities) f.second Q.0 Q.1)
        ∙ need-passed 10 (every sequential B.0 && parallel_outermost P.0 && parallel_outermost Q.0) _ c₁₀.0
        ∙ need-passed 11 (every guarded B.0) _ c₁₁.0
        ∙ bind_to _ (apart_more f.apart D.0 D.1)
        ∙ D.2

    pub check_more : (question : List ℕ) (q : Question) → check_with names e question ≡ result q → check_with (names + extra) e question ≡ result q
    unfolding check_with check_fields_with
    check_more question q h =
        let v = bind-result (version e question) _ q h in
        let l = need-result 4 (leb (length question) longest_question) _ q v.2 in
        let f = bind-result (framed v.0) (check_fields_with names e) q l.1 in
        let c₅ = need-result 5 (leb (length f.0.arities) most_definitions && every (λ a. leb a greatest_arity) f.0.arities) _ q f.2 in
        let c₆ = need-result 6 (every fits f.0.bodies && fits f.0.first && fits f.0.second) _ q c₅.1 in
        bind_to _ v.1
        ∙ need-passed 4 (leb (length question) longest_question) _ l.0
        ∙ bind_to (check_fields_with (names + extra) e) f.1
        ∙ need-passed 5 (leb (length f.0.arities) most_definitions && every (λ a. leb a greatest_arity) f.0.arities) _ c₅.0
        ∙ need-passed 6 (every fits f.0.bodies && fits f.0.first && fits f.0.second) _ c₆.0
        ∙ terms_more f.0 q c₆.1

  -- in its own edition
  pub question_more : names + extra ≤ 128 → (question : List ℕ) (q : Question) → question_with names question ≡ result q
      → question_with (names + extra) question ≡ result q
  unfolding question_with
  question_more few question q h = check_more few (edition_of question) question q h
