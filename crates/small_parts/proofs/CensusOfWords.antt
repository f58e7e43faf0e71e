-- The census from a list of the parts: every ordered pair of them makes an accepted question, and is counted by the one verdict that it has.
use mathlib.Core.Path.{◌≡◌, refl, sym, ap, subst, ◌∙◌}
use mathlib.Core.Bool.{Bool, true, false, cond}
use mathlib.Core.List.{List, [], ◌∷◌}
use mathlib.Core.Logic.{◌↔◌, inl, inr}
use Prim.Native.Nat.{ℕ, suc, ◌+◌, ◌≤◌}
use native.Mathlib.Omega.{arith}
use lib.ListN.{length}
use Rattle.calculus.specs.Term.{Term}
use Rattle.terms.specs.Limits.{name_count}
use Rattle.terms.specs.Answer.{Answer, refused, result}
use Rattle.terms.specs.Edition.{one, version_byte}
use Rattle.terms.specs.Encoding.{encode, InScope}
use Rattle.terms.specs.Reading.{numbered}
use Rattle.terms.specs.Framing.{joined}
use Rattle.terms.specs.Question.{Question, check_of, edition_of, question_of, question_with, body_fields, pair_bytes, fields_of, write}
use Rattle.terms.proofs.Answers.{result_injective, bind_to, Every}
use Rattle.terms.proofs.EncodeRead.{whole_read}
use Rattle.terms.proofs.EditionOne.{encode-first}
use Rattle.terms.proofs.ScopeLaws.{scope_from, free_below}
use Rattle.terms.proofs.WellFormed.{PartAllowed, BodiesAllowed, well_formed_accepted}
use Rattle.calculus.specs.Lists.{◌∈◌, Distinct}
use Rattle.steps.proofs.Scope.{scope_calls, in_scope}
use Rattle.field.specs.Successors.{select}
use Rattle.field.proofs.Selections.{∈-select, select-∈}
use Rattle.verdict.specs.Verdict.{Verdict, unsettled, same, different, verdict_of}
use Rattle.small_parts.specs.Counted.{Counted}
use Rattle.small_parts.specs.Census.{free_names, census_capacity, SmallPart, asked, verdict_on, Kind, is_same, isDifferent, is_unsettled, kind_of, PairOf, CensusIs}
use Rattle.small_parts.proofs.Counting.{pairs, ∈-crossed, crossed-∈, length-crossed, distinct_pairs, distinct_select, none_selected}
use Rattle.small_parts.proofs.Settled.{census_settled}

-- The bytes of a part are those of its term.
pub part_bytes_lem : (n : ℕ) (bytes : List ℕ) (p : SmallPart n bytes) → bytes ≡ encode 0 p.term
part_bytes_lem n bytes p = (whole_read free_names one (numbered []) 0 bytes p.term p.reads).0 ∙ encode-first 0 p.term

pub part_scope : (n : ℕ) (bytes : List ℕ) (p : SmallPart n bytes) → InScope free_names [] 0 p.term
part_scope n bytes p = scope_from [] free_names 0 p.term (whole_read free_names one (numbered []) 0 bytes p.term p.reads).1

part_allowed : (n : ℕ) → n ≤ 5 → (bytes : List ℕ) (p : SmallPart n bytes) → PartAllowed [] p.term
part_allowed n h bytes p = record {
  scope =
      let s = part_scope n bytes p in
      in_scope name_count [] 0 p.term (λ a f. omega (arith, free_below 2 [] 0 p.term s a f)) (scope_calls 2 [] 0 p.term s);
  size = omega (arith, ap (length {A = ℕ}) (part_bytes_lem n bytes p), p.size);
  parallels_outermost = p.outermost;
}

-- the question that two parts make
abbrev pub pair_question : Term → Term → Question
pair_question P Q = record { arities = []; bodies = []; first = P; second = Q; apart = [] }

module _ (n : ℕ) (h : n ≤ 5) (first second : List ℕ) (p : SmallPart n first) (q : SmallPart n second) where
  written : asked first second ≡ write (pair_question p.term q.term)
  unfolding asked write fields_of body_fields pair_bytes
  written = ap (λ l. asked l second) (part_bytes_lem n first p) ∙ ap (λ l. asked (encode 0 p.term) l) (part_bytes_lem n second q)

  -- Every pair makes an accepted question,
  pub pair_accepted : check_of (asked first second) ≡ result (pair_question p.term q.term)
  unfolding BodiesAllowed Every pair_bytes
  pair_accepted =
      ap check_of written ∙ well_formed_accepted (pair_question p.term q.term) (record {
        definitions = omega arith;
        parameters = tt;
        bodies = tt;
        first = part_allowed n h first p;
        second = part_allowed n h second q;
        apart = tt;
        apart_size = omega arith;
      })

  -- as the judge reads it,
  pair_own : question_of (asked first second) ≡ result (pair_question p.term q.term)
  unfolding question_with edition_of check_of asked joined version_byte
  pair_own = pair_accepted

  -- whose verdict is settled.
  pub pair_verdict : verdict_on first second ≡ result (verdict_of (pair_question p.term q.term) census_capacity)
  unfolding verdict_on
  pair_verdict = bind_to _ pair_own

  pub pair_settled : ¬ (verdict_on first second ≡ result unsettled)
  pair_settled e =
      census_settled (pair_question p.term q.term) refl
      (omega (arith, ap (length {A = ℕ}) (part_bytes_lem n first p), p.size)) (omega (arith, ap (length {A = ℕ}) (part_bytes_lem n second q), q.size))
      census_capacity (omega arith) (result_injective (sym pair_verdict ∙ e))

-- whether an answer is a verdict of this kind
unfoldable pub of_kind : Kind → Answer Verdict → Bool
of_kind k (refused i) = false
of_kind is_same (result (same n)) = true
of_kind is_same (result (different n)) = false
of_kind is_same (result unsettled) = false
of_kind isDifferent (result (same n)) = false
of_kind isDifferent (result (different n)) = true
of_kind isDifferent (result unsettled) = false
of_kind is_unsettled (result (same n)) = false
of_kind is_unsettled (result (different n)) = false
of_kind is_unsettled (result unsettled) = true

of_kind_lem : (k : Kind) (v : Verdict) → kind_of v ≡ k → of_kind k (result v) ≡ true
unfolding of_kind kind_of
of_kind_lem k (same n) e = subst (λ j. of_kind j (result (same n)) ≡ true) e refl
of_kind_lem k (different n) e = subst (λ j. of_kind j (result (different n)) ≡ true) e refl
of_kind_lem k unsettled e = subst (λ j. of_kind j (result unsettled) ≡ true) e refl

kind_of_lem : (k : Kind) (a : Answer Verdict) → of_kind k a ≡ true → (v : Verdict) × (a ≡ result v) × (kind_of v ≡ k)
unfolding of_kind kind_of
kind_of_lem k (refused i) e = let z : ◌≡◌ {A = ℕ} 0 1 = cc in absurd (omega arith)
kind_of_lem is_same (result (same n)) e = (same n, refl, refl)
kind_of_lem is_same (result (different n)) e = let z : ◌≡◌ {A = ℕ} 0 1 = cc in absurd (omega arith)
kind_of_lem is_same (result unsettled) e = let z : ◌≡◌ {A = ℕ} 0 1 = cc in absurd (omega arith)
kind_of_lem isDifferent (result (same n)) e = let z : ◌≡◌ {A = ℕ} 0 1 = cc in absurd (omega arith)
kind_of_lem isDifferent (result (different n)) e = (different n, refl, refl)
kind_of_lem isDifferent (result unsettled) e = let z : ◌≡◌ {A = ℕ} 0 1 = cc in absurd (omega arith)
kind_of_lem is_unsettled (result (same n)) e = let z : ◌≡◌ {A = ℕ} 0 1 = cc in absurd (omega arith)
kind_of_lem is_unsettled (result (different n)) e = let z : ◌≡◌ {A = ℕ} 0 1 = cc in absurd (omega arith)
kind_of_lem is_unsettled (result unsettled) e = (unsettled, refl, refl)

-- how many pairs of a list have a verdict of this kind
unfoldable pub of_kind_in : Kind → List (List ℕ × List ℕ) → List (List ℕ × List ℕ)
of_kind_in k = select (λ p. of_kind k (verdict_on p.0 p.1))

-- each pair that has a verdict is counted once
one_kind : (ps : List (List ℕ × List ℕ)) → ((p : List ℕ × List ℕ) → p ∈ ps → (v : Verdict) × (verdict_on p.0 p.1 ≡ result v))
    → length (of_kind_in is_same ps) + length (of_kind_in isDifferent ps) + length (of_kind_in is_unsettled ps) ≡ length ps
unfolding of_kind_in select of_kind
one_kind [] h = refl
one_kind (p ∷ ps) h = let (v, e) = h p (inl refl) in go v (verdict_on p.0 p.1) e (one_kind ps (λ r i. h r (inr i)))
  where
    go : (v : Verdict) (a : Answer Verdict) → a ≡ result v
        → length (of_kind_in is_same ps) + length (of_kind_in isDifferent ps) + length (of_kind_in is_unsettled ps) ≡ length ps
        → length (cond (of_kind is_same a) (p ∷ of_kind_in is_same ps) (of_kind_in is_same ps))
        + length (cond (of_kind isDifferent a) (p ∷ of_kind_in isDifferent ps) (of_kind_in isDifferent ps))
        + length (cond (of_kind is_unsettled a) (p ∷ of_kind_in is_unsettled ps) (of_kind_in is_unsettled ps))
        ≡ suc (length ps)
    go (same n) a e r = rw e (omega arith)
    go (different n) a e r = rw e (omega arith)
    go unsettled a e r = rw e (omega arith)

-- The census of length n from the list of its parts.
module _ (n : ℕ) (h : n ≤ 5) (words : List (List ℕ)) (distinct : Distinct words) (members : (w : List ℕ) → (w ∈ words) ↔ SmallPart n w) where
  counted : (k : Kind) → Counted (PairOf n k) (length (of_kind_in k (pairs words words)))
  unfolding of_kind_in
  counted k = record {
    all = of_kind_in k (pairs words words);
    distinct = distinct_select (λ p. of_kind k (verdict_on p.0 p.1)) (pairs words words) (distinct_pairs words words distinct distinct);
    members = λ p. (
      λ m.
          let (i, t) = select-∈ (λ p. of_kind k (verdict_on p.0 p.1)) p (pairs words words) m in
          let (f, s) = crossed-∈ words words p i in
          let (v, e, g) = kind_of_lem k (verdict_on p.0 p.1) t in
          record { first = (members p.0).0 f; second = (members p.1).0 s; verdict = v; judged = e; says = g },
      λ r.
          ∈-select (λ p. of_kind k (verdict_on p.0 p.1)) p (pairs words words)
          (∈-crossed (λ x y. (x, y)) words words p.0 p.1 ((members p.0).1 r.first) ((members p.1).1 r.second))
          (ap (of_kind k) r.judged ∙ of_kind_lem k r.verdict r.says),
    );
    number = refl;
  }

  judged : (p : List ℕ × List ℕ) → p ∈ pairs words words → (v : Verdict) × (verdict_on p.0 p.1 ≡ result v)
  judged p i =
      let (f, s) = crossed-∈ words words p i in
      (_, pair_verdict n h p.0 p.1 ((members p.0).0 f) ((members p.1).0 s))

  none-unsettled : length (of_kind_in is_unsettled (pairs words words)) ≡ 0
  unfolding of_kind_in kind_of
  none-unsettled = none_selected (λ p. of_kind is_unsettled (verdict_on p.0 p.1)) (pairs words words) (λ p i.
      let (f, s) = crossed-∈ words words p i in
      go (of_kind is_unsettled (verdict_on p.0 p.1)) refl
      (pair_settled n h p.0 p.1 ((members p.0).0 f) ((members p.1).0 s)) (kind_of_lem is_unsettled (verdict_on p.0 p.1)))
    where
      is_unsettled_case : (v : Verdict) → kind_of v ≡ is_unsettled → v ≡ unsettled
      is_unsettled_case (same n) e = let z : ◌≡◌ {A = ℕ} 0 1 = cc in absurd (omega arith)
      is_unsettled_case (different n) e = let z : ◌≡◌ {A = ℕ} 0 1 = cc in absurd (omega arith)
      is_unsettled_case unsettled e = refl

      go : {a : Answer Verdict} (b : Bool) → of_kind is_unsettled a ≡ b → ¬ (a ≡ result unsettled)
          → (of_kind is_unsettled a ≡ true → (v : Verdict) × (a ≡ result v) × (kind_of v ≡ is_unsettled)) → of_kind is_unsettled a ≡ false
      go true e s f = let (v, g, k) = f e in absurd (s (g ∙ ap result (is_unsettled_case v k)))
      go false e s f = e

  pub census_of_words : CensusIs n (length (of_kind_in is_same (pairs words words))) (length (of_kind_in isDifferent (pairs words words)))
      (length (of_kind_in is_unsettled (pairs words words)))
  census_of_words = record {
    parts = length words;
    number_of_parts = record { all = words; distinct = distinct; members = members; number = refl };
    same = counted is_same;
    different = counted isDifferent;
    unsettled = counted is_unsettled;
    add_up = one_kind (pairs words words) judged ∙ length-crossed (λ x y. (x, y)) words words;
    nought = none-unsettled;
  }
