-- An entry keeps the question at hand accepted, and its parts related if they were: document 01, "A list of changes". Assumes nothing.
use mathlib.Core.Path.{◌≡◌, refl, sym, ◌∙◌, ap, subst}
use mathlib.Core.List.{List, [], ◌∷◌, ◌++◌}
use Prim.Native.Nat.{ℕ}
use lib.ListN.{length}
use Rattle.calculus.specs.Cond.{map_p, join}
use Rattle.calculus.specs.Definitions.{Defs}
use Rattle.calculus.specs.Distinction.{Irr}
use Rattle.calculus.specs.OpenBisimulation.{Related}
use Rattle.calculus.proofs.Distinctions.{apart_map, apart_left}
use Rattle.calculus.proofs.Theorems.{related_image, related_larger, related_beside}
use Rattle.terms.specs.Answer.{Answer, refused, result, ◌>>◌, need}
use Rattle.terms.specs.Framing.{joined}
use Rattle.terms.specs.Operations.{merged_question, merged, beside_question, placed_beside, declared_fields, declared_question, may_declare, merge_of, beside_of}
use Rattle.terms.specs.Question.{Question, check_in, edition_of, question_of, question_with, fields_in}
use Rattle.terms.proofs.Answers.{result_injective, bind-result, need-result}
use Rattle.terms.proofs.ApartLaws.{apart_irreflexive}
use Rattle.terms.proofs.BesideLaws.{PlacedBeside, placed-beside, beside_accepted}
use Rattle.terms.proofs.DeclareLaws.{declared_answer}
use Rattle.terms.proofs.MergeLaws.{Merged, merged_is, merge_accepted}
use Rattle.terms.proofs.OwnEdition.{edition_joined, own_well_formed, own-fits, accepted_once}
use Rattle.terms.proofs.WrittenLaws.{Written, written_within_lem}
use Rattle.verdict.specs.Entries.{Defines, RelatedParts, Entry, merging, besiding, declaring, judging, declare_of, put, hand_after, hands}

-- check turns nothing back
pub record Accepted (hand : List ℕ) : Type 0 where
  pub read : Question
  pub accepted : question_of hand ≡ result read

distinct_pairs : (hand : List ℕ) (q : Question) → question_of hand ≡ result q → Irr q.apart
distinct_pairs hand q e = apart_irreflexive q.apart (own_well_formed hand q e).apart

-- What an entry puts at hand, from the question that was: accepted, and related if that was.
pub record Next (old : Question) (next : List ℕ) : Type 1 where
  pub new : Question
  pub accepted : question_of next ≡ result new
  pub defines : (Δ : Defs) → Defines old Δ → Defines new Δ
  pub related : (Δ : Defs) → Related Δ old.apart old.first old.second → Related Δ new.apart new.first new.second

-- nothing is put at hand
stays : (hand : List ℕ) (q : Question) → question_of hand ≡ result q → Next q hand
stays hand q e = record { new = q; accepted = e; defines = λ Δ d. d; related = λ Δ r. r }

merge_next : (hand : List ℕ) (q : Question) → question_of hand ≡ result q → (a b room : ℕ) (next : List ℕ) → merge_of hand a b room ≡ result next → Next q next
unfolding merge_of merged_question
merge_next hand q e a b room next m =
    let w : Written (edition_of hand) (merged hand a b) room next = written_within_lem (edition_of hand) (merged hand a b) room next m in
    let r : Question = w.question in
    let s : Merged hand a b r = merged_is hand a b r w.made in
    let k : question_of next ≡ result r = ap question_of w.bytes ∙ merge_accepted hand a b r w.made in
    let same : s.old ≡ q = accepted_once hand s.old q s.accepted e in
    let is : merged_question a b q ≡ r = ap (merged_question a b) (sym same) ∙ sym s.is in
    record {
      new = r;
      accepted = k;
      defines = λ Δ d. subst (λ z. Defines z Δ) is (record { arities = d.arities; bodies = d.bodies });
      related = λ Δ h. subst (λ z. Related Δ z.apart z.first z.second) is
          (related_image Δ h (join a b) (map_p (join a b) q.apart)
          (subst (λ z. Irr z.apart) (sym is) (distinct_pairs next r k)) (λ x y d i j. apart_map (join a b) q.apart x y d));
    }

beside_next : (hand : List ℕ) (q : Question) → question_of hand ≡ result q → (third : List ℕ) (room : ℕ) (next : List ℕ)
    → beside_of hand third room ≡ result next → Next q next
unfolding beside_of beside_question
beside_next hand q e third room next m =
    let w : Written (edition_of hand) (placed_beside hand third) room next = written_within_lem (edition_of hand) (placed_beside hand third) room next m in
    let r : Question = w.question in
    let s : PlacedBeside hand third r = placed-beside hand third r w.made in
    let k : question_of next ≡ result r = ap question_of w.bytes ∙ beside_accepted hand third r w.made in
    let same : s.old ≡ q = accepted_once hand s.old q s.accepted e in
    let is : beside_question s.part q ≡ r = ap (beside_question s.part) (sym same) ∙ sym s.is in
    record {
      new = r;
      accepted = k;
      defines = λ Δ d. subst (λ z. Defines z Δ) is (record { arities = d.arities; bodies = d.bodies });
      related = λ Δ h. subst (λ z. Related Δ z.apart z.first z.second) is (related_beside Δ h s.part);
    }

-- declaring keeps the edition
declared_own : (hand : List ℕ) (p : Question) → question_of hand ≡ result p → (a b : ℕ)
    → question_of (joined (edition_of hand) (declared_fields a b (fields_in (edition_of hand) p))) ≡ (need 12 (may_declare a b p) >> result (declared_question a b p))
unfolding question_with
declared_own hand p c a b =
    ap (λ e. check_in e (joined (edition_of hand) (declared_fields a b (fields_in (edition_of hand) p))))
    (edition_joined (edition_of hand) (declared_fields a b (fields_in (edition_of hand) p)))
    ∙ declared_answer (edition_of hand) p (own_well_formed hand p c) (own-fits hand p c) a b

declare_next : (hand : List ℕ) (q : Question) → question_of hand ≡ result q → (a b : ℕ) (next : List ℕ) → declare_of hand a b ≡ result next → Next q next
unfolding declare_of declared_question
declare_next hand q e a b next m =
    let (p, c, m₁) = bind-result (question_of hand) _ next m in
    let longer : List ℕ = joined (edition_of hand) (declared_fields a b (fields_in (edition_of hand) p)) in
    let (r, k, m₂) = bind-result (question_of longer) _ next m₁ in
    made p r c k (result_injective {a = longer} m₂)
  where
    made : (p r : Question) → question_of hand ≡ result p → question_of (joined (edition_of hand) (declared_fields a b (fields_in (edition_of hand) p))) ≡ result r
        → joined (edition_of hand) (declared_fields a b (fields_in (edition_of hand) p)) ≡ next → Next q next
    made p r c k n =
        let same : p ≡ q = accepted_once hand p q c e in
        let d : (need 12 (may_declare a b p) >> result (declared_question a b p)) ≡ result r =
        sym (declared_own hand p c a b) ∙ k in
        let is : declared_question a b q ≡ r =
        ap (declared_question a b) (sym same) ∙ result_injective {a = declared_question a b p} (need-result 12 (may_declare a b p) _ r d).1 in
        let l : question_of next ≡ result r = ap question_of (sym n) ∙ k in
        record {
          new = r;
          accepted = l;
          defines = λ Δ d. subst (λ z. Defines z Δ) is (record { arities = d.arities; bodies = d.bodies });
          related = λ Δ h. subst (λ z. Related Δ z.apart z.first z.second) is
              (related_larger Δ h (q.apart ++ ((a, b) ∷ [])) (subst (λ z. Irr z.apart) (sym is) (distinct_pairs next r l))
              (λ x y d. apart_left q.apart ((a, b) ∷ []) x y d));
        }

-- a refusal leaves the question as it was
put_next : (hand : List ℕ) (q : Question) → question_of hand ≡ result q → (m : Answer (List ℕ)) → ((next : List ℕ) → m ≡ result next → Next q next)
    → Next q (put m hand)
unfolding put
put_next hand q e (refused k) h = stays hand q e
put_next hand q e (result next) h = h next refl

pub entry_next : (hand : List ℕ) (q : Question) → question_of hand ≡ result q → (e : Entry) → Next q (hand_after hand e)
unfolding hand_after
entry_next hand q c (merging a b area answer after) = put_next hand q c (merge_of hand a b (length area)) (merge_next hand q c a b (length area))
entry_next hand q c (besiding third area answer after) = put_next hand q c (beside_of hand third (length area)) (beside_next hand q c third (length area))
entry_next hand q c (declaring a b) = put_next hand q c (declare_of hand a b) (declare_next hand q c a b)
entry_next hand q c (judging capacity work answer after) = stays hand q c

pub entry_related : (hand : List ℕ) → RelatedParts hand → (e : Entry) → RelatedParts (hand_after hand e)
entry_related hand r e =
    let n : Next r.read (hand_after hand e) = entry_next hand r.read r.accepted e in
    record {
      read = n.new;
      accepted = n.accepted;
      definitions = r.definitions;
      defines = n.defines r.definitions r.defines;
      related = n.related r.definitions r.related;
    }

-- The same after every list of entries.
pub hands_accepted : (hand : List ℕ) → Accepted hand → (es : List Entry) → Accepted (hands hand es)
unfolding hands
hands_accepted hand a [] = a
hands_accepted hand a (e ∷ es) =
    let n = entry_next hand a.read a.accepted e in
    hands_accepted (hand_after hand e) (record { read = n.new; accepted = n.accepted }) es

pub hands_related : (hand : List ℕ) → RelatedParts hand → (es : List Entry) → RelatedParts (hands hand es)
unfolding hands
hands_related hand r [] = r
hands_related hand r (e ∷ es) = hands_related (hand_after hand e) (entry_related hand r e) es
