-- What merge, beside and declaring make of a question's bytes, byte for byte: document 01, the end of "Steps" and "A list of changes". Assumes nothing.
use mathlib.Core.Path.{◌≡◌, refl, sym, ◌∙◌, ap, ap₂, fun_ext}
use mathlib.Core.Logic.{◌⊎◌, inl, inr, ◌≢◌}
use mathlib.Core.Bool.{Bool, true, false, ◌&&◌, ◌||◌, not}
use mathlib.Core.List.{List, [], ◌∷◌, ◌++◌, append_assoc}
use Prim.Native.Nat.{ℕ, ◌+◌, ◌<◌, ◌≤◌, min, max}
use native.Mathlib.Omega.{arith}
use lib.ListN.{length, length-append}
use lib.Dec.{ltb, leb, eqb}
use borrow.Author.Tests.{lt-ltb, le-leb, eqb-true}
use Rattle.calculus.specs.Cond.{Pairs, map_p, join}
use Rattle.calculus.specs.Term.{Term, ren}
use Rattle.calculus.proofs.Conditions.{join_cases}
use Rattle.calculus.proofs.Renaming.{ren_id}
use Rattle.terms.specs.Answer.{result}
use Rattle.terms.specs.Edition.{Edition, version_byte, encode_in}
use Rattle.terms.specs.Framing.{Fields, sized, all_sized, joined, before_apart}
use Rattle.terms.specs.Limits.{name_count}
use Rattle.terms.specs.Operations.{holds_apart, merged_question, merged, beside_question, placed_beside, beside_fields, declared_fields, written_within, merge_of, beside_of}
use Rattle.terms.specs.Question.{Question, edition_of, question_of, body_fields_in, pair_bytes, fields_in, write_in}
use Rattle.terms.proofs.Answers.{Every, bind_to, need-passed}
use Rattle.terms.proofs.BesideLaws.{PlacedBeside, placed-beside}
use Rattle.terms.proofs.OwnEdition.{own_well_formed, own-written, accepted_once}
use Rattle.terms.proofs.WellFormed.{PairAllowed}
use Rattle.terms.proofs.WrittenLaws.{Written, written_within_lem}

-- A name merged with itself changes nothing.
join-itself : (a n : ℕ) → join a a n ≡ n
join-itself a n = go (join_cases a a n)
  where
    go : ((n ≡ max a a) × (join a a n ≡ min a a)) ⊎ ((n ≢ max a a) × (join a a n ≡ n)) → join a a n ≡ n
    go (inl (e, j)) = j ∙ omega arith
    go (inr (h, j)) = j

same_names_lem : (a : ℕ) → join a a ≡ (λ n. n)
same_names_lem a = fun_ext (join-itself a)

same-pairs : (a : ℕ) (D : Pairs) → map_p (join a a) D ≡ D
same-pairs a [] = refl
same-pairs a (p ∷ D) = ap₂ (λ x y. x ∷ y) (λ i. (join-itself a p.0 i, join-itself a p.1 i)) (same-pairs a D)

merged-itself : (a : ℕ) (q : Question) → merged_question a a q ≡ q
unfolding merged_question
merged-itself a q = λ i. record {
  arities = q.arities;
  bodies = q.bodies;
  first = (ap (λ f. ren f q.first) (same_names_lem a) ∙ ren_id q.first) i;
  second = (ap (λ f. ren f q.second) (same_names_lem a) ∙ ren_id q.second) i;
  apart = same-pairs a q.apart i;
}

-- no name is held apart from itself
not_apart_lem : (a : ℕ) (D : Pairs) → Every PairAllowed D → holds_apart D a a ≡ false
unfolding holds_apart Every
not_apart_lem a [] h = refl
not_apart_lem a (p ∷ D) h = go (eqb p.0 a) refl (eqb p.1 a) refl (not_apart_lem a D h.1)
  where
    go : (s : Bool) → eqb p.0 a ≡ s → (t : Bool) → eqb p.1 a ≡ t → holds_apart D a a ≡ false → ((s && t) || (s && t) || holds_apart D a a) ≡ false
    go true s true t r = let x = eqb-true p.0 a s in let y = eqb-true p.1 a t in absurd (h.0.differ (x ∙ sym y))
    go true s false t r = r
    go false s t u r = r

pub merge_itself : (question : List ℕ) (q : Question) → question_of question ≡ result q → (a room : ℕ) → a < name_count → length question ≤ room
    → merge_of question a a room ≡ result question
unfolding merge_of merged written_within
merge_itself question q e a room l h =
    let w = own_well_formed question q e in
    let k = own-written question q e in
    let test : (ltb a name_count && ltb a name_count && not (holds_apart q.apart a a)) ≡ true =
    rw (lt-ltb a name_count l, not_apart_lem a q.apart w.apart) refl in
    bind_to _ (bind_to _ e ∙ need-passed 14 _ _ test ∙ ap (λ r. result r) (merged-itself a q))
    ∙ need-passed 15 (leb (length (write_in (edition_of question) q)) room) _ (le-leb (length (write_in (edition_of question) q)) room (rw k h)) ∙ ap (λ r. result r) k

made : (e : Edition) (third : List ℕ) (R : Term) (p : Question) → third ≡ encode_in e 0 R
    → write_in e (beside_question R p) ≡ joined e (beside_fields third (fields_in e p))
unfolding write_in beside_question beside_fields fields_in encode_in
made e third R p t = ap (λ l. joined e (record {
  arities = p.arities;
  bodies = body_fields_in e p.arities p.bodies;
  first = 7 ∷ (encode_in e 0 p.first ++ l);
  second = 7 ∷ (encode_in e 0 p.second ++ l);
  apart = pair_bytes p.apart;
})) (sym t)

pub beside_bytes : (question third : List ℕ) (q : Question) → question_of question ≡ result q → (room : ℕ) (next : List ℕ)
    → beside_of question third room ≡ result next
    → (question ≡ joined (edition_of question) (fields_in (edition_of question) q))
    × (next ≡ joined (edition_of question) (beside_fields third (fields_in (edition_of question) q)))
unfolding beside_of write_in
beside_bytes question third q h room next m =
    let w : Written e (placed_beside question third) room next = written_within_lem e (placed_beside question third) room next m in
    let s : PlacedBeside question third w.question = placed-beside question third w.question w.made in
    let o : s.old ≡ q = accepted_once question s.old q s.accepted h in (
      sym (own-written question q h),
      w.bytes ∙ ap (write_in e) s.is ∙ made e third s.part s.old s.third_bytes ∙ ap (λ p. joined e (beside_fields third (fields_in e p))) o,
    )
  where
    e : Edition
    e = edition_of question

-- The apart list is the last field.
pub joined_apart : (e : Edition) (f : Fields) → joined e f ≡ before_apart e f ++ sized f.apart
unfolding joined before_apart
joined_apart e f =
    let A = f.arities in
    let B = all_sized f.bodies in
    let P = sized f.first in
    let Q = sized f.second in
    let D = sized f.apart in
    ap (λ l. version_byte e ∷ length A ∷ l)
    (ap (λ l. A ++ l) (ap (λ l. B ++ l) (sym (append_assoc P Q D)) ∙ sym (append_assoc B (P ++ Q) D)) ∙ sym (append_assoc A (B ++ (P ++ Q)) D))

-- Declaring: the two bytes go to the end of the apart list, whose length grows by 2, and nothing else changes.
pub declared_bytes : (question : List ℕ) (q : Question) → question_of question ≡ result q → (a b : ℕ)
    → (question ≡ before_apart (edition_of question) (fields_in (edition_of question) q) ++ sized (pair_bytes q.apart))
    × (joined (edition_of question) (declared_fields a b (fields_in (edition_of question) q))
    ≡ before_apart (edition_of question) (fields_in (edition_of question) q) ++ sized (pair_bytes q.apart ++ (a ∷ b ∷ [])))
    × (length (pair_bytes q.apart ++ (a ∷ b ∷ [])) ≡ length (pair_bytes q.apart) + 2)
unfolding write_in fields_in declared_fields before_apart
declared_bytes question q h a b = (
  sym (own-written question q h) ∙ joined_apart (edition_of question) (fields_in (edition_of question) q),
  joined_apart (edition_of question) (declared_fields a b (fields_in (edition_of question) q)),
  length-append (pair_bytes q.apart) (a ∷ b ∷ []),
)
