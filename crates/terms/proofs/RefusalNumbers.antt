-- The number of every refusal leaves room for an answer's kind beside it (32 bits). Assumes nothing.
use mathlib.Core.Path.{◌≡◌}
use mathlib.Core.Bool.{Bool, true, false, cond, ◌&&◌}
use mathlib.Core.List.{List, [], ◌∷◌}
use Prim.Native.Nat.{ℕ, zero, suc, ◌+◌, ◌-◌, ◌<◌, ◌≤◌}
use native.Mathlib.Omega.{arith}
use lib.ListN.{length, get_or}
use lib.Dec.{ltb, leb, eqb}
use borrow.Author.Tests.{leb-true}
use Rattle.terms.specs.Answer.{Answer, refused, result, ◌>>=◌, ◌>>◌, need}
use Rattle.terms.specs.Edition.{Edition, one, two, other, version_byte}
use Rattle.terms.specs.Framing.{cut, field, fields, framed}
use Rattle.terms.specs.Grammar.{parallel_outermost}
use Rattle.terms.specs.Limits.{longest_question}
use Rattle.terms.specs.Operations.{merged, placed_beside, written_within, merge_of, beside_of, convert_of}
use Rattle.terms.specs.Question.{Question, version, read_bodies, read_part, read_part_with, read_pairs, read_pairs_with, read_apart, read_apart_with, different_names, check_terms_with, check_fields_with, check_in, check_with, edition_of, question_of, question_with, fits_in}
use Rattle.terms.specs.Reading.{byte, read_name, read_names, tag_of, Callees, numbered, read_count, read_term, read_whole}
use Rattle.terms.proofs.Answers.{bind-result, need-result}

-- numbers below this leave room for a kind: 2^32
abbrev pub number_room : ℕ
number_room = 4294967296

module _ {A : Type 0} where
  -- where m is a refusal, its number is so small
  unfoldable pub Numbered : Answer A → Type 0
  Numbered (refused k) = k < number_room
  Numbered (result a) = Unit {0}

  pub numbered-at : (m : Answer A) (k : ℕ) → Numbered m → m ≡ refused k → k < number_room
  unfolding Numbered
  numbered-at (refused j) k h e = let z : j ≡ k = cc in omega arith
  numbered-at (result a) k h e = let z : ◌≡◌ {A = ℕ} 0 1 = cc in absurd (omega arith)

  numbered-cond : (t : Bool) (m n : Answer A) → Numbered m → Numbered n → Numbered (cond t m n)
  numbered-cond true m n h k = h
  numbered-cond false m n h k = k

module _ {A B : Type 0} where
  pub numbered-bind : (m : Answer A) (f : A → Answer B) → Numbered m → ((a : A) → Numbered (f a)) → Numbered (m >>= f)
  unfolding Numbered ◌>>=◌
  numbered-bind (refused k) f h g = h
  numbered-bind (result a) f h g = g a

module _ {B : Type 0} where
  pub numbered-need : (k : ℕ) (t : Bool) (r : Answer B) → k < number_room → Numbered r → Numbered (need k t >> r)
  unfolding Numbered ◌>>◌ need
  numbered-need k true r h g = g
  numbered-need k false r h g = h

done : {A : Type 0} (a : A) → Numbered (result a)
unfolding Numbered
done a = tt

turned : (A : Type 0) (k : ℕ) → k < number_room → Numbered {A = A} (refused k)
unfolding Numbered
turned A k h = h

byte-numbered : (bs : List ℕ) → Numbered (byte bs)
unfolding byte Numbered
byte-numbered [] = omega arith
byte-numbered (b ∷ bs) = tt

name-numbered : (free d : ℕ) (bs : List ℕ) → Numbered (read_name free d bs)
unfolding read_name
name-numbered free d bs =
    numbered-bind (byte bs) _ (byte-numbered bs)
    (λ p. numbered-cond (ltb p.0 free) _ _ (done _) (numbered-cond (leb 128 p.0 && ltb (p.0 - 128) d) _ _ (done _) (turned _ 9 (omega arith))))

names-numbered : (free d n : ℕ) (bs : List ℕ) → Numbered (read_names free d n bs)
unfolding read_names
names-numbered free d zero bs = done _
names-numbered free d (suc n) bs =
    numbered-bind (read_name free d bs) _ (name-numbered free d bs)
    (λ p. numbered-bind (read_names free d n p.1) _ (names-numbered free d n p.1) (λ q. done _))

count_numbered : (e : Edition) (n : ℕ) (bs : List ℕ) → Numbered (read_count e n bs)
unfolding read_count
count_numbered one n bs = done _
count_numbered two n bs = numbered-bind (byte bs) _ (byte-numbered bs) (λ p. numbered-need 16 (eqb p.0 n) _ (omega arith) (done _))

module _ (e : Edition) (callees : Callees) (rule : (k : ℕ) → Numbered (callees k)) (free : ℕ) where
  -- one name, then a subterm; two names, then a subterm; two subterms
  one_name : {A : Type 0} (d : ℕ) (bs : List ℕ) (f : ℕ × List ℕ → Answer A) → ((p : ℕ × List ℕ) → Numbered (f p)) → Numbered (read_name free d bs >>= f)
  one_name d bs f h = numbered-bind (read_name free d bs) f (name-numbered free d bs) h

  term_numbered : (n d : ℕ) (bs : List ℕ) → Numbered (read_term e callees free n d bs)
  unfolding read_term byte tag_of ◌>>=◌ ◌>>◌ need Numbered
  term_numbered zero d bs = omega arith
  term_numbered (suc n) d [] = omega arith
  term_numbered (suc n) d (zero ∷ bs) = tt
  term_numbered (suc n) d ((suc zero) ∷ bs) = numbered-bind (read_term e callees free n d bs) _ (term_numbered n d bs) (λ p. tt)
  term_numbered (suc n) d ((suc (suc zero)) ∷ bs) = one_name d bs _ (λ a. numbered-bind (read_term e callees free n (1 + d) a.1) _ (term_numbered n (1 + d) a.1) (λ p. tt))
  term_numbered (suc n) d ((suc (suc (suc zero))) ∷ bs) = one_name d bs _ (λ a. one_name d a.1 _ (λ b. numbered-bind (read_term e callees free n d b.1) _ (term_numbered n d b.1) (λ p. tt)))
  term_numbered (suc n) d ((suc (suc (suc (suc zero)))) ∷ bs) = one_name d bs _ (λ a. numbered-bind (read_term e callees free n (1 + d) a.1) _ (term_numbered n (1 + d) a.1) (λ p. tt))
  term_numbered (suc n) d ((suc (suc (suc (suc (suc zero))))) ∷ bs) = one_name d bs _ (λ a. one_name d a.1 _ (λ b. numbered-bind (read_term e callees free n d b.1) _ (term_numbered n d b.1) (λ p. tt)))
  term_numbered (suc n) d ((suc (suc (suc (suc (suc (suc zero)))))) ∷ bs) = numbered-bind (read_term e callees free n d bs) _ (term_numbered n d bs) (λ p. numbered-bind (read_term e callees free n d p.1) _ (term_numbered n d p.1) (λ q. tt))
  term_numbered (suc n) d ((suc (suc (suc (suc (suc (suc (suc zero))))))) ∷ bs) = numbered-bind (read_term e callees free n d bs) _ (term_numbered n d bs) (λ p. numbered-bind (read_term e callees free n d p.1) _ (term_numbered n d p.1) (λ q. tt))
  term_numbered (suc n) d ((suc (suc (suc (suc (suc (suc (suc (suc zero)))))))) ∷ bs) = numbered-bind (read_term e callees free n (1 + d) bs) _ (term_numbered n (1 + d) bs) (λ p. tt)
  term_numbered (suc n) d ((suc (suc (suc (suc (suc (suc (suc (suc (suc zero))))))))) ∷ bs) = numbered-bind (byte bs) _ (byte-numbered bs)
      (λ k. numbered-bind (callees k.0) _ (rule k.0)
      (λ m. numbered-bind (read_count e m k.1) _ (count_numbered e m k.1) (λ cs. numbered-bind (read_names free d m cs) _ (names-numbered free d m cs) (λ p. tt))))
  term_numbered (suc n) d ((suc (suc (suc (suc (suc (suc (suc (suc (suc (suc b)))))))))) ∷ bs) = omega arith

  whole-numbered : (d : ℕ) (bs : List ℕ) → Numbered (read_whole e callees free d bs)
  unfolding read_whole
  whole-numbered d bs =
      numbered-bind (read_term e callees free (length bs) d bs) _ (term_numbered (length bs) d bs)
      (λ p. numbered-need 7 (eqb (length p.1) 0) _ (omega arith) (done _))

arity_numbered : (arities : List ℕ) (k : ℕ) → Numbered (numbered arities k)
unfolding numbered
arity_numbered arities k = numbered-need 8 (ltb k (length arities)) _ (omega arith) (done _)

part_numbered : (e : Edition) (arities bs : List ℕ) → Numbered (read_part e (numbered arities) bs)
unfolding read_part_with
part_numbered e arities bs = whole-numbered e (numbered arities) (arity_numbered arities) _ 0 bs

bodies_numbered : (e : Edition) (arities sizes : List ℕ) (bodies : List (List ℕ)) → Numbered (read_bodies e (numbered arities) sizes bodies)
unfolding read_bodies
bodies_numbered e arities (a ∷ as') (b ∷ bs) =
    numbered-bind (read_whole e (numbered arities) 0 a b) _ (whole-numbered e (numbered arities) (arity_numbered arities) 0 a b)
    (λ P. numbered-bind (read_bodies e (numbered arities) as' bs) _ (bodies_numbered e arities as' bs) (λ Ps. done _))
bodies_numbered e arities (a ∷ as') [] = done _
bodies_numbered e arities [] bs = done _

pairs-numbered : (bs : List ℕ) → Numbered (read_pairs bs)
unfolding read_pairs_with
pairs-numbered [] = done _
pairs-numbered (a ∷ []) = turned _ 12 (omega arith)
pairs-numbered (a ∷ b ∷ bs) =
    numbered-need 12 (different_names a b) _ (omega arith) (numbered-bind (read_pairs bs) _ (pairs-numbered bs) (λ D. done _))

cut-numbered : (n : ℕ) (bs : List ℕ) → Numbered (cut n bs)
unfolding cut
cut-numbered n bs = numbered-cond (leb n (length bs)) _ _ (done _) (turned _ 4 (omega arith))

field-numbered : (bs : List ℕ) → Numbered (field bs)
unfolding field
field-numbered bs = numbered-bind (cut 2 bs) _ (cut-numbered 2 bs) (λ p. numbered-need 4 _ _ (omega arith) (cut-numbered _ p.1))

fields-numbered : (n : ℕ) (bs : List ℕ) → Numbered (fields n bs)
unfolding fields
fields-numbered zero bs = done _
fields-numbered (suc n) bs =
    numbered-bind (field bs) _ (field-numbered bs) (λ f. numbered-bind (fields n f.1) _ (fields-numbered n f.1) (λ fs. done _))

framed-numbered : (bs : List ℕ) → Numbered (framed bs)
unfolding framed
framed-numbered bs =
    numbered-bind (cut 1 bs) _ (cut-numbered 1 bs) (λ n.
    numbered-bind (cut (get_or n.0 0 0) n.1) _ (cut-numbered _ n.1) (λ a.
    numbered-bind (fields (get_or n.0 0 0) a.1) _ (fields-numbered _ a.1) (λ b.
    numbered-bind (field b.1) _ (field-numbered b.1) (λ p.
    numbered-bind (field p.1) _ (field-numbered p.1) (λ q.
    numbered-bind (field q.1) _ (field-numbered q.1) (λ d.
    numbered-need 4 (eqb (length d.1) 0) _ (omega arith) (done _)))))))

version-numbered : (e : Edition) (bs : List ℕ) → Numbered (version e bs)
unfolding version
version-numbered e [] = turned _ 3 (omega arith)
version-numbered e (b ∷ bs) = numbered-need 3 (eqb b (version_byte e)) _ (omega arith) (done _)

pub check_numbered_in : (e : Edition) (bs : List ℕ) → Numbered (check_in e bs)
unfolding check_with check_fields_with check_terms_with read_apart_with
check_numbered_in e bs =
    numbered-bind (version e bs) _ (version-numbered e bs) (λ rest.
    numbered-need 4 _ _ (omega arith)
    (numbered-bind (framed rest) _ (framed-numbered rest) (λ f.
    numbered-need 5 _ _ (omega arith) (numbered-need 6 _ _ (omega arith)
    (numbered-bind (read_bodies e (numbered f.arities) f.arities f.bodies) _ (bodies_numbered e f.arities f.arities f.bodies) (λ bodies.
    numbered-bind (read_part e (numbered f.arities) f.first) _ (part_numbered e f.arities f.first) (λ first.
    numbered-bind (read_part e (numbered f.arities) f.second) _ (part_numbered e f.arities f.second) (λ second.
    numbered-need 10 _ _ (omega arith) (numbered-need 11 _ _ (omega arith)
    (numbered-bind (read_apart f.apart) _ (numbered-need 12 _ _ (omega arith) (pairs-numbered f.apart)) (λ D. done _)))))))))))

pub check_numbered : (bs : List ℕ) → Numbered (question_of bs)
unfolding question_with
check_numbered bs = check_numbered_in (edition_of bs) bs

written-numbered : (e : Edition) (room : ℕ) (q : Question) → Numbered (written_within e room q)
unfolding written_within
written-numbered e room q = numbered-need 15 _ _ (omega arith) (done _)

pub merge_numbered : (bs : List ℕ) (a b room : ℕ) → Numbered (merge_of bs a b room)
unfolding merge_of merged
merge_numbered bs a b room =
    numbered-bind (merged bs a b) _
    (numbered-bind (question_of bs) _ (check_numbered bs) (λ q. numbered-need 14 _ _ (omega arith) (done _))) (written-numbered (edition_of bs) room)

pub beside-numbered : (bs third : List ℕ) (room : ℕ) → Numbered (beside_of bs third room)
unfolding beside_of placed_beside
beside-numbered bs third room =
    numbered-bind (placed_beside bs third) _
    (numbered-bind (question_of bs) _ (check_numbered bs) (λ q.
    numbered-need 6 _ _ (omega arith) (numbered-bind (read_part (edition_of bs) (numbered q.arities) third) _ (part_numbered (edition_of bs) q.arities third) (λ R.
    numbered-need 10 (parallel_outermost R) _ (omega arith) (done _))))) (written-numbered (edition_of bs) room)

pub convert_numbered : (e : Edition) (bs : List ℕ) (room : ℕ) → Numbered (convert_of e bs room)
unfolding convert_of
convert_numbered e bs room =
    numbered-bind (check_in (other e) bs) _ (check_numbered_in (other e) bs) (λ q. numbered-need 17 (fits_in e q) _ (omega arith) (written-numbered e room q))

-- An accepted question is not longer than check 4 allows.
pub accepted_length_in : (e : Edition) (bs : List ℕ) (q : Question) → check_in e bs ≡ result q → length bs ≤ longest_question
unfolding check_with
accepted_length_in e bs q h =
    let (rest, _, h₁) = bind-result (version e bs) _ q h in
    leb-true (length bs) longest_question (need-result 4 (leb (length bs) longest_question) _ q h₁).0

pub accepted_length : (bs : List ℕ) (q : Question) → question_of bs ≡ result q → length bs ≤ longest_question
unfolding question_with
accepted_length bs q h = accepted_length_in (edition_of bs) bs q h
