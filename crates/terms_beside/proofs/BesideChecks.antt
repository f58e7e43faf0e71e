-- The checks of beside over an accepted question: 6 to 10 of the third part, and 15. Assumes nothing.
use mathlib.Core.Path.{◌≡◌, refl, ap, ◌∙◌}
use mathlib.Core.Bool.{Bool, true, false, ◌&&◌}
use mathlib.Core.List.{List}
use Prim.Native.Nat.{ℕ, ◌+◌, ◌<◌, ◌≤◌}
use native.Mathlib.Omega.{arith}
use lib.ListN.{length}
use lib.Dec.{leb}
use borrow.Author.Tests.{leb-true, le-leb, lt-leb}
use Rattle.calculus.specs.Term.{Term}
use Rattle.terms.specs.Limits.{name_count, longest_term}
use Rattle.terms.specs.Answer.{Answer, refused, result, ◌>>=◌, ◌>>◌, need}
use Rattle.terms.specs.Edition.{Edition, encode_in}
use Rattle.terms.specs.Grammar.{parallel_outermost}
use Rattle.terms.specs.Operations.{beside_question, fits_beside, placed_beside, written_within, beside_of}
use Rattle.terms.specs.Question.{Question, fits, read_part, read_part_with, edition_of, question_of, write_in}
use Rattle.terms.specs.Reading.{numbered, read_whole}
use Rattle.terms_scanning.specs.Scanning.{control_of, scanned_whole}
use Rattle.terms_scanning.specs.declared.scan.Control.{Control}
use Rattle.terms_beside.proofs.BesideWriting.{beside-length}
use Rattle.terms.proofs.EncodeRead.{whole_read}
use Rattle.terms.proofs.OwnEdition.{own-written}
use Rattle.terms_converting.proofs.FittingLaws.{made-refused}
use Rattle.terms.proofs.Answers.{result_injective, refused_not_result, bind_to, bind-refused, need-passed, need_failed, both_true}

-- What the scan of a part says of reading it.
pub scanned_fault : (ed : Edition) (arities bs : List ℕ) (k : ℕ) → scanned_whole ed name_count arities 0 bs ≡ refused k → read_part ed (numbered arities) bs ≡ refused k
unfolding scanned_whole read_part_with
scanned_fault ed arities bs k e = made-refused (read_whole ed (numbered arities) name_count 0 bs) control_of k e

pub scanned_end : (ed : Edition) (arities bs : List ℕ) (c : Control) → scanned_whole ed name_count arities 0 bs ≡ result c
    → (P : Term) × (read_part ed (numbered arities) bs ≡ result P) × (parallel_outermost P ≡ c.outermost)
unfolding scanned_whole read_part_with control_of ◌>>=◌
scanned_end ed arities bs c e = go (read_whole ed (numbered arities) name_count 0 bs) refl e
  where
    go : (m : Answer Term) → read_whole ed (numbered arities) name_count 0 bs ≡ m → (m >>= λ P. result (control_of P)) ≡ result c
        → (P : Term) × (read_whole ed (numbered arities) name_count 0 bs ≡ result P) × (parallel_outermost P ≡ c.outermost)
    go (refused j) h q = refused_not_result q
    go (result P) h q = (P, h, ap (λ (c : Control). c.outermost) (result_injective q))

pub third_bytes_lem : (ed : Edition) (arities third : List ℕ) (R : Term) → read_part ed (numbered arities) third ≡ result R → third ≡ encode_in ed 0 R
unfolding read_part_with
third_bytes_lem ed arities third R e = (whole_read name_count ed (numbered arities) 0 third R e).0

pub written-length : (s : List ℕ) (q : Question) → question_of s ≡ result q → (third : List ℕ) (R : Term) → third ≡ encode_in (edition_of s) 0 R
    → length (write_in (edition_of s) (beside_question R q)) ≡ length s + (1 + length third + (1 + length third))
unfolding write_in
written-length s q e third R t =
    let l = beside-length (edition_of s) R q in
    let m = ap length (own-written s q e) in
    let n = ap length t in
    omega (arith, l, m, n)

-- What beside makes of an accepted question.
module _ (s : List ℕ) (q : Question) (e : question_of s ≡ result q) (third : List ℕ) (room : ℕ) where
  abbrev pub sides_test : Bool
  sides_test = fits third && fits_beside (edition_of s) third q.first && fits_beside (edition_of s) third q.second

  after_sizes : Answer Question
  after_sizes = do
    R ← read_part (edition_of s) (numbered q.arities) third
    need 10 (parallel_outermost R)
    result (beside_question R q)

  beside_is : beside_of s third room ≡ ((need 6 sides_test >> after_sizes) >>= written_within (edition_of s) room)
  unfolding beside_of placed_beside after_sizes
  beside_is = ap (λ (m : Answer Question). m >>= written_within (edition_of s) room) (bind_to _ e)

  pub sides_too_long : sides_test ≡ false → beside_of s third room ≡ refused 6
  sides_too_long t = beside_is ∙ bind-refused (written_within (edition_of s) room) (need_failed 6 sides_test after_sizes t)

  module _ (t : sides_test ≡ true) where
    reading : beside_of s third room ≡ (after_sizes >>= written_within (edition_of s) room)
    reading = beside_is ∙ ap (λ (m : Answer Question). m >>= written_within (edition_of s) room) (need-passed 6 sides_test after_sizes t)

    pub third_faulty : (k : ℕ) → read_part (edition_of s) (numbered q.arities) third ≡ refused k → beside_of s third room ≡ refused k
    unfolding after_sizes
    third_faulty k h = reading ∙ bind-refused (written_within (edition_of s) room) (bind-refused _ h)

    module _ (R : Term) (h : read_part (edition_of s) (numbered q.arities) third ≡ result R) where
      pub third_parallel : parallel_outermost R ≡ false → beside_of s third room ≡ refused 10
      unfolding after_sizes
      third_parallel p =
          reading ∙ bind-refused (written_within (edition_of s) room) (bind_to _ h ∙ need_failed 10 (parallel_outermost R) (result (beside_question R q)) p)

      module _ (p : parallel_outermost R ≡ true) where
        placing : beside_of s third room ≡ written_within (edition_of s) room (beside_question R q)
        unfolding after_sizes
        placing =
            reading ∙ bind_to (written_within (edition_of s) room) (bind_to _ h ∙ need-passed 10 (parallel_outermost R) (result (beside_question R q)) p)

        pub beside_short : room < length (write_in (edition_of s) (beside_question R q)) → beside_of s third room ≡ refused 15
        unfolding written_within
        beside_short l = placing ∙ need_failed 15 (leb (length (write_in (edition_of s) (beside_question R q))) room) _ (lt-leb _ _ l)

        pub beside_writes : length (write_in (edition_of s) (beside_question R q)) ≤ room → beside_of s third room ≡ result (write_in (edition_of s) (beside_question R q))
        unfolding written_within
        beside_writes l = placing ∙ need-passed 15 (leb (length (write_in (edition_of s) (beside_question R q))) room) _ (le-leb _ _ l)

  -- The code's test on the sizes is the check's.
  pub sides_test_lem : (first second : ℕ) → first ≡ length (encode_in (edition_of s) 0 q.first) → second ≡ length (encode_in (edition_of s) 0 q.second)
      → (leb 1 (length third) && leb (length third) longest_term && leb (1 + first + length third) longest_term && leb (1 + second + length third) longest_term)
      ≡ sides_test
  unfolding fits fits_beside
  sides_test_lem first second x y = rw (x, y)

  pub sides_bounds : sides_test ≡ true
      → (1 + length (encode_in (edition_of s) 0 q.first) + length third ≤ longest_term) × (1 + length (encode_in (edition_of s) 0 q.second) + length third ≤ longest_term)
  unfolding fits_beside
  sides_bounds t =
      let b = both_true (fits third && fits_beside (edition_of s) third q.first) (fits_beside (edition_of s) third q.second) t in
      let c = both_true (fits third) (fits_beside (edition_of s) third q.first) b.0 in
      (leb-true _ _ c.1, leb-true _ _ b.1)
