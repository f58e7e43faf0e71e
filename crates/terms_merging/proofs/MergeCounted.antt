-- Merging in edition two, by way of edition one. Assumes nothing.
use mathlib.Core.Path.{◌≡◌, sym, ap, subst, ◌∙◌}
use mathlib.Core.Bool.{true, false}
use mathlib.Core.List.{List, ◌++◌}
use Prim.Native.Nat.{ℕ, ◌≤◌}
use native.Mathlib.Omega.{arith}
use lib.ListN.{length, take, drop, length-append}
use lib.Seq.{take-append_seam}
use Rattle.calculus.specs.Cond.{map_p, join}
use Rattle.calculus.specs.Term.{ren}
use Rattle.terms.specs.Answer.{result}
use Rattle.terms.specs.Edition.{Edition, one, two, encode_in}
use Rattle.terms.specs.Framing.{sized, all_sized, joined}
use Rattle.terms.specs.Limits.{longest_question}
use Rattle.terms.specs.Operations.{merged_question, area_after}
use Rattle.terms.specs.Question.{Question, check_in, check_of, edition_of, question_of, pair_bytes, body_fields_in, fields_in, write_in}
use Rattle.terms.proofs.Answers.{result_injective}
use Rattle.terms.proofs.MergeLaws.{pairs_as_many, merged_well_formed}
use Rattle.terms.proofs.OwnEdition.{own-written}
use Rattle.terms.proofs.RenamingKeeps.{length-ren_in}
use Rattle.terms.proofs.WellFormed.{WellFormed, accepted_in, written_in, in_accepted, fits-first, written-length}
use Rattle.terms_bytes.specs.Counted.{edition_from}
use Rattle.terms_bytes.specs.Writing.{Plain, Writes, MayMerge, WritesMerged}
use Rattle.terms_converting.specs.Questions.{MayConvert, ConvertsQuestion}
use Rattle.terms_converting.proofs.PlainForm.{plain_checked, plain_room, plain_taken, plain_size}
use Rattle.terms_merging.specs.Counted.{MayMergeCounted, WritesMergedCounted}

pub merged_length_in : (e : Edition) (a b : ℕ) (q : Question) → length (write_in e (merged_question a b q)) ≡ length (write_in e q)
unfolding write_in joined fields_in merged_question sized
merged_length_in e a b q =
    let B = all_sized (body_fields_in e q.arities q.bodies) in
    let F = encode_in e 0 q.first in
    let S = encode_in e 0 q.second in
    let F' = encode_in e 0 (ren (join a b) q.first) in
    let S' = encode_in e 0 (ren (join a b) q.second) in
    let D = pair_bytes q.apart in
    let D' = pair_bytes (map_p (join a b) q.apart) in
    omega (
      arith,
      length-ren_in e 0 0 (join a b) q.first,
      length-ren_in e 0 0 (join a b) q.second,
      pairs_as_many (join a b) q.apart,
      length-append q.arities (B ++ (sized F ++ (sized S ++ sized D))),
      length-append q.arities (B ++ (sized F' ++ (sized S' ++ sized D'))),
      length-append B (sized F ++ (sized S ++ sized D)),
      length-append B (sized F' ++ (sized S' ++ sized D')),
      length-append F (sized S ++ sized D),
      length-append F' (sized S' ++ sized D'),
      length-append S (sized D),
      length-append S' (sized D'),
    )

-- A merged question is as long as it was.
pub merged-own-length : (s : List ℕ) (q : Question) → question_of s ≡ result q → (a b : ℕ) → length (write_in (edition_of s) (merged_question a b q)) ≡ length s
merged-own-length s q h a b = merged_length_in (edition_of s) a b q ∙ ap length (own-written s q h)

module _ (question : List ℕ) (a b : ℕ) (area : List ℕ) (may : MayMergeCounted question a b area) where
  abbrev q : Question
  q = may.old

  merged_well : WellFormed (merged_question a b q)
  merged_well = merged_well_formed a b q may.small may.small' may.not_apart (accepted_in two question q may.accepted).0

  -- the edition-one form is merged,
  module _ (out out' : List ℕ) (n : ℕ) (w : ConvertsQuestion question true out n out') where
    plain : check_of (take n out') ≡ result q
    plain = plain_checked question q may.accepted (take n out') (plain_taken question q may.accepted out out' n w)

    pub may_merge_plain : (merging : List ℕ) → length merging ≡ longest_question → MayMerge (take n out') a b merging
    unfolding Plain
    may_merge_plain merging l =
        let r = plain_room question q may.accepted out out' n w in
        let s = plain_size question q may.accepted out out' n w in
        record { accepted = (q, plain); small = may.small; small' = may.small'; room = omega arith }

    module _ (merging merging' : List ℕ) (m : ℕ) (v : WritesMerged (take n out') a b merging m merging') where
      merged-bytes : Writes one (merged_question a b q) merging m merging'
      unfolding WritesMerged
      merged-bytes = v q plain

      pub merged_room : m ≤ longest_question
      unfolding Writes
      merged_room = let l = merged-bytes.0 in omega (arith, written-length one (merged_question a b q) merged_well (fits-first (merged_question a b q) merged_well))

      merged-taken : take m merging' ≡ write_in one (merged_question a b q)
      unfolding Writes area_after
      merged-taken =
          let x = merged-bytes in
          rw (x.0, x.1) (take-append_seam (write_in one (merged_question a b q)) (drop (length (write_in one (merged_question a b q))) merging))

      pub merged-size : m ≡ length (take m merging')
      unfolding Writes
      merged-size = merged-bytes.0 ∙ ap length (sym merged-taken)

      accepted_again : check_in one (take m merging') ≡ result (merged_question a b q)
      accepted_again = ap (check_in one) merged-taken ∙ in_accepted one (merged_question a b q) merged_well (fits-first (merged_question a b q) merged_well)

      -- and written in edition two again
      pub may_convert_merged : MayConvert (take m merging') false area
      unfolding edition_from
      may_convert_merged =
          record {
            old = merged_question a b q;
            accepted = accepted_again;
            room = let r = may.room in omega (arith, merged_length_in two a b q, ap length (written_in two question q may.accepted));
          }

      pub merged-counted : (r : ℕ) (area' : List ℕ) → ConvertsQuestion (take m merging') false area r area' → WritesMergedCounted question a b area r area'
      unfolding WritesMergedCounted ConvertsQuestion edition_from
      merged-counted r area' u q' h =
          let o : may.old ≡ q' = result_injective (sym may.accepted ∙ h) in
          subst (λ (x : Question). Writes two (merged_question a b x) area r area') o (u (merged_question a b q) accepted_again)

pub writes_as : (e f : Edition) (q : Question) (area : List ℕ) (r : ℕ) (area' : List ℕ) → e ≡ f → Writes e q area r area' → Writes f q area r area'
writes_as e f q area r area' h w = subst (λ (x : Edition). Writes x q area r area') h w
