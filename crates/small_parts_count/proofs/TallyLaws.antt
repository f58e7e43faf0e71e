-- Tallies of pairs of words: one verdict more, one row more, and what the whole counts.
use mathlib.Core.Path.{◌≡◌, refl, sym, ap, ◌∙◌}
use mathlib.Core.Bool.{cond}
use mathlib.Core.List.{List, [], ◌∷◌, ◌++◌, map}
use Prim.Native.Nat.{ℕ, zero, suc, ◌+◌, ◌*◌, ◌≤◌, ◌<◌}
use Rattle.std.specs.Prelude.{Some, Result, Ok, Err}
use native.Mathlib.Omega.{arith}
use lib.ListN.{length, get_or, take, drop, length-map}
use lib.Seq.{take-append_seam}
use Rattle.terms.specs.Answer.{Answer, refused, result}
use Rattle.terms_bytes.proofs.Stores.{sets-start}
use Rattle.field.specs.Successors.{select}
use Rattle.verdict.specs.Judge.{slot_bytes, judge_by, judge_of}
use Rattle.verdict.proofs.CapacityLaws.{within_passes}
use Rattle.verdict.specs.Verdict.{openly, Verdict, unsettled, same, different}
use Rattle.verdict_judge.specs.Judging.{verdict_told, judged_answer, JudgedIs}
use Rattle.terms_bytes.specs.declared.answer.Refusal.{Refusal}
use Rattle.verdict_judge.specs.declared.judge.Verdict as told
use Rattle.verdict_judge.specs.declared.judge.Verdict.TheVariants.{Unsettled, Same, Different}
use Rattle.small_parts.specs.Census.{asked, verdict_on, Kind, is_same, isDifferent, is_unsettled, CensusIs}
use Rattle.small_parts.proofs.CensusOfWords.{of_kind, of_kind_in, census_of_words}
use Rattle.small_parts.proofs.Counting.{crossed, pairs}
use Rattle.small_parts_words.specs.Words.{most_parts, word_of, part_numbers, CollectsIs}
use Rattle.small_parts_words.proofs.WordLaws.{part_words, words_distinct, words_are_parts, few_parts}
use Rattle.small_parts_count.specs.Counts.{CountIs}
use Rattle.small_parts_count.specs.Tallies.{none, plus_of, added, tallied, with_each, row_of, word_pairs, total}
use Rattle.small_parts_count.specs.declared.tally.Tally.{Tally}

-- The verdict is that of the judge, whose checks 1 and 2 pass.
pub judge_verdict : (n a b : ℕ) (question work : List ℕ) (r : Result told.Verdict Refusal) (work' : List ℕ) → question ≡ asked (word_of n a) (word_of n b)
    → slot_bytes * 186 ≤ length work → JudgedIs openly question 186 work r work' → judged_answer r ≡ verdict_on (word_of n a) (word_of n b)
unfolding judge_by verdict_on
judge_verdict n a b question work r work' e h d =
    d.answer ∙ ap (λ q. judge_of q 186 (length work)) e
    ∙ within_passes 186 (slot_bytes * 186) (length work) _ (record { some = omega arith; most = omega arith; fits = h })

-- One verdict more.
module _ (t : Tally) (j : Result told.Verdict Refusal) where
  pub add_refused : (k : Refusal) → j ≡ Err k → t ≡ added t (judged_answer j)
  unfolding added judged_answer
  add_refused k e = ap (λ i. added t (judged_answer i)) (sym e)

  module _ (w : told.Verdict) (s : j ≡ Ok w) where
    settled : added t (result (verdict_told w)) ≡ added t (judged_answer j)
    unfolding judged_answer
    settled = ap (λ i. added t (judged_answer i)) (sym s)

    pub add_unsettled : (r : Tally) → r ≡ plus_of t 0 0 1 → w ≡ Unsettled → r ≡ added t (judged_answer j)
    unfolding added verdict_told
    add_unsettled r p e = p ∙ ap (λ w. added t (result (verdict_told w))) (sym e) ∙ settled

    pub add_same : (r : Tally) (k : ℕ) → r ≡ plus_of t 1 0 0 → w ≡ Same k → r ≡ added t (judged_answer j)
    unfolding added verdict_told
    add_same r k p e = p ∙ ap (λ w. added t (result (verdict_told w))) (sym e) ∙ settled

    pub add_different : (r : Tally) (k : ℕ) → r ≡ plus_of t 0 1 0 → w ≡ Different k → r ≡ added t (judged_answer j)
    unfolding added verdict_told
    add_different r k p e = p ∙ ap (λ w. added t (result (verdict_told w))) (sym e) ∙ settled

-- What is counted stays small.
total-added : (t : Tally) (a : Answer Verdict) → total (added t a) ≤ total t + 1
unfolding added
total-added t (refused k) = omega arith
total-added t (result (same n)) = omega arith
total-added t (result (different n)) = omega arith
total-added t (result unsettled) = omega arith

total-tallied : (t : Tally) (ps : List (List ℕ × List ℕ)) → total (tallied t ps) ≤ total t + length ps
unfolding tallied
total-tallied t [] = omega arith
total-tallied t (p ∷ ps) =
    omega (arith, total-added t (verdict_on p.0 p.1), total-tallied (added t (verdict_on p.0 p.1)) ps)

-- One pair more of a row.
next_in_row : (n first : ℕ) (kept : List ℕ) (j : ℕ) → j < length kept
    → drop j (with_each n first kept) ≡ (word_of n first, word_of n (get_or kept j 0)) ∷ drop (j + 1) (with_each n first kept)
next_in_row n first [] j h = absurd (omega arith)
next_in_row n first (k ∷ kept) zero h = refl
next_in_row n first (k ∷ kept) (suc j) h =
    let e : suc j + 1 ≡ suc (j + 1) = omega arith in rw e (next_in_row n first kept j (omega arith))

pub row_step : (n row : ℕ) (kept : List ℕ) (j : ℕ) (before t t' : Tally) (a : Answer Verdict) → j < length kept
    → a ≡ verdict_on (word_of n (get_or kept row 0)) (word_of n (get_or kept j 0)) → t' ≡ added t a → total t ≤ total before + j
    → tallied t (drop j (row_of n row kept)) ≡ tallied before (row_of n row kept)
    → (total t' ≤ total before + (j + 1)) × (tallied t' (drop (j + 1) (row_of n row kept)) ≡ tallied before (row_of n row kept))
unfolding tallied row_of
row_step n row kept j before t t' a h v e l i =
    let rest = drop (j + 1) (row_of n row kept) in (
      omega (arith, ap total e, total-added t a),
      ap (λ u. tallied u rest) (e ∙ ap (added t) v) ∙ ap (tallied t) (sym (next_in_row n (get_or kept row 0) kept j h)) ∙ i,
    )

pub row_end : (n row : ℕ) (kept : List ℕ) (j : ℕ) (t : Tally) → length kept ≤ j → tallied t (drop j (row_of n row kept)) ≡ t
unfolding tallied row_of
row_end n row kept j t h = gone (get_or kept row 0) kept j h
  where
    gone : (first : ℕ) (ks : List ℕ) (j : ℕ) → length ks ≤ j → tallied t (drop j (with_each n first ks)) ≡ t
    gone first [] zero h = refl
    gone first [] (suc j) h = refl
    gone first (k ∷ ks) zero h = absurd (omega arith)
    gone first (k ∷ ks) (suc j) h = gone first ks j (omega arith)

-- One row more.
length-row : (n row : ℕ) (kept : List ℕ) → length (row_of n row kept) ≡ length kept
unfolding row_of
length-row n row kept = length-map kept (λ k. (word_of n (get_or kept row 0), word_of n k))

tallied-both : (t : Tally) (ps qs : List (List ℕ × List ℕ)) → tallied t (ps ++ qs) ≡ tallied (tallied t ps) qs
unfolding tallied
tallied-both t [] qs = refl
tallied-both t (p ∷ ps) qs = tallied-both (added t (verdict_on p.0 p.1)) ps qs

-- the pairs whose first word is kept from place i on
abbrev pub pairs_from : ℕ → List ℕ → ℕ → List (List ℕ × List ℕ)
pairs_from n kept i = word_pairs n (drop i kept) kept

next_kept : (kept : List ℕ) (i : ℕ) → i < length kept → drop i kept ≡ get_or kept i 0 ∷ drop (i + 1) kept
next_kept [] i h = absurd (omega arith)
next_kept (k ∷ kept) zero h = refl
next_kept (k ∷ kept) (suc i) h = let e : suc i + 1 ≡ suc (i + 1) = omega arith in rw e (next_kept kept i (omega arith))

row_more : (n : ℕ) (kept : List ℕ) (i : ℕ) (t t' : Tally) → i < length kept → t' ≡ tallied t (row_of n i kept)
    → tallied t' (pairs_from n kept (i + 1)) ≡ tallied t (pairs_from n kept i)
unfolding word_pairs row_of
row_more n kept i t t' h e =
    let rest = pairs_from n kept (i + 1) in
    ap (λ u. tallied u rest) e ∙ sym (tallied-both t (row_of n i kept) rest) ∙ ap (λ l. tallied t (word_pairs n l kept)) (sym (next_kept kept i h))

pub pairs_start : (n : ℕ) (kept : List ℕ) → tallied (record { same = 0; different = 0; unsettled = 0 }) (pairs_from n kept 0) ≡ tallied none (word_pairs n kept kept)
unfolding none
pairs_start n kept = refl

pub pairs-step : (n : ℕ) (kept : List ℕ) (i : ℕ) (t t' : Tally) → i < length kept → length kept ≤ most_parts
    → t' ≡ tallied t (row_of n i kept) → total t ≤ most_parts * i → tallied t (pairs_from n kept i) ≡ tallied none (word_pairs n kept kept)
    → (total t' ≤ most_parts * (i + 1)) × (tallied t' (pairs_from n kept (i + 1)) ≡ tallied none (word_pairs n kept kept))
pairs-step n kept i t t' h few e l g = (
  omega (arith, ap total e, total-tallied t (row_of n i kept), length-row n i kept),
  row_more n kept i t t' h e ∙ g,
)

pub pairs_end : (n : ℕ) (kept : List ℕ) (i : ℕ) (t : Tally) → length kept ≤ i → tallied t (pairs_from n kept i) ≡ t
unfolding word_pairs tallied
pairs_end n kept i t h = ap (λ l. tallied t (word_pairs n l kept)) (gone kept i h)
  where
    gone : (kept : List ℕ) (i : ℕ) → length kept ≤ i → drop i kept ≡ []
    gone [] zero h = refl
    gone [] (suc i) h = refl
    gone (k ∷ kept) zero h = absurd (omega arith)
    gone (k ∷ kept) (suc i) h = gone kept i (omega arith)

-- What a tally counts.
abbrev number_in : Kind → Tally → ℕ
number_in is_same t = t.same
number_in isDifferent t = t.different
number_in is_unsettled t = t.unsettled

tallies_kind : (k : Kind) (t : Tally) (ps : List (List ℕ × List ℕ)) → number_in k (tallied t ps) ≡ number_in k t + length (of_kind_in k ps)
unfolding tallied of_kind_in select added of_kind
tallies_kind k t [] = omega arith
tallies_kind k t (p ∷ ps) = tallies_kind k (added t (verdict_on p.0 p.1)) ps ∙ one k (verdict_on p.0 p.1)
  where
    one : (k : Kind) (a : Answer Verdict)
        → number_in k (added t a) + length (of_kind_in k ps) ≡ number_in k t + length (cond (of_kind k a) (p ∷ of_kind_in k ps) (of_kind_in k ps))
    one k (refused i) = refl
    one is_same (result (same n)) = omega arith
    one is_same (result (different n)) = omega arith
    one is_same (result unsettled) = omega arith
    one isDifferent (result (same n)) = omega arith
    one isDifferent (result (different n)) = omega arith
    one isDifferent (result unsettled) = omega arith
    one is_unsettled (result (same n)) = omega arith
    one is_unsettled (result (different n)) = omega arith
    one is_unsettled (result unsettled) = omega arith

-- The pairs of the words are the pairs of the parts.
row-mapped : (n first : ℕ) (kept : List ℕ) → map (λ w. (word_of n first, w)) (map (word_of n) kept) ≡ with_each n first kept
row-mapped n first [] = refl
row-mapped n first (k ∷ kept) = ap (λ l. (word_of n first, word_of n k) ∷ l) (row-mapped n first kept)

pairs_of_words : (n : ℕ) (ks kept : List ℕ) → word_pairs n ks kept ≡ pairs (map (word_of n) ks) (map (word_of n) kept)
unfolding word_pairs crossed
pairs_of_words n [] kept = refl
pairs_of_words n (k ∷ ks) kept =
    ap (λ l. l ++ word_pairs n ks kept) (sym (row-mapped n k kept))
    ∙ ap (λ l. map (λ w. (word_of n k, w)) (map (word_of n) kept) ++ l) (pairs_of_words n ks kept)

-- The numbers of the census.
module _ (n : ℕ) (h : n ≤ 5) where
  counts : (k : Kind) (t : Tally) → t ≡ tallied none (word_pairs n (part_numbers n) (part_numbers n))
      → length (of_kind_in k (pairs (part_words n) (part_words n))) ≡ number_in k t
  unfolding part_words none
  counts k t e =
      ap (λ ps. length (of_kind_in k ps)) (sym (pairs_of_words n (part_numbers n) (part_numbers n)))
      ∙ sym (ap (number_in k) e ∙ tallies_kind k none (word_pairs n (part_numbers n) (part_numbers n)) ∙ nothing k)
    where
      found : Kind → ℕ
      found k = length (of_kind_in k (word_pairs n (part_numbers n) (part_numbers n)))

      nothing : (k : Kind) → number_in k none + found k ≡ found k
      nothing is_same = omega arith
      nothing isDifferent = omega arith
      nothing is_unsettled = omega arith

  census : (t : Tally) → t ≡ tallied none (word_pairs n (part_numbers n) (part_numbers n)) → CensusIs n t.same t.different t.unsettled
  census t e =
      coe 0 1 (i. CensusIs n (counts is_same t e i) (counts isDifferent t e i) (counts is_unsettled t e i))
      (census_of_words n h (part_words n) (words_distinct n) (words_are_parts n h))

  kept_numbers : (area kept : List ℕ) (r : ℕ) → 209 ≤ length area → CollectsIs n area r kept → take r kept ≡ part_numbers n
  kept_numbers area kept r l c =
      let xs = part_numbers n in
      ap (take r) (c.left ∙ sets-start area xs (omega (arith, few_parts n h))) ∙ ap (λ m. take m (xs ++ drop (length xs) area)) c.answer
      ∙ take-append_seam xs (drop (length xs) area)

  pub counted_numbers : (area kept : List ℕ) (r : ℕ) (t : Tally) → 209 ≤ length area → CollectsIs n area r kept
      → t ≡ tallied none (word_pairs n (take r kept) (take r kept)) → CountIs n (Some t)
  unfolding CountIs
  counted_numbers area kept r t l c e = (h, census t (e ∙ ap (λ ks. tallied none (word_pairs n ks ks)) (kept_numbers area kept r l c)))

  -- as many are kept as fit
  pub few_kept : (area kept : List ℕ) (r : ℕ) → CollectsIs n area r kept → r ≤ most_parts
  few_kept area kept r c = omega (arith, c.answer, few_parts n h)
