-- Candidates put one by one into the list that stands in the area: after each the area holds what `collect` has, or a limit is passed for good.
-- Assumes nothing.
use mathlib.Core.List.{List, [], ◌∷◌, ◌++◌}
use mathlib.Core.Logic.{◌⊎◌, inl, inr}
use mathlib.Core.Path.{◌≡◌, refl, sym, ◌∙◌, ap, subst}
use native.Mathlib.Numerals.{add-one}
use native.Mathlib.Omega.{arith}
use Prim.Native.Nat.{ℕ, suc, ◌+◌, ◌<◌, ◌≤◌, Ordering}
use lib.ListN.{length, get_or, take, drop}
use lib.Seq.{sets, sets-eq, take-suc, take_at, take_all, split_at}
use Rattle.calculus.specs.Abstraction.{Act, tau_a, inp_a, out_a, bout_a}
use Rattle.calculus.specs.Cond.{Cond}
use Rattle.calculus.specs.Term.{Term}
use Rattle.terms.specs.Limits.{name_count, longest_term}
use Rattle.steps.specs.Forms.{result_form}
use Rattle.calculus.specs.Lists.{◌∈◌, All}
use Rattle.steps.specs.Raw.{Candidate, step, blocked}
use Rattle.calculus.proofs.Membership.{all-∈, all_imp}
use Rattle.steps_splicing.specs.Collecting.{Stands, Found, PutInto, PutIs, CollectIs}
use Rattle.steps_placing.specs.Deciding.{Again}
use Rattle.steps_entries.specs.Entries.{InsertIs}
use Rattle.steps.specs.Limits.{most_steps, step_bytes}
use Rattle.steps.specs.Listed.{ListedStep, listed_as, canon_step, result_bytes, bytes}
use Rattle.steps.specs.Listing.{order, insert, collect, unsettled, limited}
use Rattle.steps.proofs.ClassLists.{length_classes}
use Rattle.steps.proofs.Limited.{Long, limited-passed, limited-many, limited_long}
use Rattle.steps.proofs.ListedBytes.{step-length, step-size}
use Rattle.steps.proofs.Sorted.{placed, insert_all, insert_sorted, insert-new, sorted_ascending, ascending_sorted, collect-old}
use Rattle.steps_placing.proofs.RepeatedCandidates.{collect_there}

-- `collect` only grows.
insert-length : (longest : ℕ) (s : ListedStep) (ts : List ListedStep) → length ts ≤ length (insert longest s ts)
unfolding insert
insert-length longest s [] = omega arith
insert-length longest s (t ∷ ts) = go (order (bytes longest s) (bytes longest t)) (insert-length longest s ts)
  where
    go : (o : Ordering) → length ts ≤ length (insert longest s ts)
        → length (t ∷ ts) ≤ length (placed longest s t ts (insert longest s ts) o)
    go Ordering.lt h = omega arith
    go Ordering.eq h = omega arith
    go Ordering.gt h = omega arith

module _ (names longest x : ℕ) where
  collect-length : (cs : List Candidate) (found : List ListedStep) → length found ≤ length (collect result_form names longest x cs found)
  unfolding collect
  collect-length [] found = omega arith
  collect-length (step M α P ∷ cs) found =
      omega (arith, insert-length longest (canon_step result_form names x M α P) found, collect-length cs (insert longest (canon_step result_form names x M α P) found))
  collect-length (blocked ∷ cs) found = collect-length cs found

  pub collect-++ : (cs ds : List Candidate) (found : List ListedStep)
      → collect result_form names longest x (cs ++ ds) found ≡ collect result_form names longest x ds (collect result_form names longest x cs found)
  unfolding collect
  collect-++ [] ds found = refl
  collect-++ (step M α P ∷ cs) ds found = collect-++ cs ds (insert longest (canon_step result_form names x M α P) found)
  collect-++ (blocked ∷ cs) ds found = collect-++ cs ds found

  pub canon_classes : (M : Cond) (α : Act) (A : Term) → length (canon_step result_form names x M α A).classes ≡ names
  unfolding canon_step listed_as
  canon_classes M tau_a A = length_classes names M
  canon_classes M (inp_a a) A = length_classes names M
  canon_classes M (out_a a b) A = length_classes names M
  canon_classes M (bout_a a) A = length_classes names M

-- A limit once passed stays passed.
pub limited_grows : (names longest x most : ℕ) (cs : List Candidate) (found : List ListedStep) → limited longest most found ≡ unsettled
    → limited longest most (collect result_form names longest x cs found) ≡ unsettled
limited_grows names longest x most cs found e = go (limited-passed longest most found e)
  where
    go : (most < length found) ⊎ Long longest found → limited longest most (collect result_form names longest x cs found) ≡ unsettled
    go (inl h) = limited-many longest most (collect result_form names longest x cs found) (omega (arith, collect-length names longest x cs found))
    go (inr (s, m, l)) = limited_long longest most (collect result_form names longest x cs found) (s, collect-old result_form names longest x cs found s m, l)

-- what was stored at the beginning
pub take-sets : (l xs : List ℕ) (n : ℕ) → length xs ≡ n → n ≤ length l → take n (sets l 0 xs) ≡ xs
take-sets l xs n e h = ap (take n) (sets-eq xs l 0 (omega arith)) ∙ take_at xs (drop (0 + length xs) l) n e

-- One candidate put into the list that stands in the area.
module _ (area : List ℕ) (x count : ℕ) (found : List ListedStep) (s : Stands area count found) where
  pub put-blocked : count ≤ most_steps → PutInto blocked x count area found
  unfolding collect
  put-blocked h = record { stands = λ _. s; passed = λ g. absurd (omega arith) }

  module _ (M : Cond) (α : Act) (A : Term) where
    pub put_step : length (result_bytes (canon_step result_form name_count x M α A)) ≤ longest_term
        → (entry : List ℕ) → entry ≡ bytes longest_term (canon_step result_form name_count x M α A)
        → (r : ℕ) (area' : List ℕ) → InsertIs area count entry r area' → PutInto (step M α A) x r area' found
    unfolding collect InsertIs
    put_step f entry e r area' i =
        let t : ListedStep = canon_step result_form name_count x M α A in
        let (n, p) = i t found e s.ascending s.number s.indexed in
        let size : length (bytes longest_term t) ≡ step_bytes = step-size name_count longest_term t (canon_classes name_count longest_term x M α A) f in
        let sorted = insert_sorted longest_term t found (ascending_sorted longest_term found s.ascending) in
        record {
          stands = λ h. record {
            sized = insert_all longest_term (λ u. length (bytes longest_term u) ≡ step_bytes) t found size s.sized;
            ascending = sorted_ascending longest_term (insert longest_term t found) sorted;
            fit = insert_all longest_term (λ u. length (result_bytes u) ≤ longest_term) t found f s.fit;
            number = sym n;
            indexed = p h;
          };
          passed = λ h cs.
              limited-many longest_term most_steps (collect result_form name_count longest_term x cs (insert longest_term t found))
              (omega (arith, n, collect-length name_count longest_term x cs (insert longest_term t found)));
        }

    -- a step whose result is too long stands in the list, whatever comes after it
    pub put_long : longest_term < length (result_bytes (canon_step result_form name_count x M α A)) → (area' : List ℕ)
        → PutInto (step M α A) x (most_steps + 1) area' found
    unfolding collect
    put_long f area' =
        let t : ListedStep = canon_step result_form name_count x M α A in
        let all : All (λ u. (u ≡ t) ⊎ (length (bytes longest_term u) ≡ step_bytes)) (insert longest_term t found) =
        insert_all longest_term (λ u. (u ≡ t) ⊎ (length (bytes longest_term u) ≡ step_bytes)) t found (inl refl)
        (all_imp (λ u. length (bytes longest_term u) ≡ step_bytes) (λ u. (u ≡ t) ⊎ (length (bytes longest_term u) ≡ step_bytes)) found (λ u h. inr h) s.sized) in
        let (u, m, b) = insert-new longest_term t found in
        let there : t ∈ insert longest_term t found =
        is_t u m b (all-∈ (λ u. (u ≡ t) ⊎ (length (bytes longest_term u) ≡ step_bytes)) (insert longest_term t found) all u m) in
        record {
          stands = λ h. absurd (omega arith);
          passed = λ h cs.
              limited_long longest_term most_steps (collect result_form name_count longest_term x cs (insert longest_term t found))
              (t, collect-old result_form name_count longest_term x cs (insert longest_term t found) t there, f);
        }
      where
        is_t : (u : ListedStep) → u ∈ insert longest_term (canon_step result_form name_count x M α A) found
            → bytes longest_term (canon_step result_form name_count x M α A) ≡ bytes longest_term u
            → (u ≡ canon_step result_form name_count x M α A) ⊎ (length (bytes longest_term u) ≡ step_bytes)
            → canon_step result_form name_count x M α A ∈ insert longest_term (canon_step result_form name_count x M α A) found
        is_t u m b (inl e) = subst (λ v. v ∈ insert longest_term (canon_step result_form name_count x M α A) found) e m
        is_t u m b (inr e) =
            let c = canon_classes name_count longest_term x M α A in
            absurd (omega (arith, step-length longest_term (canon_step result_form name_count x M α A), ap length b))

-- What the area holds when the first i candidates have been put into it.
module _ (cs : List Candidate) (x : ℕ) (area₀ : List ℕ) (count₀ : ℕ) where
  abbrev after : ℕ → List ListedStep → List ListedStep
  after i found = collect result_form name_count longest_term x (take i cs) found

  abbrev pub Progresses : ℕ → ℕ → List ℕ → Type 0
  Progresses i n area = (found : List ListedStep) → Stands area₀ count₀ found → Stands area n (collect result_form name_count longest_term x (take i cs) found)

  pub progress_start : Progresses 0 count₀ area₀
  unfolding collect
  progress_start found s = s

  next : (i : ℕ) → i < length cs → (found : List ListedStep)
      → collect result_form name_count longest_term x (get_or cs i blocked ∷ []) (after i found) ≡ after (i + 1) found
  next i h found =
      sym (collect-++ name_count longest_term x (take i cs) (get_or cs i blocked ∷ []) found)
      ∙ ap (λ ds. collect result_form name_count longest_term x ds found) (sym (take-suc cs i blocked h) ∙ ap (λ k. take k cs) (sym (add-one i)))

  pub progress_step : (i n m : ℕ) (area area' : List ℕ) → i < length cs → Progresses i n area → PutIs (get_or cs i blocked) x area n m area'
      → m ≤ most_steps → Progresses (i + 1) m area'
  unfolding PutIs
  progress_step i n m area area' h p u k found s =
      subst (Stands area' m) (next i h found) ((u (after i found) (p found s)).stands k)

  -- A candidate that adds no step.
  pub progress_again : (i n : ℕ) (area : List ℕ) → i < length cs → Again 0 (get_or cs i blocked) (take i cs) → Progresses i n area → Progresses (i + 1) n area
  progress_again i n area h m p found s =
      let e : after i found ≡ after (i + 1) found =
      sym (collect_there name_count longest_term x (take i cs) (get_or cs i blocked ∷ []) found (ascending_sorted longest_term found s.ascending) (only m))
      ∙ next i h found in
      subst (Stands area n) e (p found s)
    where
      only : Again 0 (get_or cs i blocked) (take i cs) → (c : Candidate) → c ∈ (get_or cs i blocked ∷ []) → Again 0 c (take i cs)
      only m c (inr x'') = elim x'' [ ]
      only m c (inl e) = subst (λ d. Again 0 d (take i cs)) (sym e) m

  pub progress_done : (i n : ℕ) (area : List ℕ) → length cs ≤ i → n ≤ most_steps → Progresses i n area → CollectIs cs x area₀ count₀ n area
  unfolding CollectIs
  progress_done i n area h k p found s =
      let e : after i found ≡ collect result_form name_count longest_term x cs found = ap (λ ds. collect result_form name_count longest_term x ds found) (take_all i cs h) in
      subst (λ l. Found l n area) e (record { stands = λ _. p found s; passed = λ l. absurd (omega arith) })

  pub progress_passed : (i n m : ℕ) (area area' : List ℕ) → i < length cs → Progresses i n area → PutIs (get_or cs i blocked) x area n m area'
      → most_steps < m → CollectIs cs x area₀ count₀ m area'
  unfolding CollectIs PutIs
  progress_passed i n m area area' h p u k found s =
      let e : collect result_form name_count longest_term x (get_or cs i blocked ∷ drop (suc i) cs) (after i found) ≡ collect result_form name_count longest_term x cs found =
      sym (collect-++ name_count longest_term x (take i cs) (get_or cs i blocked ∷ drop (suc i) cs) found)
      ∙ ap (λ ds. collect result_form name_count longest_term x ds found) (sym (split_at cs i blocked h)) in
      record {
        stands = λ l. absurd (omega arith);
        passed = λ _. subst (λ l. limited longest_term most_steps l ≡ unsettled) e ((u (after i found) (p found s)).passed k (drop (suc i) cs));
      }

-- One list of candidates after another.
pub collect-none : (x : ℕ) (area : List ℕ) (count : ℕ) → count ≤ most_steps → CollectIs [] x area count count area
unfolding CollectIs collect
collect-none x area count h found s = record { stands = λ _. s; passed = λ l. absurd (omega arith) }

module _ (cs ds : List Candidate) (x : ℕ) (area : List ℕ) (count m : ℕ) (area₁ : List ℕ) (first : CollectIs cs x area count m area₁) where
  pub collect_then : m ≤ most_steps → (r : ℕ) (area₂ : List ℕ) → CollectIs ds x area₁ m r area₂ → CollectIs (cs ++ ds) x area count r area₂
  unfolding CollectIs
  collect_then h r area₂ second found s =
      let f : List ListedStep = collect result_form name_count longest_term x cs found in
      subst (λ l. Found l r area₂) (sym (collect-++ name_count longest_term x cs ds found)) (second f ((first found s).stands h))

  pub collect_over : most_steps < m → CollectIs (cs ++ ds) x area count m area₁
  unfolding CollectIs
  collect_over h found s =
      let f : List ListedStep = collect result_form name_count longest_term x cs found in
      subst (λ l. Found l m area₁) (sym (collect-++ name_count longest_term x cs ds found))
      (record {
        stands = λ l. absurd (omega arith);
        passed = λ l. limited_grows name_count longest_term x most_steps ds f ((first found s).passed l);
      })

  -- Candidates that add no step.
  pub collect-again : ((c : Candidate) → c ∈ ds → Again 0 c cs) → CollectIs (cs ++ ds) x area count m area₁
  unfolding CollectIs
  collect-again h found s =
      subst (λ l. Found l m area₁)
      (sym (collect-++ name_count longest_term x cs ds found ∙ collect_there name_count longest_term x cs ds found (ascending_sorted longest_term found s.ascending) h))
      (first found s)
