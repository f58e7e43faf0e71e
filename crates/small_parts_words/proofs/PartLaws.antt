-- A word tested by the grammar walk; the numbers of the parts kept one behind the other; the question about two words.
use mathlib.Core.Path.{◌≡◌, refl, sym, ap, ◌∙◌}
use mathlib.Core.Bool.{Bool, true, false, cond}
use mathlib.Core.List.{List, [], ◌∷◌, ◌++◌, append-nil}
use Prim.Native.Nat.{ℕ, zero, suc, ◌+◌, ◌-◌, ◌*◌, ◌^◌, ◌≤◌, ◌<◌}
use native.Mathlib.Omega.{arith}
use lib.ListN.{length, take, drop, set, replicate, length-append}
use lib.Seq.{sets, length-sets, take-append_seam}
use Rattle.terms.specs.Answer.{Answer, refused, result, ◌>>=◌}
use Rattle.terms.specs.Framing.{sized, all_sized, joined}
use Rattle.terms.specs.Edition.{one, version_byte}
use Rattle.terms.specs.Reading.{numbered, read_whole}
use Rattle.terms.proofs.Answers.{result_injective, refused_not_result}
use Rattle.terms_bytes.proofs.Stores.{sets-join, sets-start}
use Rattle.terms_scanning.specs.Scanning.{control_of, scanned_whole, whole_answer}
use Rattle.terms_scanning.specs.declared.scan.Control.{Control}
use Rattle.terms_bytes.specs.Refusals.{number_of}
use Rattle.terms_bytes.specs.declared.answer.Refusal.{Refusal}
use Rattle.std.specs.Prelude.{Result, Ok, Err}
use Rattle.calculus.specs.Term.{Term}
use Rattle.small_parts.specs.Census.{free_names, asked}
use Rattle.small_parts_words.specs.Words.{byte_count, word_of, word_count, has_outermost, is_part, parts_below, part_numbers, MayKeep, KeepsIs, CollectsIs}
use Rattle.small_parts_words.proofs.WordLaws.{length_word}

-- What the walk says of the bytes.
walked : (bs : List ℕ) (r : Result Control Refusal) → scanned_whole one free_names [] 0 bs ≡ whole_answer r → (j : Refusal) → r ≡ Err j → false ≡ is_part bs
unfolding scanned_whole whole_answer is_part has_outermost ◌>>=◌
walked bs r h j e = go (read_whole one (numbered []) free_names 0 bs) (h ∙ ap whole_answer e)
  where
    go : (a : Answer Term) → (a >>= λ P. result (control_of P)) ≡ refused (number_of j) → false ≡ has_outermost a
    go (refused k) f = refl
    go (result P) f = refused_not_result (sym f)

walked_whole : (bs : List ℕ) (r : Result Control Refusal) → scanned_whole one free_names [] 0 bs ≡ whole_answer r → (c : Control) → r ≡ Ok c → c.outermost ≡ is_part bs
unfolding scanned_whole whole_answer is_part has_outermost control_of ◌>>=◌
walked_whole bs r h c e = go (read_whole one (numbered []) free_names 0 bs) (h ∙ ap whole_answer e)
  where
    go : (a : Answer Term) → (a >>= λ P. result (control_of P)) ≡ result c → c.outermost ≡ has_outermost a
    go (refused k) f = refused_not_result f
    go (result P) f = ap (λ d. d.outermost) (sym (result_injective f))

-- the word in the area that it was written to
in_area : (n k : ℕ) (area after : List ℕ) → n ≤ length area → after ≡ sets area 0 (word_of n k) → take n after ≡ word_of n k
in_area n k area after h e =
    let w = word_of n k in
    let l : length w ≡ n = length_word n k in
    ap (take n) (e ∙ sets-start area w (omega arith)) ∙ ap (λ m. take m (w ++ drop (length w) area)) (sym l) ∙ take-append_seam w (drop (length w) area)

pub faulty_word : (n k : ℕ) (area after : List ℕ) (r : Result Control Refusal) (j : Refusal) → n ≤ length area → after ≡ sets area 0 (word_of n k)
    → scanned_whole one free_names [] 0 (take n after) ≡ whole_answer r → r ≡ Err j → false ≡ is_part (word_of n k)
faulty_word n k area after r j h e s f = walked (word_of n k) r (ap (scanned_whole one free_names [] 0) (sym (in_area n k area after h e)) ∙ s) j f

pub whole_word : (n k : ℕ) (area after : List ℕ) (r : Result Control Refusal) (c : Control) → n ≤ length area → after ≡ sets area 0 (word_of n k)
    → scanned_whole one free_names [] 0 (take n after) ≡ whole_answer r → r ≡ Ok c → c.outermost ≡ is_part (word_of n k)
whole_word n k area after r c h e s f =
    walked_whole (word_of n k) r (ap (scanned_whole one free_names [] 0) (sym (in_area n k area after h e)) ∙ s) c f

-- How many words there are: a power of the number of bytes.
pub count_power : (n : ℕ) → n ≤ 5 → byte_count ^ n ≡ word_count n
unfolding word_count
count_power zero h = refl
count_power (suc zero) h = refl
count_power (suc (suc zero)) h = refl
count_power (suc (suc (suc zero))) h = refl
count_power (suc (suc (suc (suc zero)))) h = refl
count_power (suc (suc (suc (suc (suc zero))))) h = refl
count_power (suc (suc (suc (suc (suc (suc n)))))) h = absurd (omega arith)

-- Keeping numbers.
pub count_few : (n : ℕ) → n ≤ 5 → word_count n ≤ 759375
unfolding word_count
count_few zero h = omega arith
count_few (suc zero) h = omega arith
count_few (suc (suc zero)) h = omega arith
count_few (suc (suc (suc zero))) h = omega arith
count_few (suc (suc (suc (suc zero)))) h = omega arith
count_few (suc (suc (suc (suc (suc zero))))) h = omega arith
count_few (suc (suc (suc (suc (suc (suc n)))))) h = absurd (omega arith)

module _ (n : ℕ) where
  one_or_none : (t : Bool) (k : ℕ) → length (cond t (k ∷ []) []) ≤ 1
  one_or_none true k = omega arith
  one_or_none false k = omega arith

  pub below_few : (k : ℕ) → length (parts_below n k) ≤ k
  unfolding parts_below
  below_few zero = omega arith
  below_few (suc k) =
      omega (arith, below_few k, length-append (parts_below n k) (cond (is_part (word_of n k)) (k ∷ []) []), one_or_none (is_part (word_of n k)) k)

  below_grows : (k m : ℕ) → length (parts_below n k) ≤ length (parts_below n (m + k))
  unfolding parts_below
  below_grows k zero = let e : 0 + k ≡ k = omega arith in rw e (omega arith)
  below_grows k (suc m) =
      let e : suc m + k ≡ suc (m + k) = omega arith in
      rw e (omega (arith, below_grows k m, length-append (parts_below n (m + k)) (cond (is_part (word_of n (m + k))) ((m + k) ∷ []) [])))

  pub room_left : (k : ℕ) → k < word_count n → is_part (word_of n k) ≡ true → length (parts_below n k) < length (part_numbers n)
  unfolding part_numbers parts_below
  room_left k h t =
      let (m, e) = apart in
      let l : length (parts_below n (suc k)) ≡ length (parts_below n k) + 1 =
      ap (λ b. length (parts_below n k ++ cond b (k ∷ []) [])) t ∙ length-append (parts_below n k) (k ∷ []) in
      omega (arith, below_grows (suc k) m, l, ap (λ j. length (parts_below n j)) e)
    where
      apart : (m : ℕ) × (m + suc k ≡ word_count n)
      apart = (word_count n - suc k, omega arith)

  pub kept_more : (k : ℕ) (kept₀ kept kept' : List ℕ) (count count' : ℕ) → count ≡ length (parts_below n k) → kept ≡ sets kept₀ 0 (parts_below n k)
      → KeepsIs n k kept count count' kept' → (count' ≡ length (parts_below n (k + 1))) × (kept' ≡ sets kept₀ 0 (parts_below n (k + 1)))
  unfolding parts_below
  kept_more k kept₀ kept kept' count count' c e d = go (is_part (word_of n k)) refl
    where
      next : (b : Bool) → is_part (word_of n k) ≡ b → parts_below n (k + 1) ≡ parts_below n k ++ cond b (k ∷ []) []
      next b t = let f : k + 1 ≡ suc k = omega arith in ap (parts_below n) f ∙ ap (λ a. parts_below n k ++ cond a (k ∷ []) []) t

      go : (b : Bool) → is_part (word_of n k) ≡ b → (count' ≡ length (parts_below n (k + 1))) × (kept' ≡ sets kept₀ 0 (parts_below n (k + 1)))
      go true t = (
        d.answer ∙ ap (λ a. cond a (count + 1) count) t ∙ ap (λ m. m + 1) c ∙ sym (length-append (parts_below n k) (k ∷ []))
            ∙ ap length (sym (next true t)),
        d.left ∙ ap (λ a. cond a (set kept count k) kept) t ∙ ap (λ l. set l count k) e
            ∙ sets-join kept₀ 0 count (parts_below n k) (k ∷ []) (omega arith) ∙ ap (sets kept₀ 0) (sym (next true t)),
      )
      go false t = (
        d.answer ∙ ap (λ a. cond a (count + 1) count) t ∙ c ∙ ap length (sym (append-nil (parts_below n k)) ∙ sym (next false t)),
        d.left ∙ ap (λ a. cond a (set kept count k) kept) t ∙ e ∙ ap (sets kept₀ 0) (sym (append-nil (parts_below n k)) ∙ sym (next false t)),
      )

  pub keeps : (k : ℕ) (kept : List ℕ) (count : ℕ) → is_part (word_of n k) ≡ true → KeepsIs n k kept count (count + 1) (set kept count k)
  keeps k kept count t = record { answer = rw t refl; left = rw t refl }

  pub passes : (k : ℕ) (kept : List ℕ) (count : ℕ) → is_part (word_of n k) ≡ false → KeepsIs n k kept count count kept
  passes k kept count t = record { answer = rw t refl; left = rw t refl }

  pub none_kept : (m : ℕ) (kept : List ℕ) → (0 ≤ m) × (0 ≡ length (parts_below n 0)) × (kept ≡ sets kept 0 (parts_below n 0))
  unfolding parts_below
  none_kept m kept = (omega arith, refl, refl)

  pub may_keep : (k : ℕ) (kept₀ kept : List ℕ) (count : ℕ) → n ≤ 5 → length (part_numbers n) ≤ length kept₀ → k < word_count n
      → count ≡ length (parts_below n k) → kept ≡ sets kept₀ 0 (parts_below n k) → MayKeep n k kept count
  may_keep k kept₀ kept count h room l c e = record {
    short = h;
    few = omega (arith, below_few k, count_few n h);
    room = λ t. omega (arith, room_left k l t, ap (length {A = ℕ}) e, length-sets {A = ℕ} kept₀ 0 (parts_below n k));
  }

  pub collected : (kept₀ kept : List ℕ) (count k : ℕ) → k ≡ word_count n → count ≡ length (parts_below n k) → kept ≡ sets kept₀ 0 (parts_below n k)
      → CollectsIs n kept₀ count kept
  unfolding part_numbers
  collected kept₀ kept count k h c e = record {
    answer = c ∙ ap (λ j. length (parts_below n j)) h;
    left = e ∙ ap (λ j. sets kept₀ 0 (parts_below n j)) h;
  }

-- The bytes of the question: computed for each length.
pub question_bytes : (n a b : ℕ) → n ≤ 5 → (l m : List ℕ) → l ≡ sets (set (set (replicate 18 0) 0 1) 3 n) 4 (word_of n a)
    → m ≡ sets (set l (n + 5) n) (n + 6) (word_of n b) → take (2 * n + 8) m ≡ asked (word_of n a) (word_of n b)
unfolding asked joined version_byte sized all_sized word_of
question_bytes n a b h l m e f = ap (take (2 * n + 8)) (f ∙ ap (λ s. sets (set s (n + 5) n) (n + 6) (word_of n b)) e) ∙ each n h
  where
    each : (n : ℕ) → n ≤ 5
        → take (2 * n + 8) (sets (set (sets (set (set (replicate 18 0) 0 1) 3 n) 4 (word_of n a)) (n + 5) n) (n + 6) (word_of n b))
        ≡ asked (word_of n a) (word_of n b)
    each zero h = refl
    each (suc zero) h = refl
    each (suc (suc zero)) h = refl
    each (suc (suc (suc zero))) h = refl
    each (suc (suc (suc (suc zero)))) h = refl
    each (suc (suc (suc (suc (suc zero))))) h = refl
    each (suc (suc (suc (suc (suc (suc n)))))) h = absurd (omega arith)
