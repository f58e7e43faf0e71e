-- Words and their numbers determine each other, and the words that are parts are the parts of the census.
use mathlib.Core.Path.{◌≡◌, refl, sym, ap, subst, ◌∙◌}
use mathlib.Core.Bool.{Bool, true, false, cond}
use mathlib.Core.List.{List, [], ◌∷◌, ◌++◌, map}
use mathlib.Core.Logic.{◌⊎◌, ◌↔◌, inl, inr}
use Prim.Native.Nat.{ℕ, zero, suc, ◌+◌, ◌-◌, ◌*◌, ◌/◌, ◌%◌, ◌≤◌, ◌<◌}
use native.Mathlib.Omega.{arith}
use lib.Dec.{ltb}
use lib.ListN.{length, length-map}
use borrow.Author.Tests.{ltb-true, ltb-false, lt-ltb, le-ltb}
use Rattle.calculus.specs.Term.{Term, nil, tau, inp, out, bout, mat, sum, par, res, call}
use Rattle.terms.specs.Answer.{Answer, refused, result}
use Rattle.terms.specs.Encoding.{name_byte, encode, InScope}
use Rattle.terms.specs.Edition.{one}
use Rattle.terms.specs.Reading.{numbered, read_whole}
use Rattle.calculus.specs.Lists.{◌∈◌, All, Distinct}
use Rattle.calculus.proofs.Membership.{all-++, ∈-left, ∈_right, ∈_either, ∈-map, ∈-mapped, distinct_length}
use Rattle.field.proofs.Members.{distinct_++}
use Rattle.small_parts.specs.Census.{free_names, SmallPart}
use Rattle.small_parts.proofs.CensusOfWords.{part_bytes_lem, part_scope}
use Rattle.small_parts.proofs.Counting.{distinct_map}
use Rattle.small_parts.proofs.ListOfParts.{parts, listed, at_most_parts}
use Rattle.small_parts.proofs.Size.{size, size-encode}
use Rattle.small_parts_words.specs.Words.{byte_count, most_parts, byte_of, word_of, word_count, has_outermost, is_part, parts_below, part_numbers}

pub length_word : (n k : ℕ) → length (word_of n k) ≡ n
unfolding word_of
length_word zero k = refl
length_word (suc n) k = ap suc (length_word n (k / byte_count))

-- The digit of a byte, the number of a word.
abbrev Allowed : ℕ → Type 0
Allowed b = (b < 10) ⊎ ((128 ≤ b) × (b < 133))

unfoldable digit_of : ℕ → ℕ
digit_of b = cond (ltb b 10) b (b - 118)

unfoldable number_of : List ℕ → ℕ
number_of [] = 0
number_of (b ∷ bs) = digit_of b + byte_count * number_of bs

digit_byte : (d : ℕ) → d < byte_count → digit_of (byte_of d) ≡ d
unfolding digit_of byte_of
digit_byte d h = go (ltb d 10) refl
  where
    go : (t : Bool) → ltb d 10 ≡ t → cond (ltb (cond t d (d + 118)) 10) (cond t d (d + 118)) (cond t d (d + 118) - 118) ≡ d
    go true e = rw e refl
    go false e = rw (le-ltb (d + 118) 10 (omega arith)) (omega arith)

byte_digit : (b : ℕ) → Allowed b → (digit_of b < byte_count) × (byte_of (digit_of b) ≡ b)
unfolding digit_of byte_of
byte_digit b (inl h) = rw (lt-ltb b 10 h, lt-ltb b 10 h) (omega arith, refl)
byte_digit b (inr (h, k)) = rw (le-ltb b 10 (omega arith), le-ltb (b - 118) 10 (omega arith)) (omega arith, omega arith)

number_of_word : (n k : ℕ) → k < word_count n → number_of (word_of n k) ≡ k
unfolding word_of word_count number_of
number_of_word zero k h = omega arith
number_of_word (suc n) k h =
    omega (arith, digit_byte (k % byte_count) (omega arith), number_of_word n (k / byte_count) (omega arith))

digits : (d m : ℕ) → d < 15 → ((d + 15 * m) % 15 ≡ d) × ((d + 15 * m) / 15 ≡ m)
digits d m h = (omega arith, omega arith)

word_of_number : (bs : List ℕ) → All Allowed bs → word_of (length bs) (number_of bs) ≡ bs
unfolding word_of number_of
word_of_number [] h = refl
word_of_number (b ∷ bs) h =
    let (l, e) = byte_digit b h.0 in
    let (f, g) = digits (digit_of b) (number_of bs) l in
    rw (f, g, e) (ap (λ l. b ∷ l) (word_of_number bs h.1))

number_within : (bs : List ℕ) → All Allowed bs → number_of bs < word_count (length bs)
unfolding word_count number_of
number_within [] h = omega arith
number_within (b ∷ bs) h = omega (arith, (byte_digit b h.0).0, number_within bs h.1)

-- Every byte of a part is one of the fifteen.
name-allowed : (d a : ℕ) → d ≤ 5 → a < d + 2 → Allowed (name_byte d a)
unfolding name_byte
name-allowed d a h l = go (ltb a d) refl
  where
    go : (t : Bool) → ltb a d ≡ t → Allowed (cond t (128 + a) (a - d))
    go true e = inr (omega arith, omega (arith, ltb-true a d e))
    go false e = inl (omega arith)

bytes-allowed : (d : ℕ) (P : Term) → InScope free_names [] d P → d + size P ≤ 5 → All Allowed (encode d P)
unfolding encode InScope
bytes-allowed d nil s h = (inl (omega arith), tt)
bytes-allowed d (tau P) s h = (inl (omega arith), bytes-allowed d P s (omega arith))
bytes-allowed d (inp a P) s h = (inl (omega arith), (name-allowed d a (omega arith) s.0, bytes-allowed (1 + d) P s.1 (omega arith)))
bytes-allowed d (out a b P) s h =
    (inl (omega arith), (name-allowed d a (omega arith) s.0, (name-allowed d b (omega arith) s.1, bytes-allowed d P s.2 (omega arith))))
bytes-allowed d (bout a P) s h = (inl (omega arith), (name-allowed d a (omega arith) s.0, bytes-allowed (1 + d) P s.1 (omega arith)))
bytes-allowed d (mat a b P) s h =
    (inl (omega arith), (name-allowed d a (omega arith) s.0, (name-allowed d b (omega arith) s.1, bytes-allowed d P s.2 (omega arith))))
bytes-allowed d (sum P Q) s h =
    (inl (omega arith), all-++ Allowed (encode d P) (encode d Q) (bytes-allowed d P s.0 (omega arith)) (bytes-allowed d Q s.1 (omega arith)))
bytes-allowed d (par P Q) s h =
    (inl (omega arith), all-++ Allowed (encode d P) (encode d Q) (bytes-allowed d P s.0 (omega arith)) (bytes-allowed d Q s.1 (omega arith)))
bytes-allowed d (res P) s h = (inl (omega arith), bytes-allowed (1 + d) P s (omega arith))
bytes-allowed d (call k ns) s h = absurd (omega (arith, s.0))

part_allowed : (n : ℕ) → n ≤ 5 → (w : List ℕ) → SmallPart n w → All Allowed w
part_allowed n h w p =
    let e = part_bytes_lem n w p in
    subst (All Allowed) (sym e)
    (bytes-allowed 0 p.term (part_scope n w p) (omega (arith, size-encode 0 p.term, ap (length {A = ℕ}) e, p.size)))

-- The test is the definition.
part_tested : (n : ℕ) (w : List ℕ) → SmallPart n w → is_part w ≡ true
unfolding is_part has_outermost
part_tested n w p = ap has_outermost p.reads ∙ p.outermost

tested_part : (w : List ℕ) → is_part w ≡ true → SmallPart (length w) w
unfolding is_part has_outermost
tested_part w = go (read_whole one (numbered []) free_names 0 w) refl
  where
    go : (a : Answer Term) → read_whole one (numbered []) free_names 0 w ≡ a → has_outermost a ≡ true → SmallPart (length w) w
    go (refused k) e t = let z : ◌≡◌ {A = ℕ} 0 1 = cc in absurd (omega arith)
    go (result P) e t = record { term = P; reads = e; outermost = t; size = refl }

-- The numbers found.
module _ (n : ℕ) where
  below-∈ : (k j : ℕ) → j ∈ parts_below n k → (j < k) × (is_part (word_of n j) ≡ true)
  unfolding parts_below
  below-∈ zero j m = elim m [ ]
  below-∈ (suc k) j m = go (is_part (word_of n k)) refl (∈_either j (parts_below n k) _ m) (below-∈ k j)
    where
      go : (t : Bool) → is_part (word_of n k) ≡ t → (j ∈ parts_below n k) ⊎ (j ∈ cond t (k ∷ []) [])
          → (j ∈ parts_below n k → (j < k) × (is_part (word_of n j) ≡ true)) → (j < suc k) × (is_part (word_of n j) ≡ true)
      go t e (inl i) r = let (l, p) = r i in (omega arith, p)
      go true e (inr (inl q)) r = (omega arith, ap (λ j. is_part (word_of n j)) q ∙ e)
      go true e (inr (inr i)) r = absurd i
      go false e (inr i) r = absurd i

  ∈-below : (k j : ℕ) → j < k → is_part (word_of n j) ≡ true → j ∈ parts_below n k
  unfolding parts_below
  ∈-below zero j l p = absurd (omega arith)
  ∈-below (suc k) j l p = go (ltb j k) refl (λ l. ∈-below k j l p)
    where
      here : (t : Bool) → is_part (word_of n k) ≡ t → j ≡ k → j ∈ cond t (k ∷ []) []
      here true e q = inl q
      here false e q = let z : ◌≡◌ {A = Bool} true false = sym p ∙ ap (λ j. is_part (word_of n j)) q ∙ e in let o : ◌≡◌ {A = ℕ} 0 1 = cc in absurd (omega arith)

      go : (t : Bool) → ltb j k ≡ t → (j < k → j ∈ parts_below n k) → j ∈ (parts_below n k ++ cond (is_part (word_of n k)) (k ∷ []) [])
      go true e r = ∈-left j (parts_below n k) _ (r (ltb-true j k e))
      go false e r = ∈_right j (parts_below n k) _ (here (is_part (word_of n k)) refl (omega (arith, ltb-false j k e)))

  distinct_below : (k : ℕ) → Distinct (parts_below n k)
  unfolding parts_below
  distinct_below zero = tt
  distinct_below (suc k) =
      distinct_++ (parts_below n k) (cond (is_part (word_of n k)) (k ∷ []) []) (distinct_below k) (one (is_part (word_of n k)))
      (λ j i m. other (is_part (word_of n k)) j (below-∈ k j i).0 m)
    where
      one : (t : Bool) → Distinct (cond t (k ∷ []) [])
      one true = (λ i. i, tt)
      one false = tt

      other : (t : Bool) (j : ℕ) → j < k → ¬ (j ∈ cond t (k ∷ []) [])
      other true j l (inl e) = omega arith
      other true j l (inr i) = i
      other false j l i = i

  -- the words found
  unfoldable pub part_words : List (List ℕ)
  part_words = map (word_of n) (part_numbers n)

  pub words_distinct : Distinct part_words
  unfolding part_words part_numbers
  words_distinct =
      distinct_map (word_of n) (part_numbers n)
      (λ j k i l e. sym (number_of_word n j (below-∈ (word_count n) j i).0) ∙ ap number_of e ∙ number_of_word n k (below-∈ (word_count n) k l).0)
      (distinct_below (word_count n))

  pub words_are_parts : n ≤ 5 → (w : List ℕ) → (w ∈ part_words) ↔ SmallPart n w
  unfolding part_words part_numbers
  words_are_parts h w = (
    λ m.
        let (k, i, e) = ∈-mapped (word_of n) w (part_numbers n) m in
        let (l, t) = below-∈ (word_count n) k i in
        subst (λ v. SmallPart n v) (sym e) (subst (λ j. SmallPart j (word_of n k)) (length_word n k) (tested_part (word_of n k) t)),
    λ p.
        let a = part_allowed n h w p in
        let e : word_of n (number_of w) ≡ w = subst (λ j. word_of j (number_of w) ≡ w) p.size (word_of_number w a) in
        subst (λ v. v ∈ map (word_of n) (part_numbers n)) e (∈-map (word_of n) (number_of w) (part_numbers n)
        (∈-below (word_count n) (number_of w) (subst (λ j. number_of w < word_count j) p.size (number_within w a))
        (ap is_part e ∙ part_tested n w p))),
  )

  -- as many as there are terms, so that they fit where they are kept
  word_listed : n ≤ 5 → (w : List ℕ) → w ∈ part_words → w ∈ map (encode 0) (parts n n 0 true)
  word_listed h w m =
      let p = (words_are_parts h w).0 m in
      let P = p.term in
      let e = part_bytes_lem n w p in
      let l : size P ≡ n = sym (size-encode 0 P) ∙ ap (length {A = ℕ}) (sym e) ∙ p.size in
      subst (λ v. v ∈ map (encode 0) (parts n n 0 true)) (sym e) (∈-map (encode 0) P (parts n n 0 true)
      (subst (λ k. P ∈ parts n k 0 true) l (listed P n 0 true (omega arith) (part_scope n w p) p.outermost)))

  pub few_parts : n ≤ 5 → length (part_numbers n) ≤ most_parts
  unfolding part_words
  few_parts h =
      omega (
        arith,
        distinct_length part_words (map (encode 0) (parts n n 0 true)) words_distinct (word_listed h),
        length-map (part_numbers n) (word_of n),
        length-map (parts n n 0 true) (encode 0),
        at_most_parts n h,
      )
