-- What the writing half of merge stores is the merged question. Assumes nothing.
use mathlib.Core.Path.{◌≡◌, refl, sym, ap, ap₂, subst, ◌∙◌}
use mathlib.Core.List.{List, [], ◌∷◌, ◌++◌, map, append_assoc}
use Prim.Native.Nat.{ℕ, ◌+◌, ◌<◌, ◌≤◌}
use native.Mathlib.Omega.{arith}
use lib.ListN.{length, get_or, drop, length-append}
use lib.Seq.{sets, length-sets, take_all, take-append_seam}
use Rattle.calculus.specs.Cond.{Pairs, map_p, join}
use Rattle.calculus.specs.Term.{ren}
use Rattle.terms.specs.Limits.{name_count}
use Rattle.terms.specs.Edition.{one}
use Rattle.terms.specs.Encoding.{encode}
use Rattle.terms_bytes.specs.FieldPlaces.{definitions_of, arities_of, size_at, after_field, field_place}
use Rattle.terms.specs.Framing.{Fields, joined}
use Rattle.terms_bytes.specs.NameTable.{beneath, renamed_byte}
use Rattle.terms.specs.Answer.{result}
use Rattle.terms.specs.Operations.{merged_question, area_after}
use Rattle.terms.specs.Question.{Question, pair_bytes, fields_of, write}
use Rattle.terms_renaming.specs.Renaming.{RenameIs}
use Rattle.terms_bytes.specs.Writing.{Writes, WritesMerged}
use Rattle.terms.proofs.Answers.{Every}
use Rattle.terms.proofs.FramingLaws.{Framable}
use Rattle.terms.proofs.MergeLaws.{join-below, pairs_as_many}
use Rattle.terms_bytes.proofs.Heights.{height-bytes}
use Rattle.terms_bytes.proofs.NameTables.{renamed_free, beneath_free, represents_free}
use Rattle.terms_bytes.proofs.Places.{arities_of_lem}
use Rattle.terms_bytes.proofs.QuestionPlaces.{accepted_joined, halves, before_parts, joined_split, first_place, second_place, apart_place, first-bytes, second-bytes, apart_bytes, apart_size_lem, first_is, second_is, apart_is, joined_length}
use Rattle.terms.proofs.RenamingKeeps.{length-ren}
use Rattle.terms_bytes.proofs.Stores.{span, sets_middle, sets-start}
use Rattle.terms.proofs.WellFormed.{PairAllowed, WellFormed, accepted_well_formed, framable}
use Rattle.terms.proofs.EditionOne.{write-first}

-- The apart list, byte by byte.
renamed-pairs : (table : List ℕ) (ρ : ℕ → ℕ) → ((n : ℕ) → n < name_count → (get_or table n 0 ≡ ρ n) × (ρ n < name_count)) → (D : Pairs) → Every PairAllowed D
    → map (renamed_byte 0 table) (pair_bytes D) ≡ pair_bytes (map_p ρ D)
unfolding pair_bytes Every
renamed-pairs table ρ h [] e = refl
renamed-pairs table ρ h (p ∷ D) e =
    λ i. one p.0 e.0.left i ∷ one p.1 e.0.right i ∷ renamed-pairs table ρ h D e.1 i
  where
    one : (n : ℕ) → n < name_count → renamed_byte 0 table n ≡ ρ n
    one n l =
        let (t, r) = h n l in
        renamed_free 0 table n (omega arith) ∙ ap (beneath 0) t ∙ beneath_free 0 (ρ n) (omega arith)

-- Three runs over what is written already.
overwritten : (B H X L Y M Z T X' Y' Z' : List ℕ) (p q r : ℕ)
    → p ≡ length B + length H → q ≡ p + (length X + length L) → r ≡ q + (length Y + length M)
    → length X' ≡ length X → length Y' ≡ length Y → length Z' ≡ length Z
    → sets (sets (sets ((B ++ (H ++ (X ++ (L ++ (Y ++ (M ++ Z)))))) ++ T) p X') q Y') r Z' ≡ (B ++ (H ++ (X' ++ (L ++ (Y' ++ (M ++ Z')))))) ++ T
overwritten B H X L Y M Z T X' Y' Z' p q r ep eq er x y z =
    let a : (B ++ (H ++ (X ++ (L ++ (Y ++ (M ++ Z)))))) ++ T ≡ (B ++ H) ++ (X ++ (L ++ (Y ++ (M ++ (Z ++ T))))) = simp append_assoc in
    let b : (B ++ H) ++ (X' ++ (L ++ (Y ++ (M ++ (Z ++ T))))) ≡ (B ++ (H ++ (X' ++ L))) ++ (Y ++ (M ++ (Z ++ T))) = simp append_assoc in
    let c : (B ++ (H ++ (X' ++ L))) ++ (Y' ++ (M ++ (Z ++ T))) ≡ (B ++ (H ++ (X' ++ (L ++ (Y' ++ M))))) ++ (Z ++ T) = simp append_assoc in
    let d : (B ++ (H ++ (X' ++ (L ++ (Y' ++ M))))) ++ (Z' ++ T) ≡ (B ++ (H ++ (X' ++ (L ++ (Y' ++ (M ++ Z')))))) ++ T = simp append_assoc in
    let lb : length (B ++ H) ≡ length B + length H = length-append B H in
    let lc : length (B ++ (H ++ (X' ++ L))) ≡ length B + (length H + (length X' + length L)) = simp length-append in
    let ld : length (B ++ (H ++ (X' ++ (L ++ (Y' ++ M))))) ≡ length B + (length H + (length X' + (length L + (length Y' + length M)))) = simp length-append in
    rw (
      a,
      sets_middle (B ++ H) X (L ++ (Y ++ (M ++ (Z ++ T)))) X' p (omega arith) x,
      b,
      sets_middle (B ++ (H ++ (X' ++ L))) Y (M ++ (Z ++ T)) Y' q (omega arith) y,
      c,
      sets_middle (B ++ (H ++ (X' ++ (L ++ (Y' ++ M))))) Z T Z' r (omega arith) z,
    ) d

-- The merged question's bytes, split as the old one's.
module _ (a b : ℕ) (q : Question) where
  merged_first : List ℕ
  merged_first = encode 0 (ren (join a b) q.first)

  merged_second : List ℕ
  merged_second = encode 0 (ren (join a b) q.second)

  merged_apart : List ℕ
  merged_apart = pair_bytes (map_p (join a b) q.apart)

  merged_split : write (merged_question a b q)
      ≡ before_parts one (fields_of q) ++ (halves (length (fields_of q).first) ++ (merged_first ++ (halves (length (fields_of q).second) ++ (merged_second
      ++ (halves (length (fields_of q).apart) ++ merged_apart)))))
  unfolding write merged_question fields_of before_parts merged_first merged_second merged_apart
  merged_split =
      joined_split one (fields_of (merged_question a b q)) ∙ rw (length-ren 0 0 (join a b) q.first, length-ren 0 0 (join a b) q.second, pairs_as_many)

  pub merged-length : length (joined one (fields_of q)) ≡ length (write (merged_question a b q))
  unfolding fields_of merged_first merged_second merged_apart
  merged-length =
      let u = simp length-append at (ap length (joined_split one (fields_of q))) in
      let v = simp length-append at (ap length merged_split) in
      omega (arith, u, v, length-ren 0 0 (join a b) q.first, length-ren 0 0 (join a b) q.second, pairs_as_many (join a b) q.apart)

-- The question is written in edition one, by `encode`.
abbrev WritesPlain : Question → List ℕ → ℕ → List ℕ → Type 0
WritesPlain q area r area' = (r ≡ length (write q)) × (area' ≡ area_after (result (write q)) area)

-- The run of the writing half over the bytes s of a question: what each of its steps is known to do.
pub record Run (a b : ℕ) (s area area' : List ℕ) : Type 0 where
  pub table : List ℕ
  pub first : ℕ
  pub second : ℕ
  pub apart : ℕ
  pub pairs : ℕ
  pub arities : List ℕ
  pub copied : List ℕ
  pub one : List ℕ
  pub two : List ℕ
  pub r₁ : ℕ
  pub r₂ : ℕ
  pub table_is : (n : ℕ) → n < name_count → get_or table n 0 ≡ join a b n
  pub arities_are : arities ≡ arities_of s
  pub first_at : first ≡ field_place s (definitions_of s)
  pub second_at : second ≡ after_field s first
  pub apart_at : apart ≡ after_field s second
  pub pairs_at : pairs ≡ size_at s apart
  pub copying : copied ≡ sets area 0 (span s 0 (length s))
  pub renaming_first : RenameIs s (first + 2) arities table copied (first + 2) r₁ one
  pub renaming_second : RenameIs s (second + 2) arities table one (second + 2) r₂ two
  pub renaming_apart : area' ≡ sets two (apart + 2) (map (renamed_byte 0 table) (span s (apart + 2) pairs))

module _ (a b : ℕ) (q : Question) (w : WellFormed q) (small : a < name_count) (small' : b < name_count) (area area' : List ℕ)
    (room : length (joined one (fields_of q)) ≤ length area) (run : Run a b (joined one (fields_of q)) area area') where
  f : Fields
  f = fields_of q

  fr : Framable f
  unfolding f
  fr = framable q w

  s : List ℕ
  s = joined one f

  T : List ℕ
  T = drop (length s) area

  table_entries : (n : ℕ) → n < name_count → (get_or run.table n 0 ≡ join a b n) × (join a b n < name_count)
  table_entries n h = (run.table_is n h, join-below name_count a b n small small' h)

  first-e : run.first ≡ first_place one f fr
  unfolding f
  first-e = run.first_at

  second-e : run.second ≡ second_place one f fr
  unfolding f
  second-e = run.second_at ∙ ap (after_field (joined one (fields_of q))) first-e

  apart_e : run.apart ≡ apart_place one f fr
  unfolding f
  apart_e = run.apart_at ∙ ap (after_field (joined one (fields_of q))) second-e

  arities_e : run.arities ≡ q.arities
  unfolding f fields_of
  arities_e = run.arities_are ∙ arities_of_lem one f fr

  copied_is : run.copied ≡ s ++ T
  unfolding s T f
  copied_is = run.copying ∙ ap (sets area 0) (take_all (length s) s (omega arith)) ∙ sets-start area s room

  bounds : (first_place one f fr + 2 + length f.first ≤ length s) × (second_place one f fr + 2 + length f.second ≤ length s)
  unfolding s
  bounds = let l = joined_length one f fr in let x = second_is one f fr in let y = apart_is one f fr in (omega arith, omega arith)

  one_is : run.one ≡ sets run.copied (run.first + 2) (merged_first a b q)
  unfolding merged_first f fields_of s RenameIs
  one_is =
      let n : length run.copied ≡ length area = ap length run.copying ∙ length-sets area 0 (span (joined one (fields_of q)) 0 (length (joined one (fields_of q)))) in
      let p = w.first.size in
      (run.renaming_first name_count 0 0 (join a b) q.first _ (omega arith) (represents_free run.table (join a b) table_entries)
      (rw arities_e w.first.scope) (ap (λ (k : ℕ). drop (k + 2) s) first-e ∙ first-bytes one f fr) (omega (arith, height-bytes 0 q.first))
      (omega (arith, n, first-e, bounds.0))).1

  two_is : run.two ≡ sets run.one (run.second + 2) (merged_second a b q)
  unfolding merged_second f fields_of s RenameIs
  two_is =
      let n : length run.copied ≡ length area = ap length run.copying ∙ length-sets area 0 (span (joined one (fields_of q)) 0 (length (joined one (fields_of q)))) in
      let m : length run.one ≡ length run.copied = ap length one_is ∙ length-sets run.copied (run.first + 2) (merged_first a b q) in
      let p = w.second.size in
      (run.renaming_second name_count 0 0 (join a b) q.second _ (omega arith) (represents_free run.table (join a b) table_entries)
      (rw arities_e w.second.scope) (ap (λ (k : ℕ). drop (k + 2) s) second-e ∙ second-bytes one f fr) (omega (arith, height-bytes 0 q.second))
      (omega (arith, n, m, second-e, bounds.1))).1

  pairs_are : map (renamed_byte 0 run.table) (span s (run.apart + 2) run.pairs) ≡ merged_apart a b q
  unfolding merged_apart f fields_of s
  pairs_are =
      rw (run.pairs_at, apart_e, apart_size_lem one f fr, apart_bytes one f fr, take-append_seam) (renamed-pairs run.table (join a b) table_entries q.apart w.apart)

  pub merged-written : WritesPlain (merged_question a b q) area (length (joined one (fields_of q))) area'
  unfolding area_after s T f fields_of merged_first merged_second merged_apart halves
  merged-written = (same, stored ∙ ap₂ ◌++◌ (sym (merged_split a b q)) (ap (λ (k : ℕ). drop k area) same))
    where
      x : length (merged_first a b q) ≡ length f.first
      x = length-ren 0 0 (join a b) q.first

      y : length (merged_second a b q) ≡ length f.second
      y = length-ren 0 0 (join a b) q.second

      z : length (merged_apart a b q) ≡ length f.apart
      z = pairs_as_many (join a b) q.apart

      same : length s ≡ length (write (merged_question a b q))
      same = merged-length a b q

      stored : area' ≡ (before_parts one f ++ (halves (length f.first) ++ (merged_first a b q ++ (halves (length f.second) ++ (merged_second a b q
          ++ (halves (length f.apart) ++ merged_apart a b q)))))) ++ T
      stored =
          run.renaming_apart ∙ rw (pairs_are, two_is, one_is, copied_is)
          (ap (λ (l : List ℕ). sets (sets (sets (l ++ T) (run.first + 2) (merged_first a b q)) (run.second + 2) (merged_second a b q)) (run.apart + 2) (merged_apart a b q))
          (joined_split one f)
          ∙ overwritten (before_parts one f) (halves (length f.first)) f.first (halves (length f.second)) f.second (halves (length f.apart)) f.apart T
          (merged_first a b q) (merged_second a b q) (merged_apart a b q) (run.first + 2) (run.second + 2) (run.apart + 2)
          (omega (arith, first-e, first_is one f fr)) (omega (arith, first-e, second-e, second_is one f fr)) (omega (arith, second-e, apart_e, apart_is one f fr)) x y z)

pub writes_merged : (s : List ℕ) (a b : ℕ) (area area' : List ℕ) → a < name_count → b < name_count → length s ≤ length area
    → Run a b s area area' → WritesMerged s a b area (length s) area'
unfolding WritesMerged Writes
writes_merged s a b area area' small small' room run q e =
    let j = sym (accepted_joined s q e) in
    let w : WritesPlain (merged_question a b q) area (length s) area' =
    rw j
    (merged-written a b q (accepted_well_formed s q e) small small' area area' (rw j at room) (subst (λ (s : List ℕ). Run a b s area area') j run)) in
    subst (λ (bs : List ℕ). (length s ≡ length bs) × (area' ≡ area_after (result bs) area)) (sym (write-first (merged_question a b q))) w
