-- Two names merged: the question written is accepted, in the same edition; its parts and apart list are the old ones renamed.
use mathlib.Core.Path.{◌≡◌, refl, sym, ap, ap₂, ◌∙◌}
use mathlib.Core.List.{List, [], ◌∷◌}
use mathlib.Core.Bool.{Bool, true, false, ◌&&◌, ◌||◌, not}
use mathlib.Core.Logic.{◌≢◌, ◌⊎◌, inl, inr}
use Prim.Native.Nat.{ℕ, suc, ◌<◌, min, max}
use native.Mathlib.Nat.{zero-add}
use native.Mathlib.Omega.{arith}
use lib.ListN.{length}
use lib.Dec.{ltb, leb, eqb}
use borrow.Author.Tests.{ltb-true, leb-true, leb-false, eq-eqb, not-true}
use Rattle.calculus.proofs.Conditions.{join_cases}
use Rattle.calculus.specs.Cond.{Pairs, map_p, join}
use Rattle.calculus.specs.Term.{Term, ren}
use Rattle.terms.specs.Limits.{name_count}
use Rattle.terms.specs.Answer.{result}
use Rattle.terms.specs.Edition.{Edition}
use Rattle.terms.specs.Operations.{holds_apart, merged_question, merged, merge_of}
use Rattle.terms.specs.Question.{Question, every, fits, edition_of, question_of, pair_bytes, body_fields_in, write_in, fits_in}
use Rattle.terms.proofs.Answers.{Every, result_injective, bind-result, need-result, both_true}
use Rattle.terms.proofs.RenamingKeeps.{scope_ren, outermost_ren, length-ren, length-ren_in}
use Rattle.terms.proofs.OwnEdition.{edition_written, own_well_formed, own-fits, written_accepted}
use Rattle.terms.proofs.WellFormed.{PartAllowed, PairAllowed, WellFormed}
use Rattle.terms.proofs.WrittenLaws.{written_within_lem}

pub join-below : (free a b n : ℕ) → a < free → b < free → n < free → join a b n < free
join-below free a b n p q r = go (join_cases a b n)
  where
    go : ((n ≡ max a b) × (join a b n ≡ min a b)) ⊎ ((n ≢ max a b) × (join a b n ≡ n)) → join a b n < free
    go (inl h) = omega arith
    go (inr h) = let e = h.1 in omega arith

-- Only names that are a and b become equal.
two_names : (a b x y : ℕ) → x ≡ max a b → y ≡ min a b → (x ≡ a → y ≡ b → ⊥) → (x ≡ b → y ≡ a → ⊥) → ⊥
two_names a b x y u v p q = go (leb a b) refl
  where
    go : (t : Bool) → leb a b ≡ t → ⊥
    go true e = let l = leb-true a b e in q (omega arith) (omega arith)
    go false e = let l = leb-false a b e in p (omega arith) (omega arith)

join_apart : (a b x y : ℕ) → (x ≡ y → ⊥) → (x ≡ a → y ≡ b → ⊥) → (x ≡ b → y ≡ a → ⊥) → join a b x ≡ join a b y → ⊥
join_apart a b x y n p q e = go (join_cases a b x) (join_cases a b y)
  where
    go : ((x ≡ max a b) × (join a b x ≡ min a b)) ⊎ ((x ≢ max a b) × (join a b x ≡ x)) →
        ((y ≡ max a b) × (join a b y ≡ min a b)) ⊎ ((y ≢ max a b) × (join a b y ≡ y)) → ⊥
    go (inl u) (inl v) = n (u.0 ∙ sym v.0)
    go (inl u) (inr v) = two_names a b x y u.0 (sym v.1 ∙ sym e ∙ u.1) p q
    go (inr u) (inl v) = two_names a b y x v.0 (sym u.1 ∙ e ∙ v.1) (λ i j. q j i) (λ i j. p j i)
    go (inr u) (inr v) = n (sym u.1 ∙ e ∙ v.1)

-- A test that fails says that names are not those.
not_pair : (x y a b : ℕ) → (eqb x a && eqb y b) ≡ false → x ≡ a → y ≡ b → ⊥
not_pair x y a b e p q =
    let t : true ≡ false = rw (eq-eqb x a p, eq-eqb y b q) at e in
    let z : ◌≡◌ {A = ℕ} 0 1 = cc in
    absurd (omega arith)

neither : (x y : Bool) → (x || y) ≡ false → (x ≡ false) × (y ≡ false)
neither false y e = (refl, e)
neither true y e = let z : ◌≡◌ {A = ℕ} 0 1 = cc in absurd (omega arith)

pairs-merged : (a b : ℕ) (D : Pairs) → a < name_count → b < name_count → holds_apart D a b ≡ false → Every PairAllowed D →
    Every PairAllowed (map_p (join a b) D)
unfolding holds_apart Every
pairs-merged a b [] l m h w = tt
pairs-merged a b (p ∷ D) l m h w =
    let x = p.0 in
    let y = p.1 in
    let u = neither ((eqb x a && eqb y b) || (eqb x b && eqb y a)) (holds_apart D a b) h in
    let v = neither (eqb x a && eqb y b) (eqb x b && eqb y a) u.0 in (
      record {
        left = join-below name_count a b x l m w.0.left;
        right = join-below name_count a b y l m w.0.right;
        differ = join_apart a b x y w.0.differ (not_pair x y a b v.0) (not_pair x y b a v.1);
      },
      pairs-merged a b D l m u.1 w.1,
    )

pub pairs_as_many : (f : ℕ → ℕ) (D : Pairs) → length (pair_bytes (map_p f D)) ≡ length (pair_bytes D)
unfolding pair_bytes
pairs_as_many f [] = refl
pairs_as_many f (p ∷ D) = ap (λ n. suc (suc n)) (pairs_as_many f D)

pub part_renamed : (arities : List ℕ) (ρ : ℕ → ℕ) (P : Term) → ((n : ℕ) → n < name_count → ρ n < name_count) → PartAllowed arities P →
    PartAllowed arities (ren ρ P)
part_renamed arities ρ P k w =
    record {
      scope = scope_ren name_count name_count arities 0 0 ρ (λ n l. rw zero-add (k n (rw zero-add at l))) P w.scope;
      size = rw (length-ren 0 0 ρ P) w.size;
      parallels_outermost = outermost_ren ρ P ∙ w.parallels_outermost;
    }

pub merged_well_formed : (a b : ℕ) (q : Question) → a < name_count → b < name_count → holds_apart q.apart a b ≡ false → WellFormed q →
    WellFormed (merged_question a b q)
unfolding merged_question
merged_well_formed a b q l m h w =
    record {
      definitions = w.definitions;
      parameters = w.parameters;
      bodies = w.bodies;
      first = part_renamed q.arities (join a b) q.first (λ n. join-below name_count a b n l m) w.first;
      second = part_renamed q.arities (join a b) q.second (λ n. join-below name_count a b n l m) w.second;
      apart = pairs-merged a b q.apart l m h w.apart;
      apart_size = rw (pairs_as_many (join a b) q.apart) w.apart_size;
    }

fits_by : (bs cs : List ℕ) → length bs ≡ length cs → fits bs ≡ fits cs
unfolding fits
fits_by bs cs e = rw e

fits-merged : (e : Edition) (a b : ℕ) (q : Question) → fits_in e (merged_question a b q) ≡ fits_in e q
unfolding fits_in merged_question
fits-merged e a b q =
    ap₂ (λ x y. every fits (body_fields_in e q.arities q.bodies) && x && y)
    (fits_by _ _ (length-ren_in e 0 0 (join a b) q.first)) (fits_by _ _ (length-ren_in e 0 0 (join a b) q.second))

-- What a merge that no check turns back was given, and what it makes.
pub record Merged (question : List ℕ) (a b : ℕ) (r : Question) : Type 0 where
  pub old : Question
  pub accepted : question_of question ≡ result old
  pub left : a < name_count
  pub right : b < name_count
  pub not_apart : holds_apart old.apart a b ≡ false
  pub is : r ≡ merged_question a b old
  pub well_formed : WellFormed r
  pub fitting : fits_in (edition_of question) r ≡ true

pub merged_is : (question : List ℕ) (a b : ℕ) (r : Question) → merged question a b ≡ result r → Merged question a b r
unfolding merged
merged_is question a b r e =
    let q = bind-result (question_of question) _ r e in
    let s = need-result 14 (ltb a name_count && ltb b name_count && not (holds_apart q.0.apart a b)) _ r q.2 in
    made q.0 q.1 s.0 (result_injective {a = merged_question a b q.0} s.1)
  where
    made : (q : Question) → question_of question ≡ result q → (ltb a name_count && ltb b name_count && not (holds_apart q.apart a b)) ≡ true →
        merged_question a b q ≡ r → Merged question a b r
    made q c s e =
        let x = both_true (ltb a name_count && ltb b name_count) (not (holds_apart q.apart a b)) s in
        let y = both_true (ltb a name_count) (ltb b name_count) x.0 in
        let l = ltb-true a name_count y.0 in
        let m = ltb-true b name_count y.1 in
        let n = not-true (holds_apart q.apart a b) x.1 in
        let w = merged_well_formed a b q l m n (own_well_formed question q c) in
        let f = fits-merged (edition_of question) a b q ∙ own-fits question q c in
        record { old = q; accepted = c; left = l; right = m; not_apart = n; is = sym e; well_formed = rw (← e) w; fitting = rw (← e) f }

-- The question that merge writes is accepted.
pub merge_accepted : (question : List ℕ) (a b : ℕ) (r : Question) → merged question a b ≡ result r
    → question_of (write_in (edition_of question) r) ≡ result r
merge_accepted question a b r e = let m = merged_is question a b r e in written_accepted (edition_of question) r m.well_formed m.fitting

-- Merging keeps the edition: what it writes is of the question's own, and is the merged question.
pub merge_keeps : (question : List ℕ) (a b room : ℕ) (next : List ℕ) → merge_of question a b room ≡ result next
    → (q : Question) × (question_of question ≡ result q) × (edition_of next ≡ edition_of question) × (question_of next ≡ result (merged_question a b q))
unfolding merge_of
merge_keeps question a b room next h =
    let w = written_within_lem (edition_of question) (merged question a b) room next h in
    let m = merged_is question a b w.question w.made in (
      m.old,
      m.accepted,
      ap edition_of w.bytes ∙ edition_written (edition_of question) w.question,
      ap question_of w.bytes ∙ merge_accepted question a b w.question w.made ∙ ap result m.is,
    )
