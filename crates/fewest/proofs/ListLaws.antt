-- The enlarged list: names that check 12 allows, no more bytes than it allows, so that the question under it is accepted. Assumes nothing.
use mathlib.Core.Bool.{Bool, true, false, cond}
use mathlib.Core.List.{List, [], ◌∷◌, map}
use mathlib.Core.Logic.{◌⊎◌, inl, inr}
use mathlib.Core.Path.{◌≡◌, refl, ap, ◌∙◌}
use native.Mathlib.Omega.{arith}
use Prim.Native.Nat.{ℕ, suc, ◌+◌, ◌*◌, ◌<◌, ◌≤◌}
use lib.ListN.{length}
use Rattle.calculus.specs.Cond.{Pairs}
use Rattle.calculus.specs.Distinction.{keep}
use Rattle.terms.specs.Answer.{result}
use Rattle.terms.specs.Edition.{Edition}
use Rattle.terms.specs.Limits.{name_count, longest_apart}
use Rattle.terms.specs.Operations.{holds_apart}
use Rattle.terms.specs.Question.{Question, edition_of, question_of, pair_bytes, write_in, fits_in}
use Rattle.terms.proofs.Answers.{Every}
use Rattle.terms.proofs.OwnEdition.{own_well_formed, own-fits, written_accepted}
use Rattle.terms.proofs.WellFormed.{WellFormed, PairAllowed}
use Rattle.calculus.specs.Lists.{◌∈◌}
use Rattle.steps.specs.Listed.{names_from}
use Rattle.calculus.proofs.Membership.{∈_either, ∈-mapped}
use Rattle.field.specs.Situation.{pairs_of, all_pairs}
use Rattle.fewest.specs.Choices.{in_order, under_list}

names_within : (k n m : ℕ) → m ∈ names_from n k → (n ≤ m) × (m < n + k)
unfolding names_from
names_within Prim.Native.Nat.zero n m x' = elim x' [ ]
names_within (suc k) n m (inl e) = (omega (arith, e), omega (arith, e))
names_within (suc k) n m (inr i) = let (a, b) = names_within k (suc n) m i in (omega arith, omega arith)

pairs_within : (k n : ℕ) (p : ℕ × ℕ) → p ∈ pairs_of (names_from n k) → (p.0 < p.1) × (p.1 < n + k)
unfolding pairs_of names_from
pairs_within Prim.Native.Nat.zero n p m = elim m [ ]
pairs_within (suc k) n p m = go (∈_either p (map (λ b. (n, b)) (names_from (suc n) k)) (pairs_of (names_from (suc n) k)) m) (pairs_within k (suc n) p)
  where
    go : (p ∈ map (λ b. (n, b)) (names_from (suc n) k)) ⊎ (p ∈ pairs_of (names_from (suc n) k))
        → (p ∈ pairs_of (names_from (suc n) k) → (p.0 < p.1) × (p.1 < suc n + k)) → (p.0 < p.1) × (p.1 < n + suc k)
    go (inl i) r =
        let (b, j, e) = ∈-mapped (λ (b : ℕ). (n, b)) p (names_from (suc n) k) i in
        let (x, y) = names_within k (suc n) b j in
        let u : p.0 ≡ n = ap (λ q. q.0) e in
        let v : p.1 ≡ b = ap (λ q. q.1) e in
        (omega arith, omega arith)
    go (inr i) r = let (x, y) = r i in (x, omega arith)

every-∈ : (S : ℕ × ℕ → Type 0) (ps : Pairs) → ((p : ℕ × ℕ) → p ∈ ps → S p) → Every S ps
unfolding Every
every-∈ S [] h = tt
every-∈ S (p ∷ ps) h = (h p (inl refl), every-∈ S ps (λ q m. h q (inr m)))

keep-every : (f : ℕ → ℕ → Bool) (S : ℕ × ℕ → Type 0) (ps : Pairs) → Every S ps → Every S (keep f ps)
unfolding keep Every
keep-every f S [] h = tt
keep-every f S (p ∷ ps) h = go (f p.0 p.1) (keep-every f S ps h.1)
  where
    go : (b : Bool) → Every S (keep f ps) → Every S (cond b (p ∷ keep f ps) (keep f ps))
    go true r = (h.0, r)
    go false r = r

pub pairs-allowed : Every PairAllowed (all_pairs name_count)
unfolding all_pairs
pairs-allowed = every-∈ PairAllowed (pairs_of (names_from 0 name_count)) (λ p m.
    let (a, b) = pairs_within name_count 0 p m in
    record { left = omega arith; right = omega arith; differ = λ e. omega arith })

pub list_allowed : (D : Pairs) → Every PairAllowed (in_order name_count D)
unfolding in_order
list_allowed D = keep-every _ PairAllowed (all_pairs name_count) pairs-allowed

pub keep-length : (f : ℕ → ℕ → Bool) (ps : Pairs) → length (keep f ps) ≤ length ps
unfolding keep
keep-length f [] = omega arith
keep-length f (p ∷ ps) = go (f p.0 p.1) (keep-length f ps)
  where
    go : (b : Bool) → length (keep f ps) ≤ length ps → length (cond b (p ∷ keep f ps) (keep f ps)) ≤ suc (length ps)
    go true r = omega arith
    go false r = omega arith

pub bytes-length : (ps : Pairs) → length (pair_bytes ps) ≡ 2 * length ps
unfolding pair_bytes
bytes-length [] = omega arith
bytes-length (p ∷ ps) = let r = bytes-length ps in omega arith

-- every pair once is as long a list as check 12 allows
pub pairs-fill : length (pair_bytes (all_pairs name_count)) ≡ longest_apart
unfolding all_pairs pairs_of names_from pair_bytes
pairs-fill = refl

pub list_length : (D : Pairs) → length (pair_bytes (in_order name_count D)) ≤ longest_apart
unfolding in_order
list_length D =
    omega (
      arith,
      pairs-fill,
      bytes-length (all_pairs name_count),
      bytes-length (keep (holds_apart D) (all_pairs name_count)),
      keep-length (holds_apart D) (all_pairs name_count),
    )

-- The question under a list that check 12 allows is well formed; under the list D in order it is accepted, written in its own edition.
pub under_well_formed : (q : Question) → WellFormed q → (D : Pairs) → Every PairAllowed D → length (pair_bytes D) ≤ longest_apart
    → WellFormed (under_list q D)
unfolding under_list
under_well_formed q w D allowed few = record {
  definitions = w.definitions;
  parameters = w.parameters;
  bodies = w.bodies;
  first = w.first;
  second = w.second;
  apart = allowed;
  apart_size = few;
}

pub listed_well_formed : (q : Question) → WellFormed q → (D : Pairs) → WellFormed (under_list q (in_order name_count D))
listed_well_formed q w D = under_well_formed q w (in_order name_count D) (list_allowed D) (list_length D)

-- check 6 does not ask for the list
pub under-fits : (e : Edition) (q : Question) (D : Pairs) → fits_in e (under_list q D) ≡ fits_in e q
unfolding fits_in under_list
under-fits e q D = refl

pub under_accepted : (question : List ℕ) (q : Question) → question_of question ≡ result q → (D : Pairs)
    → question_of (write_in (edition_of question) (under_list q (in_order name_count D))) ≡ result (under_list q (in_order name_count D))
under_accepted question q e D =
    written_accepted (edition_of question) (under_list q (in_order name_count D)) (listed_well_formed q (own_well_formed question q e) D)
    (under-fits (edition_of question) q (in_order name_count D) ∙ own-fits question q e)
