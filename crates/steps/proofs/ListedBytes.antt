-- The bytes of a listed step determine it. Assumes nothing.
use mathlib.Core.List.{List, [], ◌∷◌, ◌++◌}
use mathlib.Core.Path.{◌≡◌, refl, sym, ◌∙◌, ap}
use native.Mathlib.Nat.{suc-mul}
use native.Mathlib.Omega.{arith}
use Prim.Native.Nat.{ℕ, ◌+◌, ◌*◌, ◌-◌, ◌≤◌, max}
use lib.ListN.{length, take, drop, replicate, length-append, length-replicate}
use lib.Seq.{take_at, drop_at}
use Rattle.calculus.specs.Term.{Term}
use Rattle.terms.specs.Answer.{result}
use Rattle.terms.specs.Encoding.{encode, InScope}
use Rattle.terms.specs.Limits.{longest_term}
use Rattle.terms.specs.Edition.{one}
use Rattle.terms.specs.Reading.{numbered, read_term}
use Rattle.terms.proofs.Answers.{result_injective}
use Rattle.terms.proofs.EditionOne.{read_encoded_first}
use Rattle.calculus.specs.Lists.{All}
use Rattle.steps.specs.Limits.{step_bytes}
use Rattle.steps.specs.Listed.{ListedStep, result_bytes, bytes}
use Rattle.steps.specs.Operations.{list_bytes}

-- Lists that begin with lists of the same length.
fronts : {A : Type 0} (xs ys us vs : List A) → length xs ≡ length ys → xs ++ us ≡ ys ++ vs → xs ≡ ys
fronts xs ys us vs l e = sym (take_at xs us (length xs) refl) ∙ ap (take (length xs)) e ∙ take_at ys vs (length xs) (sym l)

backs : {A : Type 0} (xs ys us vs : List A) → length xs ≡ length ys → xs ++ us ≡ ys ++ vs → us ≡ vs
backs xs ys us vs l e = sym (drop_at xs us (length xs) refl) ∙ ap (drop (length xs)) e ∙ drop_at ys vs (length xs) (sym l)

-- as many classes as names, and a result in scope, where a new name beyond them counts too
pub record WellListed (names wide : ℕ) (arities : List ℕ) (s : ListedStep) : Type 0 where
  pub count : length s.classes ≡ names
  pub scope : InScope wide arities 0 s.result

module _ (wide : ℕ) (few : wide ≤ 128) (arities : List ℕ) where
  -- a term in scope is read back from bytes that begin with its own
  reads_once : (D : ℕ) (P Q : Term) (us vs : List ℕ) → InScope wide arities D P → InScope wide arities D Q → encode D P ++ us ≡ encode D Q ++ vs → P ≡ Q
  reads_once D P Q us vs g h e =
      let n : ℕ = length (encode D P) + length (encode D Q) in
      let p : read_term one (numbered arities) wide n D (encode D P ++ us) ≡ result (P, us) = read_encoded_first wide few arities D P g n (omega arith) us in
      let q : read_term one (numbered arities) wide n D (encode D Q ++ vs) ≡ result (Q, vs) = read_encoded_first wide few arities D Q h n (omega arith) vs in
      let r : ◌≡◌ {A = Term × List ℕ} (P, us) (Q, vs) = result_injective (sym p ∙ ap (read_term one (numbered arities) wide n D) e ∙ q) in
      ap (λ t. t.0) r

module _ (names wide : ℕ) (few : wide ≤ 128) (arities : List ℕ) where
  pub bytes_determine : (longest : ℕ) (s t : ListedStep) → WellListed names wide arities s → WellListed names wide arities t
      → bytes longest s ≡ bytes longest t → s ≡ t
  unfolding bytes result_bytes
  bytes_determine longest s t g h e =
      let r : List ℕ = encode 0 s.result in
      let q : List ℕ = encode 0 t.result in
      let a : List ℕ = s.kind ∷ s.channel ∷ s.object ∷ length r ∷ (r ++ replicate (longest - length r) 0) in
      let b : List ℕ = t.kind ∷ t.channel ∷ t.object ∷ length q ∷ (q ++ replicate (longest - length q) 0) in
      let l : length s.classes ≡ length t.classes = g.count ∙ sym h.count in
      let c : s.classes ≡ t.classes = fronts s.classes t.classes a b l e in
      let d : a ≡ b = backs s.classes t.classes a b l e in
      let k : s.kind ≡ t.kind = cc in
      let n : s.channel ≡ t.channel = cc in
      let o : s.object ≡ t.object = cc in
      let w : r ++ replicate (longest - length r) 0 ≡ q ++ replicate (longest - length q) 0 = cc in
      let p : s.result ≡ t.result = reads_once wide few arities 0 s.result t.result _ _ g.scope h.scope w in
      λ i. record { classes = c i; kind = k i; channel = n i; object = o i; result = p i }

-- The bytes of a step: its classes, four bytes, the result filled up. So a step whose result fits takes as many as every other.
pub step-length : (longest : ℕ) (s : ListedStep) → length (bytes longest s) ≡ length s.classes + (4 + max longest (length (result_bytes s)))
unfolding bytes
step-length longest s =
    let r : List ℕ = result_bytes s in
    let fill : List ℕ = replicate (longest - length r) 0 in
    omega (
      arith,
      length-append s.classes (s.kind ∷ s.channel ∷ s.object ∷ length r ∷ (r ++ fill)),
      length-append r fill,
      length-replicate {A = ℕ} (longest - length r) 0,
    )

pub step-size : (names longest : ℕ) (s : ListedStep) → length s.classes ≡ names → length (result_bytes s) ≤ longest
    → length (bytes longest s) ≡ names + (4 + longest)
step-size names longest s c h = omega (arith, step-length longest s)

-- The bytes of a list of steps.
pub length-list_bytes : (ss : List ListedStep) → All (λ s. length (bytes longest_term s) ≡ step_bytes) ss → length (list_bytes ss) ≡ length ss * step_bytes
unfolding list_bytes
length-list_bytes [] z = refl
length-list_bytes (s ∷ ss) z =
    let r = length-list_bytes ss z.1 in
    let h = z.0 in
    omega (arith, length-append (bytes longest_term s) (list_bytes ss), suc-mul (length ss) step_bytes)
