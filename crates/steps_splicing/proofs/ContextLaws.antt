-- A term that stands in a part beneath parallels and restrictions alone: the part's bytes around it, and where the terms within it stand. Assumes
-- nothing.
use mathlib.Core.Path.{◌≡◌, refl, sym, ap, ◌∙◌}
use mathlib.Core.Bool.{Bool, true, false}
use mathlib.Core.List.{List, [], ◌∷◌, ◌++◌, append_assoc, append-nil}
use Prim.Native.Nat.{ℕ, suc, ◌+◌, ◌≤◌}
use native.Mathlib.Omega.{arith}
use lib.ListN.{length, get_or, drop, length-append, length-map}
use lib.Seq.{drop_at}
use Rattle.calculus.specs.Term.{Term, par, res}
use Rattle.terms.specs.Encoding.{encode, InScope}
use Rattle.terms.specs.Question.{Question}
use Rattle.terms.specs.Question.{body_of}
use Rattle.steps_tallies.specs.Candidates.{candidates}
use Rattle.steps.specs.Raw.{Candidate, blocked, left_steps, right_steps, restricted, visible, silent}
use Rattle.steps_tallies.proofs.CandidateForms.{candidates-res}
use Rattle.steps_tallies.proofs.Numbering.{nth_restricted}
use Rattle.steps_passing.proofs.TwoSides.{sides_par}
use Rattle.steps_splicing.specs.Contexts.{Frame, left_of, right_of, beneath, fill, raised, restrictions, bytes_before, bytes_behind, Numbered, Placed, before_in, behind_in, level_in}
use Rattle.steps_splicing.specs.ListedParts.{Lists}

-- The whole's bytes are those before the term, its own, and those behind it.
pub fill_bytes_in : (d : ℕ) (K : List Frame) (C : Term) → encode d (fill K C) ≡ before_in d K ++ (encode (level_in d K) C ++ behind_in d K)
unfolding fill encode before_in behind_in level_in
fill_bytes_in d [] C = sym (append-nil (encode d C))
fill_bytes_in d (left_of Q ∷ K) C = fill_bytes_in d K (par C Q) ∙ simp append_assoc
fill_bytes_in d (right_of P ∷ K) C = fill_bytes_in d K (par P C) ∙ simp append_assoc
fill_bytes_in d (beneath ∷ K) C =
    let e : 1 + level_in d K ≡ suc (level_in d K) = omega arith in
    fill_bytes_in d K (res C) ∙ ap (λ (n : ℕ). before_in d K ++ (8 ∷ (encode n C ++ behind_in d K))) e
    ∙ sym (append_assoc (before_in d K) (8 ∷ []) (encode (suc (level_in d K)) C ++ behind_in d K))

pub fill-bytes : (K : List Frame) (C : Term) → encode 0 (fill K C) ≡ bytes_before K ++ (encode (restrictions K) C ++ bytes_behind K)
fill-bytes = fill_bytes_in 0

-- Each restriction has a byte before the term.
pub level_before : (d : ℕ) (K : List Frame) → level_in d K ≤ d + length (before_in d K)
unfolding before_in level_in
level_before d [] = omega arith
level_before d (left_of Q ∷ K) = omega (arith, level_before d K, length-append (before_in d K) (7 ∷ []))
level_before d (right_of P ∷ K) = omega (arith, level_before d K, length-append (before_in d K) (7 ∷ encode (level_in d K) P))
level_before d (beneath ∷ K) = omega (arith, level_before d K, length-append (before_in d K) (8 ∷ []))

-- What is blocked stays so.
pub raised-blocked : (K : List Frame) → raised K blocked ≡ blocked
unfolding raised left_steps right_steps restricted
raised-blocked [] = refl
raised-blocked (left_of Q ∷ K) = raised-blocked K
raised-blocked (right_of P ∷ K) = raised-blocked K
raised-blocked (beneath ∷ K) = raised-blocked K

-- The candidates of a side of a parallel, and of a term beneath a restriction, among those of the whole.
module _ (body : ℕ → Term) (t : Bool) (whole : List Candidate) (K : List Frame) (n : ℕ) where
  numbered-left : (L R : Term) → Numbered whole K (candidates t body 1 (par L R)) n → Numbered whole (left_of R ∷ K) (candidates t body 1 L) n
  unfolding raised
  numbered-left L R N =
      let S = sides_par body t 1 L R in
      record {
        inside = omega arith;
        is = λ j h. N.is j (omega arith) ∙ ap (raised K) (S.first j h);
      }

  numbered_right : (L R : Term) → Numbered whole K (candidates t body 1 (par L R)) n
      → Numbered whole (right_of L ∷ K) (candidates t body 1 R) (n + length (candidates t body 1 L))
  unfolding raised
  numbered_right L R N =
      let S = sides_par body t 1 L R in
      let m = length (candidates t body 1 L) in
      record {
        inside = omega arith;
        is = λ j h.
            let e : n + m + j ≡ n + (m + j) = omega arith in
            ap (λ (k : ℕ). get_or whole k blocked) e ∙ N.is (m + j) (omega arith) ∙ ap (raised K) (S.second j h);
      }

  numbered-beneath : (C : Term) → Numbered whole K (candidates t body 1 (res C)) n → Numbered whole (beneath ∷ K) (candidates t body 1 C) n
  unfolding raised
  numbered-beneath C N =
      let cs = candidates t body 1 C in
      let e = candidates-res body t 1 C in
      let l : length (candidates t body 1 (res C)) ≡ length cs = ap length e ∙ length-map cs restricted in
      record {
        inside = omega arith;
        is = λ j h. N.is j (omega arith) ∙ ap (λ (l : List Candidate). raised K (get_or l j blocked)) e ∙ ap (raised K) (nth_restricted cs j);
      }

-- The part itself stands in itself.
pub placed-start : {question part : List ℕ} {x : ℕ} {q : Question} {P : Term} → Lists question part x q P
    → Placed q.arities (body_of q.bodies) P [] P 0 0 0 0
unfolding fill raised level_in before_in
placed-start {q = q} {P = P} l = record {
  whole = refl;
  level = refl;
  place = refl;
  scope = l.scope;
  visibly = all (visible (body_of q.bodies) 1 P);
  silently = all (silent (body_of q.bodies) 1 P);
}
  where
    all : (cs : List Candidate) → Numbered cs [] cs 0
    all cs = record {
      inside = omega arith;
      is = λ j h. let e : 0 + j ≡ j = omega arith in ap (λ (k : ℕ). get_or cs k blocked) e;
    }

module _ {arities : List ℕ} {body : ℕ → Term} {P : Term} {K : List Frame} {at depth first number : ℕ} where
  pub placed-left : {L R : Term} → Placed arities body P K (par L R) at depth first number
      → Placed arities body P (left_of R ∷ K) L (at + 1) depth first number
  unfolding fill level_in before_in InScope candidates
  placed-left {L} {R} p = record {
    whole = p.whole;
    level = p.level;
    place = omega (arith, p.place, length-append (bytes_before K) (7 ∷ []));
    scope = p.scope.0;
    visibly = numbered-left body false (visible body 1 P) K first L R p.visibly;
    silently = numbered-left body true (silent body 1 P) K number L R p.silently;
  }

  pub placed_right : {L R : Term} → Placed arities body P K (par L R) at depth first number
      → Placed arities body P (right_of L ∷ K) R (at + 1 + length (encode depth L)) depth (first + length (visible body 1 L)) (number + length (silent body 1 L))
  unfolding fill level_in before_in InScope candidates
  placed_right {L} {R} p =
      let e : length (encode (restrictions K) L) ≡ length (encode depth L) = ap (λ (d : ℕ). length (encode d L)) p.level in
      record {
        whole = p.whole;
        level = p.level;
        place = omega (arith, p.place, length-append (bytes_before K) (7 ∷ encode (restrictions K) L));
        scope = p.scope.1;
        visibly = numbered_right body false (visible body 1 P) K first L R p.visibly;
        silently = numbered_right body true (silent body 1 P) K number L R p.silently;
      }

  pub placed-beneath : {C : Term} → Placed arities body P K (res C) at depth first number
      → Placed arities body P (beneath ∷ K) C (at + 1) (depth + 1) first number
  unfolding fill level_in before_in InScope candidates
  placed-beneath {C} p =
      let e : 1 + depth ≡ depth + 1 = omega arith in
      record {
        whole = p.whole;
        level = omega (arith, p.level);
        place = omega (arith, p.place, length-append (bytes_before K) (8 ∷ []));
        scope = rw e at p.scope;
        visibly = numbered-beneath body false (visible body 1 P) K first C p.visibly;
        silently = numbered-beneath body true (silent body 1 P) K number C p.silently;
      }

  -- There are at least as many bytes before the term as restrictions around it.
  pub placed_depth : {C : Term} → Placed arities body P K C at depth first number → depth ≤ at
  placed_depth p = omega (arith, p.level, p.place, level_before 0 K)

-- The bytes from the term on.
module _ {question part : List ℕ} {x : ℕ} {q : Question} {P : Term} (l : Lists question part x q P) {K : List Frame} {C : Term} {at depth first number : ℕ}
    (p : Placed q.arities (body_of q.bodies) P K C at depth first number) where
  pub placed_split : part ≡ bytes_before K ++ (encode depth C ++ bytes_behind K)
  placed_split =
      l.bytes ∙ ap (encode 0) (sym p.whole) ∙ fill-bytes K C ∙ ap (λ (d : ℕ). bytes_before K ++ (encode d C ++ bytes_behind K)) p.level

  pub placed-bytes : drop at part ≡ encode depth C ++ bytes_behind K
  placed-bytes = ap (drop at) placed_split ∙ drop_at (bytes_before K) (encode depth C ++ bytes_behind K) at p.place

  pub placed-length : length part ≡ at + (length (encode depth C) + length (bytes_behind K))
  placed-length =
      ap length placed_split
      ∙ omega (arith, p.place, length-append (bytes_before K) (encode depth C ++ bytes_behind K), length-append (encode depth C) (bytes_behind K))
