-- The situation that a step and its answer lead to, written as a key, and the key of the start: what the code promises of them.
use Rattle.std.specs.Prelude.{◌≡◌, Bool, true, false, List, [], ◌++◌, ℕ, ◌≤◌, ltb, length}
use Rattle.std.proofs.lemmas.List.Edits.{sets}
use Rattle.calculus.specs.Cond.{Pairs}
use Rattle.calculus.specs.Free.{fn}
use Rattle.calculus.specs.Term.{Term}
use Rattle.terms.specs.Answer.{result}
use Rattle.terms.specs.Encoding.{encode, InScope}
use Rattle.terms.specs.Limits.{name_count, longest_term}
use Rattle.terms.specs.Question.{Question, check_of}
use Rattle.steps.specs.Listed.{ListedStep}
use Rattle.field_pairs.specs.Entry.{EntryAt, Rewritten}
use Rattle.field_pairs.specs.NameFlags.{HasNames}
use Rattle.field.specs.Situation.{Situation, free_from, situation, start_of}
use Rattle.field_pairs.specs.Slot.{part_bytes, flags_of, octets, key_of}
use Rattle.field.specs.Successors.{led}

-- The result of the side that moves and the result of the other, on their sides: the first side moves, or the second.
unfoldable pub placed : Bool → Term → Term → Pairs → Situation
placed false P Q E = situation name_count P Q E
placed true Q P E = situation name_count P Q E

-- What the answer t to the step s leads to; F are the names free before, D the apart pairs. Where all names differ, `name` is the one put for the
-- object of s; else it is none of the names.
unfoldable pub leading : Bool → List ℕ → Pairs → ListedStep → ListedStep → ℕ → Situation
leading second F D s t name = led (ltb name name_count) (placed second) F D s t name

-- Two parts stand at the front of a key, in scope, and both fit.
pub record PartsStand (arities key : List ℕ) (P Q : Term) : Type 0 where
  pub rest : List ℕ
  pub there : key ≡ part_bytes P ++ (part_bytes Q ++ rest)
  pub bits : length rest ≡ octets
  pub scope : InScope name_count arities 0 P
  pub scope₂ : InScope name_count arities 0 Q
  pub fits : length (encode 0 P) ≤ longest_term
  pub fits₂ : length (encode 0 Q) ≤ longest_term

-- The results of the step and of its answer are put on their sides.
unfoldable pub PlacesResults : List ℕ → Bool → List ℕ → ℕ → List ℕ → ℕ → List ℕ → List ℕ → Type 0
PlacesResults arities second area at others place key key' =
    (s t : ListedStep) → EntryAt area at s → EntryAt others place t → InScope name_count arities 0 t.result → Rewritten t
    → (let u = led false (placed second) [] [] s t 0 in key' ≡ sets key 0 (part_bytes u.first ++ part_bytes u.second))

-- The same with the received name in both.
unfoldable pub PlacesReceived : List ℕ → Bool → List ℕ → ℕ → List ℕ → ℕ → ℕ → List ℕ → List ℕ → Type 0
PlacesReceived arities second area at others place name key key' =
    (s t : ListedStep) → EntryAt area at s → EntryAt others place t → InScope name_count arities 0 s.result → InScope name_count arities 0 t.result
    → (let u = led true (placed second) [] [] s t name in key' ≡ sets key 0 (part_bytes u.first ++ part_bytes u.second))

-- The names free in the parts of a key.
unfoldable pub FreeOfParts : List ℕ → List ℕ → List ℕ → Type 0
FreeOfParts key arities free = (P Q : Term) → PartsStand arities key P Q → HasNames free (fn P ++ fn Q)

-- Behind the parts stand those of the pairs of which each name is free in at least one part.
unfoldable pub CompletesKey : List ℕ → List ℕ → List ℕ → List ℕ → Type 0
CompletesKey arities apart key key' =
    (P Q : Term) (E : Pairs) → PartsStand arities key P Q → apart ≡ flags_of E → key' ≡ key_of (situation name_count P Q E)

unfoldable pub SuccessorIs : List ℕ → List ℕ → List ℕ → Bool → List ℕ → ℕ → List ℕ → ℕ → ℕ → List ℕ → Type 0
SuccessorIs arities free apart second area at others place name key =
    (G : List ℕ) (D : Pairs) (s t : ListedStep) → HasNames free G → apart ≡ flags_of D → EntryAt area at s → EntryAt others place t
    → InScope name_count arities 0 s.result → InScope name_count arities 0 t.result → Rewritten t
    → key ≡ key_of (leading second (free_from G 0 name_count) D s t name)

unfoldable pub StartIs : List ℕ → Bool → List ℕ → Type 0
StartIs question differ key = (q : Question) → check_of question ≡ result q → key ≡ key_of (start_of differ q)
