-- The component of a term that makes a visible candidate, and a communication of two components, whose results are written between copies of
-- the part: what the functions that do so promise.
use Rattle.std.specs.Prelude.{◌≡◌, Bool, false, cond, List, ◌++◌, ℕ, ◌+◌, ◌<◌, ◌≤◌, leb, length, get_or, drop}
use Rattle.calculus.specs.Abstraction.{Act, tau_a, inp_a, out_a, bout_a}
use Rattle.calculus.specs.Cond.{Cond, cls}
use Rattle.calculus.specs.Term.{Term, ren}
use Rattle.terms.specs.Answer.{result}
use Rattle.terms.specs.Encoding.{encode, InScope}
use Rattle.terms.specs.Limits.{name_count}
use Rattle.terms.specs.Question.{Question, check_of}
use Rattle.terms.specs.Question.{body_of}
use Rattle.terms_bytes.specs.NameTable.{last_name}
use Rattle.steps_conditions.specs.Names.{HasNew}
use Rattle.steps.specs.Raw.{Candidate, step, blocked, visible}
use Rattle.steps_plans.specs.Plans.{receiving, Written}
use Rattle.steps_tallies.specs.Tally.{TallyIs}
use Rattle.steps_splicing.specs.Contexts.{Frame, fill, raised, level_in, before_in}
use Rattle.steps_splicing.specs.PlacedResults.{Trivial}
use Rattle.steps_splicing.specs.declared.locate.Located.{Located}

-- A component of C that stands at a, under d restrictions in all, has the candidate number n that is raised to c; C stands at `at`, under `depth`.
pub record Component (q : Question) (s : List ℕ) (at depth : ℕ) (C : Term) (c : Candidate) (a d n : ℕ) : Type 0 where
  pub frames : List Frame
  pub term : Term
  pub rest : List ℕ
  pub whole : fill frames term ≡ C
  pub level : level_in depth frames ≡ d
  pub place : at + length (before_in depth frames) ≡ a
  pub scope : InScope name_count q.arities d term
  pub stands : drop a s ≡ encode d term ++ rest
  pub within : n < length (visible (body_of q.bodies) 1 term)
  pub candidate : c ≡ raised frames (get_or (visible (body_of q.bodies) 1 term) n blocked)

-- The visible candidate number i of the term at `at` is that of the component at a.
unfoldable pub Leads : (s t : List ℕ) (at depth i a d n : ℕ) → Type 0
Leads s t at depth i a d n =
    (question : List ℕ) → TallyIs question s 1 t
    → (q : Question) (C : Term) (rest : List ℕ)
    → check_of question ≡ result q
    → InScope name_count q.arities depth C
    → drop at s ≡ encode depth C ++ rest
    → i < length (visible (body_of q.bodies) 1 C)
    → Component q s at depth C (get_or (visible (body_of q.bodies) 1 C) i blocked) a d n

pub record LocateIs (s t : List ℕ) (at depth i : ℕ) (r : Located) : Type 0 where
  pub deep : r.depth ≤ r.at
  pub inside : r.at ≤ length s
  pub is : Leads s t at depth i r.at r.depth r.number

-- A component stands in the part behind the bytes `before`, which are those from `from` on; bs are the bytes of the result of its candidate, where
-- the name in the slot `new` is received.
pub record Hole (q : Question) (part : List ℕ) (from : ℕ) (l : Located) (new : ℕ) (before bs after : List ℕ) : Type 0 where
  pub term : Term
  pub bytes : drop from part ≡ before ++ (encode l.depth term ++ after)
  pub place : from + length before ≡ l.at
  pub scope : InScope name_count q.arities l.depth term
  pub name : ℕ
  pub received : HasNew l.depth new name
  pub condition : Cond
  pub action : Act
  pub result : Term
  pub own : get_or (visible (body_of q.bodies) 1 term) l.number blocked ≡ step condition action result
  pub is : bs ≡ encode l.depth (ren (receiving name (λ n. n) action) result)

-- The bytes `before` copied, and the result behind them.
pub record HoleIs (question part : List ℕ) (from : ℕ) (l : Located) (new : ℕ) (out : List ℕ) (put r : ℕ) (out' : List ℕ) : Type 0 where
  pub is : (q : Question) (before bs after : List ℕ)
      → check_of question ≡ result q
      → Hole q part from l new before bs after
      → l.depth ≤ put + length before
      → Written out put (before ++ bs) r out'

-- Two components, and the part's bytes with their results in their places.
pub record Holes (q : Question) (part : List ℕ) (left right : Located) (new : ℕ) (bytes : List ℕ) : Type 0 where
  pub first : List ℕ
  pub one : List ℕ
  pub rest : List ℕ
  pub left_hole : Hole q part 0 left new first one rest
  pub end : ℕ
  pub ends : left.at + length (encode left.depth left_hole.term) ≡ end
  pub between : List ℕ
  pub two : List ℕ
  pub last : List ℕ
  pub right_hole : Hole q part end right new between two last
  pub left_deep : left.depth ≤ length first
  pub right_deep : right.depth ≤ length first + length between
  pub is : bytes ≡ first ++ (one ++ (between ++ (two ++ last)))

pub record MetResultIs (question part : List ℕ) (left right : Located) (new : ℕ) (out : List ℕ) (r : ℕ) (out' : List ℕ) : Type 0 where
  pub is : (q : Question) (bytes : List ℕ) → check_of question ≡ result q → Holes q part left right new bytes → Written out 0 bytes r out'

-- The classes of a condition, and whether it merges any names.
pub record Classed (merges : Bool) (class : List ℕ) (M : Cond) : Type 0 where
  pub classes : (n : ℕ) → n < name_count → get_or class n 0 ≡ cls M n
  pub trivial : merges ≡ false → Trivial M

-- No name is extruded.
unfoldable pub Unextruded : Act → Type 0
Unextruded tau_a = Unit {0}
Unextruded (inp_a a) = Unit {0}
Unextruded (out_a a b) = Unit {0}
Unextruded (bout_a a) = ⊥

-- The slot of a name in a table of names (Names), where rows have it in this one.
unfoldable pub table_slot : ℕ → ℕ
table_slot slot = cond (leb slot last_name) slot (slot + 1)
