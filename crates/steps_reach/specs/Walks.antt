-- What the walk of a body puts into the table of calls (document 02, request 2026-01): the calls that its unprefixed calls reach.
use Rattle.std.specs.Prelude.{◌⊎◌, ◌≡◌, Option, Some, None, List, ◌++◌, ℕ, ◌*◌, ◌<◌, ◌≤◌, length, get_or, drop}
use Rattle.calculus.specs.Cond.{Cond}
use Rattle.calculus.specs.Definitions.{Defs, opened}
use Rattle.calculus.specs.Lists.{◌∈◌, Distinct}
use Rattle.calculus.specs.Term.{Term}
use Rattle.calls.specs.Reach.{Bare, Reached}
use Rattle.calls.specs.ReachLimit.{Call, ManyCalls}
use Rattle.terms.specs.Answer.{result}
use Rattle.terms.specs.Encoding.{encode, InScope}
use Rattle.terms.specs.Question.{Question, check_of, body_of}
use Rattle.steps_reach.specs.CallTable.{most_calls, RowIs, TableIs, NamesIs}

-- Δ has the definitions of the accepted question.
pub record Defines (question : List ℕ) (q : Question) (Δ : Defs) : Type 0 where
  pub accepted : check_of question ≡ result q
  pub arity : (k : ℕ) → Δ.arity k ≡ get_or q.arities k 0
  pub body : (k : ℕ) → Δ.body k ≡ body_of q.bodies k

-- the names of a call in the body of the call in a row
unfoldable pub CalledNamesIs : List ℕ → List ℕ → ℕ → ℕ → List ℕ → ℕ → List ℕ → Type 0
CalledNamesIs question s at count t row r = (q : Question) → check_of question ≡ result q → NamesIs s at count t row (get_or q.arities (get_or t (9 * row) 0) 0) r

module _ (Δ : Defs) where
  -- an unprefixed call of P reaches c
  pub record FromTerm (P : Term) (c : Call) : Type 0 where
    pub upto : Cond
    pub beyond : Cond
    pub definition : ℕ
    pub names : List ℕ
    pub bare : Bare P upto definition names
    pub reached : Reached Δ definition names beyond c.0 c.1

  -- every unprefixed call in the body of c is in the list
  abbrev pub OnwardIn : List Call → Call → Type 0
  OnwardIn cs c = (C : Cond) (l : ℕ) (ys : List ℕ) → length c.1 ≡ Δ.arity c.0 → Bare (opened c.1 (Δ.body c.0)) C l ys
      → ◌∈◌ {A = Call} (l, ys) cs

  -- A walk of P has gone from the calls cs on to ds, none twice.
  pub record Walked (P : Term) (cs ds : List Call) : Type 0 where
    pub kept : (c : Call) → c ∈ cs → c ∈ ds
    pub calls : (C : Cond) (l : ℕ) (ys : List ℕ) → Bare P C l ys → ◌∈◌ {A = Call} (l, ys) ds
    pub done : (c : Call) → c ∈ ds → (c ∈ cs) ⊎ OnwardIn ds c
    pub sound : (c : Call) → c ∈ ds → (c ∈ cs) ⊎ FromTerm P c
    pub distinct : Distinct ds

  -- There are more calls than the table holds.
  pub record Exceeded (P : Term) (cs : List Call) : Type 0 where
    pub list : List Call
    pub distinct : Distinct list
    pub sound : (c : Call) → c ∈ list → (c ∈ cs) ⊎ FromTerm P c
    pub over : most_calls < length list

  -- every call has as many names as its definition has parameters
  abbrev pub Sized : List Call → Type 0
  Sized cs = (c : Call) → c ∈ cs → length c.1 ≡ Δ.arity c.0

  -- the table after a walk
  pub record Tabled (P : Term) (cs : List Call) (t : List ℕ) (r : ℕ) : Type 0 where
    pub list : List Call
    pub size : length list ≡ r
    pub table : TableIs t list
    pub sized : Sized list
    pub walked : Walked P cs list

  pub record Answers (P : Term) (cs : List Call) (t : List ℕ) (r : Option ℕ) : Type 0 where
    pub within : (n : ℕ) → r ≡ Some n → Tabled P cs t n
    pub past : r ≡ None → Exceeded P cs

-- P stands at `at` in the body of the call in row `row`, whose names are xs; the first `size` rows have the calls cs.
pub record Stands (q : Question) (Δ : Defs) (s : List ℕ) (at row : ℕ) (t : List ℕ) (size : ℕ) (xs : List ℕ) (P : Term) (cs : List Call) : Type 0 where
  pub scope : InScope 0 q.arities (length xs) P
  pub rest : List ℕ
  pub bytes : drop at s ≡ encode (length xs) P ++ rest
  pub definition : ℕ
  pub arity : length xs ≡ get_or q.arities definition 0
  pub called : RowIs t row (definition, xs)
  pub count : length cs ≡ size
  pub table : TableIs t cs
  pub sized : Sized Δ cs
  pub distinct : Distinct cs

pub record ReachTermIs (question s : List ℕ) (at row : ℕ) (t : List ℕ) (size : ℕ) (t' : List ℕ) (r : Option ℕ) : Type 0 where
  pub on : (n : ℕ) → r ≡ Some n → (size ≤ n) × (n ≤ most_calls)
  pub kept : (i : ℕ) → i < 9 * size → get_or t' i 0 ≡ get_or t i 0
  pub is : (q : Question) (Δ : Defs) → Defines question q Δ → (xs : List ℕ) (P : Term) (cs : List Call)
      → Stands q Δ s at row t size xs P cs → Answers Δ (opened xs P) cs t' r

-- The calls that k⟨xs⟩ reaches: exactly those in the table, each once, itself first; or more than it holds.
pub record Reaches (Δ : Defs) (k : ℕ) (xs : List ℕ) (t : List ℕ) (r : ℕ) : Type 0 where
  pub list : List Call
  pub size : length list ≡ r
  pub table : TableIs t list
  pub first : RowIs t 0 (k, xs)
  pub sized : Sized Δ list
  pub distinct : Distinct list
  pub sound : (c : Call) → c ∈ list → (C : Cond) × Reached Δ k xs C c.0 c.1
  pub all : (C : Cond) (l : ℕ) (ys : List ℕ) → Reached Δ k xs C l ys → ◌∈◌ {A = Call} (l, ys) list

pub record ReachCallsIs (question : List ℕ) (k : ℕ) (xs : List ℕ) (t : List ℕ) (r : Option ℕ) : Type 0 where
  pub few : (n : ℕ) → r ≡ Some n → n ≤ most_calls
  pub within : (q : Question) (Δ : Defs) → Defines question q Δ → k < length q.arities → length xs ≡ get_or q.arities k 0
      → (n : ℕ) → r ≡ Some n → Reaches Δ k xs t n
  pub past : (q : Question) (Δ : Defs) → Defines question q Δ → k < length q.arities → length xs ≡ get_or q.arities k 0
      → r ≡ None → ManyCalls Δ most_calls k xs
