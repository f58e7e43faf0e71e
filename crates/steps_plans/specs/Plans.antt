-- The bytes of a candidate's result, written in place: the promises of the functions that write them.
-- The result is written under a renaming ρ, and the name received or extruded as x. So the lister's table, the classes of the condition and the
-- given new name, has the canonical result written at once; and a communication puts the name sent for x, or a new restriction.
use Rattle.std.specs.Prelude.{◌≡◌, Bool, true, false, cond, List, [], ◌∷◌, ◌++◌, ◌⊎◌, ℕ, ◌+◌, ◌-◌, ◌*◌, ◌<◌, ◌≤◌, length, get_or, drop, set, eqb}
use Rattle.std.proofs.lemmas.List.Edits.{sets}
use Rattle.calculus.specs.Abstraction.{Act, tau_a, inp_a, out_a, bout_a}
use Rattle.calculus.specs.Cond.{Cond}
use Rattle.calculus.specs.Term.{Term, par, ren, ◌•◌}
use Rattle.terms.specs.Answer.{result}
use Rattle.terms.specs.Encoding.{encode, InScope}
use Rattle.terms.specs.Limits.{name_count}
use Rattle.terms_bytes.specs.NameTable.{table_names}
use Rattle.terms_bytes.specs.Shape.{height}
use Rattle.terms.specs.Question.{Question, check_of}
use Rattle.terms.specs.Question.{body_of}
use Rattle.steps_conditions.specs.Names.{HasNames, HasNew}
use Rattle.steps_tallies.specs.Candidates.{candidates, OwnNamesIf}
use Rattle.steps.specs.Raw.{Candidate, step, blocked}
use Rattle.steps_plans.specs.declared.plan.Numbers.{Numbers}
use Rattle.steps_passing.specs.declared.pass.Passed.{Passed}
use Rattle.steps_plans.specs.declared.plan.Plan.{Plan}
use Rattle.steps_plans.specs.declared.plan.Task.{Task}

-- How the result of an action is renamed.
unfoldable pub receiving : ℕ → (ℕ → ℕ) → Act → ℕ → ℕ
receiving x ρ tau_a = ρ
receiving x ρ (inp_a a) = x • ρ
receiving x ρ (out_a a b) = ρ
receiving x ρ (bout_a a) = x • ρ

-- What is to be written of the term P: the term itself, or the result of one of its candidates.
unfoldable pub chosen : Task → (ℕ → Term) → Term → Candidate
chosen task body P =
    cond task.still (step [] tau_a P) (get_or (candidates task.silently body task.calls P) task.number blocked)

-- The bytes that a task asks for of the term `ren σ P`, by the table of its names; at most `top` binders stand one within the other in the whole.
pub record Asks (names : List ℕ) (task : Task) (body : ℕ → Term) (free D : ℕ) (σ : ℕ → ℕ) (P : Term) (bs : List ℕ) (top : ℕ) : Type 0 where
  pub named_own : OwnNamesIf task.calls σ
  pub ρ : ℕ → ℕ
  pub x : ℕ
  pub has : HasNames free D task.levels names (λ n. ρ (σ n))
  pub new : HasNew task.levels task.new x
  pub condition : Cond
  pub action : Act
  pub result : Term
  pub candidate : chosen task body (ren σ P) ≡ step condition action result
  pub bytes : bs ≡ encode task.levels (ren (receiving x ρ action) result)
  pub bounded : task.levels + height result ≤ top

-- Stored from `put` on if there is room, and the answer is where they end; else the answer is past the end of the area.
pub record Written (out : List ℕ) (put : ℕ) (bs : List ℕ) (r : ℕ) (out' : List ℕ) : Type 0 where
  pub fits : put + length bs ≤ length out → (r ≡ put + length bs) × (out' ≡ sets out put bs)
  pub over : length out < put + length bs → length out < r

pub record StoreIs (out : List ℕ) (put : ℕ) (bs : List ℕ) (r : ℕ) (out' : List ℕ) : Type 0 where
  pub on : put ≤ r
  pub is : Written out put bs r out'

-- The same where, if `low`, every index of a binder has a byte. Whether or not, the answer is where they end, or past the end of the area.
pub record Writes (low : Bool) (out : List ℕ) (put : ℕ) (bs : List ℕ) (r : ℕ) (out' : List ℕ) : Type 0 where
  pub ends : (r ≡ put + length bs) ⊎ (length out < r)
  pub fits : low ≡ true → put + length bs ≤ length out → (r ≡ put + length bs) × (out' ≡ sets out put bs)

-- A term, renamed by the table.
pub record TermIs (question s : List ℕ) (at D : ℕ) (names : List ℕ) (levels : ℕ) (out : List ℕ) (put r : ℕ) (out' : List ℕ) : Type 0 where
  pub on : put ≤ r
  pub is : (low : Bool) (q : Question) (free : ℕ) (τ : ℕ → ℕ) (P : Term) (rest : List ℕ)
      → check_of question ≡ result q
      → free ≤ name_count
      → InScope free q.arities D P
      → drop at s ≡ encode D P ++ rest
      → HasNames free D levels names τ
      → (low ≡ true → levels + height P ≤ 128)
      → Writes low out put (encode levels (ren τ P)) r out'

-- What a task asks for of the term at `at`.
pub record WriteIs (question s : List ℕ) (at D : ℕ) (names : List ℕ) (task : Task) (out : List ℕ) (put r : ℕ) (out' : List ℕ) : Type 0 where
  pub on : put ≤ r
  pub is : (low : Bool) (q : Question) (free : ℕ) (σ : ℕ → ℕ) (P : Term) (rest bs : List ℕ) (top : ℕ)
      → check_of question ≡ result q
      → free ≤ name_count
      → InScope free q.arities D P
      → drop at s ≡ encode D P ++ rest
      → Asks names task (body_of q.bodies) free D σ P bs top
      → (low ≡ true → top ≤ 128)
      → Writes low out put bs r out'

-- Room: for each byte before `at`, in the part and in the body of a call, one restriction is written at most, its own or that of a [Close]. So a slot
-- of each has a byte.
abbrev pub most_restrictions : ℕ
most_restrictions = 222

abbrev pub Room : ℕ → ℕ → ℕ → List ℕ → ℕ → Type 0
Room calls levels at out put = (levels + calls * 111 ≤ at + 111) × (put ≤ length out)

-- The tasks that the code makes of a task.
abbrev pub numbered : ℕ → Task → Task
numbered n t = record { new = t.new; levels = t.levels; calls = t.calls; still = t.still; silently = t.silently; number = n }

-- the term itself
abbrev pub resting : Task → Task
resting t = record { new = t.new; levels = t.levels; calls = t.calls; still = true; silently = t.silently; number = 0 }

-- one side of a communication
abbrev pub visibly : ℕ → Task → Task
visibly n t = record { new = t.new; levels = t.levels; calls = t.calls; still = false; silently = false; number = n }

-- beneath a restriction that is written
abbrev pub beneath : Task → Task
beneath t = record { new = t.new; levels = t.levels + 1; calls = t.calls; still = t.still; silently = t.silently; number = t.number }

-- [Com]: the name in this slot is received.
abbrev pub sending : ℕ → Task → Task
sending slot t = record { new = slot; levels = t.levels; calls = t.calls; still = t.still; silently = t.silently; number = t.number }

-- [Close]: the name received or extruded is that of a new restriction.
abbrev pub closing : Task → Task
closing t =
    record { new = table_names + t.levels; levels = t.levels + 1; calls = t.calls; still = t.still; silently = t.silently; number = t.number }

-- [Con]: in the body of a call.
abbrev pub inside : Task → Task
inside t = record { new = t.new; levels = t.levels; calls = t.calls - 1; still = t.still; silently = t.silently; number = t.number }

-- The table beneath a binder whose name is written as that in this slot.
abbrev pub entering : ℕ → ℕ → List ℕ → List ℕ
entering D slot names = set names (table_names + D) slot

-- The bytes before the sides of a parallel.
abbrev pub opening : Bool → List ℕ
opening true = 8 ∷ 7 ∷ []
opening false = 7 ∷ []

-- The number j of a communication is made of the two sides' numbers, where the right side has n visible candidates (Numbering).
pub record SplitIs (j n : ℕ) (r : Numbers) : Type 0 where
  pub is : 0 < n → (j ≡ r.left * n + r.right) × (r.right < n)

-- The sides of a communication, whose actions are x's and z's: the side that receives takes the name sent; where that is new, both go beneath a
-- new restriction.
unfoldable pub meeting_plan : List ℕ → Task → ℕ → Numbers → Passed → Passed → Plan
meeting_plan names t middle n x z =
    cond (eqb x.kind 2)
    (record { close = false; middle = middle; left = visibly n.left t; right = sending (get_or names x.object 0) (visibly n.right t) })
    (cond (eqb z.kind 2)
    (record { close = false; middle = middle; left = sending (get_or names z.object 0) (visibly n.left t); right = visibly n.right t })
    (record { close = true; middle = middle; left = closing (visibly n.left t); right = closing (visibly n.right t) }))

-- What is to be written of the two sides, and that the bytes of the whole are those.
pub record Parts (names : List ℕ) (plan : Plan) (body : ℕ → Term) (free D : ℕ) (σ : ℕ → ℕ) (at : ℕ) (P Q : Term) (bs : List ℕ) (top : ℕ) : Type 0 where
  pub middle : plan.middle ≡ at + 1 + length (encode D P)
  pub first : List ℕ
  pub second : List ℕ
  pub left : Asks names plan.left body free D σ P first top
  pub right : Asks names plan.right body free D σ Q second top
  pub bytes : bs ≡ opening plan.close ++ (first ++ second)

pub record PlanIs (question s : List ℕ) (at D : ℕ) (names : List ℕ) (task : Task) (plan : Plan) : Type 0 where
  pub on : at < plan.middle
  pub left_levels : 1 + plan.left.levels ≡ task.levels + length (opening plan.close)
  pub right_levels : 1 + plan.right.levels ≡ task.levels + length (opening plan.close)
  pub left_calls : plan.left.calls ≡ task.calls
  pub right_calls : plan.right.calls ≡ task.calls
  pub is : (q : Question) (free : ℕ) (σ : ℕ → ℕ) (P Q : Term) (rest bs : List ℕ) (top : ℕ)
      → check_of question ≡ result q
      → free ≤ name_count
      → InScope free q.arities D P
      → InScope free q.arities D Q
      → drop (at + 1) s ≡ encode D P ++ (encode D Q ++ rest)
      → Asks names task (body_of q.bodies) free D σ (par P Q) bs top
      → Parts names plan (body_of q.bodies) free D σ at P Q bs top
