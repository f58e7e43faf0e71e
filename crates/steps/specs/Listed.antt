-- A step as it is listed (document 01, "Steps"), and rule Canon for a raw step.
use Rattle.std.specs.Prelude.{Bool, true, ◌&&◌, List, [], ◌∷◌, ◌++◌, map, ℕ, zero, suc, ◌-◌, eqb, length, get_or, replicate}
use Rattle.calculus.specs.Abstraction.{Act, tau_a, inp_a, out_a, bout_a}
use Rattle.calculus.specs.Term.{Term, ren, ◌•◌}
use Rattle.calculus.specs.Cond.{Cond, cls}
use Rattle.calculus.specs.Published.{Action, silent, input, output, new_output}
use Rattle.terms.specs.Encoding.{encode}

-- The condition by the class of each name, the action by its kind (0 silent, 1 input, 2 free output, 3 new-name output), channel and object
-- (both 0 where silent), and the result.
pub record ListedStep : Type 0 where
  pub classes : List ℕ
  pub kind : ℕ
  pub channel : ℕ
  pub object : ℕ
  pub result : Term

-- the names from n on, as many as the second says
unfoldable pub names_from : ℕ → ℕ → List ℕ
names_from n zero = []
names_from n (suc k) = n ∷ names_from (suc n) k

-- each class is written by its smallest name
unfoldable pub classes_of : ℕ → Cond → List ℕ
classes_of names M = map (cls M) (names_from 0 names)

-- the class of a name, read from such a list; other names are alone in theirs
unfoldable pub class_in : List ℕ → ℕ → ℕ
class_in classes n = get_or classes n n

-- the condition with the classes c implies that with the classes d, over the names ns
unfoldable pub implies : List ℕ → List ℕ → List ℕ → Bool
implies c d [] = true
implies c d (n ∷ ns) = eqb (class_in c (class_in d n)) (class_in c n) && implies c d ns

-- the condition with the classes c is trivial, over the names ns: each is its own class
unfoldable pub own_classes : List ℕ → List ℕ → Bool
own_classes c [] = true
own_classes c (n ∷ ns) = eqb (class_in c n) n && own_classes c ns

-- the action's bytes
unfoldable pub kind_of : Action → ℕ
kind_of silent = 0
kind_of (input a x) = 1
kind_of (output a b) = 2
kind_of (new_output a x) = 3

unfoldable pub channel_of : Action → ℕ
channel_of silent = 0
channel_of (input a x) = a
channel_of (output a b) = a
channel_of (new_output a x) = a

unfoldable pub object_of : Action → ℕ
object_of silent = 0
object_of (input a x) = x
object_of (output a b) = b
object_of (new_output a x) = x

-- A transition (M, α) to P, which rule Canon derives, as it is listed.
unfoldable pub listed_as : ℕ → Cond → Action → Term → ListedStep
listed_as names M α P =
    record { classes = classes_of names M; kind = kind_of α; channel = channel_of α; object = object_of α; result = P }

-- Rule Canon for a raw step: action and result are rewritten by the condition, and the result has its form. The name received or extruded is x.
unfoldable pub canon_step : (Term → Term) → ℕ → ℕ → Cond → Act → Term → ListedStep
canon_step form names x M tau_a P = listed_as names M silent (form (ren (cls M) P))
canon_step form names x M (inp_a a) P = listed_as names M (input (cls M a) x) (form (ren (x • cls M) P))
canon_step form names x M (out_a a b) P = listed_as names M (output (cls M a) (cls M b)) (form (ren (cls M) P))
canon_step form names x M (bout_a a) P = listed_as names M (new_output (cls M a) x) (form (ren (x • cls M) P))

-- Its bytes: classes, kind, channel, object, length of the result, the result filled with 0 to `longest` bytes.
unfoldable pub result_bytes : ListedStep → List ℕ
result_bytes s = encode 0 s.result

unfoldable pub bytes : ℕ → ListedStep → List ℕ
bytes longest s =
    let r = result_bytes s in
    s.classes ++ (s.kind ∷ s.channel ∷ s.object ∷ length r ∷ (r ++ replicate (longest - length r) 0))
