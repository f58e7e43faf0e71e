-- The shape of a term: the bytes at its front, which are its first byte, a call's number and its own names, and then its subterms.
use Rattle.std.specs.Prelude.{◌≡◌, cond, List, [], ◌∷◌, ◌++◌, map, ℕ, ◌+◌, ◌<◌, ◌≤◌, max, get_or, eqb}
use Rattle.calculus.specs.Term.{Term, nil, tau, inp, out, bout, mat, sum, par, res, call}
use Rattle.terms.specs.Encoding.{name_byte}
use Rattle.terms_bytes.specs.declared.shape.Shape.{Shape}

-- The bytes that no renaming changes.
unfoldable pub fixed_bytes : Term → List ℕ
fixed_bytes nil = 0 ∷ []
fixed_bytes (tau P) = 1 ∷ []
fixed_bytes (inp a P) = 2 ∷ []
fixed_bytes (out a b P) = 3 ∷ []
fixed_bytes (bout a P) = 4 ∷ []
fixed_bytes (mat a b P) = 5 ∷ []
fixed_bytes (sum P Q) = 6 ∷ []
fixed_bytes (par P Q) = 7 ∷ []
fixed_bytes (res P) = 8 ∷ []
fixed_bytes (call k ns) = 9 ∷ k ∷ []

-- The names that stand before the subterms.
unfoldable pub own_names : Term → List ℕ
own_names nil = []
own_names (tau P) = []
own_names (inp a P) = a ∷ []
own_names (out a b P) = a ∷ b ∷ []
own_names (bout a P) = a ∷ []
own_names (mat a b P) = a ∷ b ∷ []
own_names (sum P Q) = []
own_names (par P Q) = []
own_names (res P) = []
own_names (call k ns) = ns

-- How many binders stand before the subterms.
unfoldable pub binders : Term → ℕ
binders nil = 0
binders (tau P) = 0
binders (inp a P) = 1
binders (out a b P) = 0
binders (bout a P) = 1
binders (mat a b P) = 0
binders (sum P Q) = 0
binders (par P Q) = 0
binders (res P) = 1
binders (call k ns) = 0

unfoldable pub subterms : Term → List Term
subterms nil = []
subterms (tau P) = P ∷ []
subterms (inp a P) = P ∷ []
subterms (out a b P) = P ∷ []
subterms (bout a P) = P ∷ []
subterms (mat a b P) = P ∷ []
subterms (sum P Q) = P ∷ Q ∷ []
subterms (par P Q) = P ∷ Q ∷ []
subterms (res P) = P ∷ []
subterms (call k ns) = []

-- How many binders stand one within the other.
unfoldable pub height : Term → ℕ
height nil = 0
height (tau P) = height P
height (inp a P) = 1 + height P
height (out a b P) = height P
height (bout a P) = 1 + height P
height (mat a b P) = height P
height (sum P Q) = max (height P) (height Q)
height (par P Q) = max (height P) (height Q)
height (res P) = 1 + height P
height (call k ns) = 0

unfoldable pub front_bytes : ℕ → Term → List ℕ
front_bytes d P = fixed_bytes P ++ map (name_byte d) (own_names P)

-- The same read off the first byte t and, of a call, the byte k behind it. A byte that begins no term has no names and no subterms.
unfoldable pub fixed_at : ℕ → ℕ
fixed_at t = cond (eqb t 9) 2 1

abbrev pub names_behind : ℕ → ℕ
names_behind t = get_or (0 ∷ 0 ∷ 1 ∷ 2 ∷ 1 ∷ 2 ∷ 0 ∷ 0 ∷ 0 ∷ []) t 0

unfoldable pub names_at : List ℕ → ℕ → ℕ → ℕ
names_at arities t k = cond (eqb t 9) (get_or arities k 0) (names_behind t)

unfoldable pub binders_at : ℕ → ℕ
binders_at t = get_or (0 ∷ 0 ∷ 1 ∷ 0 ∷ 1 ∷ 0 ∷ 0 ∷ 0 ∷ 1 ∷ []) t 0

unfoldable pub subterms_at : ℕ → ℕ
subterms_at t = get_or (0 ∷ 1 ∷ 1 ∷ 1 ∷ 1 ∷ 1 ∷ 2 ∷ 2 ∷ 1 ∷ []) t 0

-- The shape of what begins at `at`, and bounds that hold of any.
pub record ShapeIs (s : List ℕ) (at : ℕ) (arities : List ℕ) (h : Shape) : Type 0 where
  pub fixed : h.fixed ≡ fixed_at (get_or s at 0)
  pub names : h.names ≡ names_at arities (get_or s at 0) (get_or s (at + 1) 0)
  pub binds : h.binds ≡ binders_at (get_or s at 0)
  pub subterms : h.subterms ≡ subterms_at (get_or s at 0)
  pub some : 0 < h.fixed
  pub few : h.fixed + h.names < 512
  pub one : h.binds ≤ 1
