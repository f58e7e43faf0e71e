-- Terms in scope: over any rule for what may be called, and their free names.
use mathlib.Core.Path.{◌≡◌, sym, ap, ◌∙◌}
use mathlib.Core.List.{List, [], ◌∷◌}
use mathlib.Core.Logic.{inl, inr}
use Prim.Native.Nat.{ℕ, zero, suc, ◌+◌, ◌<◌}
use native.Mathlib.Nat.{not-suc-le-zero, le_of_suc-le-suc}
use native.Mathlib.Omega.{arith}
use lib.ListN.{length, get_or}
use lib.Dec.{ltb}
use borrow.Author.Tests.{ltb-true, lt-ltb}
use Rattle.calculus.specs.Free.{In, Free}
use Rattle.calculus.specs.Term.{Term, nil, tau, inp, out, bout, mat, sum, par, res, call}
use Rattle.terms.specs.Answer.{result}
use Rattle.terms.specs.Encoding.{NamesInScope, InScope}
use Rattle.terms.specs.Reading.{Callees, numbered}
use Rattle.terms.proofs.Answers.{result_injective, need-result, need-passed}

-- What the walk asks of a term: its names are in scope, and each call has as many names as the rule says.
unfoldable pub InScopeBy : Callees → ℕ → ℕ → Term → Type 0
InScopeBy callees free d nil = Unit {0}
InScopeBy callees free d (tau P) = InScopeBy callees free d P
InScopeBy callees free d (inp a P) = (a < d + free) × InScopeBy callees free (1 + d) P
InScopeBy callees free d (out a b P) = (a < d + free) × (b < d + free) × InScopeBy callees free d P
InScopeBy callees free d (bout a P) = (a < d + free) × InScopeBy callees free (1 + d) P
InScopeBy callees free d (mat a b P) = (a < d + free) × (b < d + free) × InScopeBy callees free d P
InScopeBy callees free d (sum P Q) = InScopeBy callees free d P × InScopeBy callees free d Q
InScopeBy callees free d (par P Q) = InScopeBy callees free d P × InScopeBy callees free d Q
InScopeBy callees free d (res P) = InScopeBy callees free (1 + d) P
InScopeBy callees free d (call k ns) = (callees k ≡ result (length ns)) × NamesInScope free d ns

-- Definitions by their number: the rule of checks 8 and 9.
module _ (arities : List ℕ) (free : ℕ) where
  pub scope_to : (d : ℕ) (P : Term) → InScope free arities d P → InScopeBy (numbered arities) free d P
  unfolding InScope InScopeBy numbered
  scope_to d nil s = tt
  scope_to d (tau P) s = scope_to d P s
  scope_to d (inp a P) s = (s.0, scope_to (1 + d) P s.1)
  scope_to d (out a b P) s = (s.0, s.1, scope_to d P s.2)
  scope_to d (bout a P) s = (s.0, scope_to (1 + d) P s.1)
  scope_to d (mat a b P) s = (s.0, s.1, scope_to d P s.2)
  scope_to d (sum P Q) s = (scope_to d P s.0, scope_to d Q s.1)
  scope_to d (par P Q) s = (scope_to d P s.0, scope_to d Q s.1)
  scope_to d (res P) s = scope_to (1 + d) P s
  scope_to d (call k ns) s =
      (need-passed 8 (ltb k (length arities)) (result (get_or arities k 0)) (lt-ltb k (length arities) s.0) ∙ ap result (sym s.1), s.2)

  pub scope_from : (d : ℕ) (P : Term) → InScopeBy (numbered arities) free d P → InScope free arities d P
  unfolding InScope InScopeBy numbered
  scope_from d nil s = tt
  scope_from d (tau P) s = scope_from d P s
  scope_from d (inp a P) s = (s.0, scope_from (1 + d) P s.1)
  scope_from d (out a b P) s = (s.0, s.1, scope_from d P s.2)
  scope_from d (bout a P) s = (s.0, scope_from (1 + d) P s.1)
  scope_from d (mat a b P) s = (s.0, s.1, scope_from d P s.2)
  scope_from d (sum P Q) s = (scope_from d P s.0, scope_from d Q s.1)
  scope_from d (par P Q) s = (scope_from d P s.0, scope_from d Q s.1)
  scope_from d (res P) s = scope_from (1 + d) P s
  scope_from d (call k ns) s =
      let t = need-result 8 (ltb k (length arities)) (result (get_or arities k 0)) (length ns) s.0 in
      (ltb-true k (length arities) t.0, sym (result_injective t.1), s.1)

names-below : (free d : ℕ) (ns : List ℕ) → NamesInScope free d ns → (n : ℕ) → In n ns → n < d + free
unfolding NamesInScope
names-below free d [] s n x'' = elim x'' [ ]
names-below free d (m ∷ ns) s n (inl e) = rw e s.0
names-below free d (m ∷ ns) s n (inr h) = names-below free d ns s.1 n h

pub free_below : (free : ℕ) (arities : List ℕ) (d : ℕ) (P : Term) → InScope free arities d P → (n : ℕ) → Free n P → n < d + free
unfolding InScope
free_below free ar d nil s n h = elim h [ ]
free_below free ar d (tau P) s n h = free_below free ar d P s n h
free_below free ar d (inp a P) s n (inl e) = rw e s.0
free_below free ar d (inp a P) s n (inr h) = omega (arith, free_below free ar (1 + d) P s.1 (suc n) h)
free_below free ar d (out a b P) s n (inl e) = rw e s.0
free_below free ar d (out a b P) s n (inr (inl e)) = rw e s.1
free_below free ar d (out a b P) s n (inr (inr h)) = free_below free ar d P s.2 n h
free_below free ar d (bout a P) s n (inl e) = rw e s.0
free_below free ar d (bout a P) s n (inr h) = omega (arith, free_below free ar (1 + d) P s.1 (suc n) h)
free_below free ar d (mat a b P) s n (inl e) = rw e s.0
free_below free ar d (mat a b P) s n (inr (inl e)) = rw e s.1
free_below free ar d (mat a b P) s n (inr (inr h)) = free_below free ar d P s.2 n h
free_below free ar d (sum P Q) s n (inl h) = free_below free ar d P s.0 n h
free_below free ar d (sum P Q) s n (inr h) = free_below free ar d Q s.1 n h
free_below free ar d (par P Q) s n (inl h) = free_below free ar d P s.0 n h
free_below free ar d (par P Q) s n (inr h) = free_below free ar d Q s.1 n h
free_below free ar d (res P) s n h = omega (arith, free_below free ar (1 + d) P s (suc n) h)
free_below free ar d (call k ns) s n h = names-below free d ns s.2 n h

-- Each name of a list in scope.
pub name_within : (free d : ℕ) (ns : List ℕ) → NamesInScope free d ns → (j : ℕ) → j < length ns → get_or ns j 0 < d + free
unfolding NamesInScope
name_within free d [] h j l = absurd (not-suc-le-zero l)
name_within free d (n ∷ ns) h zero l = h.0
name_within free d (n ∷ ns) h (suc j) l = name_within free d ns h.1 j (le_of_suc-le-suc l)
