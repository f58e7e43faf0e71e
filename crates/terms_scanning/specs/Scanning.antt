-- The grammar walk over bytes at positions, said by reading (specs/Reading): what it answers of a term, of the front of a term and of names.
use Rattle.std.specs.Prelude.{◌≡◌, Bool, true, false, cond, ◌&&◌, ◌||◌, List, ℕ, ◌+◌, ◌-◌, ◌≤◌, max, length, drop, ltb, leb, eqb, Result, Ok, Err}
use Rattle.calculus.specs.Term.{Term}
use Rattle.terms.specs.Answer.{Answer, refused, result, ◌>>=◌, ◌>>◌, need}
use Rattle.terms.specs.Edition.{Edition}
use Rattle.terms.specs.Grammar.{sequential, parallel_outermost, guarded}
use Rattle.terms.specs.Reading.{byte, read_names, numbered, read_count, read_term, read_whole}
use Rattle.terms_bytes.specs.Refusals.{number_of}
use Rattle.terms_bytes.specs.Shape.{names_at}
use Rattle.terms_bytes.specs.declared.answer.Refusal.{Refusal}
use Rattle.terms_scanning.specs.declared.scan.Control.{Control}

-- Check 9 of one byte.
unfoldable pub name_allowed : ℕ → ℕ → ℕ → Bool
name_allowed free d b = ltb b free || (leb 128 b && ltb (b - 128) d)

-- The bytes behind n names.
unfoldable pub behind_names : ℕ → ℕ → ℕ → List ℕ → Answer (List ℕ)
behind_names free d n bs = do
  (ns, rest) ← read_names free d n bs
  result rest

-- The bytes behind the front of a term: its first byte, a call's numbers and its own names.
unfoldable pub behind_call : Edition → ℕ → List ℕ → ℕ → List ℕ → Answer (List ℕ)
behind_call e free arities d bs = do
  (k, bs) ← byte bs
  m ← numbered arities k
  bs ← read_count e m bs
  behind_names free d m bs

unfoldable pub behind_front : Edition → ℕ → List ℕ → ℕ → List ℕ → Answer (List ℕ)
behind_front e free arities d bs = do
  (t, bs) ← byte bs
  need 7 (leb t 9)
  cond (eqb t 9) (behind_call e free arities d bs) (behind_names free d (names_at arities t 0) bs)

-- The paper's number, or the bytes from the position answered on.
unfoldable pub front_answer : List ℕ → Result ℕ Refusal → Answer (List ℕ)
front_answer s (Ok e) = result (drop e s)
front_answer s (Err k) = refused (number_of k)

unfoldable pub NextWithin : ℕ → ℕ → Result ℕ Refusal → Type 0
NextWithin low high (Ok e) = (low ≤ e) × (e ≤ high)
NextWithin low high (Err k) = Unit {0}

pub record NamesIs (free d n : ℕ) (s : List ℕ) (at : ℕ) (r : Result ℕ Refusal) : Type 0 where
  pub is : behind_names free d n (drop at s) ≡ front_answer s r
  pub within : NextWithin at (max at (length s)) r

pub record CallIs (e : Edition) (free : ℕ) (arities : List ℕ) (d : ℕ) (s : List ℕ) (at : ℕ) (r : Result ℕ Refusal) : Type 0 where
  pub is : behind_call e free arities d (drop at s) ≡ front_answer s r
  pub within : NextWithin at (max at (length s)) r

pub record FrontIs (e : Edition) (free : ℕ) (arities : List ℕ) (d : ℕ) (s : List ℕ) (at : ℕ) (r : Result ℕ Refusal) : Type 0 where
  pub is : behind_front e free arities d (drop at s) ≡ front_answer s r
  pub within : NextWithin (at + 1) (length s) r

-- What checks 10 and 11 ask of a term, gathered while it is read.
unfoldable pub control_of : Term → Control
control_of P = record { sequential = sequential P; outermost = parallel_outermost P; guarded = guarded P }

-- A subterm that is not there passes every test.
unfoldable pub passing : Control
passing = record { sequential = true; outermost = true; guarded = true }

-- The tests of a term from its first byte and the tests of its subterms.
unfoldable pub combined : ℕ → Control → Control → Control
combined t p q =
    record {
      sequential = cond (eqb t 7) false (p.sequential && q.sequential);
      outermost = cond (eqb t 7 || eqb t 8) (p.outermost && q.outermost) (p.sequential && q.sequential);
      guarded = cond (leb 1 t && leb t 4) true (cond (eqb t 9) false (p.guarded && q.guarded));
    }

-- A term read, and the bytes behind it.
unfoldable pub scanned : Edition → ℕ → List ℕ → ℕ → ℕ → List ℕ → Answer (Control × List ℕ)
scanned e free arities n d bs = do
  (P, rest) ← read_term e (numbered arities) free n d bs
  result (control_of P, rest)

unfoldable pub scan_answer : List ℕ → Result (ℕ × Control) Refusal → Answer (Control × List ℕ)
scan_answer s (Ok (e, c)) = result (c, drop e s)
scan_answer s (Err k) = refused (number_of k)

unfoldable pub EndWithin : ℕ → ℕ → Result (ℕ × Control) Refusal → Type 0
EndWithin low high (Ok (e, c)) = (low ≤ e) × (e ≤ high)
EndWithin low high (Err k) = Unit {0}

-- Any n that is at least the number of bytes left will do for reading.
pub record ScanIs (e : Edition) (free : ℕ) (arities : List ℕ) (d : ℕ) (s : List ℕ) (at : ℕ) (r : Result (ℕ × Control) Refusal) : Type 0 where
  pub is : (n : ℕ) → length s ≤ at + n → scanned e free arities n d (drop at s) ≡ scan_answer s r
  pub within : EndWithin (at + 1) (length s) r

-- A whole body or part.
unfoldable pub scanned_whole : Edition → ℕ → List ℕ → ℕ → List ℕ → Answer Control
scanned_whole e free arities d bs = do
  P ← read_whole e (numbered arities) free d bs
  result (control_of P)

unfoldable pub whole_answer : Result Control Refusal → Answer Control
whole_answer (Ok c) = result c
whole_answer (Err k) = refused (number_of k)
