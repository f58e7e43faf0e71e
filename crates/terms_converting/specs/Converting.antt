-- What the code that copies a term from one edition to the other promises.
use Rattle.std.specs.Prelude.{◌≡◌, Bool, List, [], ◌++◌, map, ℕ, ◌+◌, ◌<◌, ◌≤◌, length, drop}
use Rattle.std.proofs.lemmas.List.Edits.{sets}
use Rattle.calculus.specs.Term.{Term, nil, tau, inp, out, bout, mat, sum, par, res, call}
use Rattle.terms.specs.Encoding.{name_byte, InScope}
use Rattle.terms_bytes.specs.Shape.{fixed_bytes, own_names}
use Rattle.terms.specs.Edition.{Edition, other, count_bytes, encode_in}
use Rattle.terms_bytes.specs.Counted.{edition_from}
use Rattle.terms_converting.specs.declared.term.Copied.{Copied}

-- The number of names that a call's front has in an edition.
unfoldable pub count_of : Edition → Term → List ℕ
count_of e nil = []
count_of e (tau P) = []
count_of e (inp a P) = []
count_of e (out a b P) = []
count_of e (bout a P) = []
count_of e (mat a b P) = []
count_of e (sum P Q) = []
count_of e (par P Q) = []
count_of e (res P) = []
count_of e (call k ns) = count_bytes e (length ns)

-- The front of a term: its first byte, a call's definition and number of names, and its own names.
unfoldable pub front_in : Edition → ℕ → Term → List ℕ
front_in e d P = fixed_bytes P ++ (count_of e P ++ map (name_byte d) (own_names P))

-- `len` bytes are passed and these stored; where they are not there, or there is no room, there is no next front.
pub record RunIs (src : List ℕ) (at len : ℕ) (bytes area : List ℕ) (to : ℕ) (r : Copied) (area' : List ℕ) : Type 0 where
  pub on : 0 < len → at < length src → at < r.at
  pub inside : r.at ≤ length src
  pub is : at + len ≤ length src → to + length bytes ≤ length area → (r.at ≡ at + len) × (r.to ≡ to + length bytes) × (area' ≡ sets area to bytes)

pub record ConvertsFront (src : List ℕ) (at : ℕ) (arities : List ℕ) (counted : Bool) (out : List ℕ) (to : ℕ) (r : Copied) (out' : List ℕ) : Type 0 where
  pub on : at < r.at
  pub inside : r.at ≤ length src
  pub is : (free d : ℕ) (P : Term) (rest : List ℕ) → InScope free arities d P → drop at src ≡ encode_in (edition_from counted) d P ++ rest
      → to + length (encode_in (other (edition_from counted)) d P) ≤ length out
      → (r.at ≡ at + length (front_in (edition_from counted) d P)) × (r.to ≡ to + length (front_in (other (edition_from counted)) d P))
      × (out' ≡ sets out to (front_in (other (edition_from counted)) d P))

pub record ConvertsTerm (src arities : List ℕ) (counted : Bool) (out : List ℕ) (put r : ℕ) (out' : List ℕ) : Type 0 where
  pub is : (free d : ℕ) (P : Term) → InScope free arities d P → src ≡ encode_in (edition_from counted) d P
      → put + length (encode_in (other (edition_from counted)) d P) ≤ length out
      → (r ≡ put + length (encode_in (other (edition_from counted)) d P)) × (out' ≡ sets out put (encode_in (other (edition_from counted)) d P))
