-- What an operation answers: turned back by a numbered check of document 01, or a result.
use Rattle.std.specs.Prelude.{Bool, true, false, ℕ}

pub data Answer (A : Type 0) : Type 0 where
  refused : ℕ → Answer A
  result : A → Answer A

-- What comes later is looked at only if nothing before it was turned back: this is the checking order.
module _ {A B : Type 0} where
  infixl 10 ◌>>=◌
  infixl 10 ◌>>◌
  unfoldable pub ◌>>=◌ : Answer A → (A → Answer B) → Answer B
  refused k >>= f = refused k
  result a >>= f = f a

  unfoldable pub ◌>>◌ : Answer A → Answer B → Answer B
  refused k >> r = refused k
  result a >> r = r

-- Check k turns back unless the test passes.
unfoldable pub need : ℕ → Bool → Answer (Unit {0})
need k true = result tt
need k false = refused k
