-- Finite control as document 01 checks it: where parallels and calls may stand (checks 10 and 11).
use Rattle.std.specs.Prelude.{Bool, true, false, ◌&&◌}
use Rattle.calculus.specs.Term.{Term, nil, tau, inp, out, bout, mat, sum, par, res, call}

-- Check 10 in a body: parallel occurs nowhere.
unfoldable pub sequential : Term → Bool
sequential nil = true
sequential (tau P) = sequential P
sequential (inp a P) = sequential P
sequential (out a b P) = sequential P
sequential (bout a P) = sequential P
sequential (mat a b P) = sequential P
sequential (sum P Q) = sequential P && sequential Q
sequential (par P Q) = false
sequential (res P) = sequential P
sequential (call k ns) = true

-- Check 10 in a part: parallel occurs beneath nothing but parallels and restrictions.
unfoldable pub parallel_outermost : Term → Bool
parallel_outermost nil = true
parallel_outermost (tau P) = sequential P
parallel_outermost (inp a P) = sequential P
parallel_outermost (out a b P) = sequential P
parallel_outermost (bout a P) = sequential P
parallel_outermost (mat a b P) = sequential P
parallel_outermost (sum P Q) = sequential P && sequential Q
parallel_outermost (par P Q) = parallel_outermost P && parallel_outermost Q
parallel_outermost (res P) = parallel_outermost P
parallel_outermost (call k ns) = true

-- Check 11 in a body: every call is beneath a prefix (01 to 04).
unfoldable pub guarded : Term → Bool
guarded nil = true
guarded (tau P) = true
guarded (inp a P) = true
guarded (out a b P) = true
guarded (bout a P) = true
guarded (mat a b P) = guarded P
guarded (sum P Q) = guarded P && guarded Q
guarded (par P Q) = guarded P && guarded Q
guarded (res P) = guarded P
guarded (call k ns) = false
