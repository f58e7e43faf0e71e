use mathlib.Core.Path.{◌≡◌, sym, ap, ◌∙◌}
use mathlib.Core.List.{map}
use Prim.Native.Nat.{◌<◌}
use native.Mathlib.Omega.{arith}
use lib.ListN.{length, get_or, length-map}
use lib.Seq.{length-sets}
use borrow.Author.Rules.{rules}
use Rattle.terms_bytes.proofs.Stores.{span, length-span, get_d_span, get_d_map, sets_more, run_whole}
use Rattle.terms_bytes.specs.NameTable.{renamed_byte}
use Rattle.terms_renaming.proofs.rename.rename_bytes.Goals as goal

pub bounds-out-put : goal.bounds-out-put
bounds-out-put c = omega (arith, simp length-sets at (ap length c.loop-i.invariant.1))

pub loop-i-preserved : goal.loop-i-preserved
loop-i-preserved c =
    let a = c.args in
    let l = c.loop-i in
    let h : l.i < a.n = search rules in
    let xs = span a.src.now a.at a.n in
    let f = renamed_byte a.inner a.table.now in
    let n : l.i < length xs = omega (arith, length-span a.src.now a.at a.n (search rules)) in
    let e : c.renamed_byte-b.result ≡ get_or (map f xs) l.i 0 = c.renamed_byte-b.ensures ∙ ap f (sym (get_d_span a.src.now a.at a.n l.i
    h)) ∙ sym (get_d_map f xs l.i n) in
    (search rules, rw (l.invariant.1, e) (sets_more a.out.now (map f xs) a.put l.i (rw length-map n)))

pub returns : goal.returns
returns c =
    let a = c.args in
    let l = c.loop-i in
    let xs = map (renamed_byte a.inner a.table.now) (span a.src.now a.at a.n) in
    let n : length xs ≡ a.n = rw length-map (length-span a.src.now a.at a.n (search rules)) in
    run_whole a.out.now xs a.put l.i _ (omega (arith, n)) l.invariant.1
