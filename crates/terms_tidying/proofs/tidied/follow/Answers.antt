use Rattle.terms_tidying.proofs.TidiedWalk.{followed_one, followed_two, followed_end, followed_none}
use Rattle.terms_tidying.proofs.tidied.follow.Goals as goal

pub returns-then-subterms-eq1 : goal.returns-then-subterms-eq1
returns-then-subterms-eq1 c = let a = c.args in
    followed_one a.subterms a.depth a.pending a.depths.now c.if-subterms-eq1.true

-- src/tidied.rt:91:9
pub returns-then-subterms-eq2 : goal.returns-then-subterms-eq2
returns-then-subterms-eq2 c = let a = c.args in
    followed_two a.subterms a.depth a.pending a.depths.now c.if-subterms-eq2.true

-- src/tidied.rt:94:9
pub returns-then-pending-eq0 : goal.returns-then-pending-eq0
returns-then-pending-eq0 c =
    let a = c.args in
    followed_end a.subterms a.depth a.pending a.depths.now c.if-subterms-eq1.false c.if-subterms-eq2.false c.if-pending-eq0.true

-- src/tidied.rt:82:1
pub returns : goal.returns
returns c =
    let a = c.args in
    followed_none a.subterms a.depth a.pending a.depths.now c.if-subterms-eq1.false c.if-subterms-eq2.false c.if-pending-eq0.false _
    c.get.ensures
