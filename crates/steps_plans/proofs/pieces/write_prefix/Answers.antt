use Rattle.steps_plans.proofs.ResultLaws.{ends_tallied}
use mathlib.Core.Path.{sym, ◌∙◌}
use Prim.Native.Nat.{◌+◌}
use native.Mathlib.Omega.{arith}
use borrow.Author.Rules.{rules}
use Rattle.steps_conditions.proofs.NameSlots.{kept-all, kept_within}
use Rattle.steps_plans.proofs.AskLaws.{write-tau, write-out, write_bound}
use Rattle.steps_plans.proofs.pieces.write_prefix.Goals as goal

pub write_term-requires : goal.write_term-requires
write_term-requires c =
    let v = c.args in let g =
    c.requires in (
      search rules,
      g.5,
      ends_tallied v.question.now
          v.src.now v.task.calls v.tally.now g.6,
      g.4,
    )

pub returns-then-t-eq-SILENT : goal.returns-then-t-eq-SILENT
returns-then-t-eq-SILENT c =
    let a = c.args in (
      write-tau a.question.now a.src.now a.cursor.at a.cursor.binders a.names.now a.task a.out.now a.cursor.put
          c.write_term.result _ c.requires.3 (sym c.get-t.ensures ∙ c.if-t-eq-SILENT.true) c.write_term.ensures,
      kept-all a.cursor.binders
          a.names.now,
    )

pub write_term-requires-then-t-eq-OUTPUT : goal.write_term-requires-then-t-eq-OUTPUT
write_term-requires-then-t-eq-OUTPUT c =
    let v = c.args in let g =
    c.requires in (
      search rules,
      g.5,
      ends_tallied v.question.now
          v.src.now v.task.calls v.tally.now g.6,
      g.4,
    )

pub returns-then-t-eq-OUTPUT : goal.returns-then-t-eq-OUTPUT
returns-then-t-eq-OUTPUT c =
    let a = c.args in (
      write-out a.question.now a.src.now a.cursor.at a.cursor.binders a.names.now a.task a.out.now a.cursor.put
          c.write_term-then-t-eq-OUTPUT.result _ c.requires.3 (sym c.get-t.ensures ∙ c.if-t-eq-OUTPUT.true) c.write_term-then-t-eq-OUTPUT.ensures,
      kept-all a.cursor.binders
          a.names.now,
    )

pub write_term-requires-2 : goal.write_term-requires-2
write_term-requires-2 c =
    let v = c.args in (
      search rules,
      c.requires.5,
      ends_tallied v.question.now v.src.now
          v.task.calls v.tally.now c.requires.6,
      search rules,
    )

pub returns : goal.returns
returns c =
    let a = c.args in (
      write_bound a.question.now a.src.now a.cursor.at a.cursor.binders a.names.now a.task a.out.now a.cursor.put
          c.write_term-2.result _ c.requires.3 (omega (arith, c.requires.2, c.requires.4)) c.write_term-2.ensures c.requires.1 (λ e. c.if-t-eq-SILENT.false
          (c.get-t.ensures ∙ e)) (λ e. c.if-t-eq-OUTPUT.false (c.get-t.ensures ∙ e)),
      kept_within a.cursor.binders a.task.new a.names.now _ (kept-all
          (a.cursor.binders + 1) _),
    )
