use Rattle.steps_labels.proofs.label.nth_prefix.Goals as goal

pub returns : goal.returns
returns c =
    rw (
      c.prefix_action.ensures,
      c.slot-a.ensures,
      c.slot-b.ensures,
      c.get-t.ensures,
      c.get.ensures,
      c.get-2.ensures,
    ) at c.found.ensures
