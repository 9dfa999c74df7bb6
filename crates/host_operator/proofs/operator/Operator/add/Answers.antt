use Rattle.host_operator.proofs.operator.Operator.add.Goals as goal

pub returns-clause-adds : goal.returns-clause-adds
returns-clause-adds g c =
    (c.in_ok-wanted.ensures.0, c.in_ok-wanted.wanted.config, c.in_ok-wanted.ensures.1, c.in_ok-wanted.ensures.2, c.in_ok-add_wanted.ensures)
