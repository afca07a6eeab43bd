use Rattle.generated.proofs.making.add_unit.Goals as goal

pub returns-clause-file : goal.returns-clause-file
returns-clause-file c =
    let added = c.in_ok-add.ensures.ok in
    rw (c.as_str.ensures.value, c.in_ok-path.ensures.ok, c.as_bytes.ensures.value, c.in_ok-text.ensures.ok) at added
