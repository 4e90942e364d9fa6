use Rattle.w32_memory.proofs.regions.open_own.Goals as goal

pub returns : goal.returns
returns c =
    cc (
      c.in_ok-zeros.ensures,
      c.in_ok-zeros-2.ensures,
      c.in_ok-zeros-3.ensures,
      c.in_ok-zeros-4.ensures,
      c.in_ok-zeros-5.ensures,
    )
