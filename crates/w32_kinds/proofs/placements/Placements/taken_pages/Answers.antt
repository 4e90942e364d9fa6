use Rattle.std.proofs.Common.{false, rules}
use Rattle.std.proofs.lemmas.List.FromFn.{fill_by_all}
use Rattle.win32_spec.specs.Placing.{is_taken, taken_pages}
use Rattle.w32_kinds.proofs.placements.Placements.taken_pages.Goals as goal

pub returns : goal.returns
unfolding taken_pages
returns c =
    fill_by_all (is_taken c.args.script.now c.args.creation c.args.self.now) c.loop-page.taken 1024 false
    c.loop-page.invariant.0 (search rules)
