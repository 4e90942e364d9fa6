use Rattle.std.proofs.Common.{◌≡◌, ℕ, ◌<◌, false, length, get_or}
use Rattle.win32_spec.specs.Placing.{is_taken}
use Rattle.w32_kinds.proofs.placements.Placements.taken_pages.Given as goal

abbrev pub invariant-loop-page : goal.invariant-loop-page
invariant-loop-page l =
    (length l.taken ≡ 1024) × ((k : ℕ) → k < l.page → get_or l.taken k false ≡ is_taken l.script l.creation l.self k)
