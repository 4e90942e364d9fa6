-- The bytes of the first pages of modules.
use Rattle.std.proofs.Common.{◌≡◌, ◌∙◌, ℕ, ◌+◌, ◌/◌, ◌%◌, ◌<◌, List, [], ◌∷◌, ◌++◌, length, take, slice_index_or, refl, ap}
use Rattle.std.proofs.lemmas.List.{take_more}
use Rattle.win32_spec.specs.Opening.{base_bytes}
use Rattle.w32_kinds.specs.declared.placements.Placement.{Placement}
use Rattle.w32_kinds.specs.Placed.{placed_of}

-- the bytes of one module more
bytes-of : (placed : List Placement) (m : Placement)
    → base_bytes (placed_of (placed ++ m ∷ [])) ≡ base_bytes (placed_of placed) ++ m.base % 256 ∷ m.base / 256 ∷ []
bytes-of [] m = refl
bytes-of (p ∷ ps) m = ap (λ (xs : List ℕ). p.base % 256 ∷ p.base / 256 ∷ xs) (bytes-of ps m)

pub bytes-next : (placed : List Placement) (k : ℕ) (d : Placement) → k < length placed
    → base_bytes (placed_of (take (k + 1) placed))
    ≡ base_bytes (placed_of (take k placed))
    ++ (slice_index_or placed k d).base % 256 ∷ (slice_index_or placed k d).base / 256 ∷ []
bytes-next placed k d l =
    ap (λ ps. base_bytes (placed_of ps)) (take_more placed k d l) ∙ bytes-of (take k placed) (slice_index_or placed k d)
