use Rattle.std.proofs.Common.{◌≡◌, ℕ, ◌≤◌, List, length, take, sym, arith}
use Rattle.std.proofs.lemmas.List.{length-take-le}
use Rattle.cygheap_image.proofs.copies.copied.Goals as goal

whole : (scratch now : List ℕ) → now ≡ scratch → 288 ≤ length scratch → 288 ≡ length (take 288 now)
whole scratch now is h = rw is (sym (length-take-le 288 scratch h))

pub slice_bounds-copy_from_slice-end-2 : goal.slice_bounds-copy_from_slice-end-2
slice_bounds-copy_from_slice-end-2 c = whole _ _ c.as_slice.ensures c.requires

pub copy_from_slice-requires : goal.copy_from_slice-requires
copy_from_slice-requires c = whole _ _ c.as_slice.ensures c.requires
