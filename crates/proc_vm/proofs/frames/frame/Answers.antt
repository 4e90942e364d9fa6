use Rattle.std.proofs.Common.{◌≡◌, ℕ, List, [], ◌∷◌, ◌++◌, length, take, drop, refl, sym, ◌∙◌, ap, arith}
use Rattle.std.proofs.lemmas.List.{length-take-le, take_at, drop_at, append-nil}
use borrow.Rule.Slice.PartMut.{put_mid}
use Rattle.vm_spec.specs.Frames.{frame_bytes}
use Rattle.proc_vm.proofs.frames.frame.Goals as goal

kept : (dat now : List ℕ) → now ≡ dat → length dat ≡ 64 → 36 ≡ length (take 36 now)
kept dat now is h = rw is (sym (length-take-le 36 dat (omega arith)))

-- the four bytes after 36 are written
last_four : (xs ys : List ℕ) → length xs ≡ 36 → put_mid 36 4 (xs ++ 0 ∷ 0 ∷ 0 ∷ 0 ∷ []) ys ≡ xs ++ ys
last_four xs ys h =
    let zeros : List ℕ = 0 ∷ 0 ∷ 0 ∷ 0 ∷ [] in
    let front : drop 36 (xs ++ zeros) ≡ zeros = drop_at xs zeros 36 h in
    ap (λ first. first ++ (ys ++ drop 4 (drop 36 (xs ++ zeros)))) (take_at xs zeros 36 h)
    ∙ ap (λ last. xs ++ (ys ++ drop 4 last)) front
    ∙ ap (λ rest. xs ++ rest) (append-nil ys)

pub slice_bounds-copy_from_slice-end-2 : goal.slice_bounds-copy_from_slice-end-2
slice_bounds-copy_from_slice-end-2 c = kept _ _ c.as_slice.ensures c.requires

pub copy_from_slice-requires : goal.copy_from_slice-requires
copy_from_slice-requires c = kept _ _ c.as_slice.ensures c.requires

pub returns : goal.returns
unfolding frame_bytes
returns c =
    last_four c.copy_from_slice.new.self c.copy_from_slice-2.new.self c.copy_from_slice.ensures.len
    ∙ rw (
      c.copy_from_slice.ensures.after,
      c.copy_from_slice-2.ensures.after,
      c.as_slice.ensures,
      c.to_le_bytes.ensures,
    ) refl
