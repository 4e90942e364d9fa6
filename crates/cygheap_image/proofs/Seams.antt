-- A piece that is written over another one of its length, and four bytes that are taken out.
use Rattle.std.specs.Prelude.{◌≡◌, ℕ, zero, suc, ◌+◌, ◌-◌, ◌*◌, ◌≤◌, ◌<◌, List, [], ◌∷◌, ◌++◌, length, flat_map}
use Rattle.std.specs.Prelude.{replicate, take, drop}
use Rattle.std.specs.List.{remove}
use Rattle.std.proofs.Common.{refl, sym, ◌∙◌, ap, arith, set, append_assoc, length-append, length-take, length-drop}
use Rattle.std.proofs.lemmas.List.{take_at, drop_at, take_all, drop_all, append-nil, length-take-le, drop-drop}
use borrow.Rule.Slice.PartMut.{put_mid}
use Rattle.cygheap_image.specs.Pieces.{with_piece, without_four}

pub with_piece-seam : (before old new after : List ℕ) (place : ℕ) → length before ≡ place → length new ≡ length old
    → with_piece (before ++ (old ++ after)) place new ≡ before ++ (new ++ after)
unfolding with_piece
with_piece-seam before old new after place at size =
    let front : take place (before ++ (old ++ after)) ≡ before = take_at before (old ++ after) place at in
    let end : length (before ++ old) ≡ place + length new = omega (arith, length-append before old) in
    let back : drop (place + length new) (before ++ (old ++ after)) ≡ after
    = ap (drop (place + length new)) (sym (append_assoc before old after))
    ∙ drop_at (before ++ old) after (place + length new) end in
    ap (λ x. x ++ (new ++ drop (place + length new) (before ++ (old ++ after)))) front
    ∙ ap (λ x. before ++ (new ++ x)) back

-- the number of bytes stays
pub length-with_piece : (bytes : List ℕ) (place : ℕ) (piece : List ℕ) → place + length piece ≤ length bytes
    → length (with_piece bytes place piece) ≡ length bytes
unfolding with_piece
length-with_piece bytes place piece within = simp (length-append, length-take, length-drop) (omega arith)

-- the bytes of one element of many
pub with_piece-element : {X : Type 0} (size : ℕ) (encode : X → List ℕ) (sized : (x : X) → length (encode x) ≡ size)
    (xs : List X) (k : ℕ) (x : X) (before after : List ℕ) (place : ℕ)
    → k < length xs → length before + size * k ≡ place
    → with_piece (before ++ (flat_map encode xs ++ after)) place (encode x)
    ≡ before ++ (flat_map encode (set xs k x) ++ after)
with_piece-element size encode sized [] k x before after place within at = absurd (omega arith)
with_piece-element size encode sized (y ∷ ys) zero x before after place within at =
    let here : length before ≡ place = omega arith in
    ap (λ z. with_piece (before ++ z) place (encode x)) (append_assoc (encode y) (flat_map encode ys) after)
    ∙ with_piece-seam before (encode y) (encode x) (flat_map encode ys ++ after) place here
    (sized x ∙ sym (sized y))
    ∙ ap (λ z. before ++ z) (sym (append_assoc (encode x) (flat_map encode ys) after))
with_piece-element size encode sized (y ∷ ys) (suc k) x before after place within at =
    let further : length (before ++ encode y) + size * k ≡ place
    = omega (arith, length-append before (encode y), sized y) in
    let inside : k < length ys = omega arith in
    let split = λ (zs : List ℕ). ap (λ z. before ++ z) (append_assoc (encode y) zs after)
    ∙ sym (append_assoc before (encode y) (zs ++ after)) in
    ap (λ z. with_piece z place (encode x)) (split (flat_map encode ys))
    ∙ with_piece-element size encode sized ys k x (before ++ encode y) after place inside further
    ∙ sym (split (flat_map encode (set ys k x)))

pub without_four-seam : (before old after : List ℕ) (place : ℕ) → length before ≡ place → length old ≡ 4
    → without_four (before ++ (old ++ after)) place ≡ before ++ (after ++ replicate 4 0)
unfolding without_four
without_four-seam before old after place at size =
    let front : take place (before ++ (old ++ after)) ≡ before = take_at before (old ++ after) place at in
    let end : length (before ++ old) ≡ place + 4 = omega (arith, length-append before old) in
    let back : drop (place + 4) (before ++ (old ++ after)) ≡ after
    = ap (drop (place + 4)) (sym (append_assoc before old after)) ∙ drop_at (before ++ old) after (place + 4) end in
    ap (λ x. x ++ (drop (place + 4) (before ++ (old ++ after)) ++ replicate 4 0)) front
    ∙ ap (λ x. before ++ (x ++ replicate 4 0)) back

-- one element of many, each of four bytes, is taken out
pub without_four-element : {X : Type 0} (encode : X → List ℕ) (sized : (x : X) → length (encode x) ≡ 4)
    (xs : List X) (k : ℕ) (before after : List ℕ) (place : ℕ) → k < length xs → length before + 4 * k ≡ place
    → without_four (before ++ (flat_map encode xs ++ after)) place
    ≡ before ++ (flat_map encode (remove xs k) ++ (after ++ replicate 4 0))
without_four-element encode sized [] k before after place within at = absurd (omega arith)
without_four-element encode sized (y ∷ ys) zero before after place within at =
    let here : length before ≡ place = omega arith in
    ap (λ z. without_four (before ++ z) place) (append_assoc (encode y) (flat_map encode ys) after)
    ∙ without_four-seam before (encode y) (flat_map encode ys ++ after) place here (sized y)
    ∙ ap (λ z. before ++ z) (append_assoc (flat_map encode ys) after (replicate 4 0))
without_four-element encode sized (y ∷ ys) (suc k) before after place within at =
    let further : length (before ++ encode y) + 4 * k ≡ place
    = omega (arith, length-append before (encode y), sized y) in
    let inside : k < length ys = omega arith in
    let split = λ (zs : List ℕ) (end : List ℕ). ap (λ z. before ++ z) (append_assoc (encode y) zs end)
    ∙ sym (append_assoc before (encode y) (zs ++ end)) in
    ap (λ z. without_four z place) (split (flat_map encode ys) after)
    ∙ without_four-element encode sized ys k (before ++ encode y) after place inside further
    ∙ sym (split (flat_map encode (remove ys k)) (after ++ replicate 4 0))

pub length-without_four : (bytes : List ℕ) (place : ℕ) → place + 4 ≤ length bytes
    → length (without_four bytes place) ≡ length bytes
unfolding without_four
length-without_four bytes place within = simp (length-append, length-take, length-drop) (omega arith)

-- a part that was written
pub with_piece-part : (bytes : List ℕ) (place k : ℕ) (piece part : List ℕ) → k ≡ length piece → part ≡ piece
    → put_mid place k bytes part ≡ with_piece bytes place piece
unfolding with_piece
with_piece-part bytes place k piece part size is =
    ap (λ x. take place bytes ++ (x ++ drop k (drop place bytes))) is
    ∙ ap (λ x. take place bytes ++ (piece ++ x)) (drop-drop k place bytes ∙ ap (λ n. drop (place + n) bytes) size)

-- zeros over four bytes, which then go behind all that follows
pub without_four-rotated : (bytes now : List ℕ) (place : ℕ) (turned : List ℕ) → place + 4 ≤ length bytes
    → now ≡ with_piece bytes place (replicate 4 0)
    → turned ≡ drop 4 (take (length now - place) (drop place now))
    ++ take 4 (take (length now - place) (drop place now))
    → put_mid place (length now - place) now turned ≡ without_four bytes place
unfolding with_piece without_four
without_four-rotated bytes now place turned within is turn =
    let zeros : List ℕ = replicate 4 0 in
    let front : List ℕ = take place bytes in
    let back : List ℕ = drop (place + 4) bytes in
    let at : length front ≡ place = length-take-le place bytes (omega arith) in
    let behind : length back ≡ length bytes - (place + 4) = length-drop (place + 4) bytes in
    let sum : length now ≡ length bytes
    = ap length is ∙ omega (arith, length-append front (zeros ++ back), length-append zeros back) in
    let rest : drop place now ≡ zeros ++ back = ap (drop place) is ∙ drop_at front (zeros ++ back) place at in
    let all : length (zeros ++ back) ≤ length now - place = omega (arith, length-append zeros back) in
    let whole : take (length now - place) (drop place now) ≡ zeros ++ back
    = ap (take (length now - place)) rest ∙ take_all (length now - place) (zeros ++ back) all in
    let end : drop (length now - place) (drop place now) ≡ []
    = ap (drop (length now - place)) rest ∙ drop_all (length now - place) (zeros ++ back) all in
    let moved : turned ≡ back ++ zeros = turn ∙ ap (λ x. drop 4 x ++ take 4 x) whole in
    let first : take place now ≡ front = ap (take place) is ∙ take_at front (zeros ++ back) place at in
    ap (λ x. x ++ (turned ++ drop (length now - place) (drop place now))) first
    ∙ ap (λ x. front ++ (turned ++ x)) end
    ∙ ap (λ x. front ++ x) (append-nil turned ∙ moved)
