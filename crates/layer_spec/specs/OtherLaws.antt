-- The group word and the exit word of a row, and their records, are each other's inverse.
use Rattle.std.specs.Prelude.{◌≡◌, ℕ, ◌+◌, ◌*◌, ◌^◌, ◌<◌, Bool, Some}
use Rattle.std.proofs.Common.{refl, ◌∙◌, ap, arith}
use Rattle.std.proofs.lemmas.Bool.Decides.{nat_tests}
use Rattle.layer_spec.specs.Inverse.{AreInverse, inverse_from, told_at, told_from}
use Rattle.layer_spec.specs.Rows.{GroupWord, ExitWord, bit_of, group_word_of, exit_word_of, is_group, is_exit, IsGroup}
use Rattle.layer_spec.specs.Rows.{IsExit}
use Rattle.layer_spec.specs.Decoding.{group_fields, exit_fields, if_group, if_exit, group_of, exit_of}
use Rattle.layer_spec.specs.RowLaws.{field_at, bit_below, bit_back}

pub group_fields_back : (parent group session : ℕ) (terminal : Bool) (w : ℕ) → parent < 2 ^ 12 → group < 2 ^ 12
    → session < 2 ^ 12
    → w ≡ parent + group * 2 ^ 12 + session * 2 ^ 24 + bit_of terminal * 2 ^ 36
    → group_fields w ≡ record { parent = parent; group = group; session = session; terminal = terminal }
group_fields_back parent group session terminal w p g s e =
    let bit = bit_below terminal in
    let parent_is = field_at 0 12 0 parent (group + session * 2 ^ 12 + bit_of terminal * 2 ^ 24) w
    (omega arith) p (omega arith) in
    let group_is = field_at 12 12 parent group (session + bit_of terminal * 2 ^ 12) w p g (omega arith) in
    let session_is = field_at 24 12 (parent + group * 2 ^ 12) session (bit_of terminal) w
    (omega arith) s (omega arith) in
    let terminal_is = field_at 36 1 (parent + group * 2 ^ 12 + session * 2 ^ 24) (bit_of terminal) 0 w
    (omega arith) bit (omega arith) in
    rw (parent_is, group_is, session_is, terminal_is, bit_back terminal) refl

pub group_ranges : (g : GroupWord) → IsGroup g → (g.parent < 2 ^ 12) × (g.group < 2 ^ 12) × (g.session < 2 ^ 12)
group_ranges g h = grind (arith, nat_tests)

pub group_of_word : (g : GroupWord) → IsGroup g → group_of (group_word_of g) ≡ Some g
group_of_word g h =
    let w : ℕ = group_word_of g in
    let ranges = group_ranges g h in
    ap (if_group w) (group_fields_back g.parent g.group g.session g.terminal w ranges.0 ranges.1 ranges.2 refl)
    ∙ told_at is_group group_word_of w g h refl

pub group_words : AreInverse IsGroup group_word_of group_of
group_words =
    inverse_from IsGroup group_word_of group_of group_of_word
    (λ w g h. told_from is_group group_word_of w (group_fields w) g h)

pub group_word_below : (g : GroupWord) → IsGroup g → group_word_of g < 2 ^ 37
group_word_below g h = let ranges = group_ranges g h in omega (arith, bit_below g.terminal)

pub exit_fields_back : (status image : ℕ) (fault : Bool) (w : ℕ) → status < 2 ^ 9 → image < 2 ^ 19
    → w ≡ status + image * 2 ^ 9 + bit_of fault * 2 ^ 28
    → exit_fields w ≡ record { status = status; image = image; fault = fault }
exit_fields_back status image fault w s i e =
    let bit = bit_below fault in
    let status_is = field_at 0 9 0 status (image + bit_of fault * 2 ^ 19) w (omega arith) s (omega arith) in
    let image_is = field_at 9 19 status image (bit_of fault) w s i (omega arith) in
    let fault_is = field_at 28 1 (status + image * 2 ^ 9) (bit_of fault) 0 w (omega arith) bit (omega arith) in
    rw (status_is, image_is, fault_is, bit_back fault) refl

pub exit_ranges : (e : ExitWord) → IsExit e → (e.status < 2 ^ 9) × (e.image < 2 ^ 19)
exit_ranges e h = grind (arith, nat_tests)

pub exit_of_word : (e : ExitWord) → IsExit e → exit_of (exit_word_of e) ≡ Some e
exit_of_word e h =
    let w : ℕ = exit_word_of e in
    let ranges = exit_ranges e h in
    ap (if_exit w) (exit_fields_back e.status e.image e.fault w ranges.0 ranges.1 refl)
    ∙ told_at is_exit exit_word_of w e h refl

pub exit_words : AreInverse IsExit exit_word_of exit_of
exit_words =
    inverse_from IsExit exit_word_of exit_of exit_of_word
    (λ w e h. told_from is_exit exit_word_of w (exit_fields w) e h)

pub exit_word_below : (e : ExitWord) → IsExit e → exit_word_of e < 2 ^ 29
exit_word_below e h = let ranges = exit_ranges e h in omega (arith, bit_below e.fault)
