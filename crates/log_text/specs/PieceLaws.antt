-- No piece of a log goes past a line's end.
use Rattle.std.specs.Prelude.{◌≡◌, ◌≢◌, ℕ, ◌/◌, ◌%◌, true, false, not, nat_eq, List, [], ◌∷◌, ◌++◌}
use Rattle.std.specs.Prelude.{codes}
use Rattle.std.specs.Prelude.{flat_map}
use Rattle.std.specs.Fmt.{digit_glyph}
use Rattle.std.proofs.Common.{refl, sym, ap, ◌∙◌, arith, inl, inr}
use Rattle.std.proofs.lemmas.Bool.Decides.{nat_tests}
use Rattle.std.proofs.lemmas.List.Elements.{All-nil, All-cons}
use Rattle.w32_base.specs.declared.entry.Entry.{Entry}
use Rattle.w32_base.specs.declared.entry.View.{View}
use Rattle.w32_base.specs.declared.entry.View.TheVariants as view
use Rattle.tty_spec.specs.Terminal.{opening_terminal}
use Rattle.cyg_io.specs.Sink.{EndsOneLine}
use Rattle.log_spec.specs.Texts.{byte_text, bytes_text}
use Rattle.log_spec.specs.EventsText.{is_one_line}
use Rattle.log_spec.specs.EventsReadLaws.{parts, together}
use Rattle.log_spec.specs.Output.{output_from}
use Rattle.log_text.specs.Pieces.{IsPiece, IsWithinLine, terminal_line}

end_found : (b : ℕ) → not (nat_eq b 10) ≡ true → b ≡ 10 → ⊥
end_found b h e = let found : nat_eq b 10 ≡ true = rw e refl in cc (sym (ap not found) ∙ h)

-- the first bytes of a line
first_within : (text piece after : List ℕ) → is_one_line text ≡ true → text ++ 10 ∷ [] ≡ piece ++ after
    → IsWithinLine piece
first_within text [] after h is = ([], [], refl, All-nil (λ b. b ≢ 10), inl refl)
first_within [] (p ∷ piece) after h is = ([], 10 ∷ [], only p piece after is, All-nil (λ b. b ≢ 10), inr refl)
  where
    only : (p : ℕ) (piece after : List ℕ) → 10 ∷ [] ≡ p ∷ (piece ++ after) → p ∷ piece ≡ 10 ∷ []
    only p [] after is = cc is
    only p (q ∷ piece) after is = absurd (cc is)
first_within (t ∷ text) (p ∷ piece) after h is =
    let two = parts (not (nat_eq t 10)) (is_one_line text) h in
    let same : t ≡ p = cc is in
    let rest : text ++ 10 ∷ [] ≡ piece ++ after = cc is in
    let found = first_within text piece after two.1 rest in (
      t ∷ found.0,
      found.1,
      ap (λ (x : ℕ). x ∷ piece) (sym same) ∙ ap (λ (l : List ℕ). t ∷ l) found.2,
      All-cons (λ b. b ≢ 10) t found.0 (end_found t two.0) found.3,
      found.4,
    )

no_bytes : (before piece after : List ℕ) → [] ≡ before ++ (piece ++ after) → piece ≡ []
no_bytes [] [] after is = refl
no_bytes [] (p ∷ piece) after is = absurd (cc is)
no_bytes (b ∷ before) piece after is = absurd (cc is)

-- some bytes of a line
part_within : (text before piece after : List ℕ) → is_one_line text ≡ true
    → text ++ 10 ∷ [] ≡ before ++ (piece ++ after) → IsWithinLine piece
part_within text [] piece after h is = first_within text piece after h is
part_within [] (b ∷ before) piece after h is =
    ([], [], no_bytes before piece after (cc is), All-nil (λ x. x ≢ 10), inl refl)
part_within (t ∷ text) (b ∷ before) piece after h is =
    part_within text before piece after (parts (not (nat_eq t 10)) (is_one_line text) h).1 (cc is)

-- the terminal's line has no end within it
glyph_is_no_end : (d : ℕ) → not (nat_eq (digit_glyph false d) 10) ≡ true
glyph_is_no_end d = grind (arith, nat_tests)

pairs_one_line : (bytes : List ℕ) → is_one_line (flat_map byte_text bytes) ≡ true
pairs_one_line [] = refl
pairs_one_line (byte ∷ bytes) =
    together (not (nat_eq (digit_glyph false (byte / 16)) 10)) _ (glyph_is_no_end (byte / 16))
    (together (not (nat_eq (digit_glyph false (byte % 16)) 10)) _ (glyph_is_no_end (byte % 16)) (pairs_one_line bytes))

shown_one_line : (bytes : List ℕ) → is_one_line (codes "tty " ++ bytes_text bytes) ≡ true
shown_one_line [] = refl
shown_one_line (byte ∷ bytes) = pairs_one_line (byte ∷ bytes)

ended_within : (piece : List ℕ) → EndsOneLine piece → IsWithinLine piece
ended_within piece (body, ends, none) = (body, 10 ∷ [], ends, none, inr refl)

-- A piece of a log has no line's end but as its last byte.
pub piece_is_within : (v : View) (entries : List Entry) (piece : List ℕ) → IsPiece v entries piece → IsWithinLine piece
unfolding terminal_line
piece_is_within view.All entries piece ends = ended_within piece ends
piece_is_within view.Events entries piece ends = ended_within piece ends
piece_is_within view.Calls entries piece (inl ends) = ended_within piece ends
piece_is_within view.Calls entries piece (inr stands) =
    part_within (codes "tty " ++ bytes_text (output_from opening_terminal entries)) stands.before piece stands.after
    (shown_one_line (output_from opening_terminal entries)) stands.whole
