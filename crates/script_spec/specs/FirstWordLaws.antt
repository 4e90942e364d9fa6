-- A first word has one text.
use Rattle.std.proofs.Common.{◌≡◌, ℕ, List, [], ◌∷◌, Option, Some, None, refl, sym, ap, ◌∙◌}
use Rattle.std.proofs.Common.{inl, inr}
use Rattle.std.specs.Prelude.{option_map, ◌⊎◌}
use Rattle.std.proofs.lemmas.Bool.{cases_Bool}
use Rattle.w32_base.specs.Names.{is_same}
use Rattle.script_spec.specs.declared.fault.DirectiveWord.{DirectiveWord}
use Rattle.script_spec.specs.declared.fault.DirectiveWord.TheVariants as directive
use Rattle.script_spec.specs.declared.fault.FirstWord.{FirstWord}
use Rattle.script_spec.specs.declared.fault.FirstWord.TheVariants as first
use Rattle.script_spec.specs.declared.fault.InstrWord.{InstrWord}
use Rattle.script_spec.specs.declared.fault.InstrWord.TheVariants as word
use Rattle.script_spec.specs.FirstWords.{instr_word_text, directive_word_text, word_text, local_words_known}
use Rattle.script_spec.specs.FirstWords.{process_words_known, signal_words_known, group_words_known}
use Rattle.script_spec.specs.FirstWords.{directive_words_known, other_words_known, with_text, either, local_word}
use Rattle.script_spec.specs.FirstWords.{process_word, signal_word, group_word, instr_word, directive_word, other_word}
use Rattle.script_spec.specs.FirstWords.{first_word}
use Rattle.script_spec.specs.LineFaultLaws.{is_same-true}

with_text-some : {W : Type 0} (text_of : W → List ℕ) (ws : List W) (text : List ℕ) (x : W)
    → with_text text_of ws text ≡ Some x → text ≡ text_of x
with_text-some text_of [] text x h = absurd cc
with_text-some text_of (w ∷ ws) text x h =
    elim (cases_Bool (is_same (text_of w) text)) [
      | inl t ↦
          let e : Some w ≡ Some x = rw t at h in
          let f : w ≡ x = cc in
          sym (is_same-true (text_of w) text t) ∙ ap text_of f
      | inr t ↦ with_text-some text_of ws text x (rw t at h)
    ]

either-some : {A : Type 0} (x y : Option A) (a : A) → either x y ≡ Some a → (x ≡ Some a) ⊎ (y ≡ Some a)
either-some None y a h = inr h
either-some (Some x) y a h = inl h

mapped : {A B : Type 0} (f : A → B) (o : Option A) (b : B) → option_map f o ≡ Some b
    → (a : A) × (o ≡ Some a) × (f a ≡ b)
mapped f None b h = absurd cc
mapped f (Some a) b h = (a, refl, cc)

instr_word-text : (text : List ℕ) (w : InstrWord) → instr_word text ≡ Some w → text ≡ instr_word_text w
instr_word-text text w h =
    elim
    (either-some (local_word text) (either (process_word text) (either (signal_word text) (group_word text))) w h) [
      | inl a ↦ with_text-some instr_word_text local_words_known text w a
      | inr a ↦ elim (either-some (process_word text) (either (signal_word text) (group_word text)) w a) [
        | inl b ↦ with_text-some instr_word_text process_words_known text w b
        | inr b ↦ elim (either-some (signal_word text) (group_word text) w b) [
          | inl c ↦ with_text-some instr_word_text signal_words_known text w c
          | inr c ↦ with_text-some instr_word_text group_words_known text w c
        ]
      ]
    ]

-- the text of the first word that a word is
pub first_word-text : (text : List ℕ) (w : FirstWord) → first_word text ≡ Some w → text ≡ word_text w
first_word-text text w h =
    elim (either-some (option_map first.Instr (instr_word text))
    (either (option_map first.Directive (directive_word text)) (other_word text)) w h) [
      | inl a ↦ let m = mapped first.Instr (instr_word text) w a in instr_word-text text m.0 m.1 ∙ ap word_text m.2
      | inr a ↦ elim (either-some (option_map first.Directive (directive_word text)) (other_word text) w a) [
        | inl b ↦
            let m = mapped first.Directive (directive_word text) w b in
            with_text-some directive_word_text directive_words_known text m.0 m.1 ∙ ap word_text m.2
        | inr b ↦ with_text-some word_text other_words_known text w b
      ]
    ]

instr_word-known : (w : InstrWord) → first_word (instr_word_text w) ≡ Some (first.Instr w)
instr_word-known word.Set = refl
instr_word-known word.Add = refl
instr_word-known word.Load = refl
instr_word-known word.Store = refl
instr_word-known word.Push = refl
instr_word-known word.Pop = refl
instr_word-known word.Jump = refl
instr_word-known word.JumpZero = refl
instr_word-known word.JumpNegative = refl
instr_word-known word.GetPid = refl
instr_word-known word.GetPpid = refl
instr_word-known word.GetPgid = refl
instr_word-known word.GetSid = refl
instr_word-known word.Fork = refl
instr_word-known word.Exec = refl
instr_word-known word.Exit = refl
instr_word-known word.Wait = refl
instr_word-known word.Kill = refl
instr_word-known word.Action = refl
instr_word-known word.Mask = refl
instr_word-known word.Suspend = refl
instr_word-known word.Pause = refl
instr_word-known word.Return = refl
instr_word-known word.SetPgid = refl
instr_word-known word.SetSid = refl
instr_word-known word.TcSet = refl
instr_word-known word.TcGet = refl
instr_word-known word.TtyFlags = refl
instr_word-known word.Read = refl
instr_word-known word.Write = refl

directive_word-known : (w : DirectiveWord) → first_word (directive_word_text w) ≡ Some (first.Directive w)
directive_word-known directive.Turn = refl
directive_word-known directive.End = refl
directive_word-known directive.Key = refl
directive_word-known directive.Steps = refl
directive_word-known directive.Settle = refl

-- the first word that has a first word's text
pub first_word-known : (w : FirstWord) → first_word (word_text w) ≡ Some w
first_word-known first.CygScript = refl
first_word-known first.Slots = refl
first_word-known first.Rows = refl
first_word-known first.Budget = refl
first_word-known first.Module = refl
first_word-known first.Occupy = refl
first_word-known first.Program = refl
first_word-known first.Schedule = refl
first_word-known (first.Instr w) = instr_word-known w
first_word-known (first.Directive w) = directive_word-known w
