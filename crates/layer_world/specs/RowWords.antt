-- The main words of the rows in a sound moment: the section is there, and has a word for each.
use Rattle.std.proofs.Common.{◌≡◌, ℕ, ◌+◌, ◌*◌, ◌-◌, ◌≤◌, ◌<◌, Bool, true, false, if◌then◌else◌, nat_lt, List, []}
use Rattle.std.proofs.Common.{length, Option, Some}
use Rattle.std.proofs.Common.{None, IsSome, IfSome, slice_index_or, refl, sym, ap, ◌∙◌, subst, arith}
use Rattle.std.proofs.lemmas.Bool.Decides.{nat_tests}
use Rattle.w32_base.specs.declared.call.Reply.{Reply}
use Rattle.w32_base.specs.declared.call.Reply.TheVariants as reply
use Rattle.script_spec.specs.declared.script.Script.{Script}
use Rattle.win32_spec.specs.Lookup.{section_words}
use Rattle.win32_spec.specs.Named.{section_named, object_number_by}
use Rattle.win32_spec.specs.Objects.{load_reply}
use Rattle.win32_spec.specs.State.{Section}
use Rattle.win32_spec.specs.WordCalls.{words_by}
use Rattle.layer_spec.specs.Moment.{Moment, Seen}
use Rattle.layer_spec.specs.Rows.{main_place}
use Rattle.layer_spec.specs.Words.{main_at}
use Rattle.world_spec.specs.SectionLaws.{section_by, section-found, word-before}
use Rattle.world_spec.specs.Sound.{IsSoundMoment}

module _ {A : Type 0} (script : Script) (past : List (Seen A)) (now : Moment A) (sound : IsSoundMoment script past now)
  where
    abbrev words : List ℕ
    words = sound.hosted.section.0

    named : words_by now.win32 1 1 ≡ Some words
    named = ap section_named sound.hosted.section.1

    found : section_words now.win32.objects ≡ Some words
    found = section-found script now.win32 sound.formed 1 1 words [] named

    long : length words ≡ 12001
    long = sound.formed.formed.object (object_number_by now.win32 1 1) (Section words)
        (section_by now.win32 1 1 words named)

    pub section-is-there : IsSome (section_words now.win32.objects)
    section-is-there = subst IsSome (sym found) refl

    -- a load of a row's main word finds it
    loads : (row : ℕ) → 1 ≤ row → row ≤ 4000 → load_reply words (main_place row) ≡ reply.Word (main_at now.win32 row)
    loads row from most =
        let within : nat_lt (3 * row - 2) (length words) ≡ true = grind (arith, nat_tests, long) in
        ap (λ b. if b then reply.Word (slice_index_or words (3 * row - 2) 0) else reply.BadIndex) within
        ∙ ap (λ w. reply.Word w) (sym (word-before script now.win32 sound.formed 1 1 words [] named (3 * row - 2)))

    here : (P : List ℕ → Type 0) → IfSome (section_words now.win32.objects) P → P words
    here P m = subst (λ o. IfSome o P) found m

    pub row-word : (row i word : ℕ) → 1 ≤ row → row ≤ 4000 → i ≡ main_place row
        → IfSome (section_words now.win32.objects) (λ ws. load_reply ws i ≡ reply.Word word)
        → word ≡ main_at now.win32 row
    row-word row i word from most place m =
        let e : load_reply words (main_place row) ≡ reply.Word word =
        ap (load_reply words) (sym place) ∙ here (λ ws. load_reply ws i ≡ reply.Word word) m in
        let f : reply.Word word ≡ reply.Word (main_at now.win32 row) = sym e ∙ loads row from most in cc

    pub row-index : (row i : ℕ) → 1 ≤ row → row ≤ 4000 → i ≡ main_place row
        → IfSome (section_words now.win32.objects) (λ ws. load_reply ws i ≡ reply.BadIndex) → ⊥
    row-index row i from most place m =
        let e : load_reply words (main_place row) ≡ reply.BadIndex =
        ap (load_reply words) (sym place) ∙ here (λ ws. load_reply ws i ≡ reply.BadIndex) m in
        let f : reply.BadIndex ≡ reply.Word (main_at now.win32 row) = sym e ∙ loads row from most in cc
