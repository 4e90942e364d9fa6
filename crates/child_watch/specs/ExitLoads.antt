-- What a load answers is the word that stands there; and behind the section's 12,001 words there is none.
use Rattle.std.proofs.Common.{◌≡◌, ℕ, ◌≤◌, Bool, true, false, nat_lt, if◌then◌else◌, List, length, Option, Some}
use Rattle.std.proofs.Common.{None}
use Rattle.std.proofs.Common.{slice_index, refl, sym, ap, ◌∙◌, arith}
use Rattle.std.proofs.lemmas.List.{get_or_past}
use Rattle.w32_base.specs.declared.call.Reply.{Reply}
use Rattle.w32_base.specs.declared.call.Reply.TheVariants as reply
use Rattle.script_spec.specs.declared.script.Script.{Script}
use Rattle.win32_spec.specs.CallEffects.{object_by-found}
use Rattle.win32_spec.specs.Named.{object_number_by, section_named}
use Rattle.win32_spec.specs.State.{Section, Win32State}
use Rattle.win32_spec.specs.WellFormed.{IsWellFormed}
use Rattle.win32_spec.specs.WordCalls.{words_by, word_reply, LoadStep}
use Rattle.layer_spec.specs.Words.{word_in}
use Rattle.world_spec.specs.SectionLaws.{word-before}
use Rattle.world_spec.specs.Sound.{IsHosted}

module _ (script : Script) (s : Win32State) (h : IsWellFormed script s) where
  pub load-word : (w k i : ℕ) (r : Reply) (mid : Win32State) → LoadStep s w k i r mid → (x : ℕ) → r ≡ reply.Word x
      → x ≡ word_in s i
  load-word w k i r mid step x e = by_words (words_by s w k) refl (sym e ∙ step.0)
    where
      by_words : (o : Option (List ℕ)) → words_by s w k ≡ o → reply.Word x ≡ word_reply o i → x ≡ word_in s i
      by_words None named f = absurd (cc)
      by_words (Some words) named f = by_within (nat_lt i (length words)) f
        where
          by_within : (b : Bool) → reply.Word x ≡ (if b then reply.Word (slice_index words i) else reply.BadIndex)
              → x ≡ word_in s i
          by_within true g =
              let is : x ≡ slice_index words i = cc in is ∙ sym (word-before script s h w k words words named i)
          by_within false g = absurd (cc)

  pub far-word : IsHosted s → (i : ℕ) → 12001 ≤ i → word_in s i ≡ 0
  far-word hosted i far =
      let words = hosted.section.0 in
      let length = h.formed.object (object_number_by s 1 1) (Section words)
      (object_by-found s 1 1 (Section words) hosted.section.1) in
      word-before script s h 1 1 words words (ap section_named hosted.section.1) i
      ∙ get_or_past words i 0 (omega (arith, length, far))
