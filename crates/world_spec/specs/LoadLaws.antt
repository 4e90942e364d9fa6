-- What a load tells: its word is that of the section, and a main word tells whether its row has a record.
use Rattle.std.proofs.Common.{◌≡◌, ℕ, Bool, true, false, nat_lt, if◌then◌else◌, List, Option, Some, None}
use Rattle.std.proofs.Common.{MatchOption, is_some, length, slice_index, ◌+◌, refl, sym, ap, ◌∙◌}
use Rattle.w32_base.specs.declared.call.Reply.TheVariants as reply
use Rattle.script_spec.specs.declared.script.Script.{Script}
use Rattle.win32_spec.specs.State.{Win32State}
use Rattle.win32_spec.specs.WellFormed.{IsWellFormed}
use Rattle.win32_spec.specs.WordCalls.{words_by, word_reply}
use Rattle.posix_spec.specs.State.{Life, Record, PosixState, record_of}
use Rattle.layer_spec.specs.Decodes.{ShowsRecord, ShowsRow, life_by}
use Rattle.layer_spec.specs.Rows.{RowKind, Free, Held, Running, Stopped, Zombie, Gone, is_process_kind}
use Rattle.layer_spec.specs.Words.{word_in, main_at}
use Rattle.roster.specs.Words.{is_process_word, is_process_main}
use Rattle.world_spec.specs.SectionLaws.{word-before}

-- the word that a load answers
pub loaded-word : (script : Script) (s : Win32State) → IsWellFormed script s → (w h i x : ℕ)
    → reply.Word x ≡ word_reply (words_by s w h) i → x ≡ word_in s i
loaded-word script s formed w h i x e = by_words (words_by s w h) refl e
  where
    by_words : (o : Option (List ℕ)) → words_by s w h ≡ o → reply.Word x ≡ word_reply o i → x ≡ word_in s i
    by_words None named f = absurd (cc)
    by_words (Some words) named f = by_within (nat_lt i (length words)) f
      where
        by_within : (b : Bool) → reply.Word x ≡ (if b then reply.Word (slice_index words i) else reply.BadIndex)
            → x ≡ word_in s i
        by_within true g =
            let same : x ≡ slice_index words i = cc in
            same ∙ sym (word-before script s formed w h words words named i)
        by_within false g = absurd (cc)

-- A row is a process exactly where there is a record of its number.
pub shown-process : (script : Script) (s : Win32State) (p : PosixState) (row : ℕ) → ShowsRow script (λ q. q.own) s p row
    → is_process_word (main_at s row) ≡ is_some (record_of p (row + 1))
shown-process script s p row h = ap is_process_main h.decodes ∙ by_record (record_of p (row + 1)) h.shown
  where
    by_kind : (k : RowKind) (stop status : ℕ) (l : Life) → life_by k stop status ≡ Some l → is_process_kind k ≡ true
    by_kind Free stop status l e = absurd (cc)
    by_kind Held stop status l e = absurd (cc)
    by_kind Running stop status l e = refl
    by_kind Stopped stop status l e = refl
    by_kind Zombie stop status l e = refl
    by_kind Gone stop status l e = absurd (cc)

    by_record : (o : Option Record)
        → MatchOption o (is_process_kind h.main.kind ≡ false) (λ r. ShowsRecord script (λ q. q.own) s p row h.main r)
        → is_process_kind h.main.kind ≡ is_some o
    by_record None m = m
    by_record (Some r) m = by_kind h.main.kind h.main.stop h.main.status r.life m.life
