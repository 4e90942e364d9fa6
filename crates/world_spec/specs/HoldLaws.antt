-- A claimed row that becomes held: rows and images go on to show the POSIX state, since neither a free nor a held row
-- is a process.
use Rattle.std.proofs.Common.{◌≡◌, ℕ, ◌+◌, false, Option, Some, None, MatchOption, refl, sym, ap, ◌∙◌}
use Rattle.std.proofs.Common.{subst}
use Rattle.script_spec.specs.declared.script.Script.{Script}
use Rattle.win32_spec.specs.State.{Win32State}
use Rattle.posix_spec.specs.State.{Record, PosixState, record_of}
use Rattle.layer_spec.specs.Decodes.{ShowsRecord, ShowsRow, life_of}
use Rattle.layer_spec.specs.Decoding.{main_of}
use Rattle.layer_spec.specs.Rows.{Free, Held, is_process_kind}
use Rattle.layer_spec.specs.Transitions.{blank}
use Rattle.layer_spec.specs.Words.{main_at}

-- a blank row has no record
pub blank_absent : (script : Script) (s : Win32State) (p : PosixState) (row : ℕ) → main_at s row ≡ 0
    → ShowsRow script (λ q. q.own) s p row → record_of p (row + 1) ≡ None
blank_absent script s p row zeroed h = by_record (record_of p (row + 1)) h.shown
  where
    main : h.main ≡ blank Free
    main = let e : Some h.main ≡ Some (blank Free) = sym h.decodes ∙ ap main_of zeroed in cc

    by_record : (o : Option Record)
        → MatchOption o (is_process_kind h.main.kind ≡ false) (λ r. ShowsRecord script (λ q. q.own) s p row h.main r)
        → o ≡ None
    by_record None m = refl
    by_record (Some r) m = absurd (
        let e : None ≡ Some r.life = sym (ap life_of main) ∙ m.life in cc)

-- and shows none where its main word is that of a held row
pub held_shows : (script : Script) (s : Win32State) (p : PosixState) (row : ℕ) → record_of p (row + 1) ≡ None
    → main_of (main_at s row) ≡ Some (blank Held) → ShowsRow script (λ q. q.own) s p row
held_shows script s p row absent held = record {
  main = blank Held;
  decodes = held;
  shown = subst (λ o. MatchOption o (false ≡ false) (λ r. ShowsRecord script (λ q. q.own) s p row (blank Held) r))
      (sym absent) refl;
}
