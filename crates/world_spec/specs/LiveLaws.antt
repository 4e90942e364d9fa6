-- Whether a row is live, by its record.
use Rattle.std.proofs.Common.{◌≡◌, ℕ, ◌+◌, false, Option, Some, None, MatchOption, refl, sym, ap, ◌∙◌}
use Rattle.script_spec.specs.declared.script.Script.{Script}
use Rattle.win32_spec.specs.State.{Win32State}
use Rattle.posix_spec.specs.Pending.{is_live}
use Rattle.posix_spec.specs.Records.{is_live_at}
use Rattle.posix_spec.specs.State as posix
use Rattle.posix_spec.specs.State.{Life, Record, PosixState, record_of}
use Rattle.layer_spec.specs.Decodes.{ShowsRecord, ShowsRow, life_by}
use Rattle.layer_spec.specs.Rows.{RowKind, Free, Held, Running, Stopped, Zombie, Gone, is_live_kind, is_process_kind}
use Rattle.layer_spec.specs.Words.{main_at}
use Rattle.roster.specs.Words.{is_live_main, is_live_word}

-- A row is live exactly where there is a record of its number that is live.
pub shown-live : (script : Script) (s : Win32State) (p : PosixState) (row : ℕ) → ShowsRow script (λ q. q.own) s p row
    → is_live_at (record_of p (row + 1)) ≡ is_live_word (main_at s row)
shown-live script s p row h = by_record (record_of p (row + 1)) h.shown ∙ sym (ap is_live_main h.decodes)
  where
    no_process : (k : RowKind) → is_process_kind k ≡ false → false ≡ is_live_kind k
    no_process Free e = refl
    no_process Held e = refl
    no_process Running e = absurd (cc)
    no_process Stopped e = absurd (cc)
    no_process Zombie e = refl
    no_process Gone e = refl

    by_life : (k : RowKind) (stop status : ℕ) (l : Life) → life_by k stop status ≡ Some l → is_live l ≡ is_live_kind k
    by_life Free stop status l e = absurd (cc)
    by_life Held stop status l e = absurd (cc)
    by_life Running stop status l e = let f : posix.Running ≡ l = cc in ap is_live (sym f)
    by_life Stopped stop status l e = let f : posix.Stopped stop ≡ l = cc in ap is_live (sym f)
    by_life Zombie stop status l e = let f : posix.Zombie status ≡ l = cc in ap is_live (sym f)
    by_life Gone stop status l e = absurd (cc)

    by_record : (o : Option Record)
        → MatchOption o (is_process_kind h.main.kind ≡ false) (λ r. ShowsRecord script (λ q. q.own) s p row h.main r)
        → is_live_at o ≡ is_live_kind h.main.kind
    by_record None m = no_process h.main.kind m
    by_record (Some r) m = by_life h.main.kind h.main.stop h.main.status r.life m.life
